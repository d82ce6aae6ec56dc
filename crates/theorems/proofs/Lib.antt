pub mod Grids  -- the marked grids, by one computation
pub mod Claims  -- a proof of each claim
