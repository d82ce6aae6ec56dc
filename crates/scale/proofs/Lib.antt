pub mod Levels  -- levels, the mark, order and difference
pub mod Claims  -- a proof of each claim
