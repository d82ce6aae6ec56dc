pub mod Grids  -- the marked grids, as one table
pub mod Claims  -- what is claimed of the definitions
