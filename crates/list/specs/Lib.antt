pub mod Promises  -- the whole-grid call
pub mod Inner  -- the call without the row
pub mod Claims  -- what is claimed of both
