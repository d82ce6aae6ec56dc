pub mod Promises  -- the promises of the timed calls
pub mod Claims  -- what is claimed beyond the promises
