pub mod Promises  -- the promises of the timed calls
pub mod Inner  -- what the functions below them ask
pub mod Claims  -- what is claimed beyond the promises
