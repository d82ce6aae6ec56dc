pub mod Promises  -- the promises of the two calls
pub mod Claims  -- what is claimed beyond them
