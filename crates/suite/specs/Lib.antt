pub mod Promises  -- the tests and the promise of the C entry
pub mod Inner  -- the entry before its records are handed out
pub mod Claims  -- what is claimed beyond the promise
