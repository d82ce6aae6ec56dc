pub mod Layout  -- the bytes of a file
pub mod Promises  -- answers, orders of refusals, records handed out as bytes
pub mod Inner  -- what the functions below the calls ask and promise
