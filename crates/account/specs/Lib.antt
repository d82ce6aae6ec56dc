pub mod Promises  -- the account of a peak, and its check
pub mod Inner  -- the account drawn: inner contracts
pub mod Claims  -- what is claimed beyond the contracts
