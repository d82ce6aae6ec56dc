pub mod Claims  -- a proof of each claim
