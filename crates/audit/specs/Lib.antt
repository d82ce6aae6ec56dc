pub mod Audit  -- what the check of an account asks and promises
pub mod Inner  -- its steps: inner contracts
