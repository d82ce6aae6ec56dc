pub mod Flood  -- what a flood asks and promises
pub mod Inner  -- its steps: inner contracts
