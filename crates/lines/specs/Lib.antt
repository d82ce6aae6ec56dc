pub mod Lines  -- what lines are made of
pub mod Sinks  -- where bytes go
