pub mod Drawing  -- what drawing an island and a path asks and promises
pub mod Inner  -- their steps: inner contracts
