pub mod Sweep  -- what sweep asks and promises
pub mod Levels  -- a level taken and settled: inner contracts
pub mod Fields  -- the contracts, of a field
