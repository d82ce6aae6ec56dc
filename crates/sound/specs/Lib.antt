pub mod Sound  -- which records are sound
pub mod Inner  -- what tests and scans promise
pub mod Claims  -- what is claimed beyond the contracts
