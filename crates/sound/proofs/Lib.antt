pub mod Cells  -- what a cell of a row of heights holds
mod ByLevels  -- soundness decided by levels
pub mod Scans  -- the first unsound record, and a scan for it
pub mod Claims  -- the records of a list are sound
