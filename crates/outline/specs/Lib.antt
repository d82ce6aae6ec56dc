pub mod Promises  -- the outline of an ended run
pub mod Leads  -- the cells that links lead through
pub mod Inner  -- the printers: inner contracts
pub mod Claims  -- what is claimed beyond the contract
