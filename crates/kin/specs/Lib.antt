pub mod Kin  -- peaks linked under peaks
pub mod Inner  -- peaks hung, passes threaded: inner contracts
