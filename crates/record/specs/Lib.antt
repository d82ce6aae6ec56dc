pub mod Records  -- the records of peaks
pub mod Refusals  -- answers, refusals and their order
pub mod Claims  -- what is claimed of these
