pub mod Promises  -- Start, Column and End
pub mod Inner  -- Column and End without the row
pub mod WholeRun  -- the calls from Start to End
pub mod Claims  -- what is claimed of these
