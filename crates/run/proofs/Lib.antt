pub mod Columns  -- Column and End where a test refuses and where none does
pub mod Outcomes  -- one outcome, and the taken cells
pub mod WholeRun  -- demand 3 from the promises
pub mod Claims  -- a proof of each claim
