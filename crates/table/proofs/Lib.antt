pub mod Grows  -- rows that grow by an item at a time, and one filled from the front
pub mod Laws  -- records in the work area
pub mod Handed  -- calls that hand out records: each kind of return, one outcome
