pub mod Promises  -- calls that hand out records
pub mod Inner  -- records in the work area, and a row filled with them
