pub mod Places  -- entries of rising places are a list in reading order; lists behind lists
pub mod CellKinds  -- what the tests say of each kind of cell
pub mod Answers  -- from a sweep and a collection to the entries handed out
mod Surveys  -- rank, sweep and collect, one after the other
pub mod Records  -- the records that stand in the work area are those of the entries
pub mod ListCalls  -- a call that lists a grid, whatever its tests
