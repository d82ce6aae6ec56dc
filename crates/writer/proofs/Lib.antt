pub mod WriteAnswer  -- the tests and the answer of `write`
mod PutHeights  -- heights laid over a room
pub mod Room  -- what `write` leaves in its room
