pub mod Refusals  -- refusals and answers are told apart by what they tell
pub mod Tests  -- orders of refusals
pub mod Claims  -- a proof of each claim
mod Widths  -- casts between widths
