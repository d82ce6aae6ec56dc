mod Answers  -- what the tests tell
pub mod Claims  -- the promise allows one outcome
