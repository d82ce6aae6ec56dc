pub mod Answers  -- what the tests tell
pub mod Loads  -- the levels of heights loaded
