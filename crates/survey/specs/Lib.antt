pub mod Answers  -- what the public calls use
pub mod Lists  -- a grid listed by a call that has tests of its own
