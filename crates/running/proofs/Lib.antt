pub mod Checks  -- the tests, made and passed
