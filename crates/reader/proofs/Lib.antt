pub mod Header  -- the tests of the header
pub mod ReadAnswer  -- the tests and the answer of `read`
pub mod ReadFile  -- a file that is read is the file of what it holds
