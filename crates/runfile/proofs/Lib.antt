pub mod Claims  -- one answer, and files read back and written back
