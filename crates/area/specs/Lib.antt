pub mod Area  -- the four quarters, marks, priority
