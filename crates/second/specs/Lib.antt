pub mod Listed  -- the items of a list in fixed memory
