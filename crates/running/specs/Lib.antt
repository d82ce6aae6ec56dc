pub mod Running  -- the run record, its tests, what becomes of it
pub mod Inner  -- what is known where no test applies
