pub mod Prominence  -- the mark and prominence
pub mod Claims  -- what is claimed of levels and of these
