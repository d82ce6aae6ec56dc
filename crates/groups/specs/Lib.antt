pub mod Groups  -- islands, groups of the cells of a level, what is known of them
pub mod Lone  -- a level of one cell
