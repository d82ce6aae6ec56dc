pub mod Numbers  -- cells and marks in pass numbers, tests of two cells
mod StepAnswers  -- the answers of the small steps
pub mod Ground  -- what every step is in
pub mod Stores  -- what the small steps leave in the work area
pub mod Onward  -- what is known, told from a later work area
pub mod Searching  -- a head looked for
pub mod Itself  -- the cell that is taken, by itself
mod Leading  -- a note paid to an island
mod LeadAnswers  -- the answers of `lead`
mod Merging  -- two groups become one
mod MergeAnswers  -- the answers of `merge` and `join`
pub mod Stages  -- the places around a cell, one after the other
mod Meeting  -- an island met
mod Challenges  -- of two islands the worse one is led over
