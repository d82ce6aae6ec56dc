pub mod ChosenCells  -- the answers of `chosen`
pub mod Marks  -- the closed peaks of the first columns marked
mod Gathering  -- the loop that collects the chosen cells
