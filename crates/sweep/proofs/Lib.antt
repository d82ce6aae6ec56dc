pub mod Orders  -- an order stays one while cells and levels stay
mod Cells  -- the cells of the order, by their places
mod LevelPlaces  -- the cells of a level, and those above it, by their places
mod LevelEnds  -- where a level ends
mod Bases  -- what is known, told from another work area
mod LevelTaken  -- the cells of a level taken
mod LevelAlone  -- the only cell of a level taken
mod FoundRoots  -- roots stay where one is found
mod CellTold  -- what settling a cell does to the work area
mod CellSettled  -- a cell of a level settled
mod LevelSettled  -- the cells of a level settled
mod LevelTurns  -- a level taken and settled
mod SweepEnds  -- the sweep at its end
