pub mod Heights  -- heights and levels
pub mod Peaks  -- paths, peaks, key heights, islands, passes, lists
pub mod Runs  -- closed and open, batches, further columns
pub mod Plane  -- touching in the plane, and the shape of a grid
pub mod Outline  -- parents, children, and the text of the outline
pub mod Accounts  -- accounts of a key height, and the one that the tool gives
pub mod Inner  -- what contracts below the promises say
