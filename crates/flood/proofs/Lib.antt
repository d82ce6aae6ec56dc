pub mod Pigeons  -- different numbers below n are at most n
pub mod Spreading  -- how the queue grows
pub mod FirstWays  -- what a flood reaches, and the first ways to it
pub mod Sieves  -- the cells that may be reached are opened
pub mod Reaches  -- what reaching a cell does
pub mod Floods  -- the flood in the work area
pub mod Reached  -- what is reached, in terms of paths
