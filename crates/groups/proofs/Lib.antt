pub mod Crowns  -- crowns and meshes
pub mod Heads  -- where the way from a cell ends
pub mod Finds  -- roots stay where one is found
pub mod Changes  -- what is known while nothing is joined
pub mod Grows  -- the cells of a level taken
pub mod Meets  -- a better island looked at
pub mod Leads  -- an island loses to a group
pub mod LeadsAgain  -- one that has lost before is led over by another group
pub mod Pends  -- groups up to their names
pub mod Picks  -- two groups together
pub mod Unites  -- two groups become one
pub mod Under  -- what hangs under a group of a level that is taken
pub mod Losses  -- crowns that have lost, once the level is taken
pub mod Ends  -- a level that is all taken and looked at
pub mod Settles  -- the cells of a level settled one after the other
pub mod Lone  -- a level of one cell, which looks around
pub mod LoneFells  -- of two islands that it touches the worse loses
pub mod LoneEnds  -- the same, once it has looked at all its neighbours
