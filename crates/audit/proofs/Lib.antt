mod Tops  -- the best cell of a flood: peaks and crests
mod Twins  -- what outranks a peak at its own height
mod PathRows  -- the path of an account as a row that leads out
mod IslandRows  -- its island, compared with a flood
mod Findings  -- what the check finds
