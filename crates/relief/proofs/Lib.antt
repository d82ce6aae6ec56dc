pub mod Tests  -- tests that compute, and what they decide
pub mod Levels  -- heights, levels, and levels cut off at a cell
pub mod Ways  -- ways and paths, and the least level on them
pub mod Reach  -- whether there is a way, by a test
pub mod Flats  -- flats and peaks; what outranks is better
pub mod Keys  -- key heights and islands
pub mod Passes  -- leading over, and pass cells
pub mod Rows  -- rows of cells, and ways as rows
pub mod Lists  -- entries, and lists in reading order
pub mod Survey  -- the definitions computed: entries and the list
pub mod Parents  -- parents and what they are
pub mod Accounts  -- accounts, and the key height that each gives
pub mod Families  -- what the outline is made of, and that there is one
pub mod OutlineSurvey  -- the outline computed
pub mod BatchSurvey  -- and what the calls of a run hand out
pub mod Closed  -- what is closed stays, what is open can change
pub mod Batches  -- the batches hold the list
pub mod Plane  -- touching in the plane
pub mod Shapes  -- grids and runs of any shape
