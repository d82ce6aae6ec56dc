mod Chains  -- chains and rows of cells
mod Numbers  -- marks and ends in the numbers of links
mod ListedCells  -- which cells are listed, as the work area tells it
mod PeaksHung  -- the loop that hangs the peaks
mod PassesThreaded  -- the loop that threads the passes
mod Uppers  -- passes and upper peaks, as a survey tells them
mod Children  -- the entries under the passes of a peak
mod LinkedRows  -- the rows that are left
mod Kinship  -- peaks hung and passes threaded are peaks linked
