mod Checks  -- the tests passed
mod Preparing  -- from the tests to the linked peaks
mod Links  -- the links lead as far down as is asked
mod Chains  -- loops along a chain of links
mod Children  -- the peaks under a peak, counted
mod Prints  -- the loops that print peaks and passes
mod TopsLoop  -- the tops printed one after the other
mod Texts  -- the text of the definition is the text by the links
mod Apart  -- lists of entries with different cells
mod Layers  -- the entries of an outline, one level behind the other
mod Length  -- the text is short
mod Answers  -- the promise at each kind of return
mod Unique  -- one outcome
pub mod Claims  -- a proof of each claim
