pub mod Grid  -- the tests of a lent grid
pub mod Inner  -- a grid that passed them, and the loading of its levels: inner contracts
