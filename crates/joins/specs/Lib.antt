pub mod Steps  -- the small steps: inner contracts
pub mod Ground  -- what is known while a cell is taken
pub mod Meetings  -- groups joined and islands met: inner contracts
pub mod Fields  -- the contracts, of a field and the turn of a cell in it
