pub mod Claims  -- each promise allows one outcome
