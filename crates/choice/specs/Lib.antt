pub mod Inner  -- choosing, collecting, marking: inner contracts
