pub mod Inner  -- what the functions below the call ask and promise
