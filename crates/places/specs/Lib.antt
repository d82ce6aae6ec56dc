pub mod Places  -- eight places around a cell
