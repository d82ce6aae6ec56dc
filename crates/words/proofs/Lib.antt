pub mod Laws  -- numbers and the bytes that make them
pub mod Over  -- bytes laid over others
