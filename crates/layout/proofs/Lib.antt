pub mod Complement  -- two's complement
pub mod Rows  -- rows of bytes, heights and records
pub mod Over  -- bytes laid over others
pub mod Laid  -- records laid one behind the other
pub mod Files  -- whole files, as they are written
pub mod HandedBytes  -- answers as one number, and records handed out as bytes
