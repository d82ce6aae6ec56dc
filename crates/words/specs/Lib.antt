pub mod Words  -- 32-bit numbers in lent bytes
