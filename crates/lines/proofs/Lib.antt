pub mod Decimal  -- numbers in decimal digits
pub mod Digits  -- digits put into bytes, from the last to the first
pub mod Printing  -- bytes put one behind the other
pub mod Lengths  -- how long lines are at most
