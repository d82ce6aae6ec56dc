pub mod Priority  -- one number for "higher, or as high and earlier"
