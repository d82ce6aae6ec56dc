mod Islands  -- reached cells put into a row
mod Trails  -- a trail counted, and put into a row from its end
mod Drawn  -- what is drawn is the island, and the first way
