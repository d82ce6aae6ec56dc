-- Records: section "Peak, outranking ground, key height, pass" of document 01.
--     with_key cell height key pass    the record of a peak that has a key height
--     without_key cell height          the record of a peak that has none
--     record_of e                      the record of an entry of the list
-- Assumes nothing.
use Rattle.std.specs.Prelude.{ℕ, ℤ, negsuc}
use Rattle.relief.specs.Heights.{height_of}
use Rattle.relief.specs.Peaks.{Key, missing, key as keyed, Entry}
use Rattle.record.specs.declared.Peak.{Peak}

-- "A record holds cell, height, key height, pass cell."
abbrev pub with_key : ℕ → ℤ → ℤ → ℕ → Peak
with_key cell height key pass = record { cell = cell; height = height; key = key; pass = pass }

-- "Without a key height, the last two are -2147483648 and 4294967295" (`negsuc n` is -(n + 1)).
abbrev pub without_key : ℕ → ℤ → Peak
without_key cell height = with_key cell height (negsuc 2147483647) 4294967295

-- The definitions speak of entries, whose heights are levels and whose key height is there or missing.
abbrev pub key_record : ℕ → ℕ → Key → Peak
key_record cell level missing = without_key cell (height_of level)
key_record cell level (keyed k pass) = with_key cell (height_of level) (height_of k) pass

abbrev pub record_of : Entry → Peak
record_of e = key_record e.cell e.level e.key
