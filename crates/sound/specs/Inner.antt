-- What the functions below the public calls promise of soundness.
--     DecidesKeys cells p there r              r tells whether the key fields of p fit a grid of so many cells, in
--                                              which p's pass cell holds there
--     DecidesSound cells least p here there r  r tells whether p is sound in a grid of so many cells, in which p's cell
--                                              and pass cell hold here and there
--     FoundUnsound heights records r           r is the index of the first unsound record, none if all are sound
--     index_of r n                             that index as a number, n if there is none
-- Assumes nothing.
use Rattle.std.specs.Prelude.{Bool, List, ◌⊎◌, ◌≡◌, ℕ, ◌<◌, ℤ, length, get_or, Option, Some, None}
use Rattle.relief.specs.Heights.{BLANK}
use Rattle.relief.specs.Inner.{Decides}
use Rattle.record.specs.declared.Peak.{Peak}
use Rattle.sound.specs.Sound.{Keyless, Keyed, Sound, FirstUnsound}

abbrev pub DecidesKeys : ℕ → Peak → ℤ → Bool → Type 0
DecidesKeys cells p there r =
    (heights : List ℤ) → length heights ≡ cells → get_or heights p.pass BLANK ≡ there →
    Decides (Keyless p ⊎ Keyed heights p) r

abbrev pub DecidesSound : ℕ → ℕ → Peak → ℤ → ℤ → Bool → Type 0
DecidesSound cells least p here there r =
    (heights : List ℤ) → length heights ≡ cells → get_or heights p.cell BLANK ≡ here →
    get_or heights p.pass BLANK ≡ there → Decides (Sound heights least p) r

-- The index of the first unsound record of a row where one is, none where all are sound.
abbrev pub FoundUnsound : List ℤ → List Peak → Option ℕ → Type 0
FoundUnsound heights records None = FirstUnsound heights records (length records)
FoundUnsound heights records (Some i) = (i < length records) × FirstUnsound heights records i

-- That index, the number of records where there is none.
abbrev pub index_of : Option ℕ → ℕ → ℕ
index_of None n = n
index_of (Some i) n = i
