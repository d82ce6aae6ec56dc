-- What the lines of an outline are made of.
--     front_of depth name cell level end    what the line of a peak and that of a pass begin with
-- Assumes nothing.
use Rattle.std.specs.Prelude.{List, [], ◌∷◌, ◌++◌, ℕ}
use Rattle.relief.specs.Heights.{height_of}
use Rattle.relief.specs.Outline.{decimal_of, sign_of}

-- 32 is a space; the name has one behind it, and `end` is the byte behind the height.
abbrev pub front_of : ℕ → List ℕ → ℕ → ℕ → ℕ → List ℕ
front_of depth name cell level end =
    (decimal_of depth ++ 32 ∷ []) ++ name ++ (decimal_of cell ++ 32 ∷ []) ++ (sign_of (height_of level) ++ end ∷ [])
