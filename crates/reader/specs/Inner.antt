-- What the functions below `read` ask and promise.
--     file_grid_tests, header_tests              the tests before any record is looked at
--     GridTaken f hs hs' table a                 a is the answer, and hs' the lent heights hs with those of f
-- Assumes nothing.
use Rattle.std.specs.Prelude.{Bool, List, ◌++◌, ◌≡◌, ℕ, ℤ, Result, length, take, drop}
use Rattle.record.specs.declared.Refusal.{Refusal}
use Rattle.layout.specs.declared.ReadBack.{ReadBack}
use Rattle.layout.specs.Layout.{cells_in, heights_in}
use Rattle.layout.specs.Promises.{read_tests, lent_after, ReadAnswers}

-- The tests of the file's grid and of its whole header, which stand first in the order of `read`. They look at no
-- record and nothing lent.
abbrev pub file_grid_tests : List ℕ → List (Bool × Refusal)
file_grid_tests f = take 3 (read_tests f 0 0 0)

abbrev pub header_tests : List ℕ → List (Bool × Refusal)
header_tests f = take 5 (read_tests f 0 0 0)

pub record GridTaken (f : List ℕ) (hs hs' : List ℤ) (table : ℕ) (a : Result ReadBack Refusal) : Type 0 where
  pub answer : ReadAnswers f (length hs) table a
  pub heights : hs' ≡ lent_after a (heights_in f (cells_in f) ++ drop (cells_in f) hs) hs
