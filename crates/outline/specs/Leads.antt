-- The cells that the links of a quarter of the work area lead through.
--     links_from s n from c    those cells, from the number c on, by the quarter that begins at `from`
--     Leads s n from c         they end, after no more cells than there are
-- Assumes nothing.
use Rattle.std.specs.Prelude.{◌≡◌, List, ℕ, suc, ◌+◌, ◌*◌, ◌≤◌}
use Rattle.words.specs.Words.{word_at}
use Rattle.area.specs.Area.{Area}
use Rattle.kin.specs.Kin.{walk}

abbrev pub links_from : List ℕ → ℕ → ℕ → ℕ → List ℕ
links_from s n from c = walk (λ c. word_at s (from + c)) n n c

pub record Leads (s : List ℕ) (n from c : ℕ) : Type 0 where
  pub area : Area s n
  pub quarter : from ≤ 3 * n
  pub ends : links_from s n from c ≡ walk (λ c. word_at s (from + c)) n (suc n) c
