-- The batches of a growing run, surveyed: a computing twin of `Closed`, `Batch` and `Rest`,
-- and that it tells what they say.
--     Staged touch touch? s       the cells of the stage s are a terrain
--     closed? s x                 the peak x is closed
--     survey_batch, survey_rest   what a column call and End hand out
-- Assumes nothing.
use mathlib.Core.Path.{◌≡◌, refl, ◌∙◌, ap, subst}
use mathlib.Core.Bool.{Bool, not, ◌&&◌}
use mathlib.Core.List.{List}
use mathlib.Core.Logic.{◌⊎◌, inl, inr}
use Prim.Native.Nat.{ℕ}
use native.Mathlib.Omega.{arith}
use lib.Dec.{ltb}
use Rattle.relief.specs.Peaks.{Entry, floor_of}
use Rattle.relief.specs.Runs.{Stage, Closed, Closing, Batch, Remaining, Rest}
use Rattle.relief.specs.Inner.{Decides}
use Rattle.relief.proofs.Tests.{split, decide, all_below, le-or-lt, lt-decides, and-decides, not-decides}
use Rattle.relief.proofs.Tests.{all-decides, decides-iff}
use Rattle.relief.proofs.Ways.{way_end}
use Rattle.relief.proofs.Flats.{Terrain, land-below}
use Rattle.relief.proofs.Keys.{island?, island-decides}
use Rattle.relief.proofs.Lists.{collect, collect-order}
use Rattle.relief.proofs.Survey.{
  implies,
  peak?,
  entry_at,
  listed?,
  implies-decides,
  peak-decides,
  entry_at-right,
  entry_at-only,
  listed-decides,
}

abbrev pub Staged : (ℕ → ℕ → Type 0) → (ℕ → ℕ → Bool) → Stage → Type 0
Staged touch touch? s = Terrain touch touch? s.level s.cells

module _ (touch? : ℕ → ℕ → Bool) where
  -- the entry that the survey of the stage makes at a cell
  abbrev pub entry_in : Stage → ℕ → Entry
  entry_in s = entry_at touch? s.level s.cells

  unfoldable pub closed? : Stage → ℕ → Bool
  closed? s x =
      peak? touch? s.level s.cells x
      && all_below s.cells
      (λ c. implies (island? touch? s.level s.cells x (floor_of (entry_in s x).key) c) (ltb c s.newest))

  abbrev remaining? : Stage → ℕ → ℕ → Bool
  remaining? s T x = listed? touch? s.level s.cells T x && not (closed? s x)

  abbrev closing? : Stage → Stage → ℕ → ℕ → Bool
  closing? s s' T x = listed? touch? s'.level s'.cells T x && (closed? s' x && not (closed? s x))

  unfoldable pub survey_rest : Stage → ℕ → List Entry
  survey_rest s T = collect s.cells 0 (remaining? s T) (entry_in s)

  unfoldable pub survey_batch : Stage → Stage → ℕ → List Entry
  survey_batch s s' T = collect s'.cells 0 (closing? s s' T) (entry_in s')

module _ {touch : ℕ → ℕ → Type 0} {touch? : ℕ → ℕ → Bool} {s : Stage} (t : Staged touch touch? s) where
  pub closed-decides : (x : ℕ) → Decides (Closed touch s (entry_in touch? s x)) (closed? touch? s x)
  unfolding closed? entry_at
  closed-decides x =
      decides-iff
      (λ h. record {
        right = entry_at-right t x h.0;
        away = λ c w l. let m = h.1 c (land-below t c (let i = way_end w in omega arith)) w in omega arith;
      })
      (λ h. (h.right.peak, λ c l w. split (le-or-lt s.newest c) (λ m. absurd (h.away c w m)) (λ m. m)))
      (and-decides (peak-decides t x)
      (all-decides
      (λ c. implies-decides (island-decides t x (floor_of (entry_in touch? s x).key) c) (λ w. lt-decides c s.newest))
      s.cells))

  -- some entry of a cell is that of a closed peak, or none is
  pub closed-told : (x : ℕ)
      → ((d : Entry) × (d.cell ≡ x) × Closed touch s d) ⊎ ((d : Entry) → d.cell ≡ x → Closed touch s d → ⊥)
  unfolding entry_at
  closed-told x =
      split (decide (closed-decides x))
      (λ h. inl (entry_in touch? s x, refl, h))
      (λ n. inr (λ d e h. n (subst (Closed touch s) (entry_at-only t d h.right ∙ ap (entry_in touch? s) e) h)))

  pub survey-rest : (T : ℕ) → Rest touch s T (survey_rest touch? s T)
  unfolding survey_rest entry_at
  survey-rest T =
      collect-order (Remaining touch s T) (remaining? touch? s T) (entry_in touch? s) (λ i. refl) told
      (λ e h. entry_at-only t e h.listed.right) s.cells
      (λ e h. land-below t e.cell h.listed.right.peak.land)
    where
      told : (x : ℕ) → Decides (Remaining touch s T (entry_in touch? s x)) (remaining? touch? s T x)
      told x =
          decides-iff
          (λ h. record { listed = h.0; still = record { right = h.0.right; unclosed = h.1 } })
          (λ h. (h.listed, h.still.unclosed))
          (and-decides (listed-decides t T x) (not-decides (closed-decides x)))

module _ {touch : ℕ → ℕ → Type 0} {touch? : ℕ → ℕ → Bool} {s s' : Stage}
    (t : Staged touch touch? s) (t' : Staged touch touch? s') where
  pub survey-batch : (T : ℕ) → Batch touch s s' T (survey_batch touch? s s' T)
  unfolding survey_batch entry_at
  survey-batch T =
      collect-order (Closing touch s s' T) (closing? touch? s s' T) (entry_in touch? s') (λ i. refl) told
      (λ e h. entry_at-only t' e h.listed.right) s'.cells
      (λ e h. land-below t' e.cell h.listed.right.peak.land)
    where
      told : (x : ℕ) → Decides (Closing touch s s' T (entry_in touch? s' x)) (closing? touch? s s' T x)
      told x =
          decides-iff
          (λ h. record {
            listed = h.0;
            closed = h.1.0;
            unclosed = λ d e c. h.1.1
                (subst (Closed touch s) (entry_at-only t d c.right ∙ ap (entry_in touch? s) e) c);
          })
          (λ h. (h.listed, (h.closed, λ c. h.unclosed (entry_in touch? s x) refl c)))
          (and-decides (listed-decides t' T x) (and-decides (closed-decides t' x) (not-decides (closed-decides t x))))
