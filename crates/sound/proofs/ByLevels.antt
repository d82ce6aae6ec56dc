-- Soundness by levels: each test decides a clause of `Sound`, since heights are equal where their levels are, and in
-- the levels' order.
--     mark-decides             the test for the mark decides it
--     Keys hs p                what a sound record's key fields are
--     keyless-decides          where the key height is missing, the pass cell decides
--     keyed-refuted            where it is there, a clause of `Keyed` that fails decides
--     keyed-decides            .. and where no other does, what the pass cell holds
--     sound-decides            where the other clauses hold, the key fields decide
-- Assumes nothing.
use mathlib.Core.Bool.{Bool, true, false}
use mathlib.Core.List.{List}
use mathlib.Core.Logic.{◌⊎◌, inl, inr}
use mathlib.Core.Path.{◌≡◌, sym, ap, ◌∙◌}
use Prim.Native.Nat.{ℕ, ◌≤◌, ◌<◌}
use lib.Dec.{eqb}
use lib.IntN.{ℤ}
use lib.ListN.{length, get_or}
use mir.Syntax.{w32}
use mir.Val.{SFits}
use Rattle.relief.specs.Heights.{BLANK, level_of}
use Rattle.relief.specs.Inner.{Decides}
use Rattle.relief.proofs.Tests.{eq-decides, decides-iff, refuted}
use Rattle.record.specs.declared.Peak.{Peak}
use Rattle.scale.specs.Prominence.{is_mark}
use Rattle.scale.proofs.Levels.{level-blank-iff, level-injective, level-lt-iff}
use Rattle.sound.specs.Sound.{Keyless, Keyed, Sound}

pub mark-decides : {z : ℤ} → SFits w32 z → Decides (z ≡ BLANK) (is_mark z)
unfolding is_mark
mark-decides {z} f = decides-iff (level-blank-iff f).0 (level-blank-iff f).1 (eq-decides (level_of z) 0)

abbrev pub Keys : List ℤ → Peak → Type 0
Keys hs p = Keyless p ⊎ Keyed hs p

-- ---- the key fields

module _ {hs : List ℤ} {p : Peak} (key_fits : SFits w32 p.key) where
  pub keyless-decides : is_mark p.key ≡ true → Decides (Keys hs p) (eqb p.pass 4294967295)
  keyless-decides e =
      let missing = (mark-decides key_fits).holds e in
      decides-iff (λ m. inl (record { key = missing; pass = m })) (either missing) (eq-decides p.pass 4294967295)
    where
      either : p.key ≡ BLANK → Keys hs p → p.pass ≡ 4294967295
      either missing (inl k) = k.pass
      either missing (inr k) = absurd (k.key missing)

  module _ (given : is_mark p.key ≡ false) where
    second : Keys hs p → Keyed hs p
    second (inl k) = absurd ((mark-decides key_fits).fails given k.key)
    second (inr k) = k

    pub keyed-refuted : (Keyed hs p → ⊥) → Decides (Keys hs p) false
    keyed-refuted n = refuted (λ k. n (second k))

    pub keyed-decides : {there : ℤ} → SFits w32 p.height → SFits w32 there → get_or hs p.pass BLANK ≡ there
        → (p.pass ≡ 4294967295 → ⊥) → level_of p.key < level_of p.height → p.pass < length hs
        → Decides (Keys hs p) (eqb (level_of there) (level_of p.key))
    keyed-decides {there} height-fits there-fits at-pass pass below inside =
        decides-iff
        (λ e. inr (record {
          key = (mark-decides key_fits).fails given;
          pass = pass;
          below = (level-lt-iff key_fits height-fits).1 below;
          exists = inside;
          holds = at-pass ∙ level-injective there-fits key_fits e;
        }))
        (λ k. ap level_of (sym at-pass ∙ (second k).holds)) (eq-decides (level_of there) (level_of p.key))

-- ---- the whole record

pub sound-decides : {hs : List ℤ} {least : ℕ} {p : Peak} {here : ℤ} {b : Bool} → SFits w32 p.height → SFits w32 here
    → get_or hs p.cell BLANK ≡ here → p.cell < length hs → least ≤ p.cell → is_mark here ≡ false
    → level_of here ≡ level_of p.height → Decides (Keys hs p) b → Decides (Sound hs least p) b
sound-decides {p} height-fits here-fits at-cell exists later land same d =
    let equal = level-injective here-fits height-fits same in
    decides-iff
    (λ k. record {
      exists = exists;
      later = later;
      holds = at-cell ∙ equal;
      height = λ e. (mark-decides here-fits).fails land (equal ∙ e);
      keys = k;
    })
    (λ s. s.keys) d
