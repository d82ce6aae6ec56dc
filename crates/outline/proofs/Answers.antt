-- The outline's promise at each kind of return.
--     prepared-printable             what linking leaves can be printed
--     printed_whole                  what `print` answers where there is room: the number of bytes
--     printed-blank                  blank cells alone have an outline of 0 bytes
--     outline-refused                the promise of a call that a test refuses; the outline is there all the same
--     outline-made                   the promise of one that does its work
-- Assumes nothing.
use Rattle.std.specs.Prelude.{Result, Ok, Err}
use mathlib.Core.Path.{◌≡◌, refl, sym, ◌∙◌, ap, ap₂, subst}
use mathlib.Core.Bool.{Bool, true, false, cond}
use mathlib.Core.List.{List, [], ◌∷◌, ◌++◌}
use Prim.Native.Nat.{ℕ, zero, suc, ◌+◌, ◌-◌, ◌≤◌, ◌<◌}
use native.Mathlib.Omega.{arith}
use lib.Dec.{ltb}
use lib.IntN.{ℤ}
use lib.ListN.{length, drop}
use borrow.Author.Tests.{le-ltb}
use Rattle.relief.specs.Plane.{touch_of, stage_of}
use Rattle.relief.specs.Inner.{cut}
use Rattle.relief.specs.Outline.{Outline}
use Rattle.relief.proofs.Flats.{Terrain}
use Rattle.relief.proofs.Levels.{cut-behind}
use Rattle.relief.proofs.Shapes.{touch?, touch-terrain, stage-staged}
use Rattle.relief.proofs.OutlineSurvey.{survey_outline, survey-outline}
use Rattle.words.specs.Words.{over}
use Rattle.words.proofs.Over.{over-front}
use Rattle.record.specs.declared.Refusal.{Refusal}
use Rattle.record.specs.declared.Refusal.TheVariants.{TextRoom}
use Rattle.record.specs.Refusals.{granted, checked_told, first_of}
use Rattle.record.proofs.Tests.{first-end, first-before}
use Rattle.area.specs.Area.{level_in}
use Rattle.table.proofs.Handed.{worked-early, worked-late}
use Rattle.kin.specs.Kin.{is_top}
use Rattle.running.specs.declared.Run.{Run}
use Rattle.running.specs.Running.{shape_of, held_of}
use Rattle.outline.specs.Promises.{outlined_told, outline_tests, Outlines}
use Rattle.outline.specs.Inner.{peak_print, tops_print, GoodOutline, Prepared, Printable, PrintedAll}
use Rattle.outline.proofs.Links.{threads-linked}
use Rattle.outline.proofs.Texts.{kinned-outline}
use Rattle.outline.proofs.Length.{kinned-few, kinned-short}

module _ {run : Run} {grid : List ℤ} {levels : ℕ} {work left : List ℕ} {land : ℕ}
    (g : GoodOutline run (length grid) levels (length work)) (p : Prepared run grid work left land) where
  terrain : Terrain (touch_of (shape_of run)) (touch? (shape_of run)) (cut (held_of run) (level_in p.from))
      (held_of run)
  terrain = touch-terrain (shape_of run) (cut-behind (held_of run) (level_in p.from))

  pub prepared-printable : {n : ℕ} → n ≡ held_of run → Printable left n levels
  prepared-printable e = subst (λ (n : ℕ). Printable left n levels) (sym e) (record {
    area = p.kinned.threads.area;
    linked = λ c l t.
        threads-linked p.kinned.threads (kinned-few p.kinned terrain) (levels - 1) c
        (p.kinned.top_peak c l t);
    short = kinned-short p.kinned terrain p.small levels g.deep;
    one = g.one;
    deep = g.deep;
  })

-- ---- all printed

module _ {s : List ℕ} {n levels : ℕ} (g : Printable s n levels) where
  abbrev text : List ℕ
  text = tops_print s n (levels - 1) n

  pub printed_whole : (room : List ℕ) {r : ℕ} → r ≡ 0 + length text → r ≤ length room → {u : List ℕ} {w : ℕ}
      → u ≡ over room 0 text → w ≡ r → PrintedAll s n levels room u (Ok w)
  printed_whole room counted l {u} {w} laid e =
      let long : w ≡ length text = omega arith in
      record {
        answered =
            ap Ok long
            ∙ sym (ap (λ (b : Bool). cond b (Err TextRoom) (Ok (length text)))
            (le-ltb (length room) (length text) (omega arith)));
        written = laid ∙ over-front room text ∙ ap (λ (k : ℕ). text ++ drop k room) (sym long);
      }

-- ---- blank cells alone

module _ (s : List ℕ) (n left : ℕ) (blank : (c : ℕ) → c < n → level_in s c ≡ 0) where
  top-blank : (c : ℕ) → c < n → is_top s n c ≡ false
  unfolding is_top
  top-blank c l = let e = blank c l in simp (le-ltb 0 (level_in s c) (omega arith))

  tops-blank : (k : ℕ) → k ≤ n → tops_print s n left k ≡ []
  unfolding tops_print
  tops-blank zero l = refl
  tops-blank (suc k) l =
      ap₂ (λ (x y : List ℕ). x ++ y) (tops-blank k (omega arith))
      (ap (λ (b : Bool). cond b (peak_print s n left 1 k) []) (top-blank k (omega arith)))

pub printed-blank : {run : Run} {grid : List ℤ} {work left room : List ℕ} {land : ℕ} (levels : ℕ)
    → Prepared run grid work left land → land ≡ 0 → PrintedAll left (held_of run) levels room room (Ok 0)
printed-blank {run} {left = left} {room = room} levels p e =
    let none : tops_print left (held_of run) (levels - 1) (held_of run) ≡ [] =
    tops-blank left (held_of run) (levels - 1) (p.blank e) (held_of run) (omega arith) in
    record {
      answered = sym (
          ap (λ (t : List ℕ). cond (ltb (length room) (length t)) (Err TextRoom) (Ok (length t))) none
          ∙ ap (λ (b : Bool). cond b (Err TextRoom) (Ok 0)) (le-ltb (length room) 0 (omega arith)));
      written = sym (ap (λ (t : List ℕ). t ++ room) none);
    }

-- ---- the call

module _ (run : Run) (grid : List ℤ) (levels : ℕ) (work room : List ℕ) where
  abbrev tests : List (Bool × Refusal)
  tests = outline_tests run (length grid) levels (length work)

  -- The outline is there for every grid, by computing it.
  surveyed : List ℕ
  surveyed = survey_outline (touch? (shape_of run)) (stage_of (shape_of run) run.columns grid).level
      (stage_of (shape_of run) run.columns grid).cells run.threshold levels

  pub outline-refused : {left : List ℕ} {r : Refusal} → first_of tests ≡ Err r → left ≡ work
      → Outlines run grid levels work left room room (Err r)
  unfolding surveyed
  outline-refused bad same = record {
    text = surveyed;
    right = survey-outline (stage-staged (shape_of run) run.columns grid) run.threshold levels;
    answered = sym (ap (λ (c : Result (Unit {0}) Refusal). checked_told c (granted (length surveyed ∷ [])))
        (first-before tests ((ltb (length room) (length surveyed), TextRoom) ∷ []) bad));
    written = refl;
    worked = worked-early same;
  }

  pub outline-made : {left room' : List ℕ} {a : Result ℕ Refusal} {n land : ℕ}
      → GoodOutline run (length grid) levels (length work) → n ≡ held_of run → Prepared run grid work left land
      → PrintedAll left n levels room room' a → Outlines run grid levels work left room room' a
  outline-made {left} {room'} {a} {n} g e p h =
      let h' = subst (λ (k : ℕ). PrintedAll left k levels room room' a) e h in
      let text = tops_print left (held_of run) (levels - 1) (held_of run) in
      record {
        text = text;
        right = subst (λ (L : ℕ → ℕ). Outline (touch_of (shape_of run)) L run.threshold levels text) p.levels_in
            (kinned-outline p.kinned levels);
        answered =
            ap outlined_told h'.answered ∙ told (length text) (ltb (length room) (length text))
            ∙ sym (ap (λ (c : Result (Unit {0}) Refusal). checked_told c (granted (length text ∷ [])))
            (first-end tests (ltb (length room) (length text)) TextRoom g.good));
        written = h'.written;
        worked = worked-late g.good p.len p.beyond;
      }
    where
      told : (k : ℕ) (b : Bool) → outlined_told (cond b (Err TextRoom) (Ok k))
          ≡ checked_told (cond b (Err TextRoom) (Ok tt)) (granted (k ∷ []))
      told k true = refl
      told k false = refl
