-- From a call that its tests have passed to the linked peaks. `n` and `r` are the cells held and the rows as the code
-- has them.
--     prepare-loading, prepare-surveying    what the calls below ask
--     prepared                              what they leave
-- Assumes nothing.
use mathlib.Core.Path.{◌≡◌, ◌∙◌, subst}
use mathlib.Core.List.{List}
use Prim.Native.Nat.{ℕ, ◌*◌}
use native.Mathlib.Omega.{arith}
use lib.IntN.{ℤ}
use lib.ListN.{length}
use Rattle.relief.specs.Plane.{plane_of, touch_of}
use Rattle.relief.proofs.Tests.{split, le-or-lt}
use Rattle.relief.proofs.Levels.{cut-equal}
use Rattle.words.proofs.Laws.{Bytes, word_below, bytes-beyond}
use Rattle.area.specs.Area.{level_in}
use Rattle.heights.specs.Inner.{Loading, Loaded}
use Rattle.survey.specs.Answers.{Surveying, Topped}
use Rattle.kin.specs.Kin.{Kinned}
use Rattle.running.specs.declared.Run.{Run}
use Rattle.running.specs.Running.{shape_of, held_of}
use Rattle.run.proofs.Columns.{loaded-stage}
use Rattle.outline.specs.Inner.{Linkable, Prepared}

module _ (run : Run) (grid : List ℤ) (work : List ℕ) (g : Linkable run (length grid) (length work)) {n r : ℕ}
    (en : n ≡ held_of run) (er : r ≡ run.rows) where
  pub prepare-loading : Loading work grid n
  prepare-loading = record {
    area = record { few = let c = g.cells in omega arith; room = let s = g.space in omega arith };
    all = let f = g.fits in omega arith;
  }

  pub prepare-surveying : {t : List ℕ} → Loaded work t grid n → Surveying t n r
  prepare-surveying h = record {
    area = record {
      few = let c = g.cells in omega arith;
      room = let s = g.space in let l = h.len in omega arith;
    };
    rows_some = let i = g.some in omega arith;
    rows_few = let i = g.few in omega arith;
  }

  pub prepared : {t u v : List ℕ} {m : ℕ} → Loaded work t grid n → Topped (touch_of (plane_of r)) t u n m
      → Kinned (touch_of (plane_of r)) u v n run.threshold → Bytes u → Bytes v → Prepared run grid work v m
  prepared {t} {u} {v} {m} a b c bu bv =
      let a' : Loaded work t grid (held_of run) = subst (Loaded work t grid) en a in
      let b' : Topped (touch_of (shape_of run)) t u (held_of run) m = rw (er, en) at b in
      let c' : Kinned (touch_of (shape_of run)) u v (held_of run) run.threshold = rw (er, en) at c in
      record {
        from = u;
        kinned = c';
        levels_in = cut-equal (held_of run) (level_in u) (level_in t) (λ d l. b'.levels_in d l)
            ∙ loaded-stage a' (omega arith);
        small = word_below u bu;
        blank = λ e d l.
            let f = c'.front d (omega arith) in
            split (le-or-lt (level_in v d) 0)
            (λ h. omega arith)
            (λ h. let (j, p, q) = b'.noted.ordered.onto d l (omega arith) in absurd (omega arith));
        beyond = λ i l.
            bytes-beyond u v bu bv (4 * held_of run) c'.back i (omega arith) ∙ b'.beyond i l ∙ a'.beyond i l;
        len = c'.len ∙ b'.len ∙ a'.len;
      }
