-- From the first column to End: the batches of a growing run and what End hands out
-- hold just the list of the whole run.
--     further-later      a stage of the run and any later one
--     closed-later       a peak closed at one stage is closed at every later one
--     batch-of-closed    a listed peak that is closed was handed out by some call
--     batches-hold       a peak stands in the list if and only if it stands in a batch or in the rest
--     batches-pass       of a peak in a batch the list has the pass cell handed out or an earlier one, ..
--     rest-pass          .. and of one in the rest the same
--     batches-once       no peak is handed out by two calls, nor by a call and by End
-- A peak that is closed now either was closed one call before, and then it was alike, or this call hands it out. So
-- going back from the last stage, where no peak is left at zero columns, finds the call. That a closed peak stays is
-- used in the parts of `StaysClosed` alone. Assumes nothing.
use mathlib.Core.Path.{◌≡◌, refl, sym, ◌∙◌, ap, subst}
use mathlib.Core.Bool.{Bool}
use mathlib.Core.List.{List}
use mathlib.Core.Logic.{◌⊎◌, inl, inr}
use Prim.Native.Nat.{ℕ, zero, suc, ◌≤◌, ◌<◌}
use native.Mathlib.Omega.{arith}
use Rattle.relief.specs.Peaks.{Entry, pass_cell_of, Alike, Member, Among, PeakEntry, Listed, ListOf}
use Rattle.relief.specs.Runs.{Stage, Closed, Batch, Rest, Further, Growing, StaysClosed}
use Rattle.relief.specs.Inner.{Decides}
use Rattle.relief.proofs.Tests.{split, below_suc}
use Rattle.relief.proofs.Flats.{land-below}
use Rattle.relief.proofs.Lists.{entry-unique, alike_refl, alike-sym, alike-trans, wanted-alike}
use Rattle.relief.proofs.BatchSurvey.{Staged, closed-told}
use Rattle.relief.proofs.Closed.{closed-stays}

-- ---- stages of one run

module _ {touch : ℕ → ℕ → Type 0} where
  further-trans : {s s' s'' : Stage} → Further touch s s' → Further touch s' s'' → Further touch s s''
  further-trans f g =
      let l = f.grows in
      let m = g.grows in
      let n = f.newer in
      let o = g.newer in
      record {
        grows = omega arith;
        kept = λ c h. g.kept c (omega arith) ∙ f.kept c h;
        newer = omega arith;
        fence = f.fence;
        ends = f.ends;
        ends_after = g.ends_after;
      }

module _ {touch : ℕ → ℕ → Type 0} {touch? : ℕ → ℕ → Bool} {stage : ℕ → Stage}
    (symmetric : (a b : ℕ) → touch a b → touch b a) (decides : (a b : ℕ) → Decides (touch a b) (touch? a b))
    (run : Growing touch stage) where
  staged : (j : ℕ) → Staged touch touch? (stage j)
  staged j = record { symmetric = symmetric; decides = decides; ends = (run.further j).ends }

  further-later : (i j : ℕ) → i ≤ j → Further touch (stage i) (stage j)
  further-later i j l =
      split (below_suc i j (omega arith)) (λ e. subst (λ (k : ℕ). Further touch (stage i) (stage k)) e here) (later j)
    where
      here : Further touch (stage i) (stage i)
      here = let f = run.further i in record {
        grows = omega arith;
        kept = λ c h. refl;
        newer = omega arith;
        fence = f.fence;
        ends = f.ends;
        ends_after = f.ends;
      }

      later : (j : ℕ) → i < j → Further touch (stage i) (stage j)
      later zero l = absurd (omega arith)
      later (suc j) l =
          let before = later j in
          split (below_suc i j l)
          (λ e. subst (λ (k : ℕ). Further touch (stage k) (stage (suc j))) (sym e) (run.further j))
          (λ h. further-trans (before h) (run.further j))

  closed-later : (i j : ℕ) (e : Entry) → i ≤ j → Closed touch (stage i) e → StaysClosed touch (stage j) e
  closed-later i j e l h = closed-stays (staged i) (staged j) (further-later i j l) e h

  -- a closed peak of an earlier stage is the entry of its cell later
  closed-entry : (i j : ℕ) (d e : Entry) → i ≤ j → Closed touch (stage i) d → PeakEntry touch (stage j).level e
      → d.cell ≡ e.cell → Closed touch (stage j) e × Alike d e × (pass_cell_of e.key ≤ pass_cell_of d.key)
  closed-entry i j d e l h r q =
      let s = closed-later i j d l h in
      subst (λ (x : Entry). Closed touch (stage j) x × Alike d x × (pass_cell_of x.key ≤ pass_cell_of d.key))
      (entry-unique s.entry e s.closed.right r (s.alike.cell ∙ q))
      (s.closed, alike-sym s.alike, s.pass)

  module _ (T : ℕ) (batch : ℕ → List Entry) where
    abbrev Calls : ℕ → Type 0
    Calls m = (j : ℕ) → j < m → Batch touch (stage j) (stage (suc j)) T (batch j)

    batch-of-closed : (m : ℕ) (e : Entry) → Calls m → Closed touch (stage m) e → Listed touch (stage m).level T e
        → (j : ℕ) × (j < m) × Among e (batch j)
    batch-of-closed zero e calls h l = absurd
        (let i = land-below (staged zero) e.cell h.right.peak.land in let q = run.start in omega arith)
    batch-of-closed (suc m) e calls h l =
        let back = batch-of-closed m in
        split (closed-told (staged m) e.cell)
        (λ (d, q, c).
        let (c', a, p) = closed-entry m (suc m) d e (omega arith) c h.right q in
        let (j, i, (b, k, a')) = back d (λ j i. calls j (omega arith)) c
        (record { right = c.right; wanted = wanted-alike T d e a c.right h.right l.wanted }) in
        (j, omega arith, (b, k, alike-trans a' a)))
        (λ n.
        let k = (calls m (omega arith)).complete e (record { listed = l; closed = h; unclosed = n }) in
        (m, omega arith, (e, k, alike_refl e)))

    pub batches-once : (m i j : ℕ) (e e' : Entry) → Calls m → i < j → j < m → Member e (batch i) → Member e' (batch j)
        → e.cell ≡ e'.cell → ⊥
    batches-once m i j e e' calls l h b b' q =
        let s = closed-later (suc i) j e l ((calls i (omega arith)).sound e b).closed in
        ((calls j h).sound e' b').unclosed s.entry (s.alike.cell ∙ q) s.closed

    pub rest-once : (m i : ℕ) (e e' : Entry) (rest : List Entry) → Calls m → Rest touch (stage m) T rest → i < m
        → Member e (batch i) → Member e' rest → e.cell ≡ e'.cell → ⊥
    rest-once m i e e' rest calls r l b b' q =
        let o = (r.sound e' b').still in
        o.unclosed (closed-entry (suc i) m e e' l ((calls i l).sound e b).closed o.right q).0

    module _ (m : ℕ) (rest l : List Entry) (calls : Calls m) (r : Rest touch (stage m) T rest)
        (h : ListOf touch (stage m).level T l) where
      pub batches-hold : (e : Entry)
          → (Among e l → ((j : ℕ) × (j < m) × Among e (batch j)) ⊎ Among e rest)
          × (((j : ℕ) × (j < m) × Among e (batch j)) ⊎ Among e rest → Among e l)
      batches-hold e = (out, back)
        where
          out : Among e l → ((j : ℕ) × (j < m) × Among e (batch j)) ⊎ Among e rest
          out (d, b, a) =
              let p = h.sound d b in
              split (closed-told (staged m) d.cell)
              (λ (x, q, c).
              let c' = subst (Closed touch (stage m)) (entry-unique x d c.right p.right q) c in
              let (j, i, (y, k, a')) = batch-of-closed m d calls c' p in
              inl (j, i, (y, k, alike-trans a' a)))
              (λ n.
              let k = r.complete d
              (record { listed = p; still = record { right = p.right; unclosed = n d refl } }) in
              inr (d, k, a))

          back : ((j : ℕ) × (j < m) × Among e (batch j)) ⊎ Among e rest → Among e l
          back (inl (j, i, (d, b, a))) =
              let c = (calls j i).sound d b in
              let s = closed-later (suc j) m d i c.closed in
              let p = c.listed in
              let w = wanted-alike T s.entry d s.alike s.closed.right p.right p.wanted in
              let k = h.complete s.entry (record { right = s.closed.right; wanted = w }) in
              (s.entry, k, alike-trans s.alike a)
          back (inr (d, b, a)) = (d, h.complete d (r.sound d b).listed, a)

      pub batches-pass : (j : ℕ) (d e : Entry) → j < m → Member d (batch j) → Member e l
          → d.cell ≡ e.cell → pass_cell_of e.key ≤ pass_cell_of d.key
      batches-pass j d e i k b q =
          (closed-entry (suc j) m d e i ((calls j i).sound d k).closed (h.sound e b).right q).2

      pub rest-pass : (d e : Entry) → Member d rest → Member e l
          → d.cell ≡ e.cell → pass_cell_of d.key ≡ pass_cell_of e.key
      rest-pass d e k b q =
          ap (λ (x : Entry). pass_cell_of x.key)
          (entry-unique d e (r.sound d k).listed.right (h.sound e b).right q)
