-- What a flood reaches, and the first ways to it. No step in the set leaves the queue, so a way from the start is a run
-- of places in it. Go back on a trail and on a run that ends no earlier, step by step: the trail goes to the place that
-- its cell was reached from; by the order of the queue the run's cell was reached from there or later, and by the flood
-- no later than from the place before it in the run. So the trail stays no later than the run, and is at the start no
-- later. Where both are as long, the first cells that differ were reached from one, and the trail's is the earlier.
--     Run touch queue count j l    a way from the start to the place j, that grows at its end; its cells are l
--     trail-unique, -exists        each place of the queue has one trail, ..
--     trail-length                 .. no longer than the queue up to there
--     run-way, way-run             runs are ways, and ways are runs
--     reach-sound, -complete       the queue holds just what the start reaches
--     trail-shortest, -first       no run is shorter than the trail, and of those as short none is before it
--     trail-way                    so the trail is the first way
-- Assumes nothing.
use mathlib.Core.Path.{◌≡◌, refl, sym, ap, ◌∙◌, subst, subst₂}
use mathlib.Core.List.{List, [], ◌∷◌, ◌++◌}
use mathlib.Core.Logic.{inl, inr}
use Prim.Native.Nat.{ℕ, zero, suc, ◌-◌, ◌≤◌, ◌<◌}
use native.Mathlib.Nat.{le_refl}
use native.Mathlib.Omega.{arith}
use lib.ListN.{length, get_or, length-append}
use lib.Seq.{append_snoc}
use Rattle.relief.specs.Peaks.{Way, alone, onward}
use Rattle.relief.specs.Accounts.{cells_of, NotLater, FirstWay}
use Rattle.relief.proofs.Tests.{split, below_suc}
use Rattle.relief.proofs.Ways.{way-start}
use Rattle.relief.proofs.Rows.{row_last}
use Rattle.flood.specs.Flood.{Spread, Trail, root, next}

-- Each step goes to a cell of the queue.
data Run (touch : ℕ → ℕ → Type 0) (queue : ℕ → ℕ) (count : ℕ) : ℕ → List ℕ → Type 0 where
  begin : Run touch queue count 0 (queue 0 ∷ [])
  step : {i k : ℕ} {m : List ℕ} → Run touch queue count i m → touch (queue i) (queue k) → k < count
      → Run touch queue count k (m ++ (queue k ∷ []))

-- ---- rows and ways with a cell more

length-step : (l : List ℕ) (x : ℕ) → length (l ++ (x ∷ [])) ≡ suc (length l)
length-step l x = omega (arith, length-append l (x ∷ []))

not-later-step : (l m : List ℕ) (x y : ℕ) → length l ≡ length m → NotLater l m → (l ≡ m → x ≤ y)
    → NotLater (l ++ (x ∷ [])) (m ++ (y ∷ []))
not-later-step [] [] x y e h f = split (below_suc x y (omega (arith, f refl))) (λ d. inr (d, tt)) inl
not-later-step [] (b ∷ m) x y e h f = absurd (omega arith)
not-later-step (a ∷ l) [] x y e h f = absurd (omega arith)
not-later-step (a ∷ l) (b ∷ m) x y e (inl h) f = inl h
not-later-step (a ∷ l) (b ∷ m) x y e (inr (d, h)) f =
    inr (d, not-later-step l m x y (omega arith) h (λ g. f cc))

module _ {touch : ℕ → ℕ → Type 0} {In : ℕ → Type 0} where
  way-more : {a b c : ℕ} (w : Way touch In a b) → touch b c → In c
      → (v : Way touch In a c) × (cells_of v ≡ cells_of w ++ (c ∷ []))
  unfolding cells_of
  way-more (alone h) t i = (onward h t (alone i), refl)
  way-more (onward {a} h s w) t i =
      let (v, e) = way-more w t i in (onward h s v, ap (λ (r : List ℕ). a ∷ r) e)

pub trail-unique : {queue from : ℕ → ℕ} {j : ℕ} {l m : List ℕ} → Trail queue from j l → Trail queue from j m → l ≡ m
trail-unique root root = refl
trail-unique root (next h u) = absurd (omega arith)
trail-unique (next h t) root = absurd (omega arith)
trail-unique {queue} (next {j} h t) (next i u) = ap (λ (r : List ℕ). r ++ (queue j ∷ [])) (trail-unique t u)

module _ {touch : ℕ → ℕ → Type 0} {In : ℕ → Type 0} {start : ℕ} {queue from : ℕ → ℕ} {count : ℕ}
    (s : Spread touch In start queue from count) where
  -- ---- trails

  pub trail-exists : (j : ℕ) → j < count → (l : List ℕ) × Trail queue from j l
  trail-exists j h = go (suc j) j h (le_refl (suc j))
    where
      go : (k j : ℕ) → j < count → j < k → (l : List ℕ) × Trail queue from j l
      go zero j h i = absurd (omega arith)
      go (suc k) zero h i = (queue 0 ∷ [], root)
      go (suc k) (suc j) h i =
          let (b, t) = s.came (suc j) (omega arith) h in
          let (l, u) = go k (from (queue (suc j))) (omega arith) (omega arith) in
          (l ++ (queue (suc j) ∷ []), next {j = suc j} (omega arith) u)

  pub trail-length : {j : ℕ} {l : List ℕ} → j < count → Trail queue from j l → length l ≤ suc j
  trail-length h root = le_refl 1
  trail-length h (next {j} {l} p t) =
      let (b, c) = s.came j p h in omega (arith, length-step l (queue j), trail-length (omega arith) t)

  -- ---- runs and ways

  trail-run : {j : ℕ} {l : List ℕ} → j < count → Trail queue from j l → Run touch queue count j l
  trail-run h root = begin
  trail-run h (next {j} p t) = let (b, c) = s.came j p h in step (trail-run (omega arith) t) c h

  run-place : {j : ℕ} {l : List ℕ} → Run touch queue count j l → j < count
  run-place begin = s.some
  run-place (step r t h) = h

  run-some : {j : ℕ} {l : List ℕ} → Run touch queue count j l → 0 < length l
  run-some begin = le_refl 1
  run-some (step {k} {m} r t h) = omega (arith, length-step m (queue k))

  run-way : {j : ℕ} {l : List ℕ} → Run touch queue count j l → (w : Way touch In start (queue j)) × (cells_of w ≡ l)
  unfolding cells_of
  run-way {j} {l} r = subst (λ (a : ℕ). (w : Way touch In a (queue j)) × (cells_of w ≡ l)) s.first (go r)
    where
      go : {j : ℕ} {l : List ℕ} → Run touch queue count j l → (w : Way touch In (queue 0) (queue j)) × (cells_of w ≡ l)
      go begin = (alone (s.inside 0 s.some), refl)
      go (step {k} r t h) =
          let (w, e) = go r in
          let (v, f) = way-more w t (s.inside k h) in
          (v, f ∙ ap (λ (r : List ℕ). r ++ (queue k ∷ [])) e)

  -- a run goes on by the way that is left; p are the cells before its last
  run_on : {a b : ℕ} (p : List ℕ) (w : Way touch In a b) (i : ℕ) → queue i ≡ a → Run touch queue count i (p ++ (a ∷ []))
      → (j : ℕ) × (queue j ≡ b) × Run touch queue count j (p ++ cells_of w)
  unfolding cells_of
  run_on p (alone h) i e r = (i, e, r)
  run_on p (onward {a} {b} h t w) i e r =
      let (k, l, f) = s.all i b (run-place r) (subst (λ (x : ℕ). touch x b) (sym e) t) (way-start w) in
      let q = step r (subst₂ touch (sym e) (sym f) t) l in
      let (j, g, v) =
      run_on (p ++ (a ∷ [])) w k f (subst (λ (x : ℕ). Run touch queue count k (p ++ (a ∷ []) ++ (x ∷ []))) f q) in
      (j, g, subst (Run touch queue count j) (append_snoc p a (cells_of w)) v)

  way-run : {c : ℕ} (w : Way touch In start c) → (j : ℕ) × (queue j ≡ c) × Run touch queue count j (cells_of w)
  way-run w = run_on [] w 0 s.first (subst (λ (x : ℕ). Run touch queue count 0 (x ∷ [])) s.first begin)

  -- and it is a run to the place of the way's end
  way-run-at : {j : ℕ} → j < count → (w : Way touch In start (queue j)) → Run touch queue count j (cells_of w)
  way-run-at {j} h w =
      let (k, e, r) = way-run w in
      subst (λ (i : ℕ). Run touch queue count i (cells_of w)) (s.once k j (run-place r) h e) r

  run-last : {j : ℕ} {l : List ℕ} → Run touch queue count j l → get_or l (length l - 1) 0 ≡ queue j
  run-last r = let (w, e) = run-way r in ap (λ (l : List ℕ). get_or l (length l - 1) 0) (sym e) ∙ row_last w

  -- runs of the same cells end at one place
  run_end : {i j : ℕ} {l m : List ℕ} → Run touch queue count i l → Run touch queue count j m → l ≡ m → i ≡ j
  run_end {i} {j} r v e =
      s.once i j (run-place r) (run-place v)
      (sym (run-last r) ∙ ap (λ (l : List ℕ). get_or l (length l - 1) 0) e ∙ run-last v)

  -- ---- what the start reaches

  pub reach-sound : (j : ℕ) → j < count → Way touch In start (queue j)
  reach-sound j h = (run-way (trail-run h (trail-exists j h).1)).0

  pub reach-complete : {c : ℕ} → Way touch In start c → (j : ℕ) × (j < count) × (queue j ≡ c)
  reach-complete w = let (j, e, r) = way-run w in (j, run-place r, e)

  -- ---- trails beside runs

  -- a step back on both: a trail that ends no later than a run is no later then
  from-before : {i j k : ℕ} {m : List ℕ} → j ≤ k → Run touch queue count i m → touch (queue i) (queue k) → k < count
      → from (queue j) ≤ i
  from-before {i} {j} {k} o r t h = omega (arith, s.sorted j k o h, s.soon i k (run-place r) h t)

  trail-shortest : {j k : ℕ} {l m : List ℕ} → j ≤ k → Trail queue from j l → Run touch queue count k m
      → length l ≤ length m
  trail-shortest o root r = run-some r
  trail-shortest o (next p u) begin = absurd (omega arith)
  trail-shortest o (next {j} {l} p u) (step {i} {k} {m} r t h) =
      omega (arith, length-step l (queue j), length-step m (queue k), trail-shortest (from-before o r t h) u r)

  -- of two cells of the queue that were reached from one, the first is the earlier
  from-rising : (j k : ℕ) → 0 < j → j ≤ k → k < count → from (queue k) ≤ from (queue j) → queue j ≤ queue k
  from-rising j k p o h f =
      split (below_suc j k (omega arith)) (λ e. let q = ap queue e in omega arith)
      (λ l. let e = s.sorted j k o h in omega (arith, s.rising j k p l h (omega arith)))

  trail-first : {j k : ℕ} {l m : List ℕ} → j ≤ k → Trail queue from j l → Run touch queue count k m
      → length l ≡ length m → NotLater l m
  trail-first o root begin e = inr (refl, tt)
  trail-first o root (step {k} {m} r t h) e = absurd (omega (arith, length-step m (queue k), run-some r))
  trail-first o (next p u) begin e = absurd (omega arith)
  trail-first o (next {j} {l} p u) (step {i} {k} {m} r t h) e =
      let b = from-before o r t h in
      let d : length l ≡ length m = omega (arith, length-step l (queue j), length-step m (queue k)) in
      let v = trail-run (omega (arith, run-place r)) u in
      not-later-step l m (queue j) (queue k) d (trail-first b u r d)
      (λ f. from-rising j k p o h (omega (arith, run_end v r f, s.soon i k (run-place r) h t)))

  pub trail-way : {j : ℕ} {l : List ℕ} → j < count → Trail queue from j l → FirstWay touch In start (queue j) l
  trail-way {j} h t =
      let (w, e) = run-way (trail-run h t) in
      record {
        way = w;
        cells = e;
        shortest = λ v. trail-shortest (le_refl j) t (way-run-at h v);
        first = λ v f. trail-first (le_refl j) t (way-run-at h v) (sym f);
      }
