-- From a sweep and a collection to the list, the batch and the rest of the definitions.
--     listed-decides     every cell swept is a peak that is listed or not, as the work area tells it
--     closed-decides     and closed or open
--     answered           so the cells collected are just the entries that are handed out, in reading order
-- Assumes nothing.
use mathlib.Core.Path.{◌≡◌, refl, sym, ◌∙◌, ap, subst}
use mathlib.Core.Bool.{Bool, true, false, not, ◌&&◌}
use mathlib.Core.List.{List}
use Prim.Native.Nat.{ℕ, ◌+◌, ◌-◌, ◌*◌, ◌≤◌, ◌<◌, zero-le}
use native.Mathlib.Omega.{arith}
use lib.ListN.{length}
use borrow.Author.Tests.{le-leb}
use Rattle.relief.specs.Peaks.{Key, missing, key, Entry, floor_of, Peak, PeakEntry, Listed, Wanted, KeyOf}
use Rattle.relief.specs.Runs as Runs
use Rattle.relief.specs.Runs.{Stage, Closed, Remaining}
use Rattle.relief.specs.Inner.{Decides}
use Rattle.relief.proofs.Tests.{split, true-not-false, le-or-lt, le-decides, and-decides, not-decides, decides-iff}
use Rattle.relief.proofs.Tests.{passes}
use Rattle.relief.proofs.Lists.{entry-unique}
use Rattle.words.specs.Words.{word_at}
use Rattle.words.proofs.Laws.{Bytes, bytes-beyond}
use Rattle.area.specs.Area.{Area, level_in, order_in, parent_in, pass_of, reach_of, shore_of, cell_in, mark_in}
use Rattle.groups.specs.Groups.{Shores}
use Rattle.sweep.specs.Sweep.{Surveyed}
use Rattle.choice.specs.declared.Part.{Part}
use Rattle.choice.specs.declared.Part.TheVariants.{Whole, Closing, Open}
use Rattle.choice.specs.Inner.{wants_part, listed_in, open_in, chosen_in, Collected}
use Rattle.survey.specs.Answers.{entry_in, Answered}
use Rattle.survey.proofs.Places.{places-order}
use Rattle.survey.proofs.CellKinds.{always, never, decides-as, Kind, kind, test-blank, test-root, test-slope}
use Rattle.survey.proofs.CellKinds.{test-hung, open-root, open-hung, entry-root, entry-hung, entry-cell, blank}
use Rattle.survey.proofs.CellKinds.{root, slope, hung}

-- t is s behind the work area, and as long
pub record Behind (s t : List ℕ) (n : ℕ) : Type 0 where
  pub numbers : (j : ℕ) → 4 * n ≤ j → word_at t j ≡ word_at s j
  pub len : length t ≡ length s

-- a work area in which a sweep is done: L is the level of each cell below the limit
pub record Settled (touch : ℕ → ℕ → Type 0) (L : ℕ → ℕ) (newest limit : ℕ) (t : List ℕ) (n : ℕ) : Type 0 where
  pub ends : (c : ℕ) → limit ≤ c → L c ≡ 0
  pub same : (c : ℕ) → c < limit → level_in t c ≡ L c
  pub surveyed : Surveyed touch L newest limit (parent_in t n) (pass_of t n) (reach_of t n) (shore_of t n)
  pub held : (c : ℕ) → c < limit → 0 < L c → pass_of t n c < limit

module _ {touch : ℕ → ℕ → Type 0} {L : ℕ → ℕ} {newest limit : ℕ} {t : List ℕ} {n : ℕ}
    (r : Settled touch L newest limit t n) where
  abbrev stage : Stage
  stage = record { level = L; cells = limit; newest = newest }

  module _ (c : ℕ) (below : c < limit) where
    land-L : 0 < level_in t c → 0 < L c
    land-L l = let e = r.same c below in omega arith

    pass_same : 0 < level_in t c → level_in t (pass_of t n c) ≡ L (pass_of t n c)
    pass_same l = r.same (pass_of t n c) (r.held c below (land-L l))

    -- a cell that the work area calls a peak is one, with this entry
    right-root : 0 < level_in t c → parent_in t n c ≡ c → PeakEntry touch L (entry_in t n c)
    right-root l e =
        let (p, k, o) = r.surveyed.top c below (land-L l) e in
        subst (PeakEntry touch L) (sym (entry-root t n c e))
        (record { peak = p; height = sym (r.same c below); keyed = k })

    right-hung : 0 < level_in t c → (parent_in t n c ≡ c → ⊥) → level_in t (pass_of t n c) < level_in t c
        → PeakEntry touch L (entry_in t n c)
    right-hung l d m =
        let e = r.same c below in
        let f = pass_same l in
        let (p, k, q, o) = r.surveyed.keyed c below (land-L l) d (omega arith) in
        subst (PeakEntry touch L) (sym (entry-hung t n c d)) (record {
          peak = p;
          height = sym e;
          keyed = subst (λ (x : ℕ). KeyOf touch L c (key x (pass_of t n c))) (sym f) (k, q);
        })

    -- the cell of an entry that is right is a peak's
    peak-of : {e : Entry} → e.cell ≡ c → PeakEntry touch L e → Peak touch L c
    peak-of q h = subst (Peak touch L) q h.peak

    no-blank : level_in t c ≡ 0 → Peak touch L c → ⊥
    no-blank e p = let f = r.same c below in let l = p.land in omega arith

    no-slope : 0 < level_in t c → (parent_in t n c ≡ c → ⊥) → level_in t c ≤ level_in t (pass_of t n c) → Peak touch L c
        → ⊥
    no-slope l d m p =
        let e = r.same c below in
        let f = pass_same l in
        r.surveyed.slope c below (land-L l) d (omega arith) p

    pub listed-decides : (T : ℕ) → Decides (Listed touch L T (entry_in t n c)) (listed_in t n T c)
    listed-decides T = go (kind t n c)
      where
        go : Kind t n c → Decides (Listed touch L T (entry_in t n c)) (listed_in t n T c)
        go (blank e) = never (λ h. no-blank e (peak-of (entry-cell t n c) h.right)) (test-blank t n T c e)
        go (root l e) =
            always (record { right = right-root l e; wanted = rw (entry-root t n c e) tt }) (test-root t n T c l e)
        go (slope l d m) =
            never (λ h. no-slope l d m (peak-of (entry-cell t n c) h.right)) (test-slope t n T c d m l)
        go (hung l d m) =
            decides-as (test-hung t n T c d m l)
            (decides-iff
            (λ g. record { right = right-hung l d m; wanted = rw (entry-hung t n c d) g })
            (λ h. rw (entry-hung t n c d) at h.wanted)
            (le-decides T (level_in t c - level_in t (pass_of t n c))))

    -- ---- closed

    -- the entry of a cell is that of a closed peak if its island reaches no newest ground
    shores-closed : {e : Entry} {b : Bool} → PeakEntry touch L e
        → Decides (Shores touch L newest e.cell (floor_of e.key)) b → Decides (Closed touch stage e) (not b)
    shores-closed h d =
        decides-iff
        (λ none. record { right = h; away = λ x w l. none (x, w, l) })
        (λ k (x, w, l). k.away x w l)
        (not-decides d)

    pub closed-decides : Decides (Closed touch stage (entry_in t n c)) (listed_in t n 0 c && not (open_in t n c))
    closed-decides = go (kind t n c)
      where
        go : Kind t n c → Decides (Closed touch stage (entry_in t n c)) (listed_in t n 0 c && not (open_in t n c))
        go (blank e) =
            decides-as (ap (λ (b : Bool). b && not (open_in t n c)) (test-blank t n 0 c e))
            (never (λ h. no-blank e (peak-of (entry-cell t n c) h.right)) refl)
        go (root l e) =
            let (p, k, o) = r.surveyed.top c below (land-L l) e in
            decides-as
            (ap (λ (b : Bool). b && not (open_in t n c)) (test-root t n 0 c l e) ∙ ap not (open-root t n c e))
            (rw (entry-root t n c e) (shores-closed (rw (entry-root t n c e) at (right-root l e)) o))
        go (slope l d m) =
            decides-as (ap (λ (b : Bool). b && not (open_in t n c)) (test-slope t n 0 c d m l))
            (never (λ h. no-slope l d m (peak-of (entry-cell t n c) h.right)) refl)
        go (hung l d m) =
            let e = r.same c below in
            let f = pass_same l in
            let (p, k, q, o) = r.surveyed.keyed c below (land-L l) d (omega arith) in
            decides-as
            (ap (λ (b : Bool). b && not (open_in t n c))
            (test-hung t n 0 c d m l ∙ le-leb 0 (level_in t c - level_in t (pass_of t n c)) zero-le)
            ∙ ap not (open-hung t n c d))
            (rw (entry-hung t n c d)
            (shores-closed (rw (entry-hung t n c d) at (right-hung l d m))
            (subst (λ (x : ℕ). Decides (Shores touch L newest c x) (shore_of t n c)) (sym f) o)))

  -- ---- the entry of a peak is the one that the work area tells

  entry-right : (c : ℕ) → c < limit → Peak touch L c → PeakEntry touch L (entry_in t n c)
  entry-right c below p = go (kind t n c)
    where
      go : Kind t n c → PeakEntry touch L (entry_in t n c)
      go (blank e) = absurd (no-blank c below e p)
      go (root l e) = right-root c below l e
      go (slope l d m) = absurd (no-slope c below l d m p)
      go (hung l d m) = right-hung c below l d m

  pub entry-only : (e : Entry) → PeakEntry touch L e → (e.cell < limit) × (e ≡ entry_in t n e.cell)
  entry-only e h =
      let l : e.cell < limit =
      split (le-or-lt limit e.cell)
      (λ m. let z = r.ends e.cell m in let p = h.peak.land in absurd (omega arith)) (λ m. m) in
      (l, entry-unique e (entry_in t n e.cell) h (entry-right e.cell l h.peak) (sym (entry-cell t n e.cell)))

  -- ---- what is handed out, cell by cell

  listed-zero : (T c : ℕ) → c < limit → listed_in t n T c ≡ true → listed_in t n 0 c ≡ true
  listed-zero T c l e =
      let h = (listed-decides c l T).holds e in
      passes (listed-decides c l 0) (record { right = h.right; wanted = any (entry_in t n c).key })
    where
      any : (k : Key) → Wanted 0 (entry_in t n c).level k
      any missing = tt
      any (key k p) = zero-le

  -- where a cell is listed, its second test is that of being open
  open_told : (T c : ℕ) (l : c < limit) → listed_in t n T c ≡ true
      → Decides (Closed touch stage (entry_in t n c)) (not (open_in t n c))
  open_told T c l e =
      subst (λ (b : Bool). Decides (Closed touch stage (entry_in t n c)) (b && not (open_in t n c)))
      (listed-zero T c l e) (closed-decides c l)

  pub whole-told : (T c : ℕ) → c < limit → Decides (Listed touch L T (entry_in t n c)) (chosen_in t n T Whole c)
  unfolding chosen_in
  whole-told T c l =
      decides-iff (λ h. h.0) (λ h. (h, tt)) (and-decides (listed-decides c l T) (always {A = Unit {0}} tt refl))

  pub open-part-told : (T c : ℕ) → c < limit → Decides (Remaining touch stage T (entry_in t n c))
      (chosen_in t n T Open c)
  unfolding chosen_in
  open-part-told T c l = go (listed_in t n T c) refl
    where
      go : (b : Bool) → listed_in t n T c ≡ b → Decides (Remaining touch stage T (entry_in t n c)) (b && open_in t n c)
      go true e =
          let h = (listed-decides c l T).holds e in
          let d = open_told T c l e in
          record {
            holds = λ f. record {
              listed = h;
              still = record { right = h.right; unclosed = λ k. d.fails (ap not f) k };
            };
            fails = λ f k. k.still.unclosed (d.holds (ap not f));
          }
      go false e = never (λ h. (listed-decides c l T).fails e h.listed) refl

  module _ (s₀ : Stage)
      (marks : (c : ℕ) → c < limit → Decides ((d : Entry) × (d.cell ≡ c) × Closed touch s₀ d)
      (mark_in (order_in t n c))) where
    pub closing-told : (T c : ℕ) → c < limit
        → Decides (Runs.Closing touch s₀ stage T (entry_in t n c)) (chosen_in t n T Closing c)
    unfolding chosen_in
    closing-told T c l = go (listed_in t n T c) refl
      where
        go : (b : Bool) → listed_in t n T c ≡ b
            → Decides (Runs.Closing touch s₀ stage T (entry_in t n c))
            (b && (not (open_in t n c) && not (mark_in (order_in t n c))))
        go true e =
            let h = (listed-decides c l T).holds e in
            decides-iff
            (λ (k, none). record {
              listed = h;
              closed = k;
              unclosed = λ d q x. none (d, q ∙ entry-cell t n c, x);
            })
            (λ k. (k.closed, λ (d, q, x). k.unclosed d (q ∙ sym (entry-cell t n c)) x))
            (and-decides (open_told T c l e) (not-decides (marks c l)))
        go false e = never (λ h. (listed-decides c l T).fails e h.listed) refl

  -- ---- all cells

  chosen-land : (T : ℕ) (part : Part) (c : ℕ) → chosen_in t n T part c ≡ true → 0 < level_in t c
  unfolding chosen_in
  chosen-land T part c e =
      split (le-or-lt (level_in t c) 0)
      (λ l. true-not-false e (ap (λ (b : Bool). b && wants_part part (open_in t n c) (mark_in (order_in t n c)))
      (test-blank t n T c (omega arith))))
      (λ l. l)

  module _ (fits : limit ≤ n) (T : ℕ) (part : Part) {u : List ℕ} {count : ℕ}
      (g : Collected t u n limit (chosen_in t n T part) count) where
    word_same : (j : ℕ) → (n ≤ j → j < 2 * n → ⊥) → word_at u j ≡ word_at t j
    word_same j d = g.other j (λ a b. d a (let f = g.few in omega arith))

    pass-here : (c : ℕ) → c < limit → 0 < level_in t c → pass_of t n c < limit
    pass-here c l m = r.held c l (let e = r.same c l in omega arith)

    entry-same : (c : ℕ) → c < limit → 0 < level_in t c → entry_in u n c ≡ entry_in t n c
    unfolding entry_in
    entry-same c l m =
        let p = pass-here c l m in
        let e1 : word_at u c ≡ word_at t c = word_same c (λ a b. omega arith) in
        let e2 : word_at u (2 * n + c) ≡ word_at t (2 * n + c) = word_same (2 * n + c) (λ a b. omega arith) in
        let e3 : word_at u (3 * n + c) ≡ word_at t (3 * n + c) = word_same (3 * n + c) (λ a b. omega arith) in
        let e4 : word_at u (cell_in (word_at t (3 * n + c))) ≡ word_at t (cell_in (word_at t (3 * n + c))) =
        word_same (pass_of t n c) (λ a b. omega arith) in
        rw (e3, e4, e1, e2)

    -- what is collected is the answer to a survey of s, if it is told by P and the rest of the work area is that of s
    pub answered : {s : List ℕ} {P : Entry → Type 0}
        → ((c : ℕ) → c < limit → Decides (P (entry_in t n c)) (chosen_in t n T part c))
        → ((e : Entry) → P e → PeakEntry touch L e)
        → Area t n → Behind s t n → Bytes s → Bytes u → Answered s u n P count
    answered {s} {P} told right a k bs bu = record {
      counted = record {
        area = record { few = a.few; room = let e = g.len in let b = a.room in omega arith };
        few = let f = g.few in omega arith;
        cells = λ i l. let (b, e) = g.inside i l in omega arith;
        passes = λ i l.
            let (b, e) = g.inside i l in
            let m = chosen-land T part (order_in u n i) e in
            let p = pass-here (order_in u n i) b m in
            let w = ap cell_in (word_same (3 * n + order_in u n i) (λ a b. omega arith)) in
            omega arith;
      };
      order = places-order (λ i. entry_in u n (order_in u n i)) P count
          (λ i j l m. rw (entry-cell u n (order_in u n i), entry-cell u n (order_in u n j)) (g.rising i j l m))
          (λ i l. let (b, e) = g.inside i l in
          subst P (sym (entry-same (order_in u n i) b (chosen-land T part (order_in u n i) e)))
          ((told (order_in u n i) b).holds e))
          (λ e p.
          let (b, q) = entry-only e (right e p) in
          let f = passes (told e.cell b) (subst P q p) in
          let (i, l, o) = g.onto e.cell b f in
          (i, l, q ∙ sym (entry-same e.cell b (chosen-land T part e.cell f)) ∙ ap (entry_in u n) (sym o)));
      beyond = λ i l. bytes-beyond s u bs bu (4 * n)
          (λ j m. word_same j (λ a b. omega arith) ∙ k.numbers j m) i (omega arith);
      len = g.len ∙ k.len;
    }
