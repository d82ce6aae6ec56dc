-- What reaching a cell does to the queue in the work area.
--     onward_self, onward-trans     going on
--     reach-spreads                 what is passed by, or put behind the queue, keeps what is known
--     look-step, look-done          the eight places around a cell, one after the other
-- Assumes nothing.
use mathlib.Core.Path.{◌≡◌, refl, sym, ◌∙◌, ap, subst}
use mathlib.Core.List.{List}
use mathlib.Core.Logic.{◌⊎◌, inl, inr}
use Prim.Native.Nat.{ℕ, ◌+◌, ◌*◌, ◌≤◌, ◌<◌}
use native.Mathlib.Numerals.{add-one}
use native.Mathlib.Omega.{arith}
use Rattle.relief.specs.Plane.{plane_of, touch_of}
use Rattle.relief.proofs.Tests.{split, below_suc, decide, eq-decides}
use Rattle.words.specs.Words.{Stored}
use Rattle.area.specs.Area.{order_in, parent_in}
use Rattle.places.specs.Places.{neighbour_of}
use Rattle.places.proofs.PlanePlaces.{places-plane}
use Rattle.flood.specs.Inner.{Reached, left, put, Spreading, Onward, Looked}
use Rattle.flood.proofs.Spreading.{spreading-room, spreading-left, spreading-put, spreading-next}

pub onward_self : (s : List ℕ) (n tail : ℕ) → Onward s s n tail
onward_self s n tail = record {
  taken = λ i l. refl;
  gates = λ c l. (λ a. a, λ a. a);
  front = λ j l. refl;
  back = λ j l. refl;
  len = refl;
}

pub onward-trans : {s t u : List ℕ} {n k m : ℕ} → k ≤ m → Onward s t n k → Onward t u n m → Onward s u n k
onward-trans {s} {t} {u} {n} {k} {m} l a b = record {
  taken = λ i h. b.taken i (omega arith) ∙ a.taken i h;
  gates = λ c h. (λ x. (a.gates c h).0 ((b.gates c h).0 x), λ x. (b.gates c h).1 ((a.gates c h).1 x));
  front = λ j h. b.front j h ∙ a.front j h;
  back = λ j h. b.back j h ∙ a.back j h;
  len = b.len ∙ a.len;
}

-- a cell y is reached from the place `head`
module _ {s m t : List ℕ} {n y head tail : ℕ} (inside : y < n) (free : parent_in s n y ≡ n) (room : tail < n)
    (few : head < n) (a : Stored s m (2 * n + y) head) (b : Stored m t (n + tail) y) where
  put_order : (i : ℕ) → i < tail → order_in t n i ≡ order_in s n i
  put_order i l = b.there (n + i) (λ e. omega arith) ∙ a.there (n + i) (λ e. omega arith)

  put-here : parent_in t n y ≡ head
  put-here = b.there (2 * n + y) (λ e. omega arith) ∙ a.here

  put-there : (c : ℕ) → c < n → (c ≡ y → ⊥) → parent_in t n c ≡ parent_in s n c
  put-there c l d = b.there (2 * n + c) (λ e. omega arith) ∙ a.there (2 * n + c) (λ e. d (omega arith))

  put-onward : Onward s t n tail
  put-onward = record {
    taken = put_order;
    gates = λ c l. split (decide (eq-decides c y))
        (λ e.
        let f = ap (parent_in t n) e in
        let g = ap (parent_in s n) e in
        let h = put-here in
        (λ x. omega arith, λ x. omega arith))
        (λ d. let f = put-there c l d in (λ x. omega arith, λ x. omega arith));
    front = λ j l. b.there j (λ e. omega arith) ∙ a.there j (λ e. omega arith);
    back = λ j l. b.there j (λ e. omega arith) ∙ a.there j (λ e. omega arith);
    len = b.len ∙ a.len;
  }

-- what is known once a cell was looked at
pub record Turned (touch : ℕ → ℕ → Type 0) (s t : List ℕ) (n head tail r : ℕ) (Seen : ℕ → Type 0) : Type 0 where
  pub grows : tail ≤ r
  pub onward : Onward s t n tail
  pub spreading : Spreading touch n (order_in t n) (parent_in t n) head r Seen

pub reach-spreads : {touch : ℕ → ℕ → Type 0} {s t : List ℕ} {n y head tail r : ℕ} {Seen Seen' : ℕ → Type 0}
    → Spreading touch n (order_in s n) (parent_in s n) head tail Seen → head < tail
    → (y < n → touch (order_in s n head) y) → ((c : ℕ) → c < n → Seen c → y < n → c ≤ y)
    → ((c : ℕ) → Seen c → Seen' c) → ((c : ℕ) → Seen' c → Seen c ⊎ (c ≡ y)) → Seen' y
    → Reached s t n y head tail r → Turned touch s t n head tail r Seen'
reach-spreads {touch} {s} {t} {n} {y} {head} {tail} {r} {Seen} {Seen'} h more touches rises widens narrows here q = go q
  where
    go : Reached s t n y head tail r → Turned touch s t n head tail r Seen'
    go (left shut e f) = subst (λ (u : List ℕ). Turned touch s u n head tail r Seen') (sym f) (record {
      grows = omega arith;
      onward = onward_self s n tail;
      spreading = subst (λ (k : ℕ). Spreading touch n (order_in s n) (parent_in s n) head k Seen') (sym e)
          (spreading-left h widens narrows (λ l x. split shut (λ o. omega arith) (λ d. d x)));
    })
    go (put inside free m a b e) =
        let room = spreading-room h inside free in
        let order = put_order inside free room (omega arith) a b in
        record {
          grows = omega arith;
          onward = put-onward inside free room (omega arith) a b;
          spreading = subst (λ (k : ℕ). Spreading touch n (order_in t n) (parent_in t n) head k Seen')
              (sym (e ∙ add-one tail))
              (spreading-put h widens narrows inside free more (touches inside) (λ c l x. rises c l x inside) here
              order b.here (put-here inside free room (omega arith) a b)
              (put-there inside free room (omega arith) a b));
        }

-- ---- all places around a cell

-- c is one of the first i places around x
abbrev pub SeenTo : ℕ → ℕ → ℕ → ℕ → ℕ → Type 0
SeenTo rows n x i c = (j : ℕ) × (j < i) × (neighbour_of rows n x j ≡ c)

module _ {rows n : ℕ} {s : List ℕ} {head tail x : ℕ} (some : 0 < rows) (ex : x ≡ order_in s n head) where
  -- one more place
  pub look-step : {t u : List ℕ} {last r i : ℕ} → head < tail
      → Turned (touch_of (plane_of rows)) s t n head tail last (SeenTo rows n x i) → i < 8
      → Reached t u n (neighbour_of rows n x i) head last r
      → Turned (touch_of (plane_of rows)) s u n head tail r (SeenTo rows n x (i + 1))
  look-step {t} {u} {last} {r} {i} more h l q =
      let p = places-plane rows n x some in
      let g = h.grows in
      let e : x ≡ order_in t n head = ex ∙ sym (h.onward.taken head more) in
      let k =
      reach-spreads {Seen' = SeenTo rows n x (i + 1)} h.spreading (omega arith)
      (λ b. subst (λ (y : ℕ). touch_of (plane_of rows) y (neighbour_of rows n x i)) e (p.touches i l b))
      (λ c b (j, m, f) b'. let z = p.rising j i m l (omega arith) b' in omega arith)
      (λ c (j, m, f). (j, omega arith, f))
      (λ c (j, m, f). split (below_suc j i (omega arith)) (λ w. inr (sym f ∙ ap (neighbour_of rows n x) w))
      (λ w. inl (j, w, f)))
      (i, omega arith, refl) q in
      let g' = k.grows in
      record {
        grows = omega arith;
        onward = onward-trans g h.onward k.onward;
        spreading = k.spreading;
      }

  -- all eight
  pub look-done : {t : List ℕ} {r i : ℕ} → head < tail
      → Turned (touch_of (plane_of rows)) s t n head tail r (SeenTo rows n x i) → 8 ≤ i
      → Looked (touch_of (plane_of rows)) s t n head tail r
  look-done {t} {r} {i} more h l =
      let p = places-plane rows n x some in
      let g = h.grows in
      let e : order_in t n head ≡ x = h.onward.taken head more ∙ sym ex in
      record {
        grows = g;
        onward = h.onward;
        spreading = spreading-next h.spreading (omega arith)
            (λ c b m. let (j, k, f) = p.all c b (subst (λ (y : ℕ). touch_of (plane_of rows) y c) e m) in
            (j, omega arith, f));
      }
