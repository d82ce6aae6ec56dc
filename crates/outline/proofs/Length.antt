-- The text of an outline is short, so that its length is a number of 32 bits and can be counted. Go through the outline
-- layer by layer (`Layers`): each entry of a layer has at most two lines, its own and its pass's, and there are at most
-- as many entries in all layers as there are cells.
--     Lined n e                the entry's numbers fit in its lines
--     down-length              each child has a line more, its pass's
--     layer-length             the text of a layer: its peaks' lines, their passes' lines, and the text of the next one
--     layers-length            the text of a layer and those below it: two lines for each entry, one in the first layer
--     outline-short            the text of an outline has at most 2^27 bytes
--     kinned-short             the text of all tops is short
-- Assumes nothing.
use mathlib.Core.Path.{◌≡◌, refl, ap, ◌∙◌}
use mathlib.Core.Bool.{Bool, true}
use mathlib.Core.List.{List, [], ◌∷◌, ◌++◌}
use mathlib.Core.Logic.{inl, inr}
use Prim.Native.Nat.{ℕ, zero, suc, ◌+◌, ◌-◌, ◌*◌, ◌≤◌, ◌<◌}
use native.Mathlib.Omega.{arith}
use lib.ListN.{length, length-append}
use Rattle.relief.specs.Peaks.{Key, missing, key, Entry, floor_of, pass_cell_of, Member, KeyOf, PeakEntry}
use Rattle.relief.specs.Inner.{cut}
use Rattle.relief.specs.Outline.{Family, peak_line, pass_line, each, peak_text, outline_text}
use Rattle.relief.proofs.Tests.{split, le-or-lt}
use Rattle.relief.proofs.Levels.{cut_below, cut-behind}
use Rattle.relief.proofs.Flats.{Terrain, land-below}
use Rattle.relief.proofs.Keys.{key-land}
use Rattle.relief.proofs.Lists.{entry-floor}
use Rattle.area.specs.Area.{level_in}
use Rattle.lines.proofs.Lengths.{peak-length, pass-length}
use Rattle.kin.specs.Kin.{children_in, Kinned}
use Rattle.outline.specs.Inner.{tops_print}
use Rattle.outline.proofs.Texts.{each_append, down, kinned-text}
use Rattle.outline.proofs.Layers.{offspring, layers, offspring-member, children-entry, children-few, outline-few}

record Lined (n : ℕ) (e : Entry) : Type 0 where
  cell : e.cell < n
  level : e.level < 4294967296
  pass : pass_cell_of e.key < 4294967296
  floor : floor_of e.key < 4294967296

-- ---- layers

each-length : (f : Entry → List ℕ) (e : Entry) (l : List Entry)
    → length (each f (e ∷ l)) ≡ length (f e) + length (each f l)
unfolding each
each-length f e l = length-append (f e) (each f l)

each-length-append : (f : Entry → List ℕ) (l m : List Entry)
    → length (each f (l ++ m)) ≡ length (each f l) + length (each f m)
each-length-append f l m = ap length (each_append f l m) ∙ length-append (each f l) (each f m)

each-length-none : (f : Entry → List ℕ) → length (each f []) ≡ 0
unfolding each
each-length-none f = refl

module _ (children : ℕ → List Entry) (n depth : ℕ) (few : n ≤ 1048576) (shallow : depth < 4294967296)
    (some : (q : ℕ) → length (children q) < 4294967296) where
  down-length : (text : Entry → List ℕ) (l : List Entry) → ((e : Entry) → Member e l → Lined n e)
      → length (each (down depth text) l) ≤ 64 * length l + length (each text l)
  down-length text [] h = omega (arith, each-length-none (down depth text))
  down-length text (e ∷ l) h =
      let ih = down-length text l (λ d m. h d (inr m)) in
      let k = h e (inl refl) in
      let line = pass-length depth (pass_cell_of e.key) (floor_of e.key) shallow k.pass k.floor in
      omega (
        arith,
        each-length (down depth text) e l,
        each-length text e l,
        length-append (pass_line depth (pass_cell_of e.key) (floor_of e.key)) (text e),
      )

  last-length : (l : List Entry) → ((e : Entry) → Member e l → Lined n e)
      → length (each (peak_text children 0 depth) l) ≤ 64 * length l
  unfolding peak_text
  last-length [] h = omega (arith, each-length-none (peak_text children 0 depth))
  last-length (e ∷ l) h =
      let ih = last-length l (λ d m. h d (inr m)) in
      let k = h e (inl refl) in
      let line = peak-length depth e.cell e.level shallow (omega (arith, k.cell)) k.level
      (length (children e.cell)) (some e.cell) in
      omega (arith, each-length (peak_text children 0 depth) e l)

  layer-length : (left : ℕ) (l : List Entry) → ((e : Entry) → Member e l → Lined n e)
      → ((q : ℕ) (e : Entry) → Member e (children q) → Lined n e)
      → length (each (peak_text children (suc left) depth) l)
      ≤ 64 * length l + 64 * length (offspring children l)
      + length (each (peak_text children left (suc depth)) (offspring children l))
  unfolding peak_text
  layer-length left [] h i = omega (arith, each-length-none (peak_text children (suc left) depth))
  layer-length left (e ∷ l) h i =
      let ih = layer-length left l (λ d m. h d (inr m)) i in
      let k = h e (inl refl) in
      let text = peak_text children left (suc depth) in
      let line = peak-length depth e.cell e.level shallow (omega (arith, k.cell)) k.level 0 (omega arith) in
      omega (
        arith,
        each-length (peak_text children (suc left) depth) e l,
        length-append (peak_line depth e.cell e.level 0) (each (down depth text) (children e.cell)),
        down-length text (children e.cell) (i e.cell),
        length-append (children e.cell) (offspring children l),
        each-length-append text (children e.cell) (offspring children l),
      )

module _ (children : ℕ → List Entry) (n : ℕ) (few : n ≤ 1048576)
    (some : (q : ℕ) → length (children q) < 4294967296)
    (lined : (q : ℕ) (e : Entry) → Member e (children q) → Lined n e) where
  layers-length : (left depth : ℕ) → left + depth < 4294967296 → (l : List Entry)
      → ((e : Entry) → Member e l → Lined n e)
      → length (each (peak_text children left depth) l) + 64 * length l ≤ 128 * length (layers children left l)
  layers-length zero depth s l h = omega (arith, last-length children n depth few (omega arith) some l h)
  layers-length (suc left) depth s l h =
      let next = offspring children l in
      let right : (e : Entry) → Member e next → Lined n e =
      λ e m. let (d, i, j) = offspring-member children l e m in lined d.cell e j in
      omega (
        arith,
        layer-length children n depth few (omega arith) some left l h lined,
        layers-length left (suc depth) (omega arith) next right,
        length-append l (layers children left next),
      )

-- ---- entries

module _ {touch : ℕ → ℕ → Type 0} {touch? : ℕ → ℕ → Bool} {level : ℕ → ℕ} {n : ℕ}
    (t : Terrain touch touch? level n) (few : n ≤ 1048576) (small : (c : ℕ) → level c < 4294967296) where
  key-pass : (p : ℕ) (k : Key) → KeyOf touch level p k → pass_cell_of k < 4294967296
  key-pass p missing h = omega arith
  key-pass p (key k c) h =
      let e = h.1.height in omega (arith, land-below t c (omega (arith, key-land h.0)))

  entry-lined : (e : Entry) → PeakEntry touch level e → Lined n e
  entry-lined e h = record {
    cell = land-below t e.cell h.peak.land;
    level = let q = h.height in omega (arith, small e.cell);
    pass = key-pass e.cell e.key h.keyed;
    floor = omega (arith, entry-floor t e h, small e.cell);
  }

  pub outline-short : {T : ℕ} (family : Family touch level T) (levels : ℕ) → levels ≤ 64
      → length (outline_text family.children levels family.tops) ≤ 134217728
  outline-short family levels h =
      let short = layers-length family.children n few (λ q. omega (arith, children-few t family q))
      (λ q e m. entry-lined e (children-entry t family q e m)) (levels - 1) 1 (omega arith) family.tops
      (λ e m. entry-lined e (family.tops_right.sound e m).listed.right) in
      omega (arith, outline-few t family (levels - 1))

-- ---- over the work area that linking leaves

cut_small : (n : ℕ) (level : ℕ → ℕ) → ((c : ℕ) → level c < 4294967296) → (c : ℕ) → cut n level c < 4294967296
cut_small n level small c = split (le-or-lt n c)
    (λ h. omega (arith, cut-behind n level c h))
    (λ h. omega (arith, cut_below n level c h, small c))

module _ {touch : ℕ → ℕ → Type 0} {touch? : ℕ → ℕ → Bool} {s t : List ℕ} {n T : ℕ} (k : Kinned touch s t n T)
    (terrain : Terrain touch touch? (cut n (level_in s)) n) where
  pub kinned-few : (q : ℕ) → k.peak q ≡ true → length (children_in t n q) < 4294967296
  kinned-few q p =
      omega (arith, children-few terrain k.family q, ap length (k.children q p), k.threads.area.few)

  pub kinned-short : ((c : ℕ) → level_in s c < 4294967296) → (levels : ℕ) → levels ≤ 64
      → length (tops_print t n (levels - 1) n) ≤ 134217728
  kinned-short small levels h = omega (
    arith,
    outline-short terrain k.threads.area.few (cut_small n (level_in s) small) k.family levels h,
    ap length (kinned-text k levels),
  )
