-- What the printers ask and promise: the text by the links in the work area.
--     Strung s n x               links lead through the peaks of the pass x
--     Hung s n q                 links lead through the passes under the peak q, and through the peaks of each
--     Linked s n left q          from the peak q on, links lead through peaks and passes, so many levels down
--     pass_print, peak_print     the text of a pass and of a peak, so many levels down, as the links lead
--     tops_print s n left k      the text of the tops among the first k cells, one behind the other
--     PeakPrinting, PassPrinting what the two printers ask
--     TopPrinting, TopsPrinting  what printing one top, and all, asks
--     Linkable, GoodOutline      what is known of a call that its tests have passed
--     Prepared                   the listed peaks of the held cells are linked in the work area
--     Printable, PrintedAll      before and after all is printed, if the room is long enough
-- Assumes nothing.
use Rattle.record.specs.declared.Refusal.{Refusal}
use Rattle.std.specs.Prelude.{Result, Ok, Err}
use Rattle.std.specs.Prelude.{◌≡◌, true, cond, List, [], ◌∷◌, ◌++◌, ℕ, zero, suc, ◌+◌, ◌-◌, ◌*◌, ◌≤◌, ◌<◌, ltb, ℤ}
use Rattle.std.specs.Prelude.{length, get_or}
use Rattle.relief.specs.Plane.{touch_of, stage_of}
use Rattle.relief.specs.Inner.{cut}
use Rattle.relief.specs.Outline.{peak_line, pass_line, each}
use Rattle.area.specs.Area.{Area, level_in, parent_in, pass_in, cell_in}
use Rattle.kin.specs.Kin.{Chain, passes_in, peaks_in, children_in, is_top, Kinned}
use Rattle.record.specs.declared.Refusal.TheVariants.{TextRoom}
use Rattle.record.specs.Refusals.{first_of}
use Rattle.running.specs.declared.Run.{Run}
use Rattle.running.specs.Running.{shape_of, held_of}
use Rattle.outline.specs.Promises.{outline_tests, text_after}

-- P holds of every cell of the list
abbrev pub Every : (ℕ → Type 0) → List ℕ → Type 0
Every P [] = Unit {0}
Every P (x ∷ l) = P x × Every P l

-- the peaks of the pass x
pub record Strung (s : List ℕ) (n x : ℕ) : Type 0 where
  pub area : Area s n
  pub cell : x < n
  pub across : Chain (parent_in s n) n (cell_in (parent_in s n x)) (peaks_in s n x)

-- the passes under the peak q, and the peaks of each
pub record Hung (s : List ℕ) (n q : ℕ) : Type 0 where
  pub area : Area s n
  pub cell : q < n
  pub down : Chain (pass_in s n) n (pass_in s n q) (passes_in s n q)
  pub strung : Every (Strung s n) (passes_in s n q)
  pub few : length (children_in s n q) < 4294967296

abbrev pub Linked : List ℕ → ℕ → ℕ → ℕ → Type 0
Linked s n zero q = Hung s n q
Linked s n (suc left) q = Hung s n q × Every (λ x. Every (Linked s n left) (peaks_in s n x)) (passes_in s n q)

-- the pass x at this depth, with each of its peaks, whose text is `under`
abbrev pub pass_print : List ℕ → ℕ → (ℕ → List ℕ) → ℕ → ℕ → List ℕ
pass_print s n under depth x = each (λ p. pass_line depth x (level_in s x) ++ under p) (peaks_in s n x)

unfoldable pub peak_print : List ℕ → ℕ → ℕ → ℕ → ℕ → List ℕ
peak_print s n zero depth q = peak_line depth q (level_in s q) (length (children_in s n q))
peak_print s n (suc left) depth q =
    peak_line depth q (level_in s q) 0
    ++ each (pass_print s n (peak_print s n left (suc depth)) depth) (passes_in s n q)

-- "Tops stand in reading order at level 1." Nothing is printed of a cell that is not that of a top.
abbrev pub top_print : List ℕ → ℕ → ℕ → ℕ → List ℕ
top_print s n left c = cond (is_top s n c) (peak_print s n left 1 c) []

unfoldable pub tops_print : List ℕ → ℕ → ℕ → ℕ → List ℕ
tops_print s n left zero = []
tops_print s n left (suc k) = tops_print s n left k ++ top_print s n left k

-- `left` levels are left below the depth; `fits` says how many bytes fit.
pub record PeakPrinting (s : List ℕ) (n : ℕ) (fits : ℕ → Type 0) (q depth left : ℕ) : Type 0 where
  pub linked : Linked s n left q
  pub enough : fits (length (peak_print s n left depth q))
  pub few : depth + left ≤ 64

-- The peaks of x have a level less below them.
pub record PassPrinting (s : List ℕ) (n : ℕ) (fits : ℕ → Type 0) (x depth left : ℕ) : Type 0 where
  pub strung : Strung s n x
  pub linked : Every (Linked s n left) (peaks_in s n x)
  pub enough : fits (length (pass_print s n (peak_print s n left (suc depth)) depth x))
  pub few : depth + left < 64

pub record TopPrinting (s : List ℕ) (n : ℕ) (fits : ℕ → Type 0) (c left : ℕ) : Type 0 where
  pub area : Area s n
  pub cell : c < n
  pub linked : is_top s n c ≡ true → Linked s n left c
  pub enough : fits (length (top_print s n left c))
  pub few : left < 64

pub record TopsPrinting (s : List ℕ) (n : ℕ) (fits : ℕ → Type 0) (left : ℕ) : Type 0 where
  pub area : Area s n
  pub linked : (c : ℕ) → c < n → is_top s n c ≡ true → Linked s n left c
  pub enough : fits (length (tops_print s n left n))
  pub few : left < 64

-- The held cells can be surveyed, ..
pub record Linkable (run : Run) (grid work : ℕ) : Type 0 where
  pub some : 0 < run.rows
  pub few : run.rows ≤ 1024
  pub cells : held_of run ≤ 1048576
  pub fits : held_of run ≤ grid
  pub space : 16 * held_of run ≤ work

-- .. and so many levels printed.
pub record GoodOutline (run : Run) (grid levels work : ℕ) : Type 0 where
  pub good : first_of (outline_tests run grid levels work) ≡ Ok tt
  pub linkable : Linkable run grid work
  pub one : 0 < levels
  pub deep : levels ≤ 64

-- `from` is the work area that linking began with, `land` how many cells are not blank.
pub record Prepared (run : Run) (grid : List ℤ) (work work' : List ℕ) (land : ℕ) : Type 0 where
  pub from : List ℕ
  pub kinned : Kinned (touch_of (shape_of run)) from work' (held_of run) run.threshold
  pub levels_in : cut (held_of run) (level_in from) ≡ (stage_of (shape_of run) run.columns grid).level
  pub small : (c : ℕ) → level_in from c < 4294967296
  pub blank : land ≡ 0 → (c : ℕ) → c < held_of run → level_in work' c ≡ 0
  pub beyond : (i : ℕ) → 16 * held_of run ≤ i → get_or work' i 0 ≡ get_or work i 0
  pub len : length work' ≡ length work

pub record Printable (s : List ℕ) (n levels : ℕ) : Type 0 where
  pub area : Area s n
  pub linked : (c : ℕ) → c < n → is_top s n c ≡ true → Linked s n (levels - 1) c
  pub short : length (tops_print s n (levels - 1) n) ≤ 134217728
  pub one : 0 < levels
  pub deep : levels ≤ 64

-- 15 or the number of bytes, and the text room with them.
pub record PrintedAll (s : List ℕ) (n levels : ℕ) (room room' : List ℕ) (answer : Result ℕ Refusal) : Type 0 where
  pub answered : answer
      ≡ cond (ltb (length room) (length (tops_print s n (levels - 1) n))) (Err TextRoom)
      (Ok (length (tops_print s n (levels - 1) n)))
  pub written : room' ≡ text_after answer (tops_print s n (levels - 1) n) room
