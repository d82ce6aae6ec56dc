-- `next`: the first cell is taken off. Assumes nothing.
use Rattle.std.proofs.Common.{◌≡◌, sym, ap, ◌∙◌, ◌∷◌, ◌+◌, ◌<◌, ℕ, List, length, arith, rules}
use Rattle.words.specs.Words.{word_at}
use Rattle.outline.specs.Leads.{links_from, Leads}
use Rattle.outline.proofs.Chains.{walk-end, walk-more, ends-step}
use Rattle.outline.proofs.linked.LinksIterator.next.Goals as goal

-- a cell is taken off, and the links go on from the next one
taken-off : {s : List ℕ} {n from c d : ℕ} → Leads s n from c → c < n → d ≡ word_at s (from + c)
    → links_from s n from c ≡ c ∷ links_from s n from d
taken-off {s} {n} {from} {c} h l e = rw e (h.ends ∙ walk-more (λ c. word_at s (from + c)) n n c l)

goes-on : {s : List ℕ} {n from c d : ℕ} → Leads s n from c → c < n → d ≡ word_at s (from + c) → Leads s n from d
goes-on {s} {n} {from} {c} h l e = rw e (record {
  area = h.area;
  quarter = h.quarter;
  ends = ends-step (λ c. word_at s (from + c)) n n c l h.ends;
})

pub returns-then-self-cell-clause-steps : goal.returns-then-self-cell-clause-steps
returns-then-self-cell-clause-steps c =
    let f = c.self.inside in
    let none = walk-end (λ c. word_at f.work.now (f.from + c)) f.n f.n f.next c.if-self-cell.true in
    (sym c.self.view_is ∙ none, sym c.self.view_is ∙ none)

pub invariant_of-self : goal.invariant_of-self
invariant_of-self c =
    goes-on c.self.invariant c.if-self-cell.false (c.index-self-inside.ensures ∙ c.get.ensures)

pub returns-clause-steps : goal.returns-clause-steps
returns-clause-steps c =
    sym c.self.view_is
    ∙ taken-off c.self.invariant c.if-self-cell.false (c.index-self-inside.ensures ∙ c.get.ensures)

pub returns-clause-goes : goal.returns-clause-goes
returns-clause-goes c =
    let e =
    sym c.self.view_is
    ∙ taken-off c.self.invariant c.if-self-cell.false (c.index-self-inside.ensures ∙ c.get.ensures) in
    search (rules, arith, ap length e)
