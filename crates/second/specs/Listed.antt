-- What a list in fixed memory holds.
use Rattle.std.specs.Prelude.{ℕ, List, take}
use Rattle.second.specs.declared.few.Few.{Few}

module _ {T : Type 0} {N : ℕ} where
  -- the items, which are those before the count
  abbrev pub listed : Few T N → List T
  listed few = take few.count few.items
