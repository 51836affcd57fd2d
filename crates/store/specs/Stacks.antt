-- What a stack holds.
use Rattle.std.specs.Prelude.{ℕ, List, length, take}
use Rattle.store.specs.declared.stack.Stack.{Stack}

module _ {T : Type 0} where
  -- its entries, the top last
  abbrev pub items : Stack T → List T
  items s = take s.len s.slots.now

  -- how many entries it can hold
  abbrev pub room : Stack T → ℕ
  room s = length s.slots.now
