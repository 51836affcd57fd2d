-- The parts of a range of numbers.
use Rattle.std.specs.Prelude.{ℕ, [], ◌∷◌, codes}
use Rattle.grammar.specs.Parse.{Parser, ◌>>=◌, return, given◌then◌else◌, word_if, choose}
use Rattle.grammar.specs.Grammar.{field_number}
use Rattle.grammar.specs.Tree.{Item}
use Rattle.reader.specs.declared.parser.ranges.RangeKind.{RangeKind}
use Rattle.reader.specs.declared.parser.ranges.RangeKind.TheVariants.{Extension, Reserved}

abbrev pub range_item : RangeKind → ℕ → ℕ → Item
range_item Extension = Item.extension_range
range_item Reserved = Item.reserved_range

-- [ "to" ( intLit | "max" ) ] after the first number
unfoldable pub range_end : ℕ → ℕ → Parser ℕ
range_end from max = do
  wide ← word_if (codes "to")
  given wide then choose ((codes "max", return max) ∷ []) field_number else return from
