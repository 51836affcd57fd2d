-- How a constant reads the brackets inside it.
use Rattle.grammar.specs.Grammar.{Inner, nested}
use Rattle.reader.specs.declared.nesting.Nesting.{Nesting}

abbrev pub inner : Nesting → Inner
inner n = nested n.syntax n.left
