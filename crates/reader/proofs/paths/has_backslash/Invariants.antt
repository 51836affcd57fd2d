use Rattle.std.proofs.Common.{◌≡◌, drop}
use Rattle.grammar.specs.Decode.{holds}
use Rattle.reader.proofs.paths.has_backslash.Given as goal

-- what is left of the path says whether one stands in it
abbrev pub invariant-loop-b : goal.invariant-loop-b
invariant-loop-b l = holds 92 (drop l.b-index l.path) ≡ holds 92 l.path
