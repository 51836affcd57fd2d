use Rattle.std.proofs.Common.{◌≡◌, ℕ, ◌<◌, get_or}
use Rattle.tape_source.specs.Tape.{byte_in}
use Rattle.tape_source.proofs.words.unpack.Given as goal

abbrev pub invariant-loop-k : goal.invariant-loop-k
invariant-loop-k l = (k : ℕ) → k < l.k → get_or l.text k 0 ≡ byte_in l.words k
