use Rattle.std.proofs.Common.{◌≡◌, length}
use Rattle.text_source.specs.Text.{stream}
use Rattle.text_source.proofs.source.TextSource.seek.Given as goal

abbrev pub invariant-loop-text : goal.invariant-loop-text
invariant-loop-text l = stream 0 l.cursor.place l.cursor.rest.now ≡ stream 0 l.fn.from.place l.fn.from.rest.now

abbrev pub decreases-loop-text : goal.decreases-loop-text
decreases-loop-text l = length l.cursor.rest.now
