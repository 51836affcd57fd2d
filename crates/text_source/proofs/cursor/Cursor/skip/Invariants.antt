use Rattle.std.proofs.Common.{◌≡◌, ◌+◌, ◌≤◌, drop}
use Rattle.text_source.specs.Text.{past_all}
use Rattle.text_source.proofs.cursor.Cursor.skip.Given as goal

abbrev pub invariant-loop-b : goal.invariant-loop-b
invariant-loop-b l = record {
  line : l.place.line ≤ l.self.place.line + l.b-index;
  column : l.place.column ≤ l.self.place.column + l.b-index;
  place : past_all l.place (drop l.b-index l.skipped) ≡ past_all l.self.place l.skipped;
}
