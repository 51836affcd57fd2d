-- UTF-8, byte by byte.
use Rattle.std.specs.Prelude.{ℕ, ◌-◌, true, false, [], ◌∷◌, Some, None, Option, ◌==◌}
use Rattle.token.specs.Token.{Bytes}
use Rattle.token.specs.Law.{between}
use Rattle.grammar.specs.Decode.{Row, row_of, rows}
use Rattle.reader.specs.declared.decode.utf8.Utf8.{Utf8}

abbrev pub row_state : Option Row → Option Utf8
row_state None = None
row_state (Some r) = Some (record { due = r.more; low = r.low; high = r.high })

abbrev pub utf8_step : Utf8 → ℕ → Option Utf8
utf8_step u b =
    elim (u.due == 0) [
      | true ↦ row_state (row_of b rows)
      | false ↦
          elim (between u.low u.high b) [ true ↦ Some (record { due = u.due - 1; low = 128; high = 191 }) | false ↦ None ]
    ]

abbrev pub utf8_after : Utf8 → Bytes → Option Utf8
utf8_after u [] = Some u
utf8_after u (b ∷ bs) = elim (utf8_step u b) [ None ↦ None | Some n ↦ utf8_after n bs ]
