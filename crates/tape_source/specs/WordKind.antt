-- The kind that the code of a first word names.
use Rattle.std.specs.Prelude.{ℕ, cond, Result, Ok, Err, ◌==◌}
use Rattle.token.specs.declared.answer.Fault.{Fault}
use Rattle.token.specs.declared.answer.Fault.TheVariants.{BadWord}
use Rattle.tape_source.specs.declared.kind.WordKind.{WordKind}
use Rattle.tape_source.specs.declared.kind.WordKind.TheVariants as kinds
use Rattle.tape_source.specs.declared.text.Text.TheVariants as texts

abbrev pub kind_in : ℕ → Result WordKind Fault
kind_in k =
    cond (k == 0) (Ok kinds.End)
    (cond (k == 1) (Ok kinds.Symbol)
    (cond (k == 2) (Ok kinds.Integer)
    (cond (k == 3) (Ok (kinds.Text texts.Ident))
    (cond (k == 4) (Ok (kinds.Text texts.Float))
    (cond (k == 5) (Ok (kinds.Text texts.Str))
    (Err BadWord))))))
