-- What stands at the front of a tape, by the kind of its first word.
use Rattle.std.proofs.Common.{◌≡◌, ℕ, ◌+◌, ◌*◌, ◌^◌, Bool, true, false, cond, eqb, List, get_or, Result, Ok, Err, refl, ap, ◌∙◌}
use Rattle.token.specs.declared.answer.Fault.{Fault}
use Rattle.token.specs.declared.answer.Fault.TheVariants.{BadWord}
use Rattle.token.specs.Token.{Token}
use Rattle.tape_source.specs.declared.kind.WordKind.{WordKind}
use Rattle.tape_source.specs.declared.kind.WordKind.TheVariants as kinds
use Rattle.tape_source.specs.declared.text.Text.{Text}
use Rattle.tape_source.specs.declared.text.Text.TheVariants as texts
use Rattle.tape_source.specs.Tape.{Step, wrong, due, long, by_kind}
use Rattle.tape_source.specs.Front.{made}
use Rattle.tape_source.specs.WordKind.{kind_in}

abbrev of_kind : Result WordKind Fault → ℕ → List ℕ → Step
of_kind (Ok kinds.End) low ws = cond (eqb low 0) Step.end (wrong BadWord)
of_kind (Ok kinds.Symbol) low ws = due ws 0 (Token.symbol low) true
of_kind (Ok kinds.Integer) low ws = cond (eqb low 0) (due ws 2 (Token.number (get_or ws 0 0 + 2 ^ 32 * get_or ws 1 0)) true) (wrong BadWord)
of_kind (Ok (kinds.Text t)) low ws = long (made t) low ws
of_kind (Err f) low ws = wrong f

by_kind-of : (k low : ℕ) (ws : List ℕ) → by_kind k low ws ≡ of_kind (kind_in k) low ws
by_kind-of k low ws = go (eqb k 0) (eqb k 1) (eqb k 2) (eqb k 3) (eqb k 4) (eqb k 5)
  where
    at : (r : Result WordKind Fault) → Step
    at r = of_kind r low ws

    go : (a b c d e f : Bool) → cond a (at (Ok kinds.End)) (cond b (at (Ok kinds.Symbol)) (cond c (at (Ok kinds.Integer)) (cond d (at (Ok (kinds.Text texts.Ident))) (cond e (at (Ok (kinds.Text texts.Float))) (cond f (at (Ok (kinds.Text texts.Str))) (at (Err BadWord))))))) ≡ at (cond a (Ok kinds.End) (cond b (Ok kinds.Symbol) (cond c (Ok kinds.Integer) (cond d (Ok (kinds.Text texts.Ident)) (cond e (Ok (kinds.Text texts.Float)) (cond f (Ok (kinds.Text texts.Str)) (Err BadWord)))))))
    go true b c d e f = refl
    go false true c d e f = refl
    go false false true d e f = refl
    go false false false true e f = refl
    go false false false false true f = refl
    go false false false false false true = refl
    go false false false false false false = refl

pub by_text : (k low : ℕ) (ws : List ℕ) (t : Text) → kind_in k ≡ Ok (kinds.Text t) → by_kind k low ws ≡ long (made t) low ws
by_text k low ws t e = by_kind-of k low ws ∙ ap (λ r. of_kind r low ws) e
