use Rattle.std.proofs.Common.{◌≡◌, length, sym, ◌∙◌, arith}
use Rattle.std.proofs.lemmas.Bool.Decides.{nat_tests}
use Rattle.reader.proofs.Components.{path-backslash, path_components}
use Rattle.reader.proofs.paths.path_refusal.Goals as goal

pub returns-then-has_backslash : goal.returns-then-has_backslash
returns-then-has_backslash c =
    let e = c.if-is_empty.ensures in
    let some : length c.args.path.now ≡ 0 → ⊥ = λ n. grind (arith, nat_tests) in
    path-backslash c.args.path.now some (sym c.if-has_backslash.ensures)

pub returns : goal.returns
returns c =
    let e = c.if-is_empty.ensures in
    let some : length c.args.path.now ≡ 0 → ⊥ = λ n. grind (arith, nat_tests) in
    c.components_refusal.ensures ∙ path_components c.args.path.now some (sym c.if-has_backslash.ensures)
