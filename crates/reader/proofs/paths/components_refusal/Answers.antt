use Rattle.std.proofs.Common.{◌==◌, ap, ◌∙◌, rules}
use Rattle.std.proofs.lemmas.Iterator.Splits.{YieldsList-from_slice_split}
use Rattle.std.specs.List.{slice_split}
use borrow.Author.Tests.{tests}
use Rattle.grammar.specs.Decode.{components_refusal}
use Rattle.reader.proofs.Refusals.{parts-split, refusal_from_find_map}
use Rattle.reader.proofs.paths.components_refusal.Goals as goal

pub returns : goal.returns
returns c =
    let path = c.args.path.now in
    let runs = c.find_map.ensures.runs in
    refusal_from_find_map _ c.find_map.result _ (slice_split (λ b. b == 47) path) c.find_map.ensures.ran runs.0 runs.1 runs.2
    (YieldsList-from_slice_split _ (λ b. b == 47) path c.split.ensures.rest c.split.ensures.done c.split.ensures.closure (λ x b q k. search (rules, tests)))
    (λ x r q k. search (rules, tests))
    ∙ ap components_refusal (parts-split 47 path)
