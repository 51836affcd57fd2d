use Rattle.std.proofs.Common.{◌≡◌, ℕ, ◌≤◌, Bool, true, ◌&&◌, length, take, replicate, sym, ap, ◌∙◌, arith, length-take-le}
use lib.ListN.{length-replicate}
use Rattle.token.specs.Law.{is_text, is_name, is_float, well}
use Rattle.tape_source.specs.Tape.{byte_in, tab}
use Rattle.tape_source.specs.Front.{made}
use Rattle.tape_source.proofs.Tabs.{text-tab}
use Rattle.tape_source.proofs.text.Text.accepts.Goals as goal

-- the part of the buffer that is filled
part : (n : ℕ) → n ≤ 1023 → length (take n (replicate {A = ℕ} 1023 0)) ≡ n
part n h = length-take-le n (replicate {A = ℕ} 1023 0) (omega (arith, length-replicate {A = ℕ} 1023 0))

-- what is a text is judged by its bytes alone
judged_by : (a b : Bool) → a ≡ true → b ≡ (a && b)
judged_by a b e = ap (λ x. x && b) (sym e)

pub returns-in-Ident : goal.returns-in-Ident
returns-in-Ident c =
    let f = byte_in c.args.words.now in
    let w = tab f c.args.n in
    let t : c.unpack.result.now ≡ w = c.unpack.ensures ∙ ap (tab f) (part c.args.n c.requires.0) in
    let j = judged_by (is_text w) (is_name w) (text-tab c.args.words.now c.args.n c.requires.0) in
    let k = ap (λ s. well (made s w)) c.in-Ident.is in
    cc

pub returns-in-Float : goal.returns-in-Float
returns-in-Float c =
    let f = byte_in c.args.words.now in
    let w = tab f c.args.n in
    let t : c.unpack-in-Float.result.now ≡ w = c.unpack-in-Float.ensures ∙ ap (tab f) (part c.args.n c.requires.0) in
    let j = judged_by (is_text w) (is_float w) (text-tab c.args.words.now c.args.n c.requires.0) in
    let k = ap (λ s. well (made s w)) c.in-Float.is in
    cc

pub returns-in-Str : goal.returns-in-Str
returns-in-Str c =
    let w = tab (byte_in c.args.words.now) c.args.n in
    sym (ap (λ s. well (made s w)) c.in-Str.is ∙ text-tab c.args.words.now c.args.n c.requires.0)
