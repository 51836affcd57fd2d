use Rattle.std.proofs.Common.{◌≡◌, ◌+◌, ◌<◌, [], ◌++◌, length, get_or, drop, refl, sym, ap, ◌∙◌, subst, arith}
use Rattle.std.proofs.lemmas.List.{at_drop_more, at_drop_all}
use Rattle.token.specs.Token.{spelled, byted}
use Rattle.store.specs.Held.{held}
use Rattle.store.proofs.Keeping.{grew_join}
use Rattle.reader.specs.declared.decode.Decoder.{Decoder}
use Rattle.reader.specs.Escapes.{within_of}
use Rattle.reader.specs.Decoding.{decode_step, decode_end, Decodes}
use Rattle.reader.specs.Replies.{kept}
use Rattle.reader.proofs.Texts.{wrote_none, wrote_join, wrote_grew}
use Rattle.reader.proofs.DecodeSteps.{decode_from, decode_start, step_goes, step_refused, decode_from-end, decodes_after}
use Rattle.reader.proofs.parser.Parser.decode.Goals as goal

pub loop-k-init : goal.loop-k-init
loop-k-init g c =
    let all = spelled (g.S.Source.ahead c.args.self.now.source.now) in (
      [],
      record {
        text = wrote_none c.args.self.now.out.now;
        left = ap (λ (d : Decoder). decode_from (within_of d.within) d.utf8 [] all) c.new-decoder.ensures ∙ decode_start all;
        rest = refl;
        same = record { store = refl; source = refl };
      },
    )

pub loop-k-preserved : goal.loop-k-preserved
loop-k-preserved g c =
    let all = spelled (g.S.Source.ahead c.args.self.now.source.now) in
    let k = c.loop-k.k in
    let i = c.loop-k.invariant in
    let less : k < length all = omega (arith, c.text_len-k-end.ensures) in
    let w = within_of c.loop-k.decoder.within in
    let u = c.loop-k.decoder.utf8 in
    let byte : c.byte.result ≡ get_or all k 0 = c.byte.ensures ∙ ap (λ a. byted a k) i.1.rest in
    let e = c.in_ok-decoder.ensures in (
      i.0 ++ e.0,
      record {
        text = wrote_join c.args.self.now.out.now i.1.text e.2;
        left = sym (step_goes w u i.0 (get_or all k 0) (drop (k + 1) all) (ap (decode_step w u) (sym byte) ∙ e.1)) ∙ sym (at_drop_more (decode_from w u i.0) all k 0 less) ∙ i.1.left;
        rest = i.1.rest;
        same = record { store = i.1.same.store; source = i.1.same.source };
      },
    )

pub returns-in_err-decoder-clause-text : goal.returns-in_err-decoder-clause-text
returns-in_err-decoder-clause-text g c =
    let all = spelled (g.S.Source.ahead c.args.self.now.source.now) in
    let k = c.loop-k.k in
    let i = c.loop-k.invariant in
    let less : k < length all = omega (arith, c.text_len-k-end.ensures) in
    let w = within_of c.loop-k.decoder.within in
    let u = c.loop-k.decoder.utf8 in
    let byte : c.byte.result ≡ get_or all k 0 = c.byte.ensures ∙ ap (λ a. byted a k) i.1.rest in
    let e = c.in_err-decoder.ensures in
    rw c.from_residual.ensures (
      sym i.1.left ∙ at_drop_more (decode_from w u i.0) all k 0 less ∙ step_refused w u i.0 (get_or all k 0) (drop (k + 1) all) (ap (decode_step w u) (sym byte) ∙ e.0),
      grew_join (wrote_grew c.args.self.now.out.now i.1.text) e.1,
    )

pub returns-in_err-decoder-clause-rest : goal.returns-in_err-decoder-clause-rest
returns-in_err-decoder-clause-rest g c = c.loop-k.invariant.1.rest

pub returns-clause-text : goal.returns-clause-text
returns-clause-text g c =
    let p = c.args.self.now in
    let all = spelled (g.S.Source.ahead p.source.now) in
    let i = c.loop-k.invariant in
    let w = within_of c.loop-k.decoder.within in
    let u = c.loop-k.decoder.utf8 in
    let reply = sym i.1.left ∙ at_drop_all (decode_from w u i.0) all c.loop-k.k (omega (arith, c.text_len-k-end.ensures)) ∙ decode_from-end w u i.0 in
    subst (Decodes (kept p) (held c.finish.new.out) c.finish.result) (sym reply) (decodes_after p.out.now c.loop-k.self.out.now _ c.finish.result i.0 (decode_end w u) i.1.text c.finish.ensures)

pub returns-clause-rest : goal.returns-clause-rest
returns-clause-rest g c = c.loop-k.invariant.1.rest

pub returns-in_err-decoder-clause-same : goal.returns-in_err-decoder-clause-same
returns-in_err-decoder-clause-same g c = let s = c.loop-k.invariant.1.same in record { store = s.store; source = s.source }

pub returns-clause-same : goal.returns-clause-same
returns-clause-same g c = let s = c.loop-k.invariant.1.same in record { store = s.store; source = s.source }
