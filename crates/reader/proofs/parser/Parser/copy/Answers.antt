use Rattle.std.proofs.Common.{◌∷◌, [], ◌++◌, take, sym, refl, ap, ◌∙◌, subst, arith, take_all}
use Rattle.std.proofs.lemmas.List.{take_more}
use Rattle.token.specs.Token.{spelled, byted}
use Rattle.store.specs.Held.{held}
use Rattle.reader.specs.Replies.{Wrote, kept}
use Rattle.reader.proofs.Texts.{wrote_none, wrote_byte, wrote_join}
use Rattle.reader.proofs.parser.Parser.copy.Goals as goal

pub loop-k-init : goal.loop-k-init
loop-k-init g c = record { text = wrote_none c.args.self.now.out.now; rest = refl; same = record { store = refl; source = refl } }

pub loop-k-preserved : goal.loop-k-preserved
loop-k-preserved g c =
    let p = c.args.self.now in
    let all = spelled (g.S.Source.ahead p.source.now) in
    let more = take_more all c.loop-k.k 0 (omega (arith, c.text_len-k-end.ensures)) in
    let byte = ap (λ x. take c.loop-k.k all ++ x ∷ []) (c.byte.ensures ∙ ap (λ a. byted a c.loop-k.k) c.loop-k.invariant.rest) in
    let w = wrote_join p.out.now c.loop-k.invariant.text (wrote_byte c.loop-k.self.out.now c.byte.result c.push.ensures.does) in
    record { text = subst (Wrote (kept p) (held c.push.new.self)) (byte ∙ sym more) w; rest = c.loop-k.invariant.rest; same = record { store = c.loop-k.invariant.same.store; source = c.loop-k.invariant.same.source } }

pub returns : goal.returns
returns g c =
    let p = c.args.self.now in
    let all = spelled (g.S.Source.ahead p.source.now) in
    record {
      text = subst (Wrote (kept p) (kept c.loop-k.self)) (take_all c.loop-k.k all (omega (arith, c.text_len-k-end.ensures))) c.loop-k.invariant.text;
      rest = c.loop-k.invariant.rest;
      same = c.loop-k.invariant.same;
    }
