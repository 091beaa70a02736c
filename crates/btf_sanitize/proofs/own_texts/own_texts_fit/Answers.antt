use Rattle.std.proofs.Common.{ap, arith, sym, ◌∙◌}
use Rattle.std.proofs.lemmas.Option.{slice_get_within}
use Rattle.btf_sanitize.specs.Knowledge.{facts_of}
use Rattle.btf_sanitize.specs.OwnTexts.{own_texts}
use Rattle.btf_storage.proofs.Left.{left_none}
use Rattle.btf_sanitize.proofs.OwnTexts.{own_texts_left}
use Rattle.btf_sanitize.proofs.own_texts.own_texts_fit.Goals as goal

pub loop-t-smaller : goal.loop-t-smaller
loop-t-smaller c = omega (arith, slice_get_within (facts_of c.args.known.now).types c.loop-t.index c.in-Some.t (sym c.get.ensures.value ∙ c.in-Some.is))

pub loop-t-preserved : goal.loop-t-preserved
loop-t-preserved c =
    let known = facts_of c.args.known.now in
    let next = own_texts_left known c.loop-t.index c.in-Some.t (sym c.get.ensures.value ∙ c.in-Some.is) in
    omega (arith, c.loop-t.invariant, next, c.own_text_len-len.ensures, c.if-len-left.false)

pub returns-then-len-left-clause-unfit : goal.returns-then-len-left-clause-unfit
returns-then-len-left-clause-unfit c unfit =
    let known = facts_of c.args.known.now in
    let next = own_texts_left known c.loop-t.index c.in-Some.t (sym c.get.ensures.value ∙ c.in-Some.is) in
    omega (arith, c.loop-t.invariant, next, c.own_text_len-len.ensures, c.if-len-left.true)

pub returns-clause-fit : goal.returns-clause-fit
returns-clause-fit c fit =
    let known = facts_of c.args.known.now in
    let none = ap (own_texts known) (left_none known.types c.loop-t.index (sym c.get.ensures.value ∙ c.in_default.is)) in
    omega (arith, c.loop-t.invariant, none)
