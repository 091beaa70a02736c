use Rattle.std.proofs.Common.{◌≡◌, true, sym, ◌∙◌, subst, arith}
use Rattle.plan_lines.specs.WordReading.{is_number_upto}
use Rattle.plan_lines.proofs.WordTexts.{no_number, number_found, number_is}
use Rattle.plan_lines.proofs.words.number_upto.Goals as goal

pub returns-in_default-clause-value : goal.returns-in_default-clause-value
returns-in_default-clause-value c = λ _.
    no_number c.args.max c.args.word.now (λ n h. let k = number_is c.args.max (omega arith) c.args.word.now n h in let e = c.in_default.ensures n (omega arith) k.1 in cc)

pub returns-then-is_number_upto-clause-value : goal.returns-then-is_number_upto-clause-value
returns-then-is_number_upto-clause-value c = number_found c.args.max (omega arith) c.args.word.now c.in-Some.number (sym c.is_number_upto.ensures ∙ c.if-is_number_upto.true)

pub returns-else-is_number_upto-clause-value : goal.returns-else-is_number_upto-clause-value
returns-else-is_number_upto-clause-value c = λ _.
    no_number c.args.max c.args.word.now (λ n h.
    let k = number_is c.args.max (omega arith) c.args.word.now n h in
    let e = c.in-Some.ensures n (omega arith) k.1 in
    let same : c.in-Some.number ≡ n = cc (e) in
    let refused = sym c.is_number_upto.ensures ∙ c.if-is_number_upto.false in
    let taken : is_number_upto c.args.max c.args.word.now c.in-Some.number ≡ true = subst (λ m. is_number_upto c.args.max c.args.word.now m ≡ true) (sym same) h in
    cc)
