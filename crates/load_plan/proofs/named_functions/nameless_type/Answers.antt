use Rattle.std.proofs.Common.{◌==◌, not, ap, sym, ◌∙◌, arith}
use Rattle.std.specs.Option.{option_copied}
use Rattle.std.proofs.lemmas.Bool.Decides.{nat_tests}
use Rattle.load_plan.specs.NamedFunctions.{names_function}
use Rattle.load_plan.proofs.Gets.{any_at, any_here, any_more, any_none}
use Rattle.load_plan.proofs.named_functions.nameless_type.Goals as goal

pub returns-then-not-names_function-clause-none : goal.returns-then-not-names_function-clause-none
returns-then-not-names_function-clause-none c = sym (ap not (any_here (λ r. not (names_function (option_copied c.args.table) r.type_id)) c.args.records.now c.loop-record.index c.in-Some.record _ c.in-Some.ensures.value (sym (ap not c.if-not-names_function.ensures)) c.loop-record.invariant))

pub returns-then-not-names_function-clause-kept : goal.returns-then-not-names_function-clause-kept
returns-then-not-names_function-clause-kept c = any_at (λ r. r.type_id == c.in-Some.record.type_id) c.args.records.now c.loop-record.index c.in-Some.record c.in-Some.ensures.value (grind (arith, nat_tests))

pub loop-record-preserved : goal.loop-record-preserved
loop-record-preserved c = any_more (λ r. not (names_function (option_copied c.args.table) r.type_id)) c.args.records.now c.loop-record.index c.in-Some.record _ c.in-Some.ensures.value (sym (ap not c.if-not-names_function.ensures)) c.loop-record.invariant

pub returns-clause-none : goal.returns-clause-none
returns-clause-none c = sym (ap not (any_none (λ r. not (names_function (option_copied c.args.table) r.type_id)) c.args.records.now c.loop-record.index _ c.in_default.ensures.value c.loop-record.invariant))
