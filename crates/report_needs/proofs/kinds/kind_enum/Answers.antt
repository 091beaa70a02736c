use Rattle.std.proofs.Common.{sym, ◌∙◌}
use Rattle.report_needs.specs.Kinds.{is_kind_enum, kind_enum}
use Rattle.report_needs.proofs.Variants.{first_is, first_isnt}
use Rattle.report_needs.proofs.kinds.kind_enum.Goals as goal

pub returns-then-is_kind_enum : goal.returns-then-is_kind_enum
returns-then-is_kind_enum c = first_is (is_kind_enum c.args.kernel.now) c.in-Some.t _ c.next.new.self (kind_enum c.args.kernel.now) c.in-Some.ensures.steps c.loop-t.invariant (sym c.is_kind_enum.ensures ∙ c.if-is_kind_enum.true)

pub loop-t-preserved : goal.loop-t-preserved
loop-t-preserved c = first_isnt (is_kind_enum c.args.kernel.now) c.in-Some.t _ c.next.new.self (kind_enum c.args.kernel.now) c.in-Some.ensures.steps c.loop-t.invariant (sym c.is_kind_enum.ensures ∙ c.if-is_kind_enum.false)
