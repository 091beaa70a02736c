use Rattle.std.proofs.Common.{◌≡◌, map, rules, append-nil}
use Rattle.load_plan.specs.Plans.{plan_program_of}
use Rattle.load_plan.proofs.ContentsNames.{names-plan_program_of}
use Rattle.load_plan.proofs.contents.plan_programs.Goals as goal

pub returns-clause-rising : goal.returns-clause-rising
returns-clause-rising c =
    let all : c.loop-name.programs.items ≡ map (plan_program_of c.args.answers.now.items c.args.has_types c.args.object.now.functions) c.args.object.now.programs = search (rules, append-nil) in
    let h = c.iter-name-items.ensures.rising in
    let k = c.programs.ensures.value in
    rw (all, names-plan_program_of c.args.answers.now.items c.args.has_types c.args.object.now.functions c.args.object.now.programs, ← c.programs.ensures.value) h
