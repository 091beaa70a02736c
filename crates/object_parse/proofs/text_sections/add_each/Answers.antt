use Rattle.std.proofs.Common.{◌≡◌, ◌<◌, ◌+◌, ◌∙◌, false, refl, subst, rules}
use Rattle.std.proofs.lemmas.Result.{err_from_is_err_and}
use Rattle.std.specs.Prelude.{nat_lt}
use Rattle.elf64.specs.Symbols.{symbols_of}
use Rattle.object_file.specs.Symbols.{symbols_in}
use Rattle.object_parse.proofs.Entered.{entered-functions, entered-sound, entered-start, entered-after, defined-in, place-in}
use Rattle.object_parse.proofs.PlaceFaults.{place-fault}
use Rattle.object_parse.specs.Faults.{PlaceFault}
use Rattle.object_parse.specs.Places.{byte_count}
use Rattle.object_parse.proofs.text_sections.add_each.Goals as goal

pub loop-offset-init : goal.loop-offset-init
loop-offset-init c = record { entered = entered-start c.args.info.now (symbols_of c.args.file.now) c.args.section.now c.args.code.now.functions; programs = refl }

pub returns-in_err-offset-clause-refused : goal.returns-in_err-offset-clause-refused
returns-in_err-offset-clause-refused c =
    let p = err_from_is_err_and c.from_residual.result c.from_residual.ensures.1 in
    let left : c.loop-offset.offset < byte_count c.args.section.now = search rules in
    let same = place-in c.args.definitions.now (symbols_in (symbols_of c.args.file.now) c.args.section.now.index) c.args.section.now.address c.loop-offset.offset c.requires in
    rw (p.1, p.2)
    (λ other. place-fault c.args.info.now (symbols_of c.args.file.now) c.args.section.now c.args.code.now.functions c.loop-offset.code.functions c.loop-offset.offset c.loop-offset.invariant.entered left _
    (subst (λ place. PlaceFault c.args.section.now place c.in_err-offset.field-0.0) same (c.in_err-offset.ensures.refused other)))

pub loop-offset-preserved : goal.loop-offset-preserved
loop-offset-preserved c =
    let left : c.loop-offset.offset < byte_count c.args.section.now = search rules in
    record {
      entered =
          entered-after c.args.info.now (symbols_of c.args.file.now) c.args.section.now c.args.code.now.functions c.loop-offset.code.functions c.add_function.new.code.functions c.loop-offset.offset c.in_ok-offset.offset _
          c.loop-offset.invariant.entered left (defined-in c.args.definitions.now (symbols_in (symbols_of c.args.file.now) c.args.section.now.index) (c.args.section.now.address + c.loop-offset.offset) c.requires) c.in_ok-offset.ensures.entered;
      programs = c.in_ok-offset.ensures.programs ∙ c.loop-offset.invariant.programs;
    }

pub returns-clause-functions : goal.returns-clause-functions
returns-clause-functions c =
    let over : nat_lt c.loop-offset.offset (byte_count c.args.section.now) ≡ false = search rules in
    entered-functions c.args.info.now (symbols_of c.args.file.now) c.args.section.now c.args.code.now.functions c.loop-offset.code.functions c.loop-offset.offset c.loop-offset.invariant.entered over

pub returns-clause-accepted : goal.returns-clause-accepted
returns-clause-accepted c =
    let over : nat_lt c.loop-offset.offset (byte_count c.args.section.now) ≡ false = search rules in
    entered-sound c.args.info.now (symbols_of c.args.file.now) c.args.section.now c.args.code.now.functions c.loop-offset.code.functions c.loop-offset.offset c.loop-offset.invariant.entered over
