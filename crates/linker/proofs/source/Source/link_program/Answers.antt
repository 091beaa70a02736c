use Rattle.std.proofs.Common.{sym, ◌∙◌, subst}
use Rattle.linker.specs.Layout.{Key}
use Rattle.linker.specs.Faults.{HasLinkFault}
use Rattle.linker.proofs.source.Source.link_program.Goals as goal

pub returns-in-Err-clause-fault : goal.returns-in-Err-clause-fault
returns-in-Err-clause-fault c = λ no.
    let e = c.new.ensures.error no in
    let key : Key = (c.args.program.now.section_index, c.args.program.now.address) in
    let fault = rw c.function_key.ensures at c.in-Err.ensures.fault in
    (c.new.ensures.function no, subst (HasLinkFault c.args.self.now key) (sym e) (fault (λ z. no (e ∙ z))))
