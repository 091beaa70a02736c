use Rattle.std.proofs.Common.{◌≡◌, ◌⊎◌, ℕ, List, Option, subst, ◌∙◌}
use Rattle.std.proofs.lemmas.Result.{err_from_is_err_and}
use Rattle.std.specs.Option.{option_copied, option_map}
use Rattle.btf_tables.specs.Tables.{Table}
use Rattle.object_externs.specs.Types.{completed}
use Rattle.object_file.specs.Faults.{HasFileFault}
use Rattle.object_contents.proofs.Faultless.{file-fault, section-fault}
use Rattle.object_contents.specs.Faults.{HasFileOrObjectFault, HasSectionFault}
use Rattle.ebpf_object.proofs.object.Object.parse.Goals as goal

pub returns-in_err-types-clause-refused : goal.returns-in_err-types-clause-refused
returns-in_err-types-clause-refused c =
    let p = err_from_is_err_and c.from_residual-in_err-types.result c.from_residual-in_err-types.ensures.1 in
    let e = c.in_err-types.field-0.0 in
    let same : c.in_ok-file.file ≡ c.args.bytes.now = c.in_ok-file.ensures.value in
    rw (p.1, p.2)
    (λ other. file-fault c.args.bytes.now c.in_ok-file.ensures.accepted e (subst (λ (file : List ℕ). HasFileOrObjectFault file e) same (c.in_err-types.ensures.refused other)))

pub returns-in_err-contents-clause-refused : goal.returns-in_err-contents-clause-refused
returns-in_err-contents-clause-refused c =
    let p = err_from_is_err_and c.from_residual-in_err-contents.result c.from_residual-in_err-contents.ensures.1 in
    let e = c.in_err-contents.field-0.0 in
    let file = c.in_ok-file.file in
    let same : file ≡ c.args.bytes.now = c.in_ok-file.ensures.value in
    let types = c.in_ok-types.ensures.value in
    let whole : option_copied c.as_ref-table.result ≡ option_map completed types.table = c.as_ref-table.ensures.value ∙ types.completed in
    rw (p.1, p.2)
    (λ other. file-fault c.args.bytes.now c.in_ok-file.ensures.accepted e
    (subst (λ (f : List ℕ). HasFileOrObjectFault f e) same
    (section-fault file types.table c.in_ok-types.ensures.first types.holds e
    (subst (λ (t : Option Table). HasFileFault file e ⊎ HasSectionFault file t e) whole (c.in_err-contents.ensures.refused other)))))
