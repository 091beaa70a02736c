use Rattle.std.proofs.Common.{◌≢◌, List, ℕ, sym, subst, ◌∙◌}
use Rattle.btf_records.specs.declared.error.BtfError.TheVariants.{OutOfMemory}
use Rattle.btf_ext.specs.declared.region.RegionKind.TheVariants.{Lines, Relocations}
use Rattle.btf_ext.specs.Extensions.{HoldsExtension}
use Rattle.btf_ext.specs.Faults.{ExtensionFault}
use Rattle.btf_ext.specs.Layout.{extension_of}
use Rattle.btf_ext.proofs.Faults.{all_known}
use Rattle.btf_ext.proofs.Sections.{holds_extension, passed_on, records_fault}
use Rattle.btf_ext.proofs.extension.BtfExt.parse.Goals as goal

pub returns-clause-holds : goal.returns-clause-holds
returns-clause-holds c =
    let bytes = c.args.section.now in
    let strings = c.args.table.now.strings in
    let f = c.in_ok-functions.functions in
    let l = c.in_ok-lines.lines in
    let r = c.in_ok-relocations.relocations in
    subst (λ (s : List ℕ). HoldsExtension c.args.order strings bytes (extension_of s f l r)) (sym (c.in_ok-try_clone.ensures ∙ c.strings.ensures.strings))
    (holds_extension c.args.order strings bytes f l r c.in_ok-header.ensures.1
    (record { within = c.in_ok-function_region.ensures.within; read = rw (c.in_ok-function_region.ensures.kind, c.in_ok-function_region.ensures.bytes) at c.in_ok-functions.ensures.read })
    (record { within = c.in_ok-line_region.ensures.within; read = rw (c.in_ok-line_region.ensures.kind, c.in_ok-line_region.ensures.bytes) at c.in_ok-lines.ensures.read })
    (record { within = c.in_ok-relocation_region.ensures.within; read = rw (c.in_ok-relocation_region.ensures.kind, c.in_ok-relocation_region.ensures.bytes) at c.in_ok-relocations.ensures.read }))

pub returns-in_err-lines-clause-refused : goal.returns-in_err-lines-clause-refused
returns-in_err-lines-clause-refused c =
    let a = c.args in
    let r = c.in_ok-line_region.line_region in
    let is = c.in_ok-line_region.ensures in
    passed_on _ c.in_err-lines.field-0.0 (λ e. e ≢ OutOfMemory → ExtensionFault a.order a.table.now.strings a.section.now e) c.from_residual-in_err-lines.ensures.1
    (λ other. records_fault Lines a.order a.table.now.strings a.section.now r.extent r.bytes.now _ c.in_ok-header.ensures.1 is.within is.extent is.bytes (rw is.kind at (c.in_err-lines.ensures.refused other)))

pub returns-in_err-relocations-clause-refused : goal.returns-in_err-relocations-clause-refused
returns-in_err-relocations-clause-refused c =
    let a = c.args in
    let r = c.in_ok-relocation_region.relocation_region in
    let is = c.in_ok-relocation_region.ensures in
    passed_on _ c.in_err-relocations.field-0.0 (λ e. e ≢ OutOfMemory → ExtensionFault a.order a.table.now.strings a.section.now e) c.from_residual-in_err-relocations.ensures.1
    (λ other. records_fault Relocations a.order a.table.now.strings a.section.now r.extent r.bytes.now _ c.in_ok-header.ensures.1 is.within is.extent is.bytes (rw is.kind at (c.in_err-relocations.ensures.refused other)))

pub invariant_of-result : goal.invariant_of-result
invariant_of-result c =
    let f = c.in_ok-function_region.ensures in
    let l = c.in_ok-line_region.ensures in
    let r = c.in_ok-relocation_region.ensures in (
      rw f.kind at c.in_ok-functions.ensures.laid_out,
      rw l.kind at c.in_ok-lines.ensures.laid_out,
      rw r.kind at c.in_ok-relocations.ensures.laid_out,
      all_known c.args.order c.args.table.now.strings c.in_ok-relocation_region.relocation_region.bytes.now c.in_ok-relocations.relocations (rw r.kind at c.in_ok-relocations.ensures.read),
    )
