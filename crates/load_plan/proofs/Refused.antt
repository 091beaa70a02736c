-- The errors of passes as a PrepareError.
use Rattle.std.proofs.Common.{refl}
use Rattle.std.specs.Prelude.{◌≢◌}
use Rattle.btf_records.specs.declared.error.BtfError.{BtfError}
use Rattle.btf_records.specs.declared.error.BtfError.TheVariants as btf
use Rattle.ebpf_items.specs.declared.error.ParseError.{ParseError}
use Rattle.ebpf_items.specs.declared.error.ParseError.TheVariants as parse
use Rattle.ebpf_object.specs.Rewriting.{IsRefused}
use Rattle.extern_resolution.specs.declared.error.KsymsError.{KsymsError}
use Rattle.extern_resolution.specs.declared.error.KsymsError.TheVariants as ksyms
use Rattle.plan_errors.specs.Errors.{of_ksyms, of_parse, of_types}
use Rattle.load_plan.specs.Inputs.{Predicate, State}
use Rattle.load_plan.specs.Made.{IsRefusedTypes}
use Rattle.load_plan.specs.Passes.{OfKsyms, OfParse}
use Rattle.plan_errors.specs.declared.error.PrepareError.TheVariants.{OutOfMemory}

pub parse_refused : (Stands : ParseError → Type 0) (e : ParseError) → (e ≢ parse.OutOfMemory → Stands e) → of_parse e ≢ OutOfMemory → OfParse Stands (of_parse e)
parse_refused Stands parse.OutOfMemory stands other = absurd (other refl)
parse_refused Stands e stands other = stands (λ same. cc)

pub ksyms_refused : (Stands : KsymsError → Type 0) (e : KsymsError) → (e ≢ ksyms.OutOfMemory → Stands e) → of_ksyms e ≢ OutOfMemory → OfKsyms Stands (of_ksyms e)
ksyms_refused Stands ksyms.OutOfMemory stands other = absurd (other refl)
ksyms_refused Stands e stands other = stands (λ same. cc)

pub types_refused : {F : Type 0} (predicate : Predicate F) (before : F) (s : State) (e : BtfError) → (e ≢ btf.OutOfMemory → IsRefused predicate before s.file s.externs.ksyms s.types e) → of_types e ≢ OutOfMemory → IsRefusedTypes predicate before s (of_types e)
types_refused predicate before s btf.OutOfMemory refused other = absurd (other refl)
types_refused predicate before s e refused other =
    let r = refused (λ same. cc) in
    record { answers = r.answers; answered = r.answered; fault = r.fault }
