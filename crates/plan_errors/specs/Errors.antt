-- The PrepareError of each error of a pass. Out of memory stays out of memory.
use Rattle.btf_records.specs.declared.error.BtfError.{BtfError}
use Rattle.btf_records.specs.declared.error.BtfError.TheVariants as btf
use Rattle.ebpf_items.specs.declared.error.ParseError.{ParseError}
use Rattle.ebpf_items.specs.declared.error.ParseError.TheVariants as parse
use Rattle.extern_resolution.specs.declared.error.KsymsError.{KsymsError}
use Rattle.extern_resolution.specs.declared.error.KsymsError.TheVariants as ksyms
use Rattle.relocation_errors.specs.declared.error.EbpfRelocationError.{EbpfRelocationError}
use Rattle.relocation_errors.specs.declared.error.RelocationError.{RelocationError}
use Rattle.relocation_errors.specs.declared.error.RelocationError.TheVariants as relocation
use Rattle.relocation_errors.specs.declared.type_relocations.BtfRelocationCause.{BtfRelocationCause}
use Rattle.relocation_errors.specs.declared.type_relocations.BtfRelocationCause.TheVariants as cause
use Rattle.relocation_errors.specs.declared.type_relocations.BtfRelocationError.{BtfRelocationError}
use Rattle.plan_errors.specs.declared.error.PrepareError.{PrepareError}
use Rattle.plan_errors.specs.declared.error.PrepareError.TheVariants as prepare

abbrev pub of_parse : ParseError → PrepareError
of_parse parse.OutOfMemory = prepare.OutOfMemory
of_parse error = prepare.Parse error

abbrev pub of_ksyms : KsymsError → PrepareError
of_ksyms ksyms.OutOfMemory = prepare.OutOfMemory
of_ksyms error = prepare.Ksyms error

abbrev pub of_types : BtfError → PrepareError
of_types btf.OutOfMemory = prepare.OutOfMemory
of_types error = prepare.Types error

abbrev pub of_type_relocation_by : BtfRelocationCause → BtfRelocationError → PrepareError
of_type_relocation_by cause.OutOfMemory error = prepare.OutOfMemory
of_type_relocation_by _ error = prepare.BtfRelocation error

abbrev pub of_type_relocation : BtfRelocationError → PrepareError
of_type_relocation error = of_type_relocation_by error.error error

abbrev pub of_relocation_by : RelocationError → EbpfRelocationError → PrepareError
of_relocation_by relocation.OutOfMemory error = prepare.OutOfMemory
of_relocation_by _ error = prepare.Relocation error

abbrev pub of_relocation : EbpfRelocationError → PrepareError
of_relocation error = of_relocation_by error.error error
