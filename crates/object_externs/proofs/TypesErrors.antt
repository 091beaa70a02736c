-- Errors of type information as errors of an object.
use Rattle.std.proofs.Common.{refl}
use Rattle.std.specs.Prelude.{◌≢◌}
use Rattle.btf_records.specs.declared.error.BtfError.{BtfError}
use Rattle.btf_records.specs.declared.error.BtfError.TheVariants as btf
use Rattle.ebpf_items.specs.Error.{parse_error_of}
use Rattle.ebpf_items.specs.declared.error.ParseError.TheVariants as faults
use Rattle.object_externs.specs.Types.{SaysOfTypes}

pub says-from : (Fault : BtfError → Type 0) (e : BtfError) → (e ≢ btf.OutOfMemory → Fault e) → parse_error_of e ≢ faults.OutOfMemory → SaysOfTypes Fault (parse_error_of e)
says-from Fault btf.OutOfMemory fault other = absurd (other refl)
says-from Fault e fault other = fault (λ same. cc)
