-- The results of an inspection of an object's bytes.
use Rattle.std.specs.Prelude.{◌≢◌, ℕ, List}
use Rattle.ebpf_items.specs.declared.error.ParseError.TheVariants.{OutOfMemory}
use Rattle.object_contents.specs.Faults.{HasFault, IsFaultless}
use Rattle.object_text.specs.declared.error.InspectError.{InspectError}
use Rattle.object_text.specs.declared.error.InspectError.TheVariants.{Refused, Output}

-- An error is a fault of the object. Otherwise the object has no fault.
abbrev pub IsInspectRefusal : List ℕ → InspectError → Type 0
IsInspectRefusal file (Refused e) = e ≢ OutOfMemory → HasFault file e
IsInspectRefusal file Output = IsFaultless file
