-- The numbers of refusals' kinds, as `include/morvezin.h` has them (`enum morvezin_kind`).
use Rattle.std.specs.Prelude.{ℕ}
use Rattle.plan_errors.specs.declared.error.PrepareError.{PrepareError}
use Rattle.plan_errors.specs.declared.error.PrepareError.TheVariants.{BtfRelocation, FunctionRecordType, KernelTypesRequired, Ksyms, MapNumberMissing, OutOfMemory, Parse, Relocation, Types}

abbrev pub kind_of : PrepareError → ℕ
kind_of (Parse error) = 1
kind_of (FunctionRecordType name id) = 2
kind_of (MapNumberMissing name) = 3
kind_of KernelTypesRequired = 4
kind_of (Ksyms error) = 5
kind_of (BtfRelocation error) = 6
kind_of (Types error) = 7
kind_of (Relocation error) = 8
kind_of OutOfMemory = 0
