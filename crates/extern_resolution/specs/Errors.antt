-- The error of a fault.
use Rattle.std.specs.Prelude.{◌≡◌, ℕ, List}
use Rattle.std.specs.String.{string_bytes}
use Rattle.btf_records.specs.declared.error.BtfError.{BtfError}
use Rattle.btf_records.specs.declared.error.BtfError.TheVariants as btf_error
use Rattle.extern_resolution.specs.declared.error.KsymsError.{KsymsError}
use Rattle.extern_resolution.specs.declared.error.KsymsError.TheVariants as error
use Rattle.kernel_symbols.specs.declared.error.SymbolsError.{SymbolsError}
use Rattle.kernel_symbols.specs.declared.error.SymbolsError.TheVariants as symbols_error

abbrev pub ksyms_error_of : BtfError → KsymsError
ksyms_error_of btf_error.OutOfMemory = error.OutOfMemory
ksyms_error_of e = error.BtfError e

-- The error says that the address of this name can't be read.
abbrev pub IsUnreadable : List ℕ → KsymsError → Type 0
IsUnreadable name (error.KallsymsParseError n) = string_bytes n ≡ name
IsUnreadable name _ = ⊥

-- The error says that this name has two addresses.
abbrev pub IsAmbiguous : List ℕ → ℕ → ℕ → KsymsError → Type 0
IsAmbiguous name first second (error.AmbiguousResolution n a b) =
    (string_bytes n ≡ name) × (a ≡ first) × (b ≡ second)
IsAmbiguous name first second _ = ⊥

abbrev pub IsAccess : KsymsError → Type 0
IsAccess (error.KallsymsAccessError e) = Unit {0}
IsAccess _ = ⊥

-- The error says the fault of the symbols.
abbrev pub SaysOfSymbols : SymbolsError → KsymsError → Type 0
SaysOfSymbols (symbols_error.Access x) f = IsAccess f
SaysOfSymbols (symbols_error.UnreadableAddress name) f = IsUnreadable name.now f
SaysOfSymbols (symbols_error.Ambiguous name first second) f = IsAmbiguous name.now first second f
SaysOfSymbols symbols_error.OutOfMemory f = f ≡ error.OutOfMemory
