-- The place of a fault in a file.
use Rattle.std.specs.Prelude.{◌≡◌, ℕ, List, Some}
use Rattle.std.specs.String.{string_bytes}
use Rattle.btf_records.specs.declared.error.BtfError.TheVariants as btf
use Rattle.ebpf_items.specs.declared.error.ParseError.{ParseError}
use Rattle.ebpf_items.specs.declared.error.ParseError.TheVariants as error
use Rattle.object_file.specs.Symbols.{unnamed_symbol}
use Rattle.object_parse.specs.LackingCode.{place_without_code}
use Rattle.diagnostics.specs.declared.places.FaultPlace.{FaultPlace}
use Rattle.diagnostics.specs.declared.places.FaultPlace.TheVariants.{Function, Symbol}

abbrev pub IsPlace : List ℕ → ParseError → FaultPlace → Type 0
IsPlace file error.InvalidProgramCode (Function index section name) =
    place_without_code file ≡ Some (index, string_bytes section, string_bytes name)
IsPlace file (error.BtfError btf.InvalidSymbolName) (Symbol index) =
    unnamed_symbol file ≡ Some index
IsPlace file _ _ = ⊥
