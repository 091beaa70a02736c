-- The types and strings of a table after the rewriting. They need only granted features.
use Rattle.std.specs.Prelude.{ℕ, ◌⊎◌, ◌≡◌, ◌∷◌, [], Any, List, ◌++◌, length}
use Rattle.btf_storage.specs.Growth.{AreTooMany, TooMany}
use Rattle.btf_storage.specs.Layout.{RecordList}
use Rattle.btf_records.specs.declared.error.BtfError.{BtfError}
use Rattle.btf_records.specs.declared.error.BtfError.TheVariants.{InvalidTypeInfo}
use Rattle.btf_records.specs.declared.types.BtfType.{BtfType}
use Rattle.btf_records.specs.declared.words.Endianness.{Endianness}
use Rattle.btf_sanitize.specs.Additions.{Added, nothing_added}
use Rattle.btf_sanitize.specs.Facts.{Facts}
use Rattle.btf_sanitize.specs.Faults.{IsTooMuch, KindFault}
use Rattle.btf_sanitize.specs.Rewritten.{after, after_all, all_rewritten, rewritten}

-- No additions to the strings and types of the table.
abbrev pub at_first : Facts → Added
at_first known = nothing_added (length known.strings) (length known.types)

abbrev pub all_added : Facts → Added
all_added known = after_all known (at_first known) known.types

-- The rewritten types. Each record keeps its id, and the added types follow.
abbrev pub sanitized_types : Facts → List BtfType
sanitized_types known = all_rewritten known (at_first known) known.types ++ (all_added known).types

abbrev pub sanitized_strings : Facts → List ℕ
sanitized_strings known = known.strings ++ (all_added known).texts

-- The size of the table overflows 32 bits.
abbrev pub IsOverfull : Endianness → Facts → BtfError → Type 0
IsOverfull order known InvalidTypeInfo =
    TooMany (length (sanitized_strings known)) ⊎ AreTooMany order (sanitized_types known)
IsOverfull order known _ = ⊥

-- The faults of a table.
abbrev pub SanitizingFault : Endianness → Facts → BtfError → Type 0
SanitizingFault order known e =
    Any (λ t. KindFault known t e) known.types ⊎ IsOverfull order known e

-- The faults of the next record, after other records were rewritten.
abbrev pub NextFault : Facts → RecordList → Added → BtfType → BtfError → Type 0
NextFault known done a t e =
    KindFault known t e
    ⊎ IsTooMuch (after known a t) e
    ⊎ ((e ≡ InvalidTypeInfo) × AreTooMany done.order (done.types ++ rewritten known a t ∷ []))

-- The faults of the records of a table, with additions before them.
abbrev pub AnyFault : Facts → Endianness → Added → BtfError → Type 0
AnyFault known order a e =
    Any (λ t. KindFault known t e) known.types
    ⊎ IsTooMuch (after_all known a known.types) e
    ⊎ ((e ≡ InvalidTypeInfo) × AreTooMany order (all_rewritten known a known.types))
