-- Look-ups of records and texts, and their errors.
use Rattle.std.specs.Prelude.{ℕ, List, Option, None, Some, Result, Ok, Err}
use Rattle.core_spec.specs.declared.error.AccessError.{AccessError}
use Rattle.core_spec.specs.declared.error.AccessError.TheVariants as errors
use Rattle.btf_records.specs.declared.error.BtfError.{BtfError}
use Rattle.btf_records.specs.declared.error.BtfError.TheVariants.{InvalidStringOffset, UnknownBtfType}
use Rattle.btf_records.specs.declared.types.BtfType.{BtfType}
use Rattle.btf_tables.specs.Tables.{Table, type_by_id}
use Rattle.string_table.specs.Texts.{text_at}

-- The result of a second step that uses the value of a first step, or the first step's error.
abbrev pub and_then : {T U : Type 0}
    → Result T AccessError
    → (T → Result U AccessError)
    → Result U AccessError
and_then (Ok x) go = go x
and_then (Err e) go = Err e

-- The result of a step that uses a look-up in a table, or the look-up's error.
abbrev pub with_found : {T U : Type 0}
    → Result T BtfError
    → (T → Result U AccessError)
    → Result U AccessError
with_found (Ok x) go = go x
with_found (Err e) go = Err (errors.BtfError e)

-- The record of an id, or the error that there is none.
abbrev pub found_type : Table → ℕ → Option BtfType → Result BtfType BtfError
found_type table id None = Err (UnknownBtfType id)
found_type table id (Some t) = Ok t

abbrev pub with_type : {U : Type 0}
    → Table
    → ℕ
    → (BtfType → Result U AccessError)
    → Result U AccessError
with_type table id go = with_found (found_type table id (type_by_id table id)) go

-- The text at an offset, or the error that there is none.
abbrev pub found_text : ℕ → Option (List ℕ) → Result (List ℕ) BtfError
found_text offset None = Err (InvalidStringOffset offset)
found_text offset (Some text) = Ok text

abbrev pub with_text : {U : Type 0}
    → Table
    → ℕ
    → (List ℕ → Result U AccessError)
    → Result U AccessError
with_text table offset go = with_found (found_text offset (text_at table.strings offset)) go
