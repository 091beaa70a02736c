-- The table of an object's types, and its completion for the externs.
use Rattle.std.specs.Prelude.{ℕ, if◌then◌else◌, List, [], codes, ⊤, Option, Some, None}
use Rattle.std.specs.Option.{IsSomeAnd}
use Rattle.btf_records.specs.declared.error.BtfError.{BtfError}
use Rattle.btf_records.specs.declared.words.Endianness.{Endianness}
use Rattle.btf_tables.specs.Sections.{HoldsTable}
use Rattle.btf_tables.specs.Tables.{Table, TableFault}
use Rattle.ebpf_items.specs.declared.error.ParseError.{ParseError}
use Rattle.ebpf_items.specs.declared.error.ParseError.TheVariants as error
use Rattle.object_file.specs.ByteOrders.{file_endianness}
use Rattle.object_file.specs.Reading.{contents_named}
use Rattle.object_externs.specs.Externs.{ExternsContent, has_function}
use Rattle.object_externs.specs.Placeholder.{with_placeholder}

-- The bytes of the section encode the table. There is no table iff there is no section.
abbrev pub HoldsTypesIn : Endianness → Option (List ℕ) → Option Table → Type 0
HoldsTypesIn order None None = ⊤
HoldsTypesIn order (Some bytes) (Some table) = HoldsTable order bytes table
HoldsTypesIn order _ _ = ⊥

abbrev pub HoldsTypes : List ℕ → Option Table → Type 0
HoldsTypes file table =
    HoldsTypesIn (file_endianness file) (contents_named file (codes ".BTF")) table

-- An error of type information has a property. Other errors don't.
abbrev pub SaysOfTypes : (BtfError → Type 0) → ParseError → Type 0
SaysOfTypes Says (error.BtfError e) = Says e
SaysOfTypes Says _ = ⊥

-- A fault for which the table isn't read.
abbrev pub TypesFault : List ℕ → BtfError → Type 0
TypesFault file e =
    IsSomeAnd (contents_named file (codes ".BTF")) (λ bytes.
    TableFault (file_endianness file) bytes e)

-- The table with the placeholder, if the externs include a function.
abbrev pub completed : Table → Table
completed table = if has_function table then with_placeholder table else table

abbrev pub no_externs : ExternsContent
no_externs = record { by_name = []; ksyms = None }
