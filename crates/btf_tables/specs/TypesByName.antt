-- Types by kind and name, as in libbpf's `btf__find_by_name_kind` (tools/lib/bpf/btf.c). In
-- contrast to libbpf, void is searched like any other type, and a name that can't be read ends the
-- look-up.
use Rattle.std.specs.Prelude.{◌≡◌, ◌≢◌, ℕ, ◌<◌, List, None, Some, IfSome}
use Rattle.std.specs.Option.{IsSomeAnd}
use Rattle.std.specs.String.{string_bytes}
use Rattle.btf_tables.specs.Tables.{Table, type_by_id}
use Rattle.string_table.specs.Texts.{text_at}
use Rattle.btf_records.specs.Fields.{kind_of_type, name_offset_of}
use Rattle.btf_records.specs.declared.error.BtfError.{BtfError}
use Rattle.btf_records.specs.declared.error.BtfError.TheVariants.{InvalidStringOffset, UnknownBtfTypeName}
use Rattle.btf_records.specs.declared.kind.BtfKind.{BtfKind}

-- The record of an id has another kind, or another name that can be read.
abbrev pub IsNotNamed : Table → List ℕ → BtfKind → ℕ → Type 0
IsNotNamed table name kind id =
    IfSome (type_by_id table id) (λ t.
    kind_of_type t ≡ kind
    → IsSomeAnd (text_at table.strings (name_offset_of t)) (λ text. text ≢ name))

-- The least id with the kind and the name. Each record of the kind before it has a name that can be
-- read.
pub record IsFirstNamed (table : Table) (name : List ℕ) (kind : BtfKind) (id : ℕ) : Type 0 where
  pub named : IsSomeAnd (type_by_id table id) (λ t.
      (kind_of_type t ≡ kind) × (text_at table.strings (name_offset_of t) ≡ Some name))
  pub first : (lesser : ℕ) → lesser < id → IsNotNamed table name kind lesser

-- The name at this offset, of a record of the kind, can't be read, and no record before has the
-- kind and the name.
pub record UnreadableBefore (table : Table) (name : List ℕ) (kind : BtfKind) (offset : ℕ)
    : Type 0 where
  pub id : ℕ
  pub unreadable : IsSomeAnd (type_by_id table id) (λ t.
      (kind_of_type t ≡ kind) × (name_offset_of t ≡ offset) × (text_at table.strings offset ≡ None))
  pub first : (lesser : ℕ) → lesser < id → IsNotNamed table name kind lesser

-- The reason why no id is found by a kind and a name.
abbrev pub NameFault : Table → List ℕ → BtfKind → BtfError → Type 0
NameFault table name kind (InvalidStringOffset offset) = UnreadableBefore table name kind offset
NameFault table name kind (UnknownBtfTypeName wanted) =
    (string_bytes wanted ≡ name) × ((id : ℕ) → IsNotNamed table name kind id)
NameFault table name kind _ = ⊥
