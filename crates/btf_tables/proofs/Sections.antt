-- A section that holds a table holds no other table and has no fault.
use Rattle.std.proofs.Common.{◌≡◌, ℕ, ◌<◌, ◌≤◌, List, [], ◌∷◌, length, drop, refl, sym, ap, subst, ◌∙◌, arith, inl, inr}
use Rattle.btf_tables.specs.Sections.{HoldsTable}
use Rattle.btf_encoding.specs.Records.{Begins, HasRecord, RecordFault, Spells, TypesFault, record_len}
use Rattle.btf_tables.specs.Tables.{IsTable, Table, TableFault, type_bytes_in, types_end}
use Rattle.btf_records.specs.declared.error.BtfError.{BtfError}
use Rattle.btf_records.specs.declared.error.BtfError.TheVariants.{InvalidHeader, InvalidTypeInfo, InvalidTypeKind}
use Rattle.btf_records.specs.declared.types.BtfType.{BtfType}
use Rattle.btf_records.specs.declared.words.Endianness.{Endianness}

no_fault : (order : Endianness) (bytes : List ℕ) (e : BtfError) → HasRecord order bytes → RecordFault order bytes e → ⊥
no_fault order bytes InvalidTypeInfo h (inl short) = omega (arith, h.head)
no_fault order bytes InvalidTypeInfo h (inr cut) = omega (arith, h.whole, cut.1)
no_fault order bytes (InvalidTypeKind kind) h wrong = omega (arith, h.known, wrong.1, wrong.2)
no_fault order bytes _ h wrong = wrong

none_in_empty : (order : Endianness) → HasRecord order [] → ⊥
none_in_empty order h = omega (arith, h.head)

same_types : (order : Endianness) (types others : List BtfType) (bytes : List ℕ) → Spells order types bytes → Spells order others bytes → others ≡ types
same_types order [] [] bytes s o = refl
same_types order [] (t ∷ others) bytes s o = absurd (none_in_empty order (subst (λ (b : List ℕ). HasRecord order b) s o.0))
same_types order (t ∷ types) [] bytes s o = absurd (none_in_empty order (subst (λ (b : List ℕ). HasRecord order b) o s.0))
same_types order (t ∷ types) (u ∷ others) bytes s o =
    let first : u ≡ t = sym o.1 ∙ s.1 in
    let rest : others ≡ types = same_types order types others (drop (record_len order bytes) bytes) s.2 o.2 in
    rw (first, rest) refl

no_rest : (order : Endianness) (front types : List BtfType) (rest bytes : List ℕ) (e : BtfError) → Spells order types bytes → Begins order front rest bytes → 0 < length rest → RecordFault order rest e → ⊥
no_rest order [] [] rest bytes e s b more wrong = omega (arith, more, ap length (sym b ∙ s))
no_rest order [] (t ∷ types) rest bytes e s b more wrong = no_fault order rest e (subst (λ (x : List ℕ). HasRecord order x) b s.0) wrong
no_rest order (f ∷ front) [] rest bytes e s b more wrong = none_in_empty order (subst (λ (x : List ℕ). HasRecord order x) s b.0)
no_rest order (f ∷ front) (t ∷ types) rest bytes e s b more wrong = no_rest order front types rest (drop (record_len order bytes) bytes) e s.2 b.2 more wrong

no_types_fault : (order : Endianness) (types : List BtfType) (bytes : List ℕ) (e : BtfError) → Spells order types bytes → TypesFault order bytes e → ⊥
no_types_fault order types bytes e s f = no_rest order f.front types f.rest bytes e s f.begins f.more f.wrong

no_table_fault : (order : Endianness) (bytes : List ℕ) (table : Table) (e : BtfError) → IsTable order bytes table → TableFault order bytes e → ⊥
no_table_fault order bytes table InvalidHeader is (inl short) = omega (arith, is.head)
no_table_fault order bytes table InvalidHeader is (inr past) = omega (arith, is.strings_within, past.1)
no_table_fault order bytes table InvalidTypeInfo is (head, inl past) = omega (arith, is.types_within, past)
no_table_fault order bytes table InvalidTypeInfo is (head, inr f) = no_types_fault order table.types (type_bytes_in order bytes) InvalidTypeInfo is.types f.1
no_table_fault order bytes table (InvalidTypeKind kind) is f = no_types_fault order table.types (type_bytes_in order bytes) (InvalidTypeKind kind) is.types f.2
no_table_fault order bytes table _ is f = f

record_same : (a b : Table) → a.order ≡ b.order → a.magic ≡ b.magic → a.version ≡ b.version → a.flags ≡ b.flags → a.strings ≡ b.strings → a.types ≡ b.types → a ≡ b
record_same a b order magic version flags strings types = λ i. record { order = order i; magic = magic i; version = version i; flags = flags i; strings = strings i; types = types i }

same_table : (order : Endianness) (bytes : List ℕ) (table other : Table) → IsTable order bytes table → IsTable order bytes other → other ≡ table
same_table order bytes table other is o =
    let order_ : other.order ≡ table.order = o.same_order ∙ sym is.same_order in
    let magic : other.magic ≡ table.magic = o.magic ∙ sym is.magic in
    let version : other.version ≡ table.version = o.version ∙ sym is.version in
    let flags : other.flags ≡ table.flags = o.flags ∙ sym is.flags in
    let strings : other.strings ≡ table.strings = o.strings ∙ sym is.strings in
    let types : other.types ≡ table.types = same_types order table.types other.types (type_bytes_in order bytes) is.types o.types in
    record_same other table order_ magic version flags strings types

pub holds_table : (order : Endianness) (bytes : List ℕ) (table : Table) → IsTable order bytes table → HoldsTable order bytes table
holds_table order bytes table is = record {
  holds = is;
  faultless = λ e. no_table_fault order bytes table e is;
  alone = λ other. same_table order bytes table other is;
}

-- A fault of the records is a fault of the section.
pub types_fault : (order : Endianness) (bytes : List ℕ) (e : BtfError) → 24 ≤ length bytes → types_end order bytes ≤ length bytes → TypesFault order (type_bytes_in order bytes) e → TableFault order bytes e
types_fault order bytes InvalidTypeInfo head within f = (head, inr (within, f))
types_fault order bytes (InvalidTypeKind kind) head within f = (head, within, f)
types_fault order bytes _ head within f = absurd f.wrong
