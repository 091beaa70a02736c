-- The extern that one more entry declares.
use Rattle.std.proofs.Common.{◌≡◌, ℕ, List, Some, refl}
use Rattle.std.specs.BTreeMap.{insert_entry}
use Rattle.std.specs.Cmp.Lexicographic.{slice_cmp}
use Rattle.std.specs.Ordering.{nat_cmp}
use Rattle.btf_records.specs.declared.item.DataSecEntry.{DataSecEntry}
use Rattle.btf_records.specs.declared.types.BtfType.{BtfType}
use Rattle.btf_tables.specs.Tables.{Table, type_by_id}
use Rattle.elf64.specs.Symbols.{Symbol}
use Rattle.object_externs.specs.Externs.{ExternContent, declared, declared_name, with_extern}

pub entered : (symbols : List Symbol) (table : Table) (entry : DataSecEntry) (t : BtfType) (externs : List (List ℕ × ExternContent)) (name : List ℕ) (desc : ExternContent) → type_by_id table entry.btf_type ≡ Some t → declared_name table t ≡ Some name → desc ≡ declared symbols table entry.btf_type t name → insert_entry (slice_cmp nat_cmp) externs name desc ≡ with_extern symbols table externs entry
entered symbols table entry t externs name desc is named same = rw (is, named, same) refl
