use Rattle.std.proofs.Common.{◌≡◌, ◌≢◌, ℕ, Option, List, [], Any, Some, true, false, ◌∙◌, ap, inl, inr, length, sym, ◌∷◌, arith, subst}
use Rattle.std.specs.List.{list_any}
use Rattle.std.proofs.lemmas.Bool.Decides.{nat_tests}
use Rattle.std.specs.Option.{option_map_or}
use Rattle.btf_records.specs.declared.error.BtfError.TheVariants.{OutOfMemory}
use Rattle.btf_records.specs.declared.item.DataSecEntry.{DataSecEntry}
use Rattle.btf_storage.specs.Faultless.{IsFaultless}
use Rattle.btf_tables.specs.GrownTables.{TypesStay}
use Rattle.btf_tables.specs.Tables.{Table}
use Rattle.elf64.specs.Symbols.{Symbol}
use Rattle.object_externs.specs.Externs.{has_function, names_function}
use Rattle.object_externs.specs.Faults.{EntryFault, ExternsFault, GrowthFault, IsOverfull, SectionFault}
use Rattle.object_externs.specs.Placeholder.{with_placeholder}
use Rattle.object_externs.specs.Section.{entries_at, ksyms_entries, ksyms_section}
use Rattle.object_externs.proofs.Faultless.{none_of_three, passed_on}
use Rattle.object_externs.proofs.Search.{ksyms_known}
use Rattle.object_externs.proofs.reading.read_externs.Goals as goal
use Rattle.object_externs.proofs.reading.read_externs.Goals.{then-any_names_function+in_ok-add_placeholder, else-any_names_function}

-- The entries that were read are the entries of the section.
listed : (table : Table) (section : ℕ) (entries : List DataSecEntry) → ksyms_section table ≡ Some section → entries ≡ entries_at table section → entries ≡ ksyms_entries table
listed table section entries found is = is ∙ ap (λ (f : Option ℕ). option_map_or (entries_at table) f []) (sym found)

all_sound : (symbols : List Symbol) (table : Table) (entries : List DataSecEntry) → entries ≡ ksyms_entries table → IsFaultless (SectionFault table) → IsFaultless (λ e. Any (λ entry. EntryFault symbols table entry e) entries) → (has_function table ≡ true → IsOverfull (with_placeholder table) → ⊥) → IsFaultless (ExternsFault symbols table)
all_sound symbols table entries is section each growth =
    none_of_three (SectionFault table) (λ e. Any (λ entry. EntryFault symbols table entry e) (ksyms_entries table)) (GrowthFault table)
    section (rw is at each) (record { none = λ e f. growth f.1 f.2 })

pub section_entries-requires : goal.section_entries-requires
section_entries-requires c = ksyms_known c.args.table.now c.in-Some.section (sym c.in_ok-section.ensures.value ∙ c.in-Some.is)

pub returns-in_err-by_name-clause-refused : goal.returns-in_err-by_name-clause-refused
returns-in_err-by_name-clause-refused c =
    let is = c.as_slice.ensures.value ∙ listed c.args.table.now c.in-Some.section _ (sym c.in_ok-section.ensures.value ∙ c.in-Some.is) c.in_ok-entries.ensures.value in
    passed_on _ c.in_err-by_name.field-0.0 (λ e. e ≢ OutOfMemory → ExternsFault c.args.symbols.now c.args.table.now e) c.from_residual-in_err-by_name.ensures.1
    (λ other. inr (inl (rw (is, c.in_ok-first.ensures) at (c.in_err-by_name.ensures.refused other))))

-- A section without entries names no function.
no_function : (table : Table) (entries : List DataSecEntry) → entries ≡ ksyms_entries table → length entries ≡ 0 → has_function table ≡ true → ⊥
no_function table [] is zero h =
    let other : has_function table ≡ false = ap (list_any (names_function table)) (sym is) in
    let e : true ≡ false = sym h ∙ other in
    absurd cc
no_function table (e ∷ es) is zero h = absurd (omega (arith, zero))

pub returns-then-is_empty-clause-accepted : goal.returns-then-is_empty-clause-accepted
returns-then-is_empty-clause-accepted c =
    let is = c.as_slice.ensures.value ∙ listed c.args.table.now c.in-Some.section _ (sym c.in_ok-section.ensures.value ∙ c.in-Some.is) c.in_ok-entries.ensures.value in
    let zero : length c.as_slice.result.now ≡ 0 = grind (arith, nat_tests, c.as_slice.ensures.len, c.is_empty.ensures, c.if-is_empty.true) in
    all_sound c.args.symbols.now c.args.table.now c.as_slice.result.now is c.in_ok-section.ensures.accepted (rw c.in_ok-first.ensures at c.in_ok-by_name.ensures.accepted) (λ h o. no_function c.args.table.now c.as_slice.result.now is zero h)

pub returns-clause-accepted : goal.returns-clause-accepted
returns-clause-accepted c =
    let is = c.as_slice.ensures.value ∙ listed c.args.table.now c.in-Some.section _ (sym c.in_ok-section.ensures.value ∙ c.in-Some.is) c.in_ok-entries.ensures.value in
    let again = c.as_slice-2.ensures.value ∙ listed c.args.table.now c.in-Some.section _ (sym c.in_ok-section.ensures.value ∙ c.in-Some.is) c.in_ok-entries.ensures.value in
    all_sound c.args.symbols.now c.args.table.now c.as_slice.result.now is c.in_ok-section.ensures.accepted (rw c.in_ok-first.ensures at c.in_ok-by_name.ensures.accepted)
    (λ h o. elim c.if-any_names_function.branch [
      | then-any_names_function+in_ok-add_placeholder w ↦ w.in_ok-add_placeholder.ensures.accepted o
      | else-any_names_function w ↦
          let other : has_function c.args.table.now ≡ false = ap (list_any (names_function c.args.table.now)) (sym again) ∙ sym c.any_names_function.ensures ∙ w.if-any_names_function.false in
          let e : true ≡ false = sym h ∙ other in
          absurd cc
    ])

pub returns-clause-types : goal.returns-clause-types
returns-clause-types c = elim c.if-any_names_function.branch [
  | then-any_names_function+in_ok-add_placeholder w ↦ subst (TypesStay c.args.table.now) (sym w.table-is) w.in_ok-add_placeholder.ensures.types
  | else-any_names_function w ↦ subst (TypesStay c.args.table.now) (sym w.table-is) (record { stay = λ id t h. h })
]
