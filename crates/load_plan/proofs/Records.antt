-- The records of linked programs name functions if the records of all functions do.
use Rattle.std.proofs.Common.{◌≡◌, ℕ, List, [], ◌∷◌, ◌++◌, map, Bool, true, false, not, Some, None, refl, sym, ap, ◌∙◌, subst}
use Rattle.std.specs.Prelude.{Option, ◌||◌, if◌then◌else◌}
use Rattle.std.specs.BTreeMap.{is_at}
use Rattle.std.specs.List.{list_any}
use Rattle.std.specs.Map.{lookup}
use Rattle.std.specs.Option.{option_map}
use Rattle.std.proofs.lemmas.Map.Made.{lookup-map_values}
use Rattle.btf_ext.specs.declared.record.bpf_func_info.{bpf_func_info}
use Rattle.btf_sanitize.specs.Answers.{Answers}
use Rattle.btf_tables.specs.Tables.{Table}
use Rattle.linker.specs.Layout.{Key, end_of, has}
use Rattle.load_plan.specs.NamedFunctions.{all_named, keeps_nameless, names_function}
use Rattle.load_plan.specs.RewrittenFunctions.{is_denied}
use Rattle.linker.specs.Linked.{AreLinked, IsLinkedIn}
use Rattle.linker.specs.Records.{functions_in, functions_of, moved_function}
use Rattle.linker.specs.Unlinked.{Unlinked, table_of}
use Rattle.object_parts.specs.Content.{FunctionContent, ProgramContent, function_at, key_cmp, with_older_helpers}
use Rattle.ebpf_object.specs.Helpers.{for_kernel}
use Rattle.program_kinds.specs.declared.program_section.ProgramSection.{ProgramSection}
use Rattle.load_plan.specs.ContentsLaws.{HaveRecordsOf, RecordsName}
use Rattle.load_plan.specs.Plans.{AllName, AllNamed, Names, plan_program_of, program_of}

-- Each record names a function.
abbrev AreNames : Option Table → List bpf_func_info → Type 0
AreNames types [] = Unit {0}
AreNames types (r ∷ rs) = (names_function types r.type_id ≡ true) × AreNames types rs

not_false : (b : Bool) → not b ≡ false → b ≡ true
not_false true h = refl
not_false false h = absurd (cc)

not_true : (b : Bool) → not b ≡ true → b ≡ false
not_true true h = absurd (cc)
not_true false h = refl

left_false : (a b : Bool) → (a || b) ≡ false → a ≡ false
left_false true b h = absurd (cc)
left_false false b h = refl

right_false : (a b : Bool) → (a || b) ≡ false → b ≡ false
right_false true b h = absurd (cc)
right_false false b h = h

names_of : (types : Option Table) (rs : List bpf_func_info) → list_any (λ r. not (names_function types r.type_id)) rs ≡ false → AreNames types rs
names_of types [] h = tt
names_of types (r ∷ rs) h = (not_false (names_function types r.type_id) (left_false _ _ h), names_of types rs (right_false _ _ h))

-- The records of a function in the list.

found_under : (types : Option Table) (b : Bool) (here : FunctionContent) (others : Option FunctionContent) (f : FunctionContent) → (if b then Some here else others) ≡ Some f → keeps_nameless types here ≡ false → (others ≡ Some f → keeps_nameless types f ≡ false) → keeps_nameless types f ≡ false
found_under types true here others f at h later = let same : here ≡ f = cc in ap (keeps_nameless types) (sym same) ∙ h
found_under types false here others f at h later = later at

found_named : (types : Option Table) (functions : List (Key × FunctionContent)) (key : Key) (f : FunctionContent) → list_any (λ e. keeps_nameless types e.1) functions ≡ false → function_at functions key ≡ Some f → keeps_nameless types f ≡ false
found_named types [] key f h at = absurd (cc)
found_named types (e ∷ es) key f h at =
    found_under types (is_at (key_cmp key) e.0) e.1 (lookup (is_at (key_cmp key)) es) f at (left_false _ _ h) (found_named types es key f (right_false _ _ h))

named_in : (types : Option Table) (functions : List (Key × FunctionContent)) (key : Key) (o : Option FunctionContent) → list_any (λ e. keeps_nameless types e.1) functions ≡ false → function_at functions key ≡ o → AreNames types (functions_in o)
named_in types functions key None h at = tt
named_in types functions key (Some f) h at = names_of types f.func_info (found_named types functions key f h at)

-- The records of copies.
moved_named : (types : Option Table) (start : ℕ) (rs : List bpf_func_info) → AreNames types rs → AreNames types (map (moved_function start) rs)
moved_named types start [] h = tt
moved_named types start (r ∷ rs) h = (h.0, moved_named types start rs h.1)

both_named : (types : Option Table) (xs ys : List bpf_func_info) → AreNames types xs → AreNames types ys → AreNames types (xs ++ ys)
both_named types [] ys hx hy = hy
both_named types (x ∷ xs) ys hx hy = (hx.0, both_named types xs ys hx.1 hy)

-- The records of functions that have the records of other functions.
under_key : (types : Option Table) (functions : List (Key × FunctionContent)) (u : Unlinked) (key : Key) → list_any (λ e. keeps_nameless types e.1) functions ≡ false → HaveRecordsOf functions u.functions → AreNames types (functions_in (function_at u.functions key))
under_key types functions u key h same =
    subst (λ rs. AreNames types rs) (sym (same.at key)) (named_in types functions key (function_at functions key) h refl)

copies_named : (types : Option Table) (functions : List (Key × FunctionContent)) (u : Unlinked) (own : Key) (ks : List Key) → list_any (λ e. keeps_nameless types e.1) functions ≡ false → HaveRecordsOf functions u.functions → AreNames types (functions_of u own ks)
copies_named types functions u own [] h same = moved_named types 0 _ (under_key types functions u own h same)
copies_named types functions u own (k ∷ ks) h same =
    both_named types (functions_of u own ks) _ (copies_named types functions u own ks h same) (moved_named types (end_of (table_of u) own ks) _ (under_key types functions u k h same))

-- The records of any function after linking.
linked_named : (types : Option Table) (functions : List (Key × FunctionContent)) (u : Unlinked) (new : List (Key × FunctionContent)) (key : Key) → list_any (λ e. keeps_nameless types e.1) functions ≡ false → HaveRecordsOf functions u.functions → IsLinkedIn u new key → AreNames types (functions_in (function_at new key))
linked_named types functions u new key h same linked =
    let is_there = linked.1.0 in
    let one = linked.1.1 in
    subst (λ o. AreNames types (functions_in o)) (sym is_there)
    (subst (λ rs. AreNames types rs) (sym (ap (λ g. g.func_info) one.content)) (copies_named types functions u key one.keys h same))

after_named : (types : Option Table) (functions : List (Key × FunctionContent)) (u : Unlinked) (keys : List Key) (new : List (Key × FunctionContent)) (key : Key) (b : Bool) → has keys key ≡ b → list_any (λ e. keeps_nameless types e.1) functions ≡ false → HaveRecordsOf functions u.functions → AreLinked u keys new → AreNames types (functions_in (function_at new key))
after_named types functions u keys new key true e h same linked = linked_named types functions u new key h same (linked.programs key e)
after_named types functions u keys new key false e h same linked =
    subst (λ o. AreNames types (functions_in o)) (sym (linked.others key e)) (under_key types functions u key h same)

-- Records that name functions of the object's table name functions of the plan's table.
each_names : (types : Option Table) (bytes : Option (List ℕ)) (rs : List bpf_func_info) → ((id : ℕ) → names_function types id ≡ true → Names types bytes id) → AreNames types rs → AllName types bytes rs
each_names types bytes [] carry h = tt
each_names types bytes (r ∷ rs) carry h = (carry r.type_id h.0, each_names types bytes rs carry h.1)

kept_names : (types : Option Table) (bytes : Option (List ℕ)) (denied b : Bool) (rs : List bpf_func_info) → denied ≡ b → (denied ≡ false → (id : ℕ) → names_function types id ≡ true → Names types bytes id) → AreNames types rs → AllName types bytes (if b then [] else rs)
kept_names types bytes denied true rs e carry h = tt
kept_names types bytes denied false rs e carry h = each_names types bytes rs (carry e) h

program_names : (types : Option Table) (bytes : Option (List ℕ)) (answers : Answers) (has_types : Bool) (name : List ℕ) (section : ProgramSection) (o : Option FunctionContent) → (is_denied answers ≡ false → (id : ℕ) → names_function types id ≡ true → Names types bytes id) → AreNames types (functions_in o) → AllName types bytes (program_of answers has_types name section o).func_records
program_names types bytes answers has_types name section None carry h = tt
program_names types bytes answers has_types name section (Some f) carry h = kept_names types bytes (is_denied answers) (is_denied answers) f.func_info refl carry h

-- The renaming of helpers keeps the records.
renamed_functions : (o : Option FunctionContent) → functions_in (option_map with_older_helpers o) ≡ functions_in o
renamed_functions None = refl
renamed_functions (Some f) = refl

for_kernel_named : (types : Option Table) (has_helpers : Bool) (new : List (Key × FunctionContent)) (key : Key) → AreNames types (functions_in (function_at new key)) → AreNames types (functions_in (function_at (for_kernel has_helpers new) key))
for_kernel_named types true new key h = h
for_kernel_named types false new key h =
    subst (λ rs. AreNames types rs)
    (sym (ap functions_in (lookup-map_values with_older_helpers (is_at (key_cmp key)) new) ∙ renamed_functions (function_at new key))) h

programs_name : (types : Option Table) (bytes : Option (List ℕ)) (answers : Answers) (has_types has_helpers : Bool) (functions : List (Key × FunctionContent)) (u : Unlinked) (keys : List Key) (new : List (Key × FunctionContent)) (programs : List (List ℕ × ProgramContent)) → all_named types functions ≡ true → HaveRecordsOf functions u.functions → AreLinked u keys new → (is_denied answers ≡ false → (id : ℕ) → names_function types id ≡ true → Names types bytes id) → AllNamed types bytes (map (plan_program_of answers has_types (for_kernel has_helpers new)) programs)
programs_name types bytes answers has_types has_helpers functions u keys new [] h same linked carry = tt
programs_name types bytes answers has_types has_helpers functions u keys new (e ∷ es) h same linked carry =
    let key : Key = (e.1.section_index, e.1.address) in (
      program_names types bytes answers has_types e.0 e.1.section (function_at (for_kernel has_helpers new) key) carry
          (for_kernel_named types has_helpers new key (after_named types functions u keys new key (has keys key) refl (not_true _ h) same linked)),
      programs_name types bytes answers has_types has_helpers functions u keys new es h same linked carry,
    )

pub records_name : RecordsName
records_name = record { each = programs_name }
