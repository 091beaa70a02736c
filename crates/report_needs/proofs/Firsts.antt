-- The first record of a name, among all ids and among those that a search finds.
use Rattle.std.proofs.Common.{◌≡◌, ℕ, Bool, true, false, List, [], ◌∷◌, Option, None, Some, ap, find, filter, refl, sym, subst, ◌∙◌}
use Rattle.std.specs.Prelude.{◌&&◌, ◌||◌, ◌==◌, nat_lt}
use Rattle.std.specs.Cmp.Lexicographic.{pointwise, same_text}
use Rattle.std.specs.Option.{option_map, option_map_or}
use Rattle.std.proofs.Common.{nat_eq}
use Rattle.std.proofs.lemmas.Slice.Eq.{bytes_eq-Decides}
use Rattle.btf_records.specs.Fields.{kind_of_type, name_offset_of}
use Rattle.btf_records.specs.Kinds.{number_of}
use Rattle.btf_records.specs.declared.kind.BtfKind.{BtfKind}
use Rattle.btf_records.specs.declared.types.BtfType.{BtfType}
use Rattle.btf_search.specs.NamedTypes.{ids_of, is_asked, is_so, name_of, named_ids_at}
use Rattle.btf_tables.specs.EssentialNames.{essential_name}
use Rattle.btf_tables.specs.Tables.{Table, type_by_id}
use Rattle.string_table.specs.Texts.{text_at}
use Rattle.btf_encoding.specs.Records.{count_of}
use Rattle.report_needs.specs.Records.{first_enum, first_named, is_enum, is_enum_at, is_named, is_named_at}

clash : (b : Bool) → b ≡ true → b ≡ false → true ≡ false
clash b is isnt = sym is ∙ isnt

among : (p q : ℕ → Bool) → ((id : ℕ) → p id ≡ true → q id ≡ true) → (ids : List ℕ) → find p (filter q ids) ≡ find p ids
among p q only [] = refl
among p q only (x ∷ xs) = by (p x) (q x) refl refl (among p q only xs) where
  by : (a b : Bool) → p x ≡ a → q x ≡ b → find p (filter q xs) ≡ find p xs → find p (filter q (x ∷ xs)) ≡ find p (x ∷ xs)
  by true true is there rest = rw (there, is) refl
  by true false is there rest = let never = clash (q x) (only x is) there in absurd cc
  by false true is there rest = rw (there, is) rest
  by false false is there rest = rw (there, is) rest

alike : (text name : List ℕ) → pointwise nat_eq text name ≡ true → pointwise nat_eq (essential_name text) (essential_name name) ≡ true
alike text name is =
    let same : essential_name text ≡ essential_name name = ap essential_name (same_text text name (sym is)) in
    (bytes_eq-Decides (essential_name text) (essential_name name)).1 same

asked_by : (kinds : Bool) (name : List ℕ) (text : Option (List ℕ)) → (kinds && option_map_or (λ (t : List ℕ). pointwise nat_eq t name) text false) ≡ true → ((kinds || false) && option_map_or (λ (t : List ℕ). pointwise nat_eq t (essential_name name)) (option_map essential_name text) true) ≡ true
asked_by true name None is = refl
asked_by true name (Some text) is = alike text name is
asked_by false name text is = absurd cc

asked : (kernel : Table) (kind : BtfKind) (name : List ℕ) (t : BtfType) → is_named kernel kind name t ≡ true → is_asked (kind ∷ []) (essential_name name) (kind_of_type t) (name_of kernel t) ≡ true
asked kernel kind name t is = asked_by (number_of kind == number_of (kind_of_type t)) name (text_at kernel.strings (name_offset_of t)) is

asked_at : (kernel : Table) (kind : BtfKind) (name : List ℕ) (t : Option BtfType) → option_map_or (is_named kernel kind name) t false ≡ true → option_map_or (λ (t : BtfType). is_asked (kind ∷ []) (essential_name name) (kind_of_type t) (name_of kernel t)) t false ≡ true
asked_at kernel kind name None is = absurd cc
asked_at kernel kind name (Some t) is = asked kernel kind name t is

first_by : (kernel : Table) (tables : List Table) (kind : BtfKind) (name essential ids : List ℕ) (p : ℕ → Bool) → ((id : ℕ) → p id ≡ true → is_named_at kernel kind name id ≡ true) → tables ≡ kernel ∷ [] → essential ≡ essential_name name → ids ≡ named_ids_at (kind ∷ []) essential tables 0 → find p ids ≡ find p (ids_of kernel)
first_by kernel tables kind name essential ids p only one front found =
    let given : ids ≡ named_ids_at (kind ∷ []) (essential_name name) (kernel ∷ []) 0 =
    subst (λ (ts : List Table). ids ≡ named_ids_at (kind ∷ []) (essential_name name) ts 0) one
    (subst (λ (e : List ℕ). ids ≡ named_ids_at (kind ∷ []) e tables 0) front found) in
    ap (find p) given
    ∙ among p (is_so (is_asked (kind ∷ []) (essential_name name)) kernel) (λ id is. asked_at kernel kind name (type_by_id kernel id) (only id is)) (ids_of kernel)

-- The first of the ids that were found in the only table is the first of all.
pub first_of_found : (kernel : Table) (tables : List Table) (kind : BtfKind) (name essential ids : List ℕ) → tables ≡ kernel ∷ [] → essential ≡ essential_name name → ids ≡ named_ids_at (kind ∷ []) essential tables 0 → find (is_named_at kernel kind name) ids ≡ first_named kernel kind name
first_of_found kernel tables kind name essential ids one front found = first_by kernel tables kind name essential ids (is_named_at kernel kind name) (λ id is. is) one front found

enum_is_named : (kernel : Table) (kind : BtfKind) (name : List ℕ) (t : Option BtfType) → option_map_or (is_enum kernel kind name) t false ≡ true → option_map_or (is_named kernel kind name) t false ≡ true
enum_is_named kernel kind name None is = is
enum_is_named kernel kind name (Some t) is = first_of (is_named kernel kind name t) (nat_lt 0 (count_of t)) is where
  first_of : (one other : Bool) → (one && other) ≡ true → one ≡ true
  first_of true other both = refl
  first_of false other both = absurd cc

pub first_enum_of_found : (kernel : Table) (tables : List Table) (kind : BtfKind) (name essential ids : List ℕ) → tables ≡ kernel ∷ [] → essential ≡ essential_name name → ids ≡ named_ids_at (kind ∷ []) essential tables 0 → find (is_enum_at kernel kind name) ids ≡ first_enum kernel kind name
first_enum_of_found kernel tables kind name essential ids one front found = first_by kernel tables kind name essential ids (is_enum_at kernel kind name) (λ id is. enum_is_named kernel kind name (type_by_id kernel id) is) one front found
