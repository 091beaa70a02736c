-- All candidates are among the types that the search compares.
use Rattle.std.proofs.Common.{◌≡◌, ℕ, zero, suc, ◌<◌, Bool, true, false, List, [], ◌∷◌, find, filter, length, get_or, Option, None, Some, refl, sym, ap, ◌∙◌, subst, arith}
use Rattle.std.proofs.lemmas.Bool.Decides.{nat_tests}
use Rattle.std.proofs.lemmas.Option.{slice_get-get_or}
use Rattle.std.specs.Prelude.{IfSome, ◌&&◌, is_none, nat_eq, slice_get, take}
use Rattle.std.specs.Cmp.Lexicographic.{pointwise}
use Rattle.std.specs.Option.{option_map, option_map_or}
use Rattle.btf_records.specs.Fields.{kind_of_type, name_offset_of}
use Rattle.btf_records.specs.declared.types.BtfType.{BtfType}
use Rattle.btf_search.specs.NamedTypes.{has_kind, ids_of, is_asked, is_so, name_of, named_ids_at}
use Rattle.btf_tables.specs.EssentialNames.{essential_name}
use Rattle.btf_tables.specs.Tables.{Table, new_table, type_by_id}
use Rattle.string_table.specs.Texts.{text_at}
use Rattle.core_match.specs.Candidates.{Wanted, is_candidate, is_named, is_of_kind, is_unreadable, is_unreadable_at, types_at}
use Rattle.core_match.specs.CandidateSearches.{AreFirst, kinds_of, type_at, types_of_ids}
use Rattle.core_match.specs.declared.kernel_type.KernelType.{KernelType}

-- ---- Tables that are the first of others

same_table : (table : Option Table) → IfSome table (λ t. table ≡ Some t)
same_table None = tt
same_table (Some t) = refl

pub all_first : (tables : List Table) → AreFirst tables tables
all_first tables = record { each = λ table. same_table (slice_get tables table) }

pub one_first : (tables : List Table) → AreFirst (take 1 tables) tables
one_first [] = all_first []
one_first (t ∷ ts) = record { each = by } where
  by : (table : ℕ) → IfSome (slice_get (t ∷ []) table) (λ one. slice_get (t ∷ ts) table ≡ Some one)
  by zero = refl
  by (suc n) = tt

-- ---- Types that aren't searched are no candidates, and their names can be read

abbrev asks : Wanted → Table → ℕ → Bool
asks wanted target id = is_so (is_asked (kinds_of wanted) wanted.name) target id

has_wanted_kind : (wanted : Wanted) (t : BtfType) → has_kind (kinds_of wanted) (kind_of_type t) ≡ is_of_kind wanted t
has_wanted_kind wanted t = by wanted.or_enum64 refl where
  by : (or : Bool) → wanted.or_enum64 ≡ or → has_kind (kinds_of wanted) (kind_of_type t) ≡ is_of_kind wanted t
  by true e = rw e (grind (arith, nat_tests))
  by false e = rw e (grind (arith, nat_tests))

named_by : (kind : Bool) (name : List ℕ) (text : Option (List ℕ)) → (kind && option_map_or (λ t. pointwise nat_eq t name) (option_map essential_name text) true) ≡ false → (kind && option_map_or (λ t. pointwise nat_eq (essential_name t) name) text false) ≡ false
named_by true name None is = refl
named_by true name (Some text) is = is
named_by false name text is = refl

readable_by : (kind : Bool) (name : List ℕ) (text : Option (List ℕ)) → (kind && option_map_or (λ t. pointwise nat_eq t name) (option_map essential_name text) true) ≡ false → (kind && is_none text) ≡ false
readable_by true name None is = absurd cc
readable_by true name (Some text) is = refl
readable_by false name text is = refl

not_named : (wanted : Wanted) (targets : List Table) (target : Table) (table id : ℕ) → slice_get targets table ≡ Some target → asks wanted target id ≡ false → is_candidate wanted targets (type_at table id) ≡ false
not_named wanted targets target table id here isnt = rw here (by (type_by_id target id) isnt) where
  by : (t : Option BtfType) → option_map_or (λ t. is_asked (kinds_of wanted) wanted.name (kind_of_type t) (name_of target t)) t false ≡ false → option_map_or (is_named wanted target.strings) t false ≡ false
  by None is = refl
  by (Some t) is = named_by (is_of_kind wanted t) wanted.name (text_at target.strings (name_offset_of t)) (ap (λ (b : Bool). b && option_map_or (λ t. pointwise nat_eq t wanted.name) (name_of target t) true) (sym (has_wanted_kind wanted t)) ∙ is)

is_readable : (wanted : Wanted) (targets : List Table) (target : Table) (table id : ℕ) → slice_get targets table ≡ Some target → asks wanted target id ≡ false → is_unreadable_at wanted targets (type_at table id) ≡ false
is_readable wanted targets target table id here isnt = rw here (by (type_by_id target id) isnt) where
  by : (t : Option BtfType) → option_map_or (λ t. is_asked (kinds_of wanted) wanted.name (kind_of_type t) (name_of target t)) t false ≡ false → option_map_or (is_unreadable wanted target.strings) t false ≡ false
  by None is = refl
  by (Some t) is = readable_by (is_of_kind wanted t) wanted.name (text_at target.strings (name_offset_of t)) (ap (λ (b : Bool). b && option_map_or (λ t. pointwise nat_eq t wanted.name) (name_of target t) true) (sym (has_wanted_kind wanted t)) ∙ is)

-- ---- The search over the types of the kind and name gives all candidates

filter_by : (p : KernelType → Bool) (x : KernelType) (xs ys : List KernelType) → p x ≡ false → filter p xs ≡ filter p ys → filter p xs ≡ filter p (x ∷ ys)
filter_by p x xs ys isnt same = rw isnt same

find_by : (p : KernelType → Bool) (x : KernelType) (xs ys : List KernelType) → p x ≡ false → find p xs ≡ find p ys → find p xs ≡ find p (x ∷ ys)
find_by p x xs ys isnt same = rw isnt same

cons_filter : (p : KernelType → Bool) (x : KernelType) (xs ys : List KernelType) (test : Bool) → p x ≡ test → filter p xs ≡ filter p ys → filter p (x ∷ xs) ≡ filter p (x ∷ ys)
cons_filter p x xs ys true is same = rw is (ap (λ (zs : List KernelType). x ∷ zs) same)
cons_filter p x xs ys false is same = rw is same

cons_find : (p : KernelType → Bool) (x : KernelType) (xs ys : List KernelType) (test : Bool) → p x ≡ test → find p xs ≡ find p ys → find p (x ∷ xs) ≡ find p (x ∷ ys)
cons_find p x xs ys true is same = rw is refl
cons_find p x xs ys false is same = rw is same

abbrev Kept : (KernelType → Bool) → (ℕ → Bool) → ℕ → List ℕ → Type 0
Kept p q table ids = (filter p (types_of_ids table (filter q ids)) ≡ filter p (types_of_ids table ids)) × (find p (types_of_ids table (filter q ids)) ≡ find p (types_of_ids table ids))

kept_by : (p : KernelType → Bool) (q : ℕ → Bool) (table id : ℕ) (ids : List ℕ) (test : Bool) → q id ≡ test → (q id ≡ false → p (type_at table id) ≡ false) → Kept p q table ids → Kept p q table (id ∷ ids)
kept_by p q table id ids true is isnt rest =
    let here = type_at table id in
    let xs = types_of_ids table (filter q ids) in
    let ys = types_of_ids table ids in
    rw is (cons_filter p here xs ys (p here) refl rest.0, cons_find p here xs ys (p here) refl rest.1)
kept_by p q table id ids false is isnt rest =
    let here = type_at table id in
    let xs = types_of_ids table (filter q ids) in
    let ys = types_of_ids table ids in
    let other = isnt is in
    rw is (filter_by p here xs ys other rest.0, find_by p here xs ys other rest.1)

kept : (p : KernelType → Bool) (q : ℕ → Bool) (table : ℕ) → ((id : ℕ) → q id ≡ false → p (type_at table id) ≡ false) → (ids : List ℕ) → Kept p q table ids
kept p q table isnt [] = (refl, refl)
kept p q table isnt (id ∷ ids) = kept_by p q table id ids (q id) refl (isnt id) (kept p q table isnt ids)

there : (targets : List Table) (table : ℕ) (d : Table) → table < length targets → slice_get targets table ≡ Some (get_or targets table d)
there targets table d lt = slice_get-get_or targets table d lt

all_by : (targets all : List Table) (table : ℕ) (target : Table) (found : Option Table) → found ≡ Some target → IfSome found (λ t. slice_get all table ≡ Some t) → slice_get all table ≡ Some target
all_by targets all table target found is same = subst (λ (o : Option Table). IfSome o (λ t. slice_get all table ≡ Some t)) is same

looked_at : (p : KernelType → Bool) (wanted : Wanted) (targets all : List Table) (table : ℕ) (ids : List ℕ) → ((target : Table) (id : ℕ) → slice_get targets table ≡ Some target → asks wanted target id ≡ false → p (type_at table id) ≡ false) → AreFirst targets all → table < length targets → ids ≡ named_ids_at (kinds_of wanted) wanted.name all table
    → (filter p (types_of_ids table ids) ≡ filter p (types_at targets table)) × (find p (types_of_ids table ids) ≡ find p (types_at targets table))
looked_at p wanted targets all table ids isnt first lt is =
    let target = get_or targets table new_table in
    let here = there targets table new_table lt in
    let same : slice_get all table ≡ Some target = all_by targets all table target (slice_get targets table) here (first.each table) in
    rw (is, same, here) (kept p (asks wanted target) table (λ id. isnt target id here) (ids_of target))

pub all_candidates : (wanted : Wanted) (targets all : List Table) (table : ℕ) (ids : List ℕ) → AreFirst targets all → table < length targets → ids ≡ named_ids_at (kinds_of wanted) wanted.name all table → filter (is_candidate wanted targets) (types_of_ids table ids) ≡ filter (is_candidate wanted targets) (types_at targets table)
all_candidates wanted targets all table ids first lt is = (looked_at (is_candidate wanted targets) wanted targets all table ids (λ target id. not_named wanted targets target table id) first lt is).0

pub all_unreadable : (wanted : Wanted) (targets all : List Table) (table : ℕ) (ids : List ℕ) → AreFirst targets all → table < length targets → ids ≡ named_ids_at (kinds_of wanted) wanted.name all table → find (is_unreadable_at wanted targets) (types_of_ids table ids) ≡ find (is_unreadable_at wanted targets) (types_at targets table)
all_unreadable wanted targets all table ids first lt is = (looked_at (is_unreadable_at wanted targets) wanted targets all table ids (λ target id. is_readable wanted targets target table id) first lt is).1
