-- The first record of a kind and a name is the first among the types with this name, flavours
-- aside.
use Rattle.std.proofs.Common.{◌≡◌, ◌≢◌, ℕ, zero, suc, ◌+◌, ◌-◌, ◌<◌, ◌≤◌, Bool, true, false, List, [], ◌∷◌, filter, find, length, Option, None, Some, refl, ap, sym, ◌∙◌, subst, arith, add-one, below_more, drop, drop-cons, get_or, nat_eq, nat_lt}
use Rattle.std.specs.Prelude.{IfSome, ◌&&◌, ◌==◌, ◌||◌, is_some, slice_index_or}
use Rattle.std.proofs.lemmas.Bool.Decides.{nat_tests}
use Rattle.std.proofs.lemmas.Grind.{common_steps}
use Rattle.std.proofs.lemmas.Option.{slice_get_past}
use Rattle.std.specs.Cmp.Lexicographic.{other_text, pointwise, same_text}
use Rattle.std.specs.List.{range_with_len}
use Rattle.std.specs.Option.{IsSomeAnd, MatchOption, option_map, option_map_or}
use Rattle.btf_records.specs.Fields.{kind_of_type, name_offset_of}
use Rattle.btf_records.specs.Kinds.{all_kinds, number_of}
use Rattle.btf_records.specs.declared.kind.BtfKind.{BtfKind}
use Rattle.btf_records.specs.declared.kind.BtfKind.TheVariants.{Unknown, Int, Ptr, Array, Struct, Union, Enum, Fwd, Typedef, Volatile, Const, Restrict, Func, FuncProto, Var, DataSec, Float, DeclTag, TypeTag, Enum64}
use Rattle.btf_records.specs.declared.types.BtfType.{BtfType}
use Rattle.btf_search.specs.NamedTypes.{has_kind, ids_of, is_asked, is_so, name_of, named_ids}
use Rattle.btf_tables.specs.EssentialNames.{essential_name}
use Rattle.btf_tables.specs.Tables.{Table, type_by_id}
use Rattle.btf_tables.specs.TypesByName.{IsFirstNamed, IsNotNamed}
use Rattle.string_table.specs.Texts.{text_at}
use Rattle.extern_resolution.specs.Outcomes.{IsMissing}
use Rattle.extern_resolution.specs.Records.{IsFirst, is_readable, may_be, may_be_first}
use Rattle.extern_resolution.proofs.Found.{not_both, three_ways}

above_all : (table : Table) (id : ℕ) → length table.types < id → type_by_id table id ≡ None
above_all table zero past = absurd (omega arith)
above_all table (suc id) past =
    let same : suc id - 1 ≡ id = omega arith in
    let test : nat_eq (suc id) 0 ≡ false = grind (arith, nat_tests) in
    rw (test, same) (slice_get_past table.types id (omega arith))

-- No record with a lower id has the kind and the name.
record AreNotNamed (kernel : Table) (kind : BtfKind) (name : List ℕ) (below : ℕ) : Type 0 where
  pub each : (lesser : ℕ) → lesser < below → IsNotNamed kernel name kind lesser

-- The first record of the kind whose name is `name` or can't be read.
record IsFirstLike (kernel : Table) (kind : BtfKind) (name : List ℕ) (id : ℕ) : Type 0 where
  pub there : IsSomeAnd (type_by_id kernel id) (λ t.
      (kind_of_type t ≡ kind) × (may_be kernel name t ≡ true))
  pub before : AreNotNamed kernel kind name id

abbrev Says : Table → BtfKind → List ℕ → Option ℕ → Type 0
Says kernel kind name found = MatchOption found (IsMissing kernel kind name) (IsFirstLike kernel kind name)

kind_back : (kind : BtfKind) → slice_index_or all_kinds (number_of kind) Unknown ≡ kind
kind_back Unknown = refl
kind_back Int = refl
kind_back Ptr = refl
kind_back Array = refl
kind_back Struct = refl
kind_back Union = refl
kind_back Enum = refl
kind_back Fwd = refl
kind_back Typedef = refl
kind_back Volatile = refl
kind_back Const = refl
kind_back Restrict = refl
kind_back Func = refl
kind_back FuncProto = refl
kind_back Var = refl
kind_back DataSec = refl
kind_back Float = refl
kind_back DeclTag = refl
kind_back TypeTag = refl
kind_back Enum64 = refl

same_kind : (a b : BtfKind) → number_of a ≡ number_of b → a ≡ b
same_kind a b is = sym (kind_back a) ∙ (ap (λ (n : ℕ). slice_index_or all_kinds n Unknown) is ∙ kind_back b)

-- The first of some ids that passes a test.

this_id : (ids : List ℕ) (i : ℕ) → i < length ids → drop i ids ≡ get_or ids i 0 ∷ drop (i + 1) ids
this_id ids i lt = rw add-one (drop-cons ids i 0 lt)

pub find_on : (p : ℕ → Bool) (ids : List ℕ) (i : ℕ) (all : Option ℕ) → i < length ids → find p (drop i ids) ≡ all → p (get_or ids i 0) ≡ false → find p (drop (i + 1) ids) ≡ all
find_on p ids i all lt left isnt = rw (this_id ids i lt, isnt) at left

pub find_here : (p : ℕ → Bool) (ids : List ℕ) (i : ℕ) (all : Option ℕ) → i < length ids → find p (drop i ids) ≡ all → p (get_or ids i 0) ≡ true → Some (get_or ids i 0) ≡ all
find_here p ids i all lt left is = rw (this_id ids i lt, is) at left

none_left : (ids : List ℕ) (i : ℕ) → length ids ≤ i → drop i ids ≡ []
none_left ids i le = grind (arith, common_steps)

pub find_end : (p : ℕ → Bool) (ids : List ℕ) (i : ℕ) (all : Option ℕ) → length ids ≤ i → find p (drop i ids) ≡ all → None ≡ all
find_end p ids i all le left = rw (none_left ids i le) at left

-- A type without the kind and the name.

abbrev asks : Table → BtfKind → List ℕ → ℕ → Bool
asks kernel kind name id = is_so (is_asked (kind ∷ []) (essential_name name)) kernel id

kind_test : (kind other : BtfKind) (rest : Bool) → other ≡ kind → (has_kind (kind ∷ []) other && rest) ≡ false → rest ≡ false
kind_test kind other rest same is = subst (λ (k : BtfKind). (has_kind (kind ∷ []) k && rest) ≡ false → rest ≡ false) (sym same) (by (number_of kind == number_of kind) (grind (arith, nat_tests))) is where
  by : (test : Bool) → test ≡ true → ((test || false) && rest) ≡ false → rest ≡ false
  by true is h = h
  by false is h = absurd cc

unlike_essential : (name : List ℕ) (text : Option (List ℕ)) → option_map_or (λ t. pointwise nat_eq t (essential_name name)) (option_map essential_name text) true ≡ false → IsSomeAnd text (λ t. t ≢ name)
unlike_essential name None is = absurd cc
unlike_essential name (Some t) is = λ same. other_text (essential_name t) (essential_name name) (sym is) (ap essential_name same)

not_asked : (kernel : Table) (kind : BtfKind) (name : List ℕ) (id : ℕ) → asks kernel kind name id ≡ false → IsNotNamed kernel name kind id
not_asked kernel kind name id isnt = by (type_by_id kernel id) isnt where
  by : (t : Option BtfType) → option_map_or (λ t. is_asked (kind ∷ []) (essential_name name) (kind_of_type t) (name_of kernel t)) t false ≡ false → IfSome t (λ t. kind_of_type t ≡ kind → IsSomeAnd (text_at kernel.strings (name_offset_of t)) (λ text. text ≢ name))
  by None is = tt
  by (Some t) is = λ same. unlike_essential name (text_at kernel.strings (name_offset_of t)) (kind_test kind (kind_of_type t) (option_map_or (λ t. pointwise nat_eq t (essential_name name)) (name_of kernel t) true) same is)

unlike_text : (name : List ℕ) (text : Option (List ℕ)) → option_map_or (λ t. pointwise nat_eq t name) text true ≡ false → IsSomeAnd text (λ t. t ≢ name)
unlike_text name None is = absurd cc
unlike_text name (Some t) is = other_text t name (sym is)

not_this : (kernel : Table) (kind : BtfKind) (name : List ℕ) (id : ℕ) → may_be_first kernel name id ≡ false → IsNotNamed kernel name kind id
not_this kernel kind name id isnt = by (type_by_id kernel id) isnt where
  by : (t : Option BtfType) → option_map_or (may_be kernel name) t false ≡ false → IfSome t (λ t. kind_of_type t ≡ kind → IsSomeAnd (text_at kernel.strings (name_offset_of t)) (λ text. text ≢ name))
  by None is = tt
  by (Some t) is = λ same. unlike_text name (text_at kernel.strings (name_offset_of t)) is

-- A type that may have the kind and the name.

kind_of_asked : (kind other : BtfKind) (rest : Bool) → (has_kind (kind ∷ []) other && rest) ≡ true → other ≡ kind
kind_of_asked kind other rest is = by (number_of kind == number_of other) refl is where
  by : (test : Bool) → (number_of kind == number_of other) ≡ test → ((test || false) && rest) ≡ true → other ≡ kind
  by true same h = same_kind other kind (grind (arith, nat_tests, same))
  by false same h = absurd cc

first_like : (kernel : Table) (kind : BtfKind) (name : List ℕ) (id : ℕ) → asks kernel kind name id ≡ true → may_be_first kernel name id ≡ true → IsSomeAnd (type_by_id kernel id) (λ t. (kind_of_type t ≡ kind) × (may_be kernel name t ≡ true))
first_like kernel kind name id asked may = by (type_by_id kernel id) asked may where
  by : (t : Option BtfType) → option_map_or (λ t. is_asked (kind ∷ []) (essential_name name) (kind_of_type t) (name_of kernel t)) t false ≡ true → option_map_or (may_be kernel name) t false ≡ true → IsSomeAnd t (λ t. (kind_of_type t ≡ kind) × (may_be kernel name t ≡ true))
  by None asked may = absurd cc
  by (Some t) asked may = (kind_of_asked kind (kind_of_type t) (option_map_or (λ t. pointwise nat_eq t (essential_name name)) (name_of kernel t) true) asked, may)

-- The next id.

more : (kernel : Table) (kind : BtfKind) (name : List ℕ) (id : ℕ) → AreNotNamed kernel kind name id → IsNotNamed kernel name kind id → AreNotNamed kernel kind name (id + 1)
more kernel kind name id before here = record { each = below_more (IsNotNamed kernel name kind) id before.each here }

none_named : (o : Option BtfType) (P : BtfType → Type 0) → o ≡ None → IsSomeAnd o P → ⊥
none_named None P is named = named
none_named (Some t) P is named = absurd cc

missing_by : (kernel : Table) (kind : BtfKind) (name : List ℕ) (end : ℕ) → AreNotNamed kernel kind name end → length kernel.types < end → IsMissing kernel kind name
missing_by kernel kind name end before past = record { none = λ id first. by id first (nat_lt id end) refl } where
  by : (id : ℕ) → IsFirstNamed kernel name kind id → (test : Bool) → nat_lt id end ≡ test → ⊥
  by id first true lt = not_both kernel.strings name kind (type_by_id kernel id) first.named (before.each id (grind (arith, nat_tests, lt)))
  by id first false ge = none_named (type_by_id kernel id) _ (above_all kernel id (grind (arith, nat_tests, ge, past))) first.named

abbrev found_from : Table → BtfKind → List ℕ → ℕ → ℕ → Option ℕ
found_from kernel kind name id count = find (may_be_first kernel name) (filter (asks kernel kind name) (range_with_len id count))

step : (kernel : Table) (kind : BtfKind) (name : List ℕ) (id count : ℕ) (asked may : Bool) → asks kernel kind name id ≡ asked → may_be_first kernel name id ≡ may → AreNotNamed kernel kind name id → (IsNotNamed kernel name kind id → Says kernel kind name (found_from kernel kind name (id + 1) count)) → Says kernel kind name (found_from kernel kind name id (suc count))
step kernel kind name id count false may a m before rest = rw a (rest (not_asked kernel kind name id a))
step kernel kind name id count true false a m before rest = rw (a, m) (rest (not_this kernel kind name id m))
step kernel kind name id count true true a m before rest = rw (a, m) (record { there = first_like kernel kind name id a m; before = before })

says_from : (kernel : Table) (kind : BtfKind) (name : List ℕ) (count id : ℕ) → AreNotNamed kernel kind name id → length kernel.types < id + count → Says kernel kind name (found_from kernel kind name id count)
says_from kernel kind name zero id before past = missing_by kernel kind name id before (omega (arith, past))
says_from kernel kind name (suc count) id before past =
    step kernel kind name id count (asks kernel kind name id) (may_be_first kernel name id) refl refl before (λ here. says_from kernel kind name count (id + 1) (more kernel kind name id before here) (omega (arith, past)))

says : (kernel : Table) (kind : BtfKind) (name : List ℕ) (ids : List ℕ) (found : Option ℕ) → ids ≡ named_ids (kind ∷ []) (essential_name name) kernel → found ≡ find (may_be_first kernel name) ids → Says kernel kind name found
says kernel kind name ids found are is =
    rw (is, are) (says_from kernel kind name (suc (length kernel.types)) 0 (record { each = λ lesser lt. absurd (omega (arith, lt)) }) (omega arith))

pub missing : (kernel : Table) (kind : BtfKind) (name : List ℕ) (ids : List ℕ) → ids ≡ named_ids (kind ∷ []) (essential_name name) kernel → None ≡ find (may_be_first kernel name) ids → IsFirst kernel kind name None
missing kernel kind name ids are is = says kernel kind name ids None are is

-- A record whose name can or can't be read.

text_is : (name : List ℕ) (text : Option (List ℕ)) → option_map_or (λ t. pointwise nat_eq t name) text true ≡ true → is_some text ≡ true → text ≡ Some name
text_is name None may some = absurd cc
text_is name (Some t) may some = ap (λ (t : List ℕ). Some t) (same_text t name (sym may))

named_by : (kernel : Table) (kind : BtfKind) (name : List ℕ) (o : Option BtfType) → IsSomeAnd o (λ t. (kind_of_type t ≡ kind) × (may_be kernel name t ≡ true)) → option_map_or (λ t. is_some (text_at kernel.strings (name_offset_of t))) o false ≡ true → IsSomeAnd o (λ t. (kind_of_type t ≡ kind) × (text_at kernel.strings (name_offset_of t) ≡ Some name))
named_by kernel kind name None there some = absurd there
named_by kernel kind name (Some t) there some = (there.0, text_is name (text_at kernel.strings (name_offset_of t)) there.1 some)

pub first_named : (kernel : Table) (kind : BtfKind) (name : List ℕ) (ids : List ℕ) (id : ℕ) → ids ≡ named_ids (kind ∷ []) (essential_name name) kernel → Some id ≡ find (may_be_first kernel name) ids → is_readable kernel id ≡ true → IsFirst kernel kind name (Some id)
first_named kernel kind name ids id are is readable =
    let like : IsFirstLike kernel kind name id = says kernel kind name ids (Some id) are is in
    record { named = named_by kernel kind name (type_by_id kernel id) like.there readable; first = like.before.each }

unnamed_by : (kernel : Table) (kind : BtfKind) (name : List ℕ) (o : Option BtfType) → IsSomeAnd o (λ t. (kind_of_type t ≡ kind) × (may_be kernel name t ≡ true)) → option_map_or (λ t. is_some (text_at kernel.strings (name_offset_of t))) o false ≡ false → IfSome o (λ t. kind_of_type t ≡ kind → IsSomeAnd (text_at kernel.strings (name_offset_of t)) (λ text. text ≢ name)) → ⊥
unnamed_by kernel kind name None there none other = there
unnamed_by kernel kind name (Some t) there none other = by (text_at kernel.strings (name_offset_of t)) none (other there.0) where
  by : (text : Option (List ℕ)) → is_some text ≡ false → IsSomeAnd text (λ text. text ≢ name) → ⊥
  by None none other = other
  by (Some text) none other = absurd cc

unreadable_by : (kernel : Table) (kind : BtfKind) (name : List ℕ) (o : Option BtfType) → option_map_or (λ t. is_some (text_at kernel.strings (name_offset_of t))) o false ≡ false → IsSomeAnd o (λ t. (kind_of_type t ≡ kind) × (text_at kernel.strings (name_offset_of t) ≡ Some name)) → ⊥
unreadable_by kernel kind name None none named = named
unreadable_by kernel kind name (Some t) none named = by (text_at kernel.strings (name_offset_of t)) none named.1 where
  by : (text : Option (List ℕ)) → is_some text ≡ false → text ≡ Some name → ⊥
  by None none is = absurd cc
  by (Some text) none is = absurd cc

-- A record whose name can't be read hides the records after it.
pub hidden : (kernel : Table) (kind : BtfKind) (name : List ℕ) (ids : List ℕ) (id : ℕ) → ids ≡ named_ids (kind ∷ []) (essential_name name) kernel → Some id ≡ find (may_be_first kernel name) ids → is_readable kernel id ≡ false → IsFirst kernel kind name None
hidden kernel kind name ids id are is unreadable =
    let like : IsFirstLike kernel kind name id = says kernel kind name ids (Some id) are is in
    record { none = λ other first. by like other first (nat_lt other id) refl (nat_lt id other) refl }
  where
    by : IsFirstLike kernel kind name id → (other : ℕ) → IsFirstNamed kernel name kind other → (less : Bool) → nat_lt other id ≡ less → (more : Bool) → nat_lt id other ≡ more → ⊥
    by like other first true l more m = not_both kernel.strings name kind (type_by_id kernel other) first.named (like.before.each other (grind (arith, nat_tests, l)))
    by like other first false l true m = unnamed_by kernel kind name (type_by_id kernel id) like.there unreadable (first.first id (grind (arith, nat_tests, m)))
    by like other first false l false m =
        let same : other ≡ id = grind (arith, nat_tests, l, m) in
        unreadable_by kernel kind name (type_by_id kernel id) unreadable (subst (λ (i : ℕ). IsSomeAnd (type_by_id kernel i) (λ t. (kind_of_type t ≡ kind) × (text_at kernel.strings (name_offset_of t) ≡ Some name))) same first.named)
