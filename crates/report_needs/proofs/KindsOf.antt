-- The kinds of a table's records, by their numbers.
use Rattle.std.proofs.Common.{◌≡◌, ℕ, zero, suc, ◌+◌, ◌<◌, ◌≤◌, Bool, true, false, List, [], ◌∷◌, ◌++◌, drop, filter, map, refl, sym, ap, ◌∙◌, arith, length, slice_get, add-one, append_assoc, append-nil, drop-cons}
use Rattle.std.specs.List.{list_any}
use Rattle.std.specs.Option.{option_map_or}
use Rattle.std.specs.Prelude.{◌==◌, ◌||◌}
use Rattle.std.proofs.lemmas.Grind.{common_steps}
use Rattle.btf_records.specs.Fields.{kind_of_type}
use Rattle.btf_records.specs.Kinds.{all_kinds, kind_count, kind_of, number_of}
use Rattle.btf_records.specs.declared.types.BtfType.{BtfType}
use Rattle.btf_records.specs.declared.kind.BtfKind.{BtfKind}
use Rattle.btf_records.specs.declared.kind.BtfKind.TheVariants.{Unknown}
use Rattle.report_needs.specs.Kinds.{is_among, kind_among}

-- ---- Whether a table has records of a kind

abbrev pub is_of_kind : BtfKind → BtfType → Bool
is_of_kind kind t = number_of (kind_of_type t) == number_of kind

pub among_types : (types : List BtfType) (kind : BtfKind) → list_any (is_of_kind kind) types ≡ is_among (map (λ t. number_of (kind_of_type t)) types) kind
among_types [] kind = refl
among_types (t ∷ ts) kind = rw (among_types ts kind) refl

step : (q : BtfType → Bool) (types : List BtfType) (index : ℕ) → list_any q (drop index types) ≡ (option_map_or q (slice_get types index) false || list_any q (drop (index + 1) types))
step q [] zero = refl
step q [] (suc index) = let same : suc index + 1 ≡ suc (index + 1) = omega arith in rw same refl
step q (t ∷ ts) zero = refl
step q (t ∷ ts) (suc index) = let same : suc index + 1 ≡ suc (index + 1) = omega arith in rw same (step q ts index)

pub here : (q : BtfType → Bool) (types : List BtfType) (index : ℕ) (answer : Bool) → list_any q (drop index types) ≡ answer → option_map_or q (slice_get types index) false ≡ true → true ≡ answer
here q types index answer left is = sym (step q types index ∙ rw is refl) ∙ left

pub later : (q : BtfType → Bool) (types : List BtfType) (index : ℕ) (answer : Bool) → list_any q (drop index types) ≡ answer → option_map_or q (slice_get types index) false ≡ false → list_any q (drop (index + 1) types) ≡ answer
later q types index answer left isnt = sym (step q types index ∙ rw isnt refl) ∙ left

pub nowhere : (q : BtfType → Bool) (types : List BtfType) (index : ℕ) (answer : Bool) → length types ≤ index → list_any q (drop index types) ≡ answer → false ≡ answer
nowhere q types index answer past left = let none : drop index types ≡ [] = grind (arith, common_steps) in rw none at left

-- ---- The kinds in order

pub added : (records : List ℕ) (kind : BtfKind) (number : ℕ) (old : List BtfKind) → kind ≡ kind_of number → is_among records kind ≡ true → old ++ kind ∷ [] ≡ old ++ kind_among records number
added records kind number old is has = let there : is_among records (kind_of number) ≡ true = rw (sym is) has in rw (there, is) refl

pub left_out : (records : List ℕ) (kind : BtfKind) (number : ℕ) (old : List BtfKind) → kind ≡ kind_of number → is_among records kind ≡ false → old ≡ old ++ kind_among records number
left_out records kind number old is isnt = let there : is_among records (kind_of number) ≡ false = rw (sym is) isnt in rw there (sym (append-nil old))

this_kind : (number : ℕ) → number < kind_count → drop number all_kinds ≡ kind_of number ∷ drop (number + 1) all_kinds
unfolding kind_of
this_kind number lt = rw add-one (drop-cons all_kinds number Unknown lt)

split : (records : List ℕ) (kind : BtfKind) (rest : List BtfKind) → filter (is_among records) (kind ∷ rest) ≡ filter (is_among records) (kind ∷ []) ++ filter (is_among records) rest
split records kind rest = by (is_among records kind) refl where
  by : (b : Bool) → is_among records kind ≡ b → filter (is_among records) (kind ∷ rest) ≡ filter (is_among records) (kind ∷ []) ++ filter (is_among records) rest
  by true is = rw is refl
  by false is = rw is refl

pub one_more : (records : List ℕ) (number : ℕ) (old new all : List BtfKind) → number < kind_count → new ≡ old ++ kind_among records number → old ++ filter (is_among records) (drop number all_kinds) ≡ all → new ++ filter (is_among records) (drop (number + 1) all_kinds) ≡ all
one_more records number old new all lt put before =
    rw put (append_assoc old (kind_among records number) (filter (is_among records) (drop (number + 1) all_kinds)) ∙ (ap (λ (xs : List BtfKind). old ++ xs) (sym (split records (kind_of number) (drop (number + 1) all_kinds))) ∙ (rw (this_kind number lt) at before)))

pub all_kinds_left : (records : List ℕ) (number : ℕ) (old all : List BtfKind) → number ≡ kind_count → old ++ filter (is_among records) (drop number all_kinds) ≡ all → old ≡ all
all_kinds_left records number old all is before = sym (append-nil old) ∙ (rw is at before)
