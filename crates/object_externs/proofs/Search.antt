-- The search for the section `.ksyms`, and for an integer of 4 bytes.
use Rattle.std.proofs.Common.{◌≡◌, ℕ, zero, suc, ◌+◌, ◌==◌, ◌&&◌, ◌||◌, Bool, true, false, not, List, [], ◌∷◌, ◌++◌, Option, None, Some, is_none, refl, ap, sym, ◌∙◌, take, add-one, ◌-◌, ◌<◌, ◌≤◌, length, arith}
use Rattle.std.specs.Prelude.{slice_get, take_while}
use Rattle.std.specs.List.{list_any}
use Rattle.std.specs.Option.{IsSome, option_map_or}
use Rattle.std.proofs.lemmas.Bool.Decides.{nat_tests}
use Rattle.std.proofs.lemmas.Option.{slice_get-get_or}
use Rattle.std.proofs.lemmas.List.Sums.{take_while-cons}
use Rattle.btf_records.specs.Fields.{kind_of_type, name_offset_of}
use Rattle.btf_records.specs.declared.types.BtfType.{BtfType}
use Rattle.btf_records.specs.declared.types.BtfType.TheVariants.{Unknown}
use Rattle.object_externs.specs.Section.{has_unreadable, is_ksyms, is_section, is_unreadable, ksyms_from, ksyms_section}
use Rattle.btf_tables.specs.Tables.{Table, type_by_id}
use Rattle.string_table.specs.Texts.{text_at}

-- The next record isn't the section.
pub no_ksyms_here : (strings : List ℕ) (id : ℕ) (t : BtfType) (rest types : List BtfType) (wanted : Option ℕ) → types ≡ t ∷ rest → ksyms_from strings id types ≡ wanted → is_ksyms strings t ≡ false → ksyms_from strings (id + 1) rest ≡ wanted
no_ksyms_here strings id t rest types wanted is left e = rw (is, e) at left

passed : (strings : List ℕ) (offset : ℕ) (t : BtfType) (rest : List BtfType) → is_ksyms strings t ≡ false → has_unreadable strings offset (t ∷ rest) ≡ (is_unreadable strings offset t || has_unreadable strings offset rest)
passed strings offset t rest e =
    let taken : take_while (λ t. not (is_ksyms strings t)) (t ∷ rest) ≡ t ∷ take_while (λ t. not (is_ksyms strings t)) rest = take_while-cons (λ t. not (is_ksyms strings t)) t rest ∙ rw e refl in
    ap (list_any (is_unreadable strings offset)) taken

-- The next record isn't the section, and its name can be read.
pub readable_here : (strings : List ℕ) (offset : ℕ) (t : BtfType) (rest types : List BtfType) (wanted : Bool) → types ≡ t ∷ rest → has_unreadable strings offset types ≡ wanted → is_ksyms strings t ≡ false → is_unreadable strings offset t ≡ false → has_unreadable strings offset rest ≡ wanted
readable_here strings offset t rest types wanted is left e read =
    let here : has_unreadable strings offset (t ∷ rest) ≡ wanted = rw is at left in
    let same : has_unreadable strings offset rest ≡ has_unreadable strings offset (t ∷ rest) = sym (passed strings offset t rest e ∙ rw read refl) in
    same ∙ here

other_by : (section same : Bool) (p : List ℕ → Bool) (name : Option (List ℕ)) → (section && same && is_none name) ≡ true → (section && option_map_or p name false) ≡ false
other_by false same p name e = refl
other_by true false p name e = absurd cc
other_by true true p None e = refl
other_by true true p (Some name) e = absurd cc

pub unreadable_here : (strings : List ℕ) (t : BtfType) (rest types : List BtfType) (wanted : Bool) → types ≡ t ∷ rest → has_unreadable strings (name_offset_of t) types ≡ wanted → is_unreadable strings (name_offset_of t) t ≡ true → wanted ≡ true
unreadable_here strings t rest types wanted is left e =
    let other : is_ksyms strings t ≡ false = other_by (is_section (kind_of_type t)) (name_offset_of t == name_offset_of t) _ (text_at strings (name_offset_of t)) e in
    let here : has_unreadable strings (name_offset_of t) (t ∷ rest) ≡ wanted = rw is at left in
    sym here ∙ passed strings (name_offset_of t) t rest other ∙ rw e refl

-- The first elements of a list up to and including a known element.
split_some : {X : Type 0} (xs : List X) (at : ℕ) (x : X) → slice_get xs at ≡ Some x → take (suc at) xs ≡ take at xs ++ x ∷ []
split_some [] zero x e = absurd cc
split_some [] (suc at) x e = absurd cc
split_some (y ∷ ys) zero x e = let same : y ≡ x = cc in rw same refl
split_some (y ∷ ys) (suc at) x e = ap (λ zs. y ∷ zs) (split_some ys at x e)

pub taken_more : {X : Type 0} (xs done : List X) (at : ℕ) (x : X) → slice_get xs at ≡ Some x → done ≡ take at xs → done ++ x ∷ [] ≡ take (at + 1) xs
taken_more xs done at x e is = ap (λ ys. ys ++ x ∷ []) is ∙ sym (rw add-one (split_some xs at x e))

taken_none : {X : Type 0} (xs : List X) (at : ℕ) → slice_get xs at ≡ None → take at xs ≡ xs
taken_none [] zero e = refl
taken_none [] (suc at) e = refl
taken_none (y ∷ ys) zero e = absurd cc
taken_none (y ∷ ys) (suc at) e = ap (λ zs. y ∷ zs) (taken_none ys at e)

pub taken_all : {X : Type 0} (xs done : List X) (at : ℕ) → slice_get xs at ≡ None → done ≡ take at xs → done ≡ xs
taken_all xs done at e is = is ∙ taken_none xs at e

within_more : (strings : List ℕ) (at : ℕ) (t : BtfType) (ts : List BtfType) (id : ℕ) (b : Bool) → is_ksyms strings t ≡ b → (ksyms_from strings (at + 1) ts ≡ Some id → (at + 1 ≤ id) × (id < at + 1 + length ts)) → ksyms_from strings at (t ∷ ts) ≡ Some id → (at ≤ id) × (id < at + length (t ∷ ts))
within_more strings at t ts id true is more e =
    let here : Some at ≡ Some id = rw is at e in
    let same : at ≡ id = cc in
    (omega arith, omega arith)
within_more strings at t ts id false is more e =
    let rest = more (rw is at e) in
    (omega (arith, rest.0), omega (arith, rest.1))

within : (strings : List ℕ) (at : ℕ) (ts : List BtfType) (id : ℕ) → ksyms_from strings at ts ≡ Some id → (at ≤ id) × (id < at + length ts)
within strings at [] id e = absurd cc
within strings at (t ∷ ts) id e = within_more strings at t ts id (is_ksyms strings t) refl (within strings (at + 1) ts id) e

-- The section that is found has a record.
pub ksyms_known : (table : Table) (id : ℕ) → ksyms_section table ≡ Some id → IsSome (type_by_id table id)
ksyms_known table id e =
    let bounds = within table.strings 1 table.types id e in
    let first : (id == 0) ≡ false = grind (arith, nat_tests, bounds.0) in
    rw (first, slice_get-get_or table.types (id - 1) Unknown (omega (arith, bounds.0, bounds.1))) refl
