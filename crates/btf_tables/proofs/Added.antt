-- A type that is appended to the types of a table.
use Rattle.std.proofs.Common.{◌≡◌, ℕ, zero, suc, List, [], ◌∷◌, ◌++◌, length, Some, refl, sym, ap, ◌∙◌, arith, slice_get, length-append}
use Rattle.btf_tables.specs.GrownTables.{TypesStay}
use Rattle.btf_tables.proofs.Named.{all_types, by_place}
use Rattle.btf_tables.specs.Tables.{Table, type_by_id}
use Rattle.btf_records.specs.declared.types.BtfType.{BtfType}
use Rattle.btf_records.specs.declared.types.BtfType.TheVariants.{Unknown}

get_front : {X : Type 0} (xs ys : List X) (i : ℕ) (x : X) → slice_get xs i ≡ Some x → slice_get (xs ++ ys) i ≡ Some x
get_front [] ys i x e = absurd cc
get_front (z ∷ zs) ys zero x e = e
get_front (z ∷ zs) ys (suc i) x e = get_front zs ys i x e

get_after : {X : Type 0} (xs : List X) (x : X) → slice_get (xs ++ x ∷ []) (length xs) ≡ Some x
get_after [] x = refl
get_after (y ∷ ys) x = get_after ys x

pub added_found : (new : Table) (types : List BtfType) (t : BtfType) (id : ℕ) → new.types ≡ types ++ t ∷ [] → id ≡ length new.types → type_by_id new id ≡ Some t
added_found new types t id e is =
    let last : id ≡ suc (length types) = omega (arith, is, ap length e, length-append types (t ∷ [])) in
    by_place new id ∙ rw last (ap (λ (ts : List BtfType). slice_get ts (length types)) e ∙ get_after types t)

pub added_stay : (old new : Table) (t : BtfType) → new.types ≡ old.types ++ t ∷ [] → TypesStay old new
added_stay old new t e = record { stay = λ id u some. by_place new id ∙ (ap (λ (ts : List BtfType). slice_get (Unknown ∷ ts) id) e ∙ get_front (all_types old) (t ∷ []) id u (sym (by_place old id) ∙ some)) }
