-- The ids that a table knows.
use Rattle.std.proofs.Common.{◌≡◌, ℕ, zero, suc, ◌-◌, ◌<◌, ◌≤◌, ◌⊎◌, ◌==◌, Bool, true, false, cond, List, [], ◌∷◌, length, Some, None, Option, Result, Ok, refl, ap, sym, inl, inr, subst, ◌∙◌, arith, slice_get}
use Rattle.std.proofs.lemmas.Grind.{common_steps}
use Rattle.std.proofs.lemmas.Option.{slice_get_within}
use Rattle.std.specs.List.{zip}
use Rattle.std.specs.Option.{option_map_or, unwrap_or}
use Rattle.btf_compatibility.specs.TypeCompatibility.{pair_parts, parts_of, record_at}
use Rattle.btf_tables.specs.ResolvedTypes.{chain_end, end_from, modified_type}
use Rattle.btf_tables.specs.Tables.{Table, type_by_id}
use Rattle.btf_records.specs.declared.error.BtfError.{BtfError}
use Rattle.btf_records.specs.declared.types.BtfType.{BtfType}
use Rattle.btf_records.specs.declared.types.BtfType.TheVariants as types

within : (ts : List BtfType) (b : Bool) (id : ℕ) (t u : BtfType) → (b ≡ true → id ≡ 0)
    → cond b (Some u) (slice_get ts (id - 1)) ≡ Some t → id < suc (length ts)
within ts true id t u zero_id h = let e = zero_id refl in omega arith
within ts false id t u zero_id h =
    let below = slice_get_within ts (id - 1) t h in omega (arith, below)

known-below : (table : Table) (id : ℕ) (t : BtfType) → type_by_id table id ≡ Some t
    → id < suc (length table.types)
known-below table id t h =
    within table.types (id == 0) id t types.Unknown (λ e. grind (arith, common_steps)) h

-- The table has a record of this id.
pub record IsKnown (table : Table) (id : ℕ) : Type 0 where
  pub found : BtfType
  pub is : type_by_id table id ≡ Some found

pub below : (table : Table) (id : ℕ) → IsKnown table id → id < suc (length table.types)
below table id known = known-below table id known.found known.is

-- The end of a chain of modifiers is known.
end-of : (go : ℕ → Result ℕ BtfError) (table : Table) (id end : ℕ) (t : Option BtfType)
    → type_by_id table id ≡ t → ((next : ℕ) → go next ≡ Ok end → IsKnown table end)
    → end_from go id t ≡ Ok end → IsKnown table end
end-of go table id end None is h e = absurd cc
end-of go table id end (Some t) is h e = by (modified_type t) e
  where
    by : (modified : Option ℕ) → option_map_or go modified (Ok id) ≡ Ok end → IsKnown table end
    by None e =
        subst (IsKnown table) (let same : id ≡ end = cc in same) (record { found = t; is = is })
    by (Some next) e = h next e

pub end-known : (n : ℕ) (table : Table) (asked id end : ℕ) → chain_end n table asked id ≡ Ok end
    → IsKnown table end
unfolding chain_end
end-known zero table asked id end e = absurd cc
end-known (suc n) table asked id end e =
    end-of (chain_end n table asked) table id end (type_by_id table id) refl
    (λ next. end-known n table asked next end) e

-- Types that are missing have no parts.
parts-known : (table : Table) (id : ℕ) (t : Option BtfType) → type_by_id table id ≡ t
    → (parts_of (unwrap_or t types.Unknown) ≡ []) ⊎ (id < suc (length table.types))
parts-known table id None is = inl refl
parts-known table id (Some t) is = inr (known-below table id t is)

zip-none : (xs ys : List ℕ) → ys ≡ [] → zip xs ys ≡ []
zip-none [] ys e = refl
zip-none (x ∷ xs) [] e = refl
zip-none (x ∷ xs) (y ∷ ys) e = absurd cc

pub known-or_none : (local target : Table) (l r : ℕ)
    → (pair_parts local target l r ≡ [])
    ⊎ ((l < suc (length local.types)) × (r < suc (length target.types)))
known-or_none local target l r =
    let xs = parts_of (record_at local l) in
    let ys = parts_of (record_at target r) in
    elim (parts-known local l (type_by_id local l) refl) [
      | inl none ↦ inl (ap (λ (zs : List ℕ). zip zs ys) none)
      | inr left ↦
          elim (parts-known target r (type_by_id target r) refl) [
            | inl none ↦ inl (zip-none xs ys none)
            | inr right ↦ inr (left, right)
          ]
    ]
