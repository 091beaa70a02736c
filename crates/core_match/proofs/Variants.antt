-- The search of the variants of an enum, in order.
use Rattle.std.proofs.Common.{◌≡◌, ℕ, suc, ◌+◌, ◌-◌, ◌<◌, List, None, Some, Ok, Err, true, false, refl, sym, arith, add-one}
use Rattle.core_spec.specs.Variants.{variant_name}
use Rattle.core_spec.specs.declared.error.AccessError.{AccessError}
use Rattle.btf_records.specs.declared.types.BtfType.{BtfType}
use Rattle.btf_tables.specs.Tables.{Table}
use Rattle.core_match.specs.VariantMatches.{first_variant, is_so_named}

one_fewer : (n i : ℕ) → i < n → n - i ≡ suc (n - (i + 1))
one_fewer n i lt = omega arith

pub none_left : (target : Table) (t : BtfType) (name : List ℕ) (i n : ℕ) → n ≡ 0 → first_variant target t name n i ≡ Ok None
unfolding first_variant
none_left target t name i n e = rw e refl

pub unnamed : (target : Table) (t : BtfType) (name : List ℕ) (n i : ℕ) → i < n → None ≡ variant_name t i → first_variant target t name (n - i) i ≡ Ok None
unfolding first_variant
unnamed target t name n i lt none = rw (one_fewer n i lt, sym none) refl

pub this_variant : (target : Table) (t : BtfType) (name : List ℕ) (n i offset : ℕ) → i < n → Some offset ≡ variant_name t i → Ok true ≡ is_so_named target offset name → first_variant target t name (n - i) i ≡ Ok (Some i)
unfolding first_variant
this_variant target t name n i offset lt some is = rw (one_fewer n i lt, sym some, sym is) refl

pub bad_variant : (target : Table) (t : BtfType) (name : List ℕ) (n i offset : ℕ) (e : AccessError) → i < n → Some offset ≡ variant_name t i → Err e ≡ is_so_named target offset name → first_variant target t name (n - i) i ≡ Err e
unfolding first_variant
bad_variant target t name n i offset e lt some is = rw (one_fewer n i lt, sym some, sym is) refl

pub next_variant : (target : Table) (t : BtfType) (name : List ℕ) (n i offset : ℕ) → i < n → Some offset ≡ variant_name t i → Ok false ≡ is_so_named target offset name → first_variant target t name (n - i) i ≡ first_variant target t name (n - (i + 1)) (i + 1)
unfolding first_variant
next_variant target t name n i offset lt some is = rw (one_fewer n i lt, sym some, sym is, add-one) refl
