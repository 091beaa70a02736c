-- Chains of modifiers and walks to sizes, record by record.
use Rattle.std.proofs.Common.{◌≡◌, ℕ, suc, ◌+◌, ◌-◌, ◌*◌, ◌<◌, ◌≤◌, ◌^◌, None, Some, Ok, Err, refl, arith, true, false, nat_lt}
use Rattle.std.proofs.lemmas.Bool.Decides.{nat_tests}
use Rattle.btf_tables.specs.ResolvedTypes.{chain_end, modified_type}
use Rattle.btf_tables.specs.TypeSizes.{own_size, size_at_end, sized_by}
use Rattle.btf_tables.specs.Tables.{Table, type_by_id}
use Rattle.btf_records.specs.declared.error.BtfError.TheVariants.{InvalidTypeInfo, MaximumTypeDepthReached, UnexpectedBtfType, UnknownBtfType}
use Rattle.btf_records.specs.declared.types.BtfType.{BtfType}

pub one_fewer : (n i : ℕ) → i < n → n - i ≡ suc (n - (i + 1))
one_fewer n i lt = omega arith

pub chain_over : (table : Table) (asked id : ℕ) (n : ℕ) → n ≡ 0 → chain_end n table asked id ≡ Err (MaximumTypeDepthReached asked)
unfolding chain_end
chain_over table asked id n e = rw e refl

pub chain_unknown : (table : Table) (asked id n i : ℕ) → i < n → type_by_id table id ≡ None → chain_end (n - i) table asked id ≡ Err (UnknownBtfType id)
unfolding chain_end
chain_unknown table asked id n i lt none = rw (one_fewer n i lt, none) refl

pub chain_done : (table : Table) (asked id n i : ℕ) (t : BtfType) → i < n → type_by_id table id ≡ Some t → modified_type t ≡ None → chain_end (n - i) table asked id ≡ Ok id
unfolding chain_end
chain_done table asked id n i t lt some none = rw (one_fewer n i lt, some, none) refl

pub chain_more : (table : Table) (asked id n i next : ℕ) (t : BtfType) → i < n → type_by_id table id ≡ Some t → modified_type t ≡ Some next → chain_end (n - i) table asked id ≡ chain_end (n - (i + 1)) table asked next
unfolding chain_end
chain_more table asked id n i next t lt some more = rw (one_fewer n i lt, some, more) refl

pub size_over : (table : Table) (asked count id : ℕ) (n : ℕ) → n ≡ 0 → size_at_end n table asked count id ≡ Err (MaximumTypeDepthReached asked)
unfolding size_at_end
size_over table asked count id n e = rw e refl

pub size_unknown : (table : Table) (asked count id n i : ℕ) → i < n → type_by_id table id ≡ None → size_at_end (n - i) table asked count id ≡ Err (UnknownBtfType id)
unfolding size_at_end
size_unknown table asked count id n i lt none = rw (one_fewer n i lt, none) refl

pub size_done : (table : Table) (asked count id n i size : ℕ) (t : BtfType) → i < n → type_by_id table id ≡ Some t → own_size t ≡ Some size → size_at_end (n - i) table asked count id ≡ Ok (count * size)
unfolding size_at_end
size_done table asked count id n i size t lt some own = rw (one_fewer n i lt, some, own) refl

pub size_none : (table : Table) (asked count id n i : ℕ) (t : BtfType) → i < n → type_by_id table id ≡ Some t → own_size t ≡ None → sized_by t ≡ None → size_at_end (n - i) table asked count id ≡ Err (UnexpectedBtfType id)
unfolding size_at_end
size_none table asked count id n i t lt some own by = rw (one_fewer n i lt, some, own, by) refl

pub size_past : (table : Table) (asked count id n i more next : ℕ) (t : BtfType) → i < n → type_by_id table id ≡ Some t → own_size t ≡ None → sized_by t ≡ Some (more, next) → 2 ^ 32 ≤ count * more → size_at_end (n - i) table asked count id ≡ Err InvalidTypeInfo
unfolding size_at_end
size_past table asked count id n i more next t lt some own by past =
    let test : nat_lt (count * more) (2 ^ 32) ≡ false = grind (arith, nat_tests) in
    rw (one_fewer n i lt, some, own, by, test) refl

pub size_more : (table : Table) (asked count id n i more next : ℕ) (t : BtfType) → i < n → type_by_id table id ≡ Some t → own_size t ≡ None → sized_by t ≡ Some (more, next) → count * more < 2 ^ 32 → size_at_end (n - i) table asked count id ≡ size_at_end (n - (i + 1)) table asked (count * more) next
unfolding size_at_end
size_more table asked count id n i more next t lt some own by fits =
    let test : nat_lt (count * more) (2 ^ 32) ≡ true = grind (arith, nat_tests) in
    rw (one_fewer n i lt, some, own, by, test) refl
