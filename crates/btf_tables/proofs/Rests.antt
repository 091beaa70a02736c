-- Chains and walks depend only on the records that they reach.
use Rattle.std.proofs.Common.{◌≡◌, ℕ, zero, suc, ◌*◌, ◌^◌, Bool, true, [], ◌∷◌, Option, None, Some, Result, Ok, Err, refl, sym, ap, arith, nat_lt, List, ◌∙◌}
use Rattle.std.specs.Prelude.{All, IfOk, IfSome, if◌then◌else◌}
use Rattle.std.specs.Option.{IsSomeAnd, option_map, option_map_or, option_to_list}
use Rattle.btf_tables.specs.Agreement.{AgreeOn, IsReached, RestsOn, chain_ids, size_ids}
use Rattle.btf_tables.specs.ResolvedTypes.{IsEnd, IsEndOver, chain_end, end_from, max_depth, modified_type, resolved_type}
use Rattle.btf_tables.specs.TypeSizes.{in_32_bits, own_size, size_at_end, size_after, size_from, sized_by, type_size, type_size_in_32_bits}
use Rattle.btf_tables.specs.Tables.{Table, type_by_id}
use Rattle.btf_records.specs.declared.error.BtfError.{BtfError}
use Rattle.btf_records.specs.declared.error.BtfError.TheVariants.{InvalidTypeInfo}
use Rattle.btf_records.specs.declared.types.BtfType.{BtfType}

one_of : {X : Type 0} (P : X → Type 0) (x : X) → All P (x ∷ []) → P x
one_of P x all = all 0 x (omega arith)

-- Two continuations have the same result for each reached id.
pub record Alike {A : Type 0} (reached : ℕ → Bool) (go other : ℕ → A) : Type 0 where
  pub alike : (id : ℕ) → reached id ≡ true → other id ≡ go id

go_same : {A : Type 0} (reached : ℕ → Bool) (go other : ℕ → A) (next : Option ℕ) (end : A) → Alike reached go other → All (λ id. reached id ≡ true) (option_to_list next) → option_map_or other next end ≡ option_map_or go next end
go_same reached go other None end same all = refl
go_same reached go other (Some next) end same all = same.alike next (one_of (λ id. reached id ≡ true) next all)

end_same : (reached : ℕ → Bool) (go other : ℕ → Result ℕ BtfError) (id : ℕ) (t : Option BtfType) → Alike reached go other → IfSome t (λ t. All (λ next. reached next ≡ true) (chain_ids t)) → end_from other id t ≡ end_from go id t
end_same reached go other id None same closed = refl
end_same reached go other id (Some t) same closed = go_same reached go other (modified_type t) (Ok id) same closed

pub chain_same : (reached : ℕ → Bool) (one other : Table) → AgreeOn chain_ids reached one other → (n asked id : ℕ) → reached id ≡ true → chain_end n other asked id ≡ chain_end n one asked id
unfolding chain_end
chain_same reached one other agree zero asked id here = refl
chain_same reached one other agree (suc n) asked id here =
    rw (agree.same id here) (end_same reached (chain_end n one asked) (chain_end n other asked) id (type_by_id one id) (record { alike = λ next. chain_same reached one other agree n asked next }) (agree.closed id here))

pub resolved_rests : (table : Table) (id : ℕ) → RestsOn chain_ids table id (λ t. resolved_type t id)
resolved_rests table id = record { alike = λ reached other agree. chain_same reached table other agree max_depth id id }

-- Two continuations of walks, which carry a count, have the same result for each reached id.
pub record AlikeCounting (reached : ℕ → Bool) (go other : ℕ → ℕ → Result ℕ BtfError) : Type 0 where
  pub alike : (count id : ℕ) → reached id ≡ true → other count id ≡ go count id

after_same : (reached : ℕ → Bool) (go other : ℕ → ℕ → Result ℕ BtfError) (count id : ℕ) (by : Option (ℕ × ℕ)) → AlikeCounting reached go other → All (λ next. reached next ≡ true) (option_to_list (option_map (λ b. b.1) by)) → size_after other count id by ≡ size_after go count id by
after_same reached go other count id None same all = refl
after_same reached go other count id (Some by) same all =
    ap (λ (r : Result ℕ BtfError). if nat_lt (count * by.0) (2 ^ 32) then r else Err InvalidTypeInfo) (same.alike (count * by.0) by.1 (one_of (λ next. reached next ≡ true) by.1 all))

own_same : (own : Option ℕ) (count : ℕ) (one other : Result ℕ BtfError) → other ≡ one → option_map_or (λ size. Ok (count * size)) own other ≡ option_map_or (λ size. Ok (count * size)) own one
own_same own count one other e = rw e refl

size_same : (reached : ℕ → Bool) (go other : ℕ → ℕ → Result ℕ BtfError) (count id : ℕ) (t : Option BtfType) → AlikeCounting reached go other → IfSome t (λ t. All (λ next. reached next ≡ true) (size_ids t)) → size_from other count id t ≡ size_from go count id t
size_same reached go other count id None same closed = refl
size_same reached go other count id (Some t) same closed = own_same (own_size t) count _ _ (after_same reached go other count id (sized_by t) same closed)

pub walk_same : (reached : ℕ → Bool) (one other : Table) → AgreeOn size_ids reached one other → (n asked count id : ℕ) → reached id ≡ true → size_at_end n other asked count id ≡ size_at_end n one asked count id
unfolding size_at_end
walk_same reached one other agree zero asked count id here = refl
walk_same reached one other agree (suc n) asked count id here =
    rw (agree.same id here) (size_same reached (size_at_end n one asked) (size_at_end n other asked) count id (type_by_id one id) (record { alike = λ more next. walk_same reached one other agree n asked more next }) (agree.closed id here))

pub sized_rests : (table : Table) (id : ℕ) → RestsOn size_ids table id (λ t. type_size t id)
sized_rests table id = record { alike = λ reached other agree. walk_same reached table other agree max_depth id 1 id }

pub sized_in_32_bits_rests : (table : Table) (id : ℕ) → RestsOn size_ids table id (λ t. type_size_in_32_bits t id)
sized_in_32_bits_rests table id = record { alike = λ reached other agree here. ap in_32_bits ((sized_rests table id).alike reached other agree here) }

next_reached : (reached : ℕ → Bool) (next : ℕ) (t : Option BtfType) → IfSome t (λ t. All (λ id. reached id ≡ true) (chain_ids t)) → IsSomeAnd t (λ t. modified_type t ≡ Some next) → reached next ≡ true
next_reached reached next None closed is = absurd is
next_reached reached next (Some t) closed is = one_of (λ id. reached id ≡ true) next (rw is at closed)

-- If the beginning of a chain is reached, so is its end.
over_reached : (reached : ℕ → Bool) (one other : Table) → AgreeOn chain_ids reached one other → (id : ℕ) (others : List ℕ) (end : ℕ) → IsEndOver one id others end → reached id ≡ true → reached end ≡ true
over_reached reached one other agree id [] end over here = ap reached (sym over.0) ∙ here
over_reached reached one other agree id (next ∷ others) end over here =
    over_reached reached one other agree next others end over.1 (next_reached reached next (type_by_id one id) (agree.closed id here) over.0)

pub end_reached : (table : Table) (id : ℕ) (r : Result ℕ BtfError) → IfOk r (λ end. IsEnd table id end) → IfOk r (λ end. IsReached chain_ids table id end)
end_reached table id (Err e) is = tt
end_reached table id (Ok end) is = record { reached = λ reached other agree here. over_reached reached table other agree id is.0 end is.2 here }
