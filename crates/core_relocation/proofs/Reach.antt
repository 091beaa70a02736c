-- The reach of type relocations is the least set that its definition asks for.
use Rattle.std.proofs.Common.{◌≡◌, ◌⊎◌, inl, inr, ◌==◌, ◌-◌, ◌&&◌, ◌||◌, ℕ, zero, suc, ◌+◌, ◌<◌, ◌≤◌, Bool, true, false, List, [], ◌∷◌, length, None, Some, Option, refl, sym, ap, subst, ◌∙◌, arith}
use Rattle.std.specs.Prelude.{All, IfSome, if◌then◌else◌, slice_get}
use Rattle.std.specs.List.{list_any}
use Rattle.std.specs.Option.{option_map_or}
use Rattle.std.proofs.lemmas.Bool.{cases_eq}
use Rattle.std.proofs.lemmas.Bool.Decides.{nat_tests}
use Rattle.std.proofs.lemmas.List.Elements.{All-cons, All-head, All-nil, All-tail}
use Rattle.btf_ext.specs.SectionInfos.{SectionInfo}
use Rattle.btf_ext.specs.declared.record.bpf_core_relo.{bpf_core_relo}
use Rattle.btf_records.specs.declared.types.BtfType.{BtfType}
use Rattle.btf_records.specs.declared.types.BtfType.TheVariants.{Unknown}
use Rattle.btf_tables.specs.Holdings.{held_ids}
use Rattle.btf_tables.specs.Tables.{Table, type_by_id}
use Rattle.core_relocation.specs.Reach.{IsReach, ReachIsLeast, any_below, holds_id, is_relocated_type, reach_of, reached_in}
use Rattle.core_relocation.specs.Relocations.{SectionInfos}
use Rattle.core_relocation.proofs.Below.{AreSame, and-both, and-true, any-at, any-of, any-same, few, many, more, or-again, or-left, or-right, or-true, same-at, same-each}

-- ---- The set after steps

module _ (table : Table) (section_infos : SectionInfos) where
  abbrev count : ℕ
  count = suc (length table.types)

  abbrev leads : ℕ → ℕ → Bool
  leads = holds_id table

  abbrev asked : ℕ → Bool
  asked = is_relocated_type section_infos

  abbrev after : ℕ → ℕ → Bool
  after n = reached_in n table section_infos

  stay : (n id : ℕ) → after n id ≡ true → after (suc n) id ≡ true
  stay n id is = or-left (after n id) _ is

  again : (n : ℕ) → AreSame count (after n) (after (suc n)) → (id : ℕ) → after (suc (suc n)) id ≡ after (suc n) id
  again n same id =
      ap (λ (b : Bool). after (suc n) id || b) (sym (any-same count (after n) (after (suc n)) (λ from. leads from id) same))
      ∙ or-again (after n id) (any_below count (λ from. after n from && leads from id))

  stops : (n : ℕ) → AreSame count (after n) (after (suc n)) ⊎ (n < many count (after (suc n)))
  stops zero = by (more count (after zero) (after 1) (stay zero)) where
    by : AreSame count (after zero) (after 1) ⊎ (many count (after zero) < many count (after 1)) → AreSame count (after zero) (after 1) ⊎ (zero < many count (after 1))
    by (inl same) = inl same
    by (inr lt) = inr (omega (arith, lt))
  stops (suc n) = by (stops n) (more count (after (suc n)) (after (suc (suc n))) (stay (suc n))) where
    by : AreSame count (after n) (after (suc n)) ⊎ (n < many count (after (suc n))) → AreSame count (after (suc n)) (after (suc (suc n))) ⊎ (many count (after (suc n)) < many count (after (suc (suc n))))
        → AreSame count (after (suc n)) (after (suc (suc n))) ⊎ (suc n < many count (after (suc (suc n))))
    by (inl same) rest = inl (same-each count (after (suc n)) (after (suc (suc n))) (λ k. sym (again n same k)))
    by (inr lt) (inl same) = inl same
    by (inr lt) (inr more-there) = inr (omega (arith, lt, more-there))

  stopped : AreSame count (after count) (after (suc count))
  stopped = by (stops count) where
    by : AreSame count (after count) (after (suc count)) ⊎ (count < many count (after (suc count))) → AreSame count (after count) (after (suc count))
    by (inl same) = same
    by (inr lt) = absurd (omega (arith, lt, few count (after (suc count))))

  -- The set after as many steps as there are numbers that lead to others, and one more, is closed.
  pub closed : (id next : ℕ) → id < count → after (suc count) id ≡ true → leads id next ≡ true → after (suc count) next ≡ true
  closed id next lt is leads-there =
      or-right (after count next) _
      (any-at count (λ from. after count from && leads from next) id lt
      (and-both (after count id) (leads id next) (same-at count (after count) (after (suc count)) stopped id lt ∙ is) leads-there))

  pub asked-stays : (n id : ℕ) → asked id ≡ true → after n id ≡ true
  asked-stays zero id is = is
  asked-stays (suc n) id is = stay n id (asked-stays n id is)

  -- The set lies within each closed set.
  pub least : (reached : ℕ → Bool) → ((id : ℕ) → asked id ≡ true → reached id ≡ true) → ((id next : ℕ) → reached id ≡ true → leads id next ≡ true → reached next ≡ true) → (n id : ℕ) → after n id ≡ true → reached id ≡ true
  least reached first closes zero id is = first id is
  least reached first closes (suc n) id is = by (or-true (after n id) _ is) (least reached first closes n) where
    by : (after n id ≡ true) ⊎ (any_below count (λ from. after n from && leads from id) ≡ true) → ((k : ℕ) → after n k ≡ true → reached k ≡ true) → reached id ≡ true
    by (inl here) rest = rest id here
    by (inr there) rest =
        let found = any-of count (λ from. after n from && leads from id) there in
        let parts = and-true (after n found.0) (leads found.0 id) found.1 in
        closes found.0 id (rest found.0 parts.0) parts.1

-- ---- The reach

-- A record of the table has an id within it.
within-types : (xs : List BtfType) (k : ℕ) (t : BtfType) → slice_get xs k ≡ Some t → k < length xs
within-types [] k t at = cc
within-types (x ∷ xs) zero t at = omega arith
within-types (x ∷ xs) (suc k) t at = let rest = within-types xs k t at in omega (arith, rest)

equals-itself : (n : ℕ) → (n == n) ≡ true
equals-itself n = grind (arith, nat_tests)

equal-numbers : (a b : ℕ) → (a == b) ≡ true → a ≡ b
equal-numbers a b is = grind (arith, nat_tests)

has-record : (table : Table) (id : ℕ) (t : BtfType) → type_by_id table id ≡ Some t → id < suc (length table.types)
has-record table id t at = by (id == 0) refl at where
  by : (b : Bool) → (id == 0) ≡ b → (if b then Some Unknown else slice_get table.types (id - 1)) ≡ Some t → id < suc (length table.types)
  by true is here = let e = equal-numbers id 0 is in omega (arith, e)
  by false is here = let rest = within-types table.types (id - 1) t here in omega (arith, rest)

-- Each member of a list has what every number has that the list has.
held-all : (reached : ℕ → Bool) (ids : List ℕ) → ((next : ℕ) → list_any (λ held. held == next) ids ≡ true → reached next ≡ true) → All (λ next. reached next ≡ true) ids
held-all reached [] has = All-nil (λ (next : ℕ). reached next ≡ true)
held-all reached (x ∷ ids) has =
    All-cons (λ (next : ℕ). reached next ≡ true) x ids (has x (or-left (x == x) (list_any (λ held. held == x) ids) (equals-itself x)))
    (held-all reached ids (λ next is. has next (or-right (x == next) (list_any (λ held. held == next) ids) is)))

held-one : (reached : ℕ → Bool) (ids : List ℕ) (next : ℕ) → All (λ id. reached id ≡ true) ids → list_any (λ held. held == next) ids ≡ true → reached next ≡ true
held-one reached [] next all is = cc
held-one reached (x ∷ ids) next all is = by (or-true (x == next) (list_any (λ held. held == next) ids) is) (held-one reached ids next (All-tail (λ (id : ℕ). reached id ≡ true) x ids all)) where
  by : ((x == next) ≡ true) ⊎ (list_any (λ held. held == next) ids ≡ true) → (list_any (λ held. held == next) ids ≡ true → reached next ≡ true) → reached next ≡ true
  by (inl here) rest = ap reached (sym (equal-numbers x next here)) ∙ All-head (λ (id : ℕ). reached id ≡ true) x ids all
  by (inr there) rest = rest there

records-all : (reached : ℕ → Bool) (rs : List bpf_core_relo) → ((id : ℕ) → list_any (λ r. r.type_id == id) rs ≡ true → reached id ≡ true) → All (λ r. reached r.type_id ≡ true) rs
records-all reached [] has = All-nil (λ (r : bpf_core_relo). reached r.type_id ≡ true)
records-all reached (r ∷ rs) has =
    All-cons (λ (r : bpf_core_relo). reached r.type_id ≡ true) r rs
    (has r.type_id (or-left (r.type_id == r.type_id) (list_any (λ r'. r'.type_id == r.type_id) rs) (equals-itself r.type_id)))
    (records-all reached rs (λ id is. has id (or-right (r.type_id == id) (list_any (λ r'. r'.type_id == id) rs) is)))

records-one : (reached : ℕ → Bool) (rs : List bpf_core_relo) (id : ℕ) → All (λ r. reached r.type_id ≡ true) rs → list_any (λ r. r.type_id == id) rs ≡ true → reached id ≡ true
records-one reached [] id all is = cc
records-one reached (r ∷ rs) id all is = by (or-true (r.type_id == id) (list_any (λ r'. r'.type_id == id) rs) is) (records-one reached rs id (All-tail (λ (r : bpf_core_relo). reached r.type_id ≡ true) r rs all)) where
  by : ((r.type_id == id) ≡ true) ⊎ (list_any (λ r'. r'.type_id == id) rs ≡ true) → (list_any (λ r'. r'.type_id == id) rs ≡ true → reached id ≡ true) → reached id ≡ true
  by (inl here) rest = ap reached (sym (equal-numbers r.type_id id here)) ∙ All-head (λ (r : bpf_core_relo). reached r.type_id ≡ true) r rs all
  by (inr there) rest = rest there

-- The types of a section info's relocations are in a set.
abbrev HasTypes : (ℕ → Bool) → SectionInfo bpf_core_relo → Type 0
HasTypes reached x = All (λ r. reached r.type_id ≡ true) x.records

types-all : (reached : ℕ → Bool) (xs : SectionInfos) → ((id : ℕ) → is_relocated_type xs id ≡ true → reached id ≡ true) → All (HasTypes reached) xs
types-all reached [] has = All-nil (HasTypes reached)
types-all reached (x ∷ xs) has =
    All-cons (HasTypes reached) x xs
    (records-all reached x.records (λ id is. has id (or-left (list_any (λ r. r.type_id == id) x.records) (is_relocated_type xs id) is)))
    (types-all reached xs (λ id is. has id (or-right (list_any (λ r. r.type_id == id) x.records) (is_relocated_type xs id) is)))

types-one : (reached : ℕ → Bool) (xs : SectionInfos) (id : ℕ) → All (HasTypes reached) xs → is_relocated_type xs id ≡ true → reached id ≡ true
types-one reached [] id all is = cc
types-one reached (x ∷ xs) id all is = by (or-true (list_any (λ r. r.type_id == id) x.records) (is_relocated_type xs id) is) (types-one reached xs id (All-tail (HasTypes reached) x xs all)) where
  by : (list_any (λ r. r.type_id == id) x.records ≡ true) ⊎ (is_relocated_type xs id ≡ true) → (is_relocated_type xs id ≡ true → reached id ≡ true) → reached id ≡ true
  by (inl here) rest = records-one reached x.records id (All-head (HasTypes reached) x xs all) here
  by (inr there) rest = rest there

leads-by : (table : Table) (id next : ℕ) (t : BtfType) → type_by_id table id ≡ Some t → list_any (λ held. held == next) (held_ids t) ≡ true → holds_id table id next ≡ true
leads-by table id next t at is = ap (λ (o : Option BtfType). option_map_or (λ r. list_any (λ held. held == next) (held_ids r)) o false) at ∙ is

reach-closed : (table : Table) (section_infos : SectionInfos) (id : ℕ) → reach_of table section_infos id ≡ true → IfSome (type_by_id table id) (λ t. All (λ next. reach_of table section_infos next ≡ true) (held_ids t))
unfolding reach_of
reach-closed table section_infos id here = by (type_by_id table id) refl where
  by : (o : Option BtfType) → type_by_id table id ≡ o → IfSome o (λ t. All (λ next. reached_in (suc (suc (length table.types))) table section_infos next ≡ true) (held_ids t))
  by None at = tt
  by (Some t) at =
      held-all (reached_in (suc (suc (length table.types))) table section_infos) (held_ids t)
      (λ next is. closed table section_infos id next (has-record table id t at) here (leads-by table id next t at is))

closes-by : (reached : ℕ → Bool) (table : Table) (id next : ℕ) (o : Option BtfType) → IfSome o (λ t. All (λ held. reached held ≡ true) (held_ids t)) → option_map_or (λ t. list_any (λ held. held == next) (held_ids t)) o false ≡ true → reached next ≡ true
closes-by reached table id next None all is = cc
closes-by reached table id next (Some t) all is = held-one reached (held_ids t) next all is

reach-types : (table : Table) (section_infos : SectionInfos) → All (λ x. All (λ r. reach_of table section_infos r.type_id ≡ true) x.records) section_infos
unfolding reach_of
reach-types table section_infos =
    types-all (reached_in (suc (suc (length table.types))) table section_infos) section_infos
    (asked-stays table section_infos (suc (suc (length table.types))))

reach-least : (reached : ℕ → Bool) (table : Table) (section_infos : SectionInfos) → IsReach reached table section_infos → (id : ℕ) → reach_of table section_infos id ≡ true → reached id ≡ true
unfolding reach_of
reach-least reached table section_infos is id here =
    least table section_infos reached (λ k. types-one reached section_infos k is.types)
    (λ k next member. closes-by reached table k next (type_by_id table k) (is.closed k member)) (suc (suc (length table.types))) id here

pub reach_is_reach : (table : Table) (section_infos : SectionInfos) → IsReach (reach_of table section_infos) table section_infos
reach_is_reach table section_infos = record { types = reach-types table section_infos; closed = reach-closed table section_infos }

pub reach_is_least : ReachIsLeast
reach_is_least = record { is_reach = reach_is_reach; least = reach-least }
