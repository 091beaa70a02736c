-- A limit on the open structs and unions changes no result if it is at least the number of ids that
-- aren't open.
use Rattle.std.proofs.Common.{◌≡◌, ℕ, zero, suc, ◌-◌, ◌<◌, ◌≤◌, Bool, true, false, List, [], ◌∷◌, ◌++◌, length, None, Some, Ok, Err, Option, Result, refl, sym, ap, ◌∙◌, arith}
use Rattle.std.proofs.lemmas.Grind.{common_steps}
use Rattle.std.proofs.lemmas.Option.{slice_get_within}
use Rattle.std.specs.Prelude.{◌==◌, slice_get, if◌then◌else◌}
use Rattle.core_spec.specs.Lookups.{and_then, found_text, found_type, with_found, with_type}
use Rattle.core_spec.specs.declared.error.AccessError.{AccessError}
use Rattle.core_spec.specs.declared.error.AccessError.TheVariants.{MaximumNestingLevelReached}
use Rattle.btf_compatibility.specs.FieldCompatibility.{fields_compatible}
use Rattle.btf_records.specs.Fields.{members_of}
use Rattle.btf_records.specs.declared.error.BtfError.{BtfError}
use Rattle.btf_records.specs.declared.item.BtfMember.{BtfMember}
use Rattle.btf_records.specs.declared.types.BtfType.{BtfType}
use Rattle.btf_records.specs.declared.types.BtfType.TheVariants as types
use Rattle.btf_tables.specs.ResolvedTypes.{resolved_type}
use Rattle.btf_tables.specs.Tables.{Table, type_by_id}
use Rattle.string_table.specs.Texts.{text_at}
use Rattle.core_match.specs.EmptyTypes.{free}
use Rattle.core_match.specs.Laws.{NestingNeverDecides}
use Rattle.core_match.specs.Looks.{Search, is_composite, look_at, look_at_named, look_by_name}
use Rattle.core_match.specs.Searches.{by_look, found_in, is_among, member_found, found_here, members_found, most_open}
use Rattle.core_match.specs.declared.look.Look.{Look}
use Rattle.core_match.specs.declared.look.Look.TheVariants.{Next, Match, Descend, Mismatch}
use Rattle.core_match.specs.declared.search.FoundMember.{FoundMember}
use Rattle.core_match.proofs.Free.{free-none, free-push}

-- The table has a record of this id.
pub record IsKnown (target : Table) (id : ℕ) : Type 0 where
  pub found : BtfType
  pub is : type_by_id target id ≡ Some found

within : (types : List BtfType) (b : Bool) (id : ℕ) (t u : BtfType) → (b ≡ true → id ≡ 0) → (if b then Some u else slice_get types (id - 1)) ≡ Some t → id < suc (length types)
within types true id t u zero_id h = let e = zero_id refl in omega arith
within types false id t u zero_id h = let e = slice_get_within types (id - 1) t h in omega arith

pub known-below : (target : Table) (id : ℕ) → IsKnown target id → id < most_open target
known-below target id h = within target.types (id == 0) id h.found types.Unknown (λ e. grind (arith, common_steps)) h.is

-- ---- A look descends only into types that exist

-- A look that descends does so into a type with a record.
abbrev pub DescendsToKnown : Table → Result Look AccessError → Type 0
DescendsToKnown target r = (id : ℕ) → r ≡ Ok (Descend id) → IsKnown target id

abbrev either_look : Bool → Look → Look → Result Look AccessError
either_look b x y = if b then Ok x else Ok y

by_kind : (target : Table) (id inner : ℕ) (t : BtfType) (b : Bool) → type_by_id target id ≡ Some t → either_look b (Descend id) Next ≡ Ok (Descend inner) → IsKnown target inner
by_kind target id inner t true known e = let same : id ≡ inner = cc in record { found = t; is = rw same at known }
by_kind target id inner t false known e = absurd cc

by_type : (target : Table) (id inner : ℕ) (o : Option BtfType) → type_by_id target id ≡ o → with_found {T = BtfType} {U = Look} (found_type target id o) (λ t. if is_composite t then Ok (Descend id) else Ok Next) ≡ Ok (Descend inner) → IsKnown target inner
by_type target id inner None known e = absurd cc
by_type target id inner (Some t) known e = by_kind target id inner t (is_composite t) known e

by_end : (target : Table) (inner : ℕ) (r : Result ℕ BtfError) → with_found {T = ℕ} {U = Look} r (λ id. with_type target id (λ t. if is_composite t then Ok (Descend id) else Ok Next)) ≡ Ok (Descend inner) → IsKnown target inner
by_end target inner (Err f) e = absurd cc
by_end target inner (Ok id) e = by_type target id inner (type_by_id target id) refl e

compared : (inner : ℕ) (b : Bool) → either_look b Match Mismatch ≡ Ok (Descend inner) → ⊥
compared inner true e = absurd cc
compared inner false e = absurd cc

by_comparison : (inner : ℕ) (r : Result Bool BtfError) → with_found {T = Bool} {U = Look} r (λ yes. if yes then Ok Match else Ok Mismatch) ≡ Ok (Descend inner) → ⊥
by_comparison inner (Err f) e = absurd cc
by_comparison inner (Ok is) e = compared inner is e

by_same_name : (search : Search) (m : BtfMember) (inner : ℕ) (b : Bool) → (if b then look_at_named search.local search.type_id search.target m else Ok Next) ≡ Ok (Descend inner) → IsKnown search.target inner
by_same_name search m inner true e = absurd (by_comparison inner (fields_compatible search.local search.type_id search.target m.btf_type) e)
by_same_name search m inner false e = absurd cc

by_name : (search : Search) (m : BtfMember) (inner : ℕ) (name : List ℕ) → look_by_name search m name ≡ Ok (Descend inner) → IsKnown search.target inner
by_name search m inner [] e = by_end search.target inner (resolved_type search.target m.btf_type) e
by_name search m inner (b ∷ bs) e = by_same_name search m inner _ e

by_text : (search : Search) (m : BtfMember) (inner : ℕ) (o : Option (List ℕ)) → with_found {T = List ℕ} {U = Look} (found_text m.name_offset o) (look_by_name search m) ≡ Ok (Descend inner) → IsKnown search.target inner
by_text search m inner None e = absurd cc
by_text search m inner (Some text) e = by_name search m inner text e

pub descends-to-known : (search : Search) (m : BtfMember) → DescendsToKnown search.target (look_at search m)
descends-to-known search m = λ inner e. by_text search m inner (text_at search.target.strings m.name_offset) e

-- ---- Inner searches with equal results

same-look : (go go' : ℕ → Option ℕ → Result (Option FoundMember) AccessError) (target : Table) (here : FoundMember) (next next' : Result (Option FoundMember) AccessError) (r : Result Look AccessError) → DescendsToKnown target r → next ≡ next' → ((id : ℕ) → IsKnown target id → (bits : Option ℕ) → go id bits ≡ go' id bits)
    → and_then r (by_look go here next) ≡ and_then r (by_look go' here next')
same-look go go' target here next next' (Err e) inside same h = refl
same-look go go' target here next next' (Ok Next) inside same h = same
same-look go go' target here next next' (Ok Mismatch) inside same h = refl
same-look go go' target here next next' (Ok Match) inside same h = refl
same-look go go' target here next next' (Ok (Descend id)) inside same h = rw (h id (inside id refl) here.bits, same) refl

pub same-members : (go go' : ℕ → Option ℕ → Result (Option FoundMember) AccessError) (search : Search) (id : ℕ) (t : BtfType) (depth : ℕ) (bits : Option ℕ) (index : ℕ) (ms : List BtfMember) → ((id : ℕ) → IsKnown search.target id → (bits : Option ℕ) → go id bits ≡ go' id bits)
    → members_found go search id t depth bits index ms ≡ members_found go' search id t depth bits index ms
unfolding members_found
same-members go go' search id t depth bits index [] h = refl
same-members go go' search id t depth bits index (m ∷ ms) h =
    same-look go go' search.target (found_here id t depth bits index m) _ _ (look_at search m) (descends-to-known search m) (same-members go go' search id t depth bits (suc index) ms h) h

same-type : (search : Search) (id : ℕ) (o : Option BtfType) (ask ask' : BtfType → Result (Option FoundMember) AccessError) → ((t : BtfType) → ask t ≡ ask' t) → with_found (found_type search.target id o) ask ≡ with_found (found_type search.target id o) ask'
same-type search id None ask ask' h = refl
same-type search id (Some t) ask ask' h = h t

-- If the inner searches of two limits agree, so do the searches of the limits that are one greater.
same-round : (n m : ℕ) (search : Search) (open_ids : List ℕ) (id : ℕ) (bits : Option ℕ) → ((k : ℕ) → IsKnown search.target k → (b : Option ℕ) → found_in n search (open_ids ++ id ∷ []) k b ≡ found_in m search (open_ids ++ id ∷ []) k b)
    → found_in (suc n) search open_ids id bits ≡ found_in (suc m) search open_ids id bits
unfolding found_in
same-round n m search open_ids id bits h =
    ap (λ (r : Result (Option FoundMember) AccessError). if is_among open_ids id then Err MaximumNestingLevelReached else r)
    (same-type search id (type_by_id search.target id) _ _ (λ t. same-members _ _ search id t (length (open_ids ++ id ∷ [])) bits 0 (members_of t) h))

pub met-again : (n : ℕ) (search : Search) (open_ids : List ℕ) (id : ℕ) (bits : Option ℕ) → is_among open_ids id ≡ true → found_in n search open_ids id bits ≡ Err MaximumNestingLevelReached
unfolding found_in
met-again zero search open_ids id bits is = refl
met-again (suc n) search open_ids id bits is = rw is refl

count-by : (n m : ℕ) (search : Search) (open_ids : List ℕ) (id : ℕ) (bits : Option ℕ) (b : Bool) → is_among open_ids id ≡ b → IsKnown search.target id → free (most_open search.target) open_ids ≤ n → free (most_open search.target) open_ids ≤ m → found_in n search open_ids id bits ≡ found_in m search open_ids id bits
count-by n m search open_ids id bits true e known left right = met-again n search open_ids id bits e ∙ sym (met-again m search open_ids id bits e)
count-by zero m search open_ids id bits false e known left right = absurd (omega (arith, free-push (most_open search.target) open_ids id (known-below search.target id known) e))
count-by (suc n) zero search open_ids id bits false e known left right = absurd (omega (arith, free-push (most_open search.target) open_ids id (known-below search.target id known) e))
count-by (suc n) (suc m) search open_ids id bits false e known left right =
    let fewer = free-push (most_open search.target) open_ids id (known-below search.target id known) e in
    same-round n m search open_ids id bits (λ k inner b. count-by n m search (open_ids ++ id ∷ []) k b (is_among (open_ids ++ id ∷ []) k) refl inner (omega arith) (omega arith))

pub same-count : (n m : ℕ) (search : Search) (open_ids : List ℕ) (id : ℕ) (bits : Option ℕ) → IsKnown search.target id → free (most_open search.target) open_ids ≤ n → free (most_open search.target) open_ids ≤ m → found_in n search open_ids id bits ≡ found_in m search open_ids id bits
same-count n m search open_ids id bits known left right = count-by n m search open_ids id bits (is_among open_ids id) refl known left right

at_root : (n m : ℕ) (search : Search) (root : ℕ) (bits : Option ℕ) (o : Option BtfType) → type_by_id search.target root ≡ o → most_open search.target ≤ suc n → most_open search.target ≤ suc m → found_in (suc n) search [] root bits ≡ found_in (suc m) search [] root bits
unfolding found_in
at_root n m search root bits None known left right = rw known refl
at_root n m search root bits (Some t) known left right =
    let none = free-none (most_open search.target) in
    same-count (suc n) (suc m) search [] root bits (record { found = t; is = known }) (omega arith) (omega arith)

with_suc : (n : ℕ) (search : Search) (root : ℕ) (bits : Option ℕ) → most_open search.target ≤ n → found_in n search [] root bits ≡ member_found search root bits
with_suc zero search root bits le = absurd (omega arith)
with_suc (suc n) search root bits le = at_root n (length search.target.types) search root bits (type_by_id search.target root) refl le (omega arith)

pub never_decides : NestingNeverDecides
never_decides = record { same = λ search root bits n le. with_suc n search root bits le }
