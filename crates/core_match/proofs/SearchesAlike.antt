-- Searches from local tables that agree on the reached types.
use Rattle.std.proofs.Common.{◌≡◌, ℕ, zero, suc, Bool, List, [], ◌∷◌, ◌++◌, length, None, Some, Ok, Err, Option, Result, refl, ap, ◌∙◌}
use Rattle.std.specs.Prelude.{if◌then◌else◌, nat_eq}
use Rattle.std.specs.Cmp.Lexicographic.{pointwise}
use Rattle.core_spec.specs.Lookups.{and_then, found_text, found_type, with_found}
use Rattle.core_spec.specs.declared.error.AccessError.{AccessError}
use Rattle.core_spec.specs.declared.error.AccessError.TheVariants.{MaximumNestingLevelReached}
use Rattle.btf_compatibility.specs.FieldCompatibility.{fields_compatible}
use Rattle.btf_compatibility.specs.Laws.{ComparisonsRest}
use Rattle.btf_records.specs.Fields.{members_of}
use Rattle.btf_records.specs.declared.error.BtfError.{BtfError}
use Rattle.btf_records.specs.declared.item.BtfMember.{BtfMember}
use Rattle.btf_records.specs.declared.types.BtfType.{BtfType}
use Rattle.btf_tables.specs.Tables.{Table, type_by_id}
use Rattle.string_table.specs.Texts.{text_at}
use Rattle.core_match.specs.Laws.{SearchesRest}
use Rattle.core_match.specs.Looks.{Search, look_at, look_at_named, look_by_name, searched}
use Rattle.core_match.specs.Searches.{by_look, found_in, is_among, found_here, members_found, most_open}
use Rattle.core_match.specs.declared.look.Look.{Look}
use Rattle.core_match.specs.declared.look.Look.TheVariants.{Next, Match, Descend, Mismatch}
use Rattle.core_match.specs.declared.search.FoundMember.{FoundMember}

type-same : (local : Table) (l : ℕ) (here : Table) (k : ℕ) (target : Table) (m : BtfMember) → ((r : ℕ) → fields_compatible here k target r ≡ fields_compatible local l target r) → look_at_named here k target m ≡ look_at_named local l target m
type-same local l here k target m h = ap (λ (r : Result Bool BtfError). with_found {T = Bool} {U = Look} r (λ yes. if yes then Ok Match else Ok Mismatch)) (h m.btf_type)

name-same : (local : Table) (l : ℕ) (here : Table) (k : ℕ) (name : List ℕ) (target : Table) (m : BtfMember) → ((r : ℕ) → fields_compatible here k target r ≡ fields_compatible local l target r) → (text : List ℕ) → look_by_name (searched here k name target) m text ≡ look_by_name (searched local l name target) m text
name-same local l here k name target m h [] = refl
name-same local l here k name target m h (b ∷ bs) = ap (λ (r : Result Look AccessError). if pointwise nat_eq (b ∷ bs) name then r else Ok Next) (type-same local l here k target m h)

text-same : (o : Option (List ℕ)) (offset : ℕ) (go go' : List ℕ → Result Look AccessError) → ((text : List ℕ) → go' text ≡ go text) → with_found (found_text offset o) go' ≡ with_found (found_text offset o) go
text-same None offset go go' h = refl
text-same (Some text) offset go go' h = h text

look-same : (local : Table) (l : ℕ) (here : Table) (k : ℕ) (name : List ℕ) (target : Table) (m : BtfMember) → ((r : ℕ) → fields_compatible here k target r ≡ fields_compatible local l target r) → look_at (searched here k name target) m ≡ look_at (searched local l name target) m
look-same local l here k name target m h = text-same (text_at target.strings m.name_offset) m.name_offset _ _ (λ text. name-same local l here k name target m h text)

after-look : (go go' : ℕ → Option ℕ → Result (Option FoundMember) AccessError) (here : FoundMember) (next next' : Result (Option FoundMember) AccessError) (r : Result Look AccessError) → next' ≡ next → ((id : ℕ) (b : Option ℕ) → go' id b ≡ go id b) → and_then r (by_look go' here next') ≡ and_then r (by_look go here next)
after-look go go' here next next' (Err e) same h = refl
after-look go go' here next next' (Ok Next) same h = same
after-look go go' here next next' (Ok Mismatch) same h = refl
after-look go go' here next next' (Ok Match) same h = refl
after-look go go' here next next' (Ok (Descend id)) same h = rw (h id here.bits, same) refl

members-same : (go go' : ℕ → Option ℕ → Result (Option FoundMember) AccessError) (search search' : Search) → ((m : BtfMember) → look_at search' m ≡ look_at search m) → ((id : ℕ) (b : Option ℕ) → go' id b ≡ go id b) → (id : ℕ) (t : BtfType) (depth : ℕ) (bits : Option ℕ) (index : ℕ) (ms : List BtfMember)
    → members_found go' search' id t depth bits index ms ≡ members_found go search id t depth bits index ms
unfolding members_found
members-same go go' search search' looks h id t depth bits index [] = refl
members-same go go' search search' looks h id t depth bits index (m ∷ ms) =
    ap (λ (r : Result Look AccessError). and_then r (by_look go' (found_here id t depth bits index m) (members_found go' search' id t depth bits (suc index) ms))) (looks m)
    ∙ after-look go go' (found_here id t depth bits index m) _ _ (look_at search m) (members-same go go' search search' looks h id t depth bits (suc index) ms) h

record-same : (id : ℕ) (target : Table) (o : Option BtfType) (ask ask' : BtfType → Result (Option FoundMember) AccessError) → ((t : BtfType) → ask' t ≡ ask t) → with_found (found_type target id o) ask' ≡ with_found (found_type target id o) ask
record-same id target None ask ask' h = refl
record-same id target (Some t) ask ask' h = h t

in-same : (local : Table) (l : ℕ) (here : Table) (k : ℕ) (name : List ℕ) (target : Table) → ((r : ℕ) → fields_compatible here k target r ≡ fields_compatible local l target r) → (n : ℕ) (open_ids : List ℕ) (id : ℕ) (bits : Option ℕ)
    → found_in n (searched here k name target) open_ids id bits ≡ found_in n (searched local l name target) open_ids id bits
unfolding found_in
in-same local l here k name target h zero open_ids id bits = refl
in-same local l here k name target h (suc n) open_ids id bits =
    ap (λ (r : Result (Option FoundMember) AccessError). if is_among open_ids id then Err MaximumNestingLevelReached else r)
    (record-same id target (type_by_id target id) _ _
    (λ t. members-same _ _ (searched local l name target) (searched here k name target) (λ m. look-same local l here k name target m h) (λ inner b. in-same local l here k name target h n (open_ids ++ id ∷ []) inner b) id t (length (open_ids ++ id ∷ [])) bits 0 (members_of t)))

pub searches_rest : ComparisonsRest → SearchesRest
searches_rest laws = record {
  same = λ reached one other alike id here name target root bits.
      in-same one id other id name target (λ r. laws.fields reached one other alike.records alike.texts id here target r) (most_open target) [] root bits;
}
