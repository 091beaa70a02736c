-- Look-ups of reached types in tables that agree.
use Rattle.std.proofs.Common.{◌≡◌, ℕ, zero, suc, ◌*◌, Bool, true, List, None, Some, Ok, Err, Option, Result, refl, ap, subst, ◌∙◌}
use Rattle.std.specs.Prelude.{All, IfSome, nat_lt, if◌then◌else◌, ◌^◌}
use Rattle.std.specs.Option.{option_map_or}
use Rattle.core_spec.specs.Laws.{AreAlike, LookupsRest}
use Rattle.core_spec.specs.Lookups.{and_then, found_text, found_type, with_found, with_text, with_type}
use Rattle.core_spec.specs.declared.error.AccessError.{AccessError}
use Rattle.btf_records.specs.declared.error.BtfError.{BtfError}
use Rattle.btf_records.specs.declared.error.BtfError.TheVariants.{InvalidTypeInfo}
use Rattle.btf_records.specs.declared.types.BtfType.{BtfType}
use Rattle.btf_tables.specs.Holdings.{held_ids, held_names}
use Rattle.btf_tables.specs.ResolvedTypes.{chain_end, end_from, max_depth, modified_type}
use Rattle.btf_tables.specs.Tables.{Table, type_by_id}
use Rattle.btf_tables.specs.TypeSizes.{in_32_bits, own_size, size_at_end, size_after, size_from, sized_by}
use Rattle.string_table.specs.Texts.{text_at}
use Rattle.core_spec.proofs.Held.{AreReached, member-name, member-reached, modified-reached, own-name, sized-reached, variant-name}

-- ---- The contents of reached records

some_of : (P : BtfType → Type 0) (o : Option BtfType) (t : BtfType) → o ≡ Some t → IfSome o P → P t
some_of P None t e h = absurd cc
some_of P (Some u) t e h = let same : u ≡ t = cc in subst P same h

pub ids-reached : (reached : ℕ → Bool) (one other : Table) → AreAlike reached one other → (id : ℕ) (t : BtfType) → reached id ≡ true → type_by_id one id ≡ Some t → AreReached reached (held_ids t)
ids-reached reached one other alike id t here known = some_of (λ (u : BtfType). AreReached reached (held_ids u)) (type_by_id one id) t known (alike.records.closed id here)

pub names-alike : (reached : ℕ → Bool) (one other : Table) → AreAlike reached one other → (id : ℕ) (t : BtfType) → reached id ≡ true → type_by_id one id ≡ Some t → All (λ offset. text_at other.strings offset ≡ text_at one.strings offset) (held_names t)
names-alike reached one other alike id t here known = some_of (λ (u : BtfType). All (λ offset. text_at other.strings offset ≡ text_at one.strings offset) (held_names u)) (type_by_id one id) t known (alike.texts.same id here)

-- ---- Results of look-ups

pub found-same : {T U : Type 0} (r r' : Result T BtfError) (go go' : T → Result U AccessError) → r' ≡ r → ((x : T) → r ≡ Ok x → go' x ≡ go x) → with_found r' go' ≡ with_found r go
found-same {T} {U} r r' go go' e h = ap (λ (s : Result T BtfError). with_found s go') e ∙ by r refl where
  by : (s : Result T BtfError) → r ≡ s → with_found s go' ≡ with_found s go
  by (Ok x) is = h x is
  by (Err f) is = refl

pub then-same : {T U : Type 0} (r r' : Result T AccessError) (go go' : T → Result U AccessError) → r' ≡ r → ((x : T) → r ≡ Ok x → go' x ≡ go x) → and_then r' go' ≡ and_then r go
then-same {T} {U} r r' go go' e h = ap (λ (s : Result T AccessError). and_then s go') e ∙ by r refl where
  by : (s : Result T AccessError) → r ≡ s → and_then s go' ≡ and_then s go
  by (Ok x) is = h x is
  by (Err f) is = refl

found_type-same : (one other : Table) (id : ℕ) (o : Option BtfType) → found_type other id o ≡ found_type one id o
found_type-same one other id None = refl
found_type-same one other id (Some t) = refl

type_found : (one : Table) (id : ℕ) (o : Option BtfType) (t : BtfType) → found_type one id o ≡ Ok t → o ≡ Some t
type_found one id None t e = absurd cc
type_found one id (Some u) t e = let same : u ≡ t = cc in ap (λ (x : BtfType). Some x) same

pub type-same : {U : Type 0} (one other : Table) (id : ℕ) (go go' : BtfType → Result U AccessError) → type_by_id other id ≡ type_by_id one id → ((t : BtfType) → type_by_id one id ≡ Some t → go' t ≡ go t) → with_type other id go' ≡ with_type one id go
type-same one other id go go' e h =
    found-same (found_type one id (type_by_id one id)) (found_type other id (type_by_id other id)) go go' (ap (found_type other id) e ∙ found_type-same one other id (type_by_id one id))
    (λ t is. h t (type_found one id (type_by_id one id) t is))

text_found : (offset : ℕ) (o : Option (List ℕ)) (text : List ℕ) → found_text offset o ≡ Ok text → o ≡ Some text
text_found offset None text e = absurd cc
text_found offset (Some u) text e = let same : u ≡ text = cc in ap (λ (x : List ℕ). Some x) same

pub text-same : {U : Type 0} (one other : Table) (offset : ℕ) (go go' : List ℕ → Result U AccessError) → text_at other.strings offset ≡ text_at one.strings offset → ((text : List ℕ) → go' text ≡ go text) → with_text other offset go' ≡ with_text one offset go
text-same one other offset go go' e h = found-same (found_text offset (text_at one.strings offset)) (found_text offset (text_at other.strings offset)) go go' (ap (found_text offset) e) (λ text is. h text)

-- ---- Chains of modifiers

go-same : (go go' : ℕ → Result ℕ BtfError) (end : Result ℕ BtfError) (o : Option ℕ) → ((next : ℕ) → o ≡ Some next → go' next ≡ go next) → option_map_or go' o end ≡ option_map_or go o end
go-same go go' end None h = refl
go-same go go' end (Some next) h = h next refl

end-same : (go go' : ℕ → Result ℕ BtfError) (id : ℕ) (o : Option BtfType) → ((t : BtfType) (next : ℕ) → o ≡ Some t → modified_type t ≡ Some next → go' next ≡ go next) → end_from go' id o ≡ end_from go id o
end-same go go' id None h = refl
end-same go go' id (Some t) h = go-same go go' (Ok id) (modified_type t) (λ next is. h t next refl is)

chain-same : (reached : ℕ → Bool) (one other : Table) → AreAlike reached one other → (n asked id : ℕ) → reached id ≡ true → chain_end n other asked id ≡ chain_end n one asked id
unfolding chain_end
chain-same reached one other alike zero asked id here = refl
chain-same reached one other alike (suc n) asked id here =
    ap (end_from (chain_end n other asked) id) (alike.records.same id here)
    ∙ end-same (chain_end n one asked) (chain_end n other asked) id (type_by_id one id) (λ t next known is. chain-same reached one other alike n asked next (modified-reached reached t next (ids-reached reached one other alike id t here known) is))

end-by : (reached : ℕ → Bool) (go : ℕ → Result ℕ BtfError) (id end : ℕ) (o : Option ℕ) → reached id ≡ true → ((next : ℕ) → o ≡ Some next → go next ≡ Ok end → reached end ≡ true) → option_map_or go o (Ok id) ≡ Ok end → reached end ≡ true
end-by reached go id end None here h e = let same : id ≡ end = cc in subst (λ (k : ℕ). reached k ≡ true) same here
end-by reached go id end (Some next) here h e = h next refl e

end-from : (reached : ℕ → Bool) (go : ℕ → Result ℕ BtfError) (id end : ℕ) (o : Option BtfType) → reached id ≡ true → ((t : BtfType) (next : ℕ) → o ≡ Some t → modified_type t ≡ Some next → go next ≡ Ok end → reached end ≡ true) → end_from go id o ≡ Ok end → reached end ≡ true
end-from reached go id end None here h e = absurd cc
end-from reached go id end (Some t) here h e = end-by reached go id end (modified_type t) here (λ next is answer. h t next refl is answer) e

chain-reached : (reached : ℕ → Bool) (one other : Table) → AreAlike reached one other → (n asked id end : ℕ) → reached id ≡ true → chain_end n one asked id ≡ Ok end → reached end ≡ true
unfolding chain_end
chain-reached reached one other alike zero asked id end here e = absurd cc
chain-reached reached one other alike (suc n) asked id end here e =
    end-from reached (chain_end n one asked) id end (type_by_id one id) here (λ t next known is answer. chain-reached reached one other alike n asked next end (modified-reached reached t next (ids-reached reached one other alike id t here known) is) answer) e

-- ---- Sizes

after-same : (go go' : ℕ → ℕ → Result ℕ BtfError) (count id : ℕ) (o : Option (ℕ × ℕ)) → ((c : ℕ) (next : ℕ) → o ≡ Some (c, next) → go' (count * c) next ≡ go (count * c) next) → size_after go' count id o ≡ size_after go count id o
after-same go go' count id None h = refl
after-same go go' count id (Some by) h = ap (λ (r : Result ℕ BtfError). if nat_lt (count * by.0) (2 ^ 32) then r else Err InvalidTypeInfo) (h by.0 by.1 refl)

own-same : (count : ℕ) (o : Option ℕ) (r r' : Result ℕ BtfError) → r' ≡ r → option_map_or (λ size. Ok (count * size)) o r' ≡ option_map_or (λ size. Ok (count * size)) o r
own-same count None r r' e = e
own-same count (Some size) r r' e = refl

from-same : (go go' : ℕ → ℕ → Result ℕ BtfError) (count id : ℕ) (o : Option BtfType) → ((t : BtfType) (c : ℕ) (next : ℕ) → o ≡ Some t → sized_by t ≡ Some (c, next) → go' (count * c) next ≡ go (count * c) next) → size_from go' count id o ≡ size_from go count id o
from-same go go' count id None h = refl
from-same go go' count id (Some t) h = own-same count (own_size t) _ _ (after-same go go' count id (sized_by t) (λ c next is. h t c next refl is))

size-same : (reached : ℕ → Bool) (one other : Table) → AreAlike reached one other → (n asked count id : ℕ) → reached id ≡ true → size_at_end n other asked count id ≡ size_at_end n one asked count id
unfolding size_at_end
size-same reached one other alike zero asked count id here = refl
size-same reached one other alike (suc n) asked count id here =
    ap (size_from (size_at_end n other asked) count id) (alike.records.same id here)
    ∙ from-same (size_at_end n one asked) (size_at_end n other asked) count id (type_by_id one id) (λ t c next known is. size-same reached one other alike n asked (count * c) next (sized-reached reached t c next (ids-reached reached one other alike id t here known) is))

pub lookups_rest : LookupsRest
lookups_rest = record {
  resolved = λ reached one other alike id here. chain-same reached one other alike max_depth id id here;
  ends = λ reached one other alike id end here e. chain-reached reached one other alike max_depth id id end here e;
  sizes = λ reached one other alike id here. ap in_32_bits (size-same reached one other alike max_depth id 1 id here);
  names = λ reached one other alike id t here known. own-name (λ offset. text_at other.strings offset ≡ text_at one.strings offset) t (names-alike reached one other alike id t here known);
  members = λ reached one other alike id index t m here known is.
      (member-reached reached t index m (ids-reached reached one other alike id t here known) is, member-name (λ offset. text_at other.strings offset ≡ text_at one.strings offset) t index m (names-alike reached one other alike id t here known) is);
  variants = λ reached one other alike id index t offset here known is. variant-name (λ o. text_at other.strings o ≡ text_at one.strings o) t index offset (names-alike reached one other alike id t here known) is;
}
