-- Exchanging the sides of a comparison leaves a result of true or false as it is.
use Rattle.std.proofs.Common.{◌≡◌, ℕ, zero, suc, ◌&&◌, ◌||◌, ◌==◌, Bool, true, false, cond, List, [], ◌∷◌, ◌++◌, map, length, Ok, Err, Result, Some, None, Option, IfOk, if◌then◌else◌, refl, sym, ap, subst, ◌∙◌, arith}
use Rattle.std.proofs.lemmas.Bool.Decides.{nat_tests}
use Rattle.std.proofs.lemmas.Grind.{common_steps}
use Rattle.std.proofs.lemmas.List.{map_push}
use Rattle.std.specs.List.{zip}
use Rattle.std.specs.Option.{option_map_or}
use Rattle.btf_compatibility.specs.TypeCompatibility.{after_modifiers, all_yes, and_also, both_ends, compared, first_verdict, has_no_bit_offset, is_open, is_pair, pair_bound, pair_parts, parts_of, record_at, same_kind, types_compatible, verdict, verdict_of}
use Rattle.btf_tables.specs.ResolvedTypes.{chain_end, end_from, max_depth, modified_type}
use Rattle.btf_tables.specs.Tables.{Table, type_by_id}
use Rattle.btf_records.specs.Fields.{kind_of_type, params_of}
use Rattle.btf_records.specs.Kinds.{kind_of, number_of}
use Rattle.btf_records.specs.declared.error.BtfError.{BtfError}
use Rattle.btf_records.specs.declared.kind.BtfKind.{BtfKind}
use Rattle.btf_records.specs.declared.kind.BtfKind.TheVariants as kinds
use Rattle.btf_records.specs.declared.types.BtfType.{BtfType}

-- ---- Results

-- If one result is true or false, the other is the same.
pub record Gives (x y : Result Bool BtfError) : Type 0 where
  pub same : (answer : Bool) → x ≡ Ok answer → y ≡ Ok answer

pub Gives-same : (x y : Result Bool BtfError) → y ≡ x → Gives x y
Gives-same x y e = record { same = λ answer h. e ∙ h }

pub Gives-err : (e : BtfError) (y : Result Bool BtfError) → Gives (Err e) y
Gives-err e y = record { same = λ answer h. absurd cc }

pub Gives-and : (a b x y : Result Bool BtfError) → Gives a b → Gives x y
    → Gives (and_also a x) (and_also b y)
Gives-and (Ok true) b x y first next = rw (first.same true refl) next
Gives-and (Ok false) b x y first next = rw (first.same false refl) (Gives-same _ _ refl)
Gives-and (Err e) b x y first next = Gives-err _ _

pub Gives-if : (b c : Bool) (x y x' y' : Result Bool BtfError) → c ≡ b
    → (b ≡ true → Gives x x') → Gives y y' → Gives (cond b x y) (cond c x' y')
Gives-if true true x y x' y' e first next = first refl
Gives-if false false x y x' y' e first next = next
Gives-if true false x y x' y' e first next = absurd cc
Gives-if false true x y x' y' e first next = absurd cc

-- ---- Two records

kind_of-number_of : (k : BtfKind) → kind_of (number_of k) ≡ k
unfolding kind_of
kind_of-number_of kinds.Unknown = refl
kind_of-number_of _ = refl

pub same_test : (m n : ℕ) → (m == n) ≡ (n == m)
same_test m n = grind (arith, nat_tests)

pub one_kind : (a b : BtfType) → same_kind a b ≡ true → kind_of_type a ≡ kind_of_type b
one_kind a b h =
    let same : number_of (kind_of_type a) ≡ number_of (kind_of_type b) = grind (arith, nat_tests) in
    sym (kind_of-number_of (kind_of_type a))
    ∙ (ap kind_of same ∙ kind_of-number_of (kind_of_type b))

pub same_kind-exchange : (a b : BtfType) → same_kind b a ≡ same_kind a b
same_kind-exchange a b = same_test (number_of (kind_of_type b)) (number_of (kind_of_type a))

pub both : (a b : Bool) → (a && b) ≡ (b && a)
both true true = refl
both true false = refl
both false true = refl
both false false = refl

pub offsets-exchange : (a b : BtfType)
    → Gives (Ok (has_no_bit_offset a && has_no_bit_offset b))
    (Ok (has_no_bit_offset b && has_no_bit_offset a))
offsets-exchange a b =
    Gives-same _ _ (ap (λ (x : Bool). Ok x) (both (has_no_bit_offset b) (has_no_bit_offset a)))

verdict_of-exchange : (k : BtfKind) (l r : ℕ) (a b : BtfType)
    → Gives (verdict_of k l a b) (verdict_of k r b a)
verdict_of-exchange kinds.Int l r a b = offsets-exchange a b
verdict_of-exchange kinds.FuncProto l r a b =
    Gives-same _ _
    (ap (λ (x : Bool). Ok x) (same_test (length (params_of b)) (length (params_of a))))
verdict_of-exchange kinds.Func l r a b = Gives-err _ _
verdict_of-exchange kinds.Var l r a b = Gives-err _ _
verdict_of-exchange kinds.DataSec l r a b = Gives-err _ _
verdict_of-exchange kinds.DeclTag l r a b = Gives-err _ _
verdict_of-exchange _ l r a b = Gives-same _ _ refl

-- The results for two records of one kind are exchanged by kinds.
pub by_kind : (a b : BtfType) (go go' : BtfKind → Result Bool BtfError)
    → ((k : BtfKind) → Gives (go k) (go' k))
    → Gives (if same_kind a b then go (kind_of_type a) else Ok false)
    (if same_kind b a then go' (kind_of_type b) else Ok false)
by_kind a b go go' h =
    Gives-if (same_kind a b) (same_kind b a) _ _ _ _ (same_kind-exchange a b)
    (λ same. subst (λ (k : BtfKind). Gives (go (kind_of_type a)) (go' k)) (one_kind a b same)
    (h (kind_of_type a)))
    (Gives-same _ _ refl)

-- ---- Parts

abbrev pub exchanged : ℕ × ℕ → ℕ × ℕ
exchanged p = (p.1, p.0)

Gives-all : (ask ask' : ℕ × ℕ → Result Bool BtfError) (ps : List (ℕ × ℕ))
    → ((p : ℕ × ℕ) → Gives (ask p) (ask' (exchanged p)))
    → Gives (all_yes ask ps) (all_yes ask' (map exchanged ps))
unfolding all_yes
Gives-all ask ask' [] h = Gives-same _ _ refl
Gives-all ask ask' (p ∷ ps) h =
    Gives-and (ask p) (ask' (exchanged p)) (all_yes ask ps) (all_yes ask' (map exchanged ps)) (h p)
    (Gives-all ask ask' ps h)

zip-exchanged : (xs ys : List ℕ) → zip ys xs ≡ map exchanged (zip xs ys)
zip-exchanged [] [] = refl
zip-exchanged [] (y ∷ ys) = refl
zip-exchanged (x ∷ xs) [] = refl
zip-exchanged (x ∷ xs) (y ∷ ys) = ap (λ (ps : List (ℕ × ℕ)). (y, x) ∷ ps) (zip-exchanged xs ys)

-- The end of a chain doesn't depend on the id that was asked for.
from-asked : (go go' : ℕ → Result ℕ BtfError) (id : ℕ) (t : Option BtfType) (end : ℕ)
    → ((next : ℕ) → go next ≡ Ok end → go' next ≡ Ok end)
    → end_from go id t ≡ Ok end → end_from go' id t ≡ Ok end
from-asked go go' id None end h e = absurd cc
from-asked go go' id (Some t) end h e = by (modified_type t) e
  where
    by : (modified : Option ℕ) → option_map_or go modified (Ok id) ≡ Ok end
        → option_map_or go' modified (Ok id) ≡ Ok end
    by None e = e
    by (Some next) e = h next e

chain_end-asked : (n : ℕ) (table : Table) (asked asked' id end : ℕ)
    → chain_end n table asked id ≡ Ok end → chain_end n table asked' id ≡ Ok end
unfolding chain_end
chain_end-asked zero table asked asked' id end e = absurd cc
chain_end-asked (suc n) table asked asked' id end e =
    from-asked (chain_end n table asked) (chain_end n table asked') id (type_by_id table id) end
    (λ next. chain_end-asked n table asked asked' next end) e

ends-given : (go go' : ℕ → ℕ → Result Bool BtfError) (x y x' y' : Result ℕ BtfError)
    → ((l r : ℕ) → Gives (go l r) (go' r l)) → ((e : ℕ) → x ≡ Ok e → x' ≡ Ok e)
    → ((e : ℕ) → y ≡ Ok e → y' ≡ Ok e) → Gives (both_ends go x y) (both_ends go' y' x')
ends-given go go' (Err e) y x' y' h left right = Gives-err _ _
ends-given go go' (Ok l) (Err e) x' y' h left right = Gives-err _ _
ends-given go go' (Ok l) (Ok r) x' y' h left right = rw (left l refl, right r refl) (h l r)

pub Gives-ends : (local target : Table) (asked asked' : ℕ) (go go' : ℕ → ℕ → Result Bool BtfError)
    (p : ℕ × ℕ) → ((l r : ℕ) → Gives (go l r) (go' r l))
    → Gives (after_modifiers local target asked go p)
    (after_modifiers target local asked' go' (exchanged p))
Gives-ends local target asked asked' go go' p h =
    ends-given go go' (chain_end max_depth local asked p.0) (chain_end max_depth target asked p.1)
    (chain_end max_depth local asked' p.0) (chain_end max_depth target asked' p.1) h
    (λ e. chain_end-asked max_depth local asked asked' p.0 e)
    (λ e. chain_end-asked max_depth target asked asked' p.1 e)

-- ---- Types

is_open-exchanged : (open_pairs : List (ℕ × ℕ)) (l r : ℕ)
    → is_open (map exchanged open_pairs) r l ≡ is_open open_pairs l r
unfolding is_open
is_open-exchanged [] l r = refl
is_open-exchanged (p ∷ ps) l r =
    rw (both (p.1 == r) (p.0 == l))
    (ap (λ (b : Bool). is_pair l r p || b) (is_open-exchanged ps l r))

compared-exchange : (n : ℕ) (local target : Table) (asked asked' : ℕ) (open_pairs : List (ℕ × ℕ))
    (l r : ℕ)
    → Gives (compared n local target asked open_pairs l r)
    (compared n target local asked' (map exchanged open_pairs) r l)
unfolding compared
compared-exchange zero local target asked asked' open_pairs l r = Gives-err _ _
compared-exchange (suc n) local target asked asked' open_pairs l r =
    let a = record_at local l in
    let b = record_at target r in
    Gives-if (is_open open_pairs l r) (is_open (map exchanged open_pairs) r l) _ _ _ _
    (is_open-exchanged open_pairs l r) (λ _. Gives-err _ _)
    (Gives-and _ _ _ _
    (by_kind a b (λ k. verdict_of k l a b) (λ k. verdict_of k r b a)
    (λ k. verdict_of-exchange k l r a b))
    (rw (zip-exchanged (parts_of a) (parts_of b))
    (Gives-all _ _ (pair_parts local target l r)
    (λ p. Gives-ends local target asked asked' _ _ p
    (λ i k. rw (← map_push exchanged open_pairs (l, r))
    (compared-exchange n local target asked asked' (open_pairs ++ (l, r) ∷ []) i k))))))

above-exchanged : (local target : Table) → pair_bound target local ≡ pair_bound local target
above-exchanged local target = grind (arith, common_steps)

first-exchange : (l r : ℕ) (a b : Option BtfType)
    → Gives (first_verdict l r a b) (first_verdict r l b a)
first-exchange l r None b = Gives-err _ _
first-exchange l r (Some a) None = Gives-err _ _
first-exchange l r (Some a) (Some b) =
    Gives-same _ _ (ap (λ (x : Bool). Ok x) (same_kind-exchange a b))

types-exchanged : (local : Table) (l : ℕ) (target : Table) (r : ℕ)
    → Gives (types_compatible local l target r) (types_compatible target r local l)
types-exchanged local l target r =
    Gives-and _ _ _ _ (first-exchange l r (type_by_id local l) (type_by_id target r))
    (Gives-ends local target l r _ _ (l, r)
    (λ i k. rw (above-exchanged local target)
    (compared-exchange (pair_bound local target) local target l r [] i k)))

pub answer-exchanged : (local : Table) (l : ℕ) (target : Table) (r : ℕ)
    (result : Result Bool BtfError) → IfOk result (λ b. types_compatible local l target r ≡ Ok b)
    → IfOk result (λ b. types_compatible target r local l ≡ Ok b)
answer-exchanged local l target r (Ok b) h = (types-exchanged local l target r).same b h
answer-exchanged local l target r (Err e) h = h
