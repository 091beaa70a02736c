-- Exchanging the sides of a comparison of members leaves a result of true or false as it is.
use Rattle.std.proofs.Common.{◌≡◌, ℕ, zero, suc, ◌&&◌, Bool, true, List, [], ◌∷◌, Ok, Err, Result, Some, None, Option, IfOk, nat_eq, refl, sym, ap, ◌∙◌}
use Rattle.std.specs.Cmp.Lexicographic.{pointwise}
use Rattle.std.specs.Option.{option_map_or}
use Rattle.btf_compatibility.specs.TypeCompatibility.{record_at}
use Rattle.btf_tables.specs.EssentialNames.{essential_name}
use Rattle.btf_compatibility.specs.FieldCompatibility.{element_of, field_answer, field_verdict, fields_compared, fields_compatible, is_composite, same_names}
use Rattle.btf_tables.specs.ResolvedTypes.{max_depth}
use Rattle.btf_compatibility.proofs.Exchanged.{Gives, Gives-ends, Gives-err, Gives-if, Gives-same, both, by_kind, exchanged, offsets-exchange, same_test}
use Rattle.btf_records.specs.Fields.{name_offset_of}
use Rattle.btf_tables.specs.Tables.{Table}
use Rattle.string_table.specs.Texts.{text_at}
use Rattle.btf_records.specs.declared.error.BtfError.{BtfError}
use Rattle.btf_records.specs.declared.kind.BtfKind.{BtfKind}
use Rattle.btf_records.specs.declared.kind.BtfKind.TheVariants as kinds
use Rattle.btf_records.specs.declared.types.BtfType.{BtfType}

pointwise-exchange : (xs ys : List ℕ) → pointwise nat_eq xs ys ≡ pointwise nat_eq ys xs
pointwise-exchange [] [] = refl
pointwise-exchange [] (y ∷ ys) = refl
pointwise-exchange (x ∷ xs) [] = refl
pointwise-exchange (x ∷ xs) (y ∷ ys) =
    ap (λ (b : Bool). b && pointwise nat_eq xs ys) (same_test x y)
    ∙ ap (λ (b : Bool). nat_eq y x && b) (pointwise-exchange xs ys)

abbrev same_essential : List ℕ → List ℕ → Result Bool BtfError
same_essential x y = Ok (pointwise nat_eq (essential_name x) (essential_name y))

texts-exchange : (x y : Option (List ℕ)) (e f : BtfError)
    → Gives (option_map_or (λ s. option_map_or (λ t. same_essential s t) y (Err f)) x (Err e))
    (option_map_or (λ t. option_map_or (λ s. same_essential t s) x (Err e)) y (Err f))
texts-exchange None y e f = Gives-err _ _
texts-exchange (Some x) None e f = Gives-err _ _
texts-exchange (Some x) (Some y) e f =
    Gives-same _ _
    (ap (λ (b : Bool). Ok b) (pointwise-exchange (essential_name y) (essential_name x)))

names-exchange : (local target : Table) (a b : BtfType)
    → Gives (same_names local target a b) (same_names target local b a)
names-exchange local target a b =
    texts-exchange (text_at local.strings (name_offset_of a))
    (text_at target.strings (name_offset_of b)) _ _

field_verdict-exchange : (go go' : ℕ × ℕ → Result Bool BtfError) (local target : Table) (l r : ℕ)
    (a b : BtfType) → ((p : ℕ × ℕ) → Gives (go p) (go' (exchanged p))) → (k : BtfKind)
    → Gives (field_verdict go local target k l a b) (field_verdict go' target local k r b a)
field_verdict-exchange go go' local target l r a b h kinds.Fwd = names-exchange local target a b
field_verdict-exchange go go' local target l r a b h kinds.Enum = names-exchange local target a b
field_verdict-exchange go go' local target l r a b h kinds.Enum64 = names-exchange local target a b
field_verdict-exchange go go' local target l r a b h kinds.Int = offsets-exchange a b
field_verdict-exchange go go' local target l r a b h kinds.Float = Gives-same _ _ refl
field_verdict-exchange go go' local target l r a b h kinds.Ptr = Gives-same _ _ refl
field_verdict-exchange go go' local target l r a b h kinds.Array = h (element_of a, element_of b)
field_verdict-exchange go go' local target l r a b h _ = Gives-err _ _

field_answer-exchange : (go go' : ℕ × ℕ → Result Bool BtfError) (local target : Table) (l r : ℕ)
    (a b : BtfType) → ((p : ℕ × ℕ) → Gives (go p) (go' (exchanged p)))
    → Gives (field_answer go local target l a b) (field_answer go' target local r b a)
field_answer-exchange go go' local target l r a b h =
    Gives-if (is_composite a && is_composite b) (is_composite b && is_composite a) _ _ _ _
    (both (is_composite b) (is_composite a)) (λ _. Gives-same _ _ refl)
    (by_kind a b (λ k. field_verdict go local target k l a b)
    (λ k. field_verdict go' target local k r b a)
    (field_verdict-exchange go go' local target l r a b h))

rounds-exchange : (n : ℕ) (local target : Table) (asked asked' : ℕ) (p : ℕ × ℕ)
    → Gives (fields_compared n local target asked p)
    (fields_compared n target local asked' (exchanged p))
unfolding fields_compared
rounds-exchange zero local target asked asked' p = Gives-err _ _
rounds-exchange (suc n) local target asked asked' p =
    Gives-ends local target asked asked' _ _ p
    (λ l r. field_answer-exchange (fields_compared n local target asked)
    (fields_compared n target local asked') local target l r (record_at local l)
    (record_at target r) (λ q. rounds-exchange n local target asked asked' q))

pub fields-exchanged : (local : Table) (l : ℕ) (target : Table) (r : ℕ)
    (result : Result Bool BtfError) → result ≡ fields_compatible local l target r
    → IfOk result (λ b. fields_compatible target r local l ≡ Ok b)
fields-exchanged local l target r (Ok b) e =
    (rounds-exchange max_depth local target l r (l, r)).same b (sym e)
fields-exchanged local l target r (Err f) e = tt
