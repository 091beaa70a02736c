-- The lists and counts of the record that bytes begin with.
use Rattle.std.proofs.Common.{◌≡◌, ◌≢◌, ℕ, zero, suc, ◌*◌, ◌<◌, List, [], ◌∷◌, ◌++◌, length, drop, Option, Some, refl, sym, ap, ◌∙◌, arith, mul-zero, slice_get}
use Rattle.std.proofs.lemmas.List.{drop-drop}
use Rattle.btf_records.specs.Fields.{kind_of_type}
use Rattle.btf_encoding.specs.Items.{entry_in, enum64_in, items_in, member_in, param_in, variant_in}
use Rattle.btf_encoding.specs.Records.{count_at, count_of, type_as, with_fallback}
use Rattle.btf_records.specs.declared.kind.BtfKind.{BtfKind}
use Rattle.btf_records.specs.declared.kind.BtfKind.TheVariants as kinds
use Rattle.btf_records.specs.declared.types.BtfType.{BtfType}
use Rattle.btf_records.specs.declared.compound.Enum64Fallback.{Enum64Fallback}
use Rattle.btf_records.specs.declared.words.Endianness.{Endianness}

pub length-items_in : {T : Type 0} (item : List ℕ → T) (size n : ℕ) (bytes : List ℕ) → length (items_in item size n bytes) ≡ n
length-items_in item size zero bytes = refl
length-items_in item size (suc n) bytes = ap suc (length-items_in item size n (drop size bytes))

pub count_read : (fallback : Option Enum64Fallback) (kind : BtfKind) (order : Endianness) (bytes : List ℕ) (t : BtfType) → with_fallback fallback (type_as kind order bytes) ≡ t → kind_of_type t ≢ kinds.Unknown → count_of t ≡ count_at order bytes
count_read fallback kinds.Unknown order bytes t is known = absurd (known (ap kind_of_type (sym is)))
count_read fallback kinds.Int order bytes t is known = ap count_of (sym is)
count_read fallback kinds.Ptr order bytes t is known = ap count_of (sym is)
count_read fallback kinds.Array order bytes t is known = ap count_of (sym is)
count_read fallback kinds.Struct order bytes t is known = ap count_of (sym is) ∙ length-items_in (member_in order) 12 (count_at order bytes) (drop 12 bytes)
count_read fallback kinds.Union order bytes t is known = ap count_of (sym is) ∙ length-items_in (member_in order) 12 (count_at order bytes) (drop 12 bytes)
count_read fallback kinds.Enum order bytes t is known = ap count_of (sym is) ∙ length-items_in (variant_in order) 8 (count_at order bytes) (drop 12 bytes)
count_read fallback kinds.Fwd order bytes t is known = ap count_of (sym is)
count_read fallback kinds.Typedef order bytes t is known = ap count_of (sym is)
count_read fallback kinds.Volatile order bytes t is known = ap count_of (sym is)
count_read fallback kinds.Const order bytes t is known = ap count_of (sym is)
count_read fallback kinds.Restrict order bytes t is known = ap count_of (sym is)
count_read fallback kinds.Func order bytes t is known = ap count_of (sym is)
count_read fallback kinds.FuncProto order bytes t is known = ap count_of (sym is) ∙ length-items_in (param_in order) 8 (count_at order bytes) (drop 12 bytes)
count_read fallback kinds.Var order bytes t is known = ap count_of (sym is)
count_read fallback kinds.DataSec order bytes t is known = ap count_of (sym is) ∙ length-items_in (entry_in order) 12 (count_at order bytes) (drop 12 bytes)
count_read fallback kinds.Float order bytes t is known = ap count_of (sym is)
count_read fallback kinds.DeclTag order bytes t is known = ap count_of (sym is)
count_read fallback kinds.TypeTag order bytes t is known = ap count_of (sym is)
count_read fallback kinds.Enum64 order bytes t is known = ap count_of (sym is) ∙ length-items_in (enum64_in order) 12 (count_at order bytes) (drop 12 bytes)

pub get-items_in : {T : Type 0} (item : List ℕ → T) (size n i : ℕ) (bytes : List ℕ) → i < n → slice_get (items_in item size n bytes) i ≡ Some (item (drop (size * i) bytes))
get-items_in item size zero i bytes lt = absurd (omega arith)
get-items_in item size (suc n) zero bytes lt = rw mul-zero refl
get-items_in item size (suc n) (suc i) bytes lt =
    let at : drop (size * i) (drop size bytes) ≡ drop (size * suc i) bytes = drop-drop (size * i) size bytes ∙ ap (λ (k : ℕ). drop k bytes) (omega arith) in
    get-items_in item size n i (drop size bytes) (omega arith) ∙ ap (λ (b : List ℕ). Some (item b)) at

pub items_in-suc : {T : Type 0} → (item : List ℕ → T) (size n : ℕ) (bytes : List ℕ) → items_in item size (suc n) bytes ≡ items_in item size n bytes ++ item (drop (size * n) bytes) ∷ []
items_in-suc {T} item size zero bytes = rw mul-zero refl
items_in-suc {T} item size (suc n) bytes =
    let at : drop (size * n) (drop size bytes) ≡ drop (size * suc n) bytes = drop-drop (size * n) size bytes ∙ ap (λ (k : ℕ). drop k bytes) (omega arith) in
    ap (λ (xs : List T). item bytes ∷ xs) (items_in-suc item size n (drop size bytes) ∙ ap (λ (b : List ℕ). items_in item size n (drop size bytes) ++ item b ∷ []) at)
