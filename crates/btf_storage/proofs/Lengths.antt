-- A record is written with as many bytes as it was read from.
use Rattle.std.proofs.Common.{◌≡◌, ℕ, zero, suc, ◌+◌, ◌*◌, ◌≤◌, List, [], ◌∷◌, ◌++◌, length, drop, refl, sym, ap, subst, ◌∙◌, arith, length-append, length-drop}
use Rattle.std.specs.List.{flat_map}
use Rattle.btf_encoding.specs.Items.{entry_in, entry_words, enum64_in, enum64_words, items_in, member_in, member_words, param_in, param_words, variant_in, variant_words}
use Rattle.btf_encoding.specs.Records.{Begins, HasRecord, Spells, count_at, kind_at, len_after, record_bytes, record_len, type_as, type_in, words_of}
use Rattle.btf_records.specs.Words.{word_bytes, words_bytes}
use Rattle.btf_records.specs.declared.kind.BtfKind.{BtfKind}
use Rattle.btf_records.specs.declared.kind.BtfKind.TheVariants as kinds
use Rattle.btf_records.specs.declared.types.BtfType.{BtfType}
use Rattle.btf_records.specs.declared.types.BtfType.TheVariants as types
use Rattle.btf_records.specs.declared.words.Endianness.{Endianness}
use Rattle.btf_records.specs.declared.words.Endianness.TheVariants.{Little, Big}

length_word : (order : Endianness) (n : ℕ) → length (word_bytes order n) ≡ 4
unfolding word_bytes
length_word Little n = refl
length_word Big n = refl

length_words : (order : Endianness) (ws : List ℕ) → length (words_bytes order ws) ≡ 4 * length ws
length_words order [] = refl
length_words order (w ∷ ws) = omega (arith, length-append (word_bytes order w) (words_bytes order ws), length_word order w, length_words order ws)

-- Items of the same number of words.
length_items : {X : Type 0} (item : List ℕ → X) (words : X → List ℕ) (size each n : ℕ) (bytes : List ℕ) → ((x : X) → length (words x) ≡ each) → length (flat_map words (items_in item size n bytes)) ≡ each * n
length_items item words size each zero bytes same = omega arith
length_items item words size each (suc n) bytes same =
    let others = length_items item words size each n (drop size bytes) same in
    let this = same (item bytes) in
    let all = length-append (words (item bytes)) (flat_map words (items_in item size n (drop size bytes))) in
    let more : each * suc n ≡ each + each * n = omega arith in
    all ∙ omega (arith, this, others, more)

length_of_words : (kind : BtfKind) (order : Endianness) (bytes : List ℕ) → 4 * length (words_of (type_as kind order bytes)) ≡ 12 + len_after kind (count_at order bytes)
length_of_words kinds.Unknown order bytes = refl
length_of_words kinds.Int order bytes = refl
length_of_words kinds.Ptr order bytes = refl
length_of_words kinds.Array order bytes = refl
length_of_words kinds.Struct order bytes = omega (arith, length_items (member_in order) member_words 12 3 (count_at order bytes) (drop 12 bytes) (λ m. refl))
length_of_words kinds.Union order bytes = omega (arith, length_items (member_in order) member_words 12 3 (count_at order bytes) (drop 12 bytes) (λ m. refl))
length_of_words kinds.Enum order bytes = omega (arith, length_items (variant_in order) variant_words 8 2 (count_at order bytes) (drop 12 bytes) (λ m. refl))
length_of_words kinds.Fwd order bytes = refl
length_of_words kinds.Typedef order bytes = refl
length_of_words kinds.Volatile order bytes = refl
length_of_words kinds.Const order bytes = refl
length_of_words kinds.Restrict order bytes = refl
length_of_words kinds.Func order bytes = refl
length_of_words kinds.FuncProto order bytes = omega (arith, length_items (param_in order) param_words 8 2 (count_at order bytes) (drop 12 bytes) (λ m. refl))
length_of_words kinds.Var order bytes = refl
length_of_words kinds.DataSec order bytes = omega (arith, length_items (entry_in order) entry_words 12 3 (count_at order bytes) (drop 12 bytes) (λ m. refl))
length_of_words kinds.Float order bytes = refl
length_of_words kinds.DeclTag order bytes = refl
length_of_words kinds.TypeTag order bytes = refl
length_of_words kinds.Enum64 order bytes = omega (arith, length_items (enum64_in order) enum64_words 12 3 (count_at order bytes) (drop 12 bytes) (λ m. refl))

pub length_record : (order : Endianness) (bytes : List ℕ) → length (record_bytes order (type_in order bytes)) ≡ record_len order bytes
unfolding record_bytes
length_record order bytes = length_words order (words_of (type_in order bytes)) ∙ length_of_words (kind_at order bytes) order bytes

pub spelled_tight : (order : Endianness) (types : List BtfType) (bytes : List ℕ) → Spells order types bytes → length bytes ≡ length (flat_map (record_bytes order) types)
spelled_tight order [] bytes s = ap length s
spelled_tight order (t ∷ ts) bytes s =
    let others : length (drop (record_len order bytes) bytes) ≡ length (flat_map (record_bytes order) ts) = spelled_tight order ts (drop (record_len order bytes) bytes) s.2 in
    let this : length (record_bytes order t) ≡ record_len order bytes = ap (λ (x : BtfType). length (record_bytes order x)) (sym s.1) ∙ length_record order bytes in
    let whole = s.0.whole in
    omega (arith, others, this, whole, length-drop (record_len order bytes) bytes, length-append (record_bytes order t) (flat_map (record_bytes order) ts))

pub spelled_few : (order : Endianness) (types : List BtfType) (bytes : List ℕ) → Spells order types bytes → length types ≤ length bytes
spelled_few order [] bytes s = omega arith
spelled_few order (t ∷ ts) bytes s =
    let others : length ts ≤ length (drop (record_len order bytes) bytes) = spelled_few order ts (drop (record_len order bytes) bytes) s.2 in
    let whole = s.0.whole in
    omega (arith, others, whole, length-drop (record_len order bytes) bytes)

-- One more record at the beginning of the rest.
pub begins_more : (order : Endianness) (front : List BtfType) (rest bytes : List ℕ) → Begins order front rest bytes → HasRecord order rest → Begins order (front ++ type_in order rest ∷ []) (drop (record_len order rest) rest) bytes
begins_more order [] rest bytes b has = subst (λ (r : List ℕ). Begins order (type_in order r ∷ []) (drop (record_len order r) r) bytes) b (subst (λ (r : List ℕ). HasRecord order r) (sym b) has, refl, refl)
begins_more order (t ∷ ts) rest bytes b has = (b.0, b.1, begins_more order ts rest (drop (record_len order bytes) bytes) b.2 has)

-- A record has three words or more.
three_words : (t : BtfType) → 3 ≤ length (words_of t)
three_words types.Unknown = omega arith
three_words (types.Fwd t) = omega arith
three_words (types.Const t) = omega arith
three_words (types.Volatile t) = omega arith
three_words (types.Restrict t) = omega arith
three_words (types.Ptr t) = omega arith
three_words (types.Typedef t) = omega arith
three_words (types.Func t) = omega arith
three_words (types.Int t) = omega arith
three_words (types.Float t) = omega arith
three_words (types.Enum t) = omega arith
three_words (types.Array t) = omega arith
three_words (types.Struct t) = omega arith
three_words (types.Union t) = omega arith
three_words (types.FuncProto t) = omega arith
three_words (types.Var t) = omega arith
three_words (types.DataSec t) = omega arith
three_words (types.DeclTag t) = omega arith
three_words (types.TypeTag t) = omega arith
three_words (types.Enum64 t) = omega arith

least_bytes : (order : Endianness) (t : BtfType) → 12 ≤ length (record_bytes order t)
unfolding record_bytes
least_bytes order t = omega (arith, length_words order (words_of t), three_words t)

-- A record has 12 bytes or more.
pub least_of_all : (order : Endianness) (ts : List BtfType) → 12 * length ts ≤ length (flat_map (record_bytes order) ts)
least_of_all order [] = omega arith
least_of_all order (t ∷ ts) = omega (arith, least_bytes order t, least_of_all order ts, length-append (record_bytes order t) (flat_map (record_bytes order) ts))
