-- Records that are written one after the other.
use Rattle.std.proofs.Common.{◌≡◌, ℕ, ◌+◌, ◌-◌, ◌≤◌, List, [], ◌∷◌, ◌++◌, length, take, drop, refl, sym, ap, subst, ◌∙◌, arith, append-nil, append_assoc, length-drop}
use Rattle.std.specs.List.{flat_map}
use Rattle.std.proofs.Math.Seq.{take-add}
use Rattle.std.proofs.lemmas.Grind.{flat_map-append}
use Rattle.std.proofs.lemmas.List.{drop-drop}
use Rattle.btf_encoding.specs.Records.{HasRecord, ReadsBack, Spells, kind_at, record_bytes, record_len, type_as, type_in, without_fallback}
use Rattle.btf_encoding.specs.Rewriting.{AreRecords, AreWrittenUpTo, IsWrittenAgain}
use Rattle.btf_encoding.proofs.ManyTypes.{alone, are_left, begins_append, spells_append, unique}
use Rattle.btf_records.specs.declared.kind.BtfKind.{BtfKind}
use Rattle.btf_records.specs.declared.kind.BtfKind.TheVariants as kinds
use Rattle.btf_records.specs.declared.types.BtfType.{BtfType}
use Rattle.btf_records.specs.declared.words.Endianness.{Endianness}

pub none_yet : (order : Endianness) (bytes old : List ℕ) → AreWrittenUpTo order bytes bytes old old
none_yet order bytes old = record { front = []; begins = refl; written = sym (append-nil old); spelled = refl }

pub and_then : (order : Endianness) (bytes mid rest old between new : List ℕ) → AreWrittenUpTo order bytes mid old between → AreWrittenUpTo order mid rest between new → AreWrittenUpTo order bytes rest old new
and_then order bytes mid rest old between new a b =
    let all : flat_map (record_bytes order) (a.front ++ b.front) ≡ flat_map (record_bytes order) a.front ++ flat_map (record_bytes order) b.front = flat_map-append (record_bytes order) a.front b.front in
    record {
      front = a.front ++ b.front;
      begins = begins_append order a.front b.front mid rest bytes a.begins b.begins;
      written = b.written ∙ (ap (λ (x : List ℕ). x ++ flat_map (record_bytes order) b.front) a.written ∙ (append_assoc old (flat_map (record_bytes order) a.front) (flat_map (record_bytes order) b.front) ∙ ap (λ (x : List ℕ). old ++ x) (sym all)));
      spelled = rw all (spells_append order a.front b.front (flat_map (record_bytes order) a.front) (flat_map (record_bytes order) b.front) a.spelled b.spelled);
    }

pub same_front : (order : Endianness) (bytes rest old new more : List ℕ) → AreWrittenUpTo order bytes rest [] new → more ≡ old ++ new → AreWrittenUpTo order bytes rest old more
same_front order bytes rest old new more a is = record { front = a.front; begins = a.begins; written = is ∙ ap (λ (x : List ℕ). old ++ x) a.written; spelled = a.spelled }

-- The bytes of the first record are copied, where its fields would be written as the same bytes.
pub copied : (order : Endianness) (bytes old : List ℕ) → HasRecord order bytes → record_bytes order (type_in order bytes) ≡ take (record_len order bytes) bytes → AreWrittenUpTo order bytes (drop (record_len order bytes) bytes) old (old ++ take (record_len order bytes) bytes)
copied order bytes old has same =
    let own : flat_map (record_bytes order) (type_in order bytes ∷ []) ≡ take (record_len order bytes) bytes = append-nil (record_bytes order (type_in order bytes)) ∙ same in
    record {
      front = type_in order bytes ∷ [];
      begins = (has, refl, refl);
      written = ap (λ (x : List ℕ). old ++ x) (sym own);
      spelled = rw own (alone order bytes has);
    }

as_read : (kind : BtfKind) (order : Endianness) (bytes : List ℕ) → without_fallback (type_as kind order bytes) ≡ type_as kind order bytes
as_read kinds.Unknown order bytes = refl
as_read kinds.Int order bytes = refl
as_read kinds.Ptr order bytes = refl
as_read kinds.Array order bytes = refl
as_read kinds.Struct order bytes = refl
as_read kinds.Union order bytes = refl
as_read kinds.Enum order bytes = refl
as_read kinds.Fwd order bytes = refl
as_read kinds.Typedef order bytes = refl
as_read kinds.Volatile order bytes = refl
as_read kinds.Const order bytes = refl
as_read kinds.Restrict order bytes = refl
as_read kinds.Func order bytes = refl
as_read kinds.FuncProto order bytes = refl
as_read kinds.Var order bytes = refl
as_read kinds.DataSec order bytes = refl
as_read kinds.Float order bytes = refl
as_read kinds.DeclTag order bytes = refl
as_read kinds.TypeTag order bytes = refl
as_read kinds.Enum64 order bytes = refl

-- The first record is written by its fields.
pub pushed : (order : Endianness) (bytes old new : List ℕ) → HasRecord order bytes → ReadsBack order (type_in order bytes) → new ≡ old ++ record_bytes order (type_in order bytes) → AreWrittenUpTo order bytes (drop (record_len order bytes) bytes) old new
pushed order bytes old new has reads is =
    let t : BtfType = type_in order bytes in
    let own : flat_map (record_bytes order) (t ∷ []) ≡ record_bytes order t = append-nil (record_bytes order t) in
    let same : without_fallback t ≡ t = as_read (kind_at order bytes) order bytes in
    record {
      front = t ∷ [];
      begins = (has, refl, refl);
      written = is ∙ ap (λ (x : List ℕ). old ++ x) (sym own);
      spelled = rw own (subst (λ (u : BtfType). Spells order (u ∷ []) (record_bytes order t)) same (reads.follows [] [] refl));
    }

-- One more record is copied.
pub copied_more : (order : Endianness) (bytes rest : List ℕ) → rest ≡ drop (length bytes - length rest) bytes → length rest ≤ length bytes → AreWrittenUpTo order bytes rest [] (take (length bytes - length rest) bytes) → HasRecord order rest → record_bytes order (type_in order rest) ≡ take (record_len order rest) rest → AreWrittenUpTo order bytes (drop (record_len order rest) rest) [] (take (length bytes - length (drop (record_len order rest) rest)) bytes)
copied_more order bytes rest left within are has same =
    let done : ℕ = length bytes - length rest in
    let len : ℕ = record_len order rest in
    let further : length bytes - length (drop len rest) ≡ done + len = omega (arith, length-drop len rest, has.whole, within) in
    let both : take (length bytes - length (drop len rest)) bytes ≡ take done bytes ++ take len rest = ap (λ (k : ℕ). take k bytes) further ∙ (take-add done len bytes ∙ ap (λ (r : List ℕ). take done bytes ++ take len r) (sym left)) in
    rw both (and_then order bytes rest (drop len rest) [] (take done bytes) (take done bytes ++ take len rest) are (copied order rest (take done bytes) has same))

pub left_more : (bytes rest : List ℕ) (len : ℕ) → rest ≡ drop (length bytes - length rest) bytes → length rest ≤ length bytes → len ≤ length rest → drop len rest ≡ drop (length bytes - length (drop len rest)) bytes
left_more bytes rest len left within le =
    let further : (length bytes - length rest) + len ≡ length bytes - length (drop len rest) = omega (arith, length-drop len rest) in
    ap (drop len) left ∙ (drop-drop len (length bytes - length rest) bytes ∙ ap (λ (k : ℕ). drop k bytes) further)

pub records_left : (order : Endianness) (bytes rest old new : List ℕ) → AreRecords order bytes → AreWrittenUpTo order bytes rest old new → AreRecords order rest
records_left order bytes rest old new are up =
    let l = are_left order are.types up.front rest bytes are.spelled up.begins in
    record { types = l.others; spelled = l.spelled }

-- When no bytes are left, all records are written.
pub all_again : (order : Endianness) (bytes old new : List ℕ) → AreWrittenUpTo order bytes [] old new → IsWrittenAgain order bytes old new
all_again order bytes old new up = record {
  written = λ types s. up.written ∙ ap (λ (ts : List BtfType). old ++ flat_map (record_bytes order) ts) (sym (unique order types up.front bytes s up.begins));
  spelled = λ types s. subst (λ (ts : List BtfType). Spells order ts (flat_map (record_bytes order) ts)) (sym (unique order types up.front bytes s up.begins)) up.spelled;
}

nothing : (xs : List ℕ) → length xs ≡ 0 → xs ≡ []
nothing [] e = refl
nothing (x ∷ xs) e = absurd (omega (arith, e))

pub at_end : (order : Endianness) (bytes rest old new : List ℕ) → AreWrittenUpTo order bytes rest old new → length rest ≡ 0 → AreWrittenUpTo order bytes [] old new
at_end order bytes rest old new up none = subst (λ (r : List ℕ). AreWrittenUpTo order bytes r old new) (nothing rest none) up
