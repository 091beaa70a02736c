-- The records of a table, written one after the other.
use Rattle.std.proofs.Common.{◌≡◌, ℕ, suc, List, [], ◌∷◌, ◌++◌, drop, map, Option, None, Some, refl, sym, ap, ◌∙◌}
use Rattle.std.specs.Prelude.{Result, Ok, Err, OnOk}
use Rattle.std.specs.List.{flat_map}
use Rattle.std.specs.Option.{option_map_or}
use Rattle.btf_encoding.specs.Records.{Spells, kind_at, record_bytes, type_as, type_in, with_fallback, without_fallback, words_of}
use Rattle.btf_encoding.specs.Rewriting.{AreRecords, IsWrittenAgain}
use Rattle.btf_records.specs.Words.{words_bytes}
use Rattle.btf_storage.specs.Layout.{IsLaidOut, fallback_at, types_at}
use Rattle.btf_records.specs.declared.kind.BtfKind.{BtfKind}
use Rattle.btf_records.specs.declared.kind.BtfKind.TheVariants as kinds
use Rattle.btf_records.specs.declared.types.BtfType.{BtfType}
use Rattle.btf_records.specs.declared.types.BtfType.TheVariants as types
use Rattle.btf_records.specs.declared.compound.Enum64Fallback.{Enum64Fallback}
use Rattle.btf_records.specs.declared.words.Endianness.{Endianness}

-- The enum that a union stands for has no words.
same_words : (fallback : Option Enum64Fallback) (t : BtfType) → words_of (with_fallback fallback t) ≡ words_of t
same_words fallback types.Unknown = refl
same_words fallback (types.Int t) = refl
same_words fallback (types.Ptr t) = refl
same_words fallback (types.Array t) = refl
same_words fallback (types.Struct t) = refl
same_words fallback (types.Union t) = refl
same_words fallback (types.Enum t) = refl
same_words fallback (types.Fwd t) = refl
same_words fallback (types.Typedef t) = refl
same_words fallback (types.Volatile t) = refl
same_words fallback (types.Const t) = refl
same_words fallback (types.Restrict t) = refl
same_words fallback (types.Func t) = refl
same_words fallback (types.FuncProto t) = refl
same_words fallback (types.Var t) = refl
same_words fallback (types.DataSec t) = refl
same_words fallback (types.Float t) = refl
same_words fallback (types.DeclTag t) = refl
same_words fallback (types.TypeTag t) = refl
same_words fallback (types.Enum64 t) = refl

-- A record that was read from bytes stands for no enum.
read_alone : (kind : BtfKind) (order : Endianness) (bytes : List ℕ) → without_fallback (type_as kind order bytes) ≡ type_as kind order bytes
read_alone kinds.Unknown order bytes = refl
read_alone kinds.Int order bytes = refl
read_alone kinds.Ptr order bytes = refl
read_alone kinds.Array order bytes = refl
read_alone kinds.Struct order bytes = refl
read_alone kinds.Union order bytes = refl
read_alone kinds.Enum order bytes = refl
read_alone kinds.Fwd order bytes = refl
read_alone kinds.Typedef order bytes = refl
read_alone kinds.Volatile order bytes = refl
read_alone kinds.Const order bytes = refl
read_alone kinds.Restrict order bytes = refl
read_alone kinds.Func order bytes = refl
read_alone kinds.FuncProto order bytes = refl
read_alone kinds.Var order bytes = refl
read_alone kinds.DataSec order bytes = refl
read_alone kinds.Float order bytes = refl
read_alone kinds.DeclTag order bytes = refl
read_alone kinds.TypeTag order bytes = refl
read_alone kinds.Enum64 order bytes = refl

read_with : (fallback : Enum64Fallback) (kind : BtfKind) (order : Endianness) (bytes : List ℕ) → without_fallback (with_fallback (Some fallback) (type_as kind order bytes)) ≡ type_as kind order bytes
read_with fallback kinds.Unknown order bytes = refl
read_with fallback kinds.Int order bytes = refl
read_with fallback kinds.Ptr order bytes = refl
read_with fallback kinds.Array order bytes = refl
read_with fallback kinds.Struct order bytes = refl
read_with fallback kinds.Union order bytes = refl
read_with fallback kinds.Enum order bytes = refl
read_with fallback kinds.Fwd order bytes = refl
read_with fallback kinds.Typedef order bytes = refl
read_with fallback kinds.Volatile order bytes = refl
read_with fallback kinds.Const order bytes = refl
read_with fallback kinds.Restrict order bytes = refl
read_with fallback kinds.Func order bytes = refl
read_with fallback kinds.FuncProto order bytes = refl
read_with fallback kinds.Var order bytes = refl
read_with fallback kinds.DataSec order bytes = refl
read_with fallback kinds.Float order bytes = refl
read_with fallback kinds.DeclTag order bytes = refl
read_with fallback kinds.TypeTag order bytes = refl
read_with fallback kinds.Enum64 order bytes = refl

same_bytes_by : (order : Endianness) (t : BtfType) (fallback : Option Enum64Fallback) → record_bytes order (option_map_or (λ f. with_fallback (Some f) t) fallback t) ≡ record_bytes order t
unfolding record_bytes
same_bytes_by order t None = refl
same_bytes_by order t (Some fallback) = ap (words_bytes order) (same_words (Some fallback) t)

bare_by : (order : Endianness) (bytes : List ℕ) (fallback : Option Enum64Fallback) → without_fallback (option_map_or (λ f. with_fallback (Some f) (type_in order bytes)) fallback (type_in order bytes)) ≡ type_in order bytes
bare_by order bytes None = read_alone (kind_at order bytes) order bytes
bare_by order bytes (Some fallback) = read_with fallback (kind_at order bytes) order bytes

same_bytes : (order : Endianness) (bytes : List ℕ) (fallbacks : List (ℕ × Enum64Fallback)) (id : ℕ) (places : List ℕ) → flat_map (record_bytes order) (types_at order bytes fallbacks id places) ≡ flat_map (record_bytes order) (types_at order bytes [] id places)
unfolding types_at
same_bytes order bytes fallbacks id [] = refl
same_bytes order bytes fallbacks id (place ∷ places) =
    let here = same_bytes_by order (type_in order (drop place bytes)) (fallback_at fallbacks id) in
    let there = same_bytes order bytes fallbacks (suc id) places in
    rw (here, there) refl

bare : (order : Endianness) (bytes : List ℕ) (fallbacks : List (ℕ × Enum64Fallback)) (id : ℕ) (places : List ℕ) → map without_fallback (types_at order bytes fallbacks id places) ≡ types_at order bytes [] id places
unfolding types_at
bare order bytes fallbacks id [] = refl
bare order bytes fallbacks id (place ∷ places) =
    let here = bare_by order (drop place bytes) (fallback_at fallbacks id) in
    let there = bare order bytes fallbacks (suc id) places in
    rw (here, there) refl

pub are_records : (order : Endianness) (bytes places : List ℕ) (fallbacks : List (ℕ × Enum64Fallback)) → IsLaidOut order bytes fallbacks places → AreRecords order bytes
are_records order bytes places fallbacks laid = record { types = types_at order bytes [] 1 places; spelled = laid.spelled }

pub all_written : {X E : Type 0} (r : Result X E) (order : Endianness) (bytes places : List ℕ) (fallbacks : List (ℕ × Enum64Fallback)) (old new : List ℕ) → IsLaidOut order bytes fallbacks places → OnOk r (IsWrittenAgain order bytes old new) → OnOk r (new ≡ old ++ flat_map (record_bytes order) (types_at order bytes fallbacks 1 places))
all_written (Ok x) order bytes places fallbacks old new laid again = again.written (types_at order bytes [] 1 places) laid.spelled ∙ ap (λ (b : List ℕ). old ++ b) (sym (same_bytes order bytes fallbacks 1 places))
all_written (Err e) order bytes places fallbacks old new laid again = tt

pub all_spelled : {X E : Type 0} (r : Result X E) (order : Endianness) (bytes places : List ℕ) (fallbacks : List (ℕ × Enum64Fallback)) (old new : List ℕ) → IsLaidOut order bytes fallbacks places → OnOk r (IsWrittenAgain order bytes old new) → OnOk r (Spells order (map without_fallback (types_at order bytes fallbacks 1 places)) (flat_map (record_bytes order) (types_at order bytes fallbacks 1 places)))
all_spelled (Ok x) order bytes places fallbacks old new laid again = rw (bare order bytes fallbacks 1 places, same_bytes order bytes fallbacks 1 places) (again.spelled (types_at order bytes [] 1 places) laid.spelled)
all_spelled (Err e) order bytes places fallbacks old new laid again = tt
