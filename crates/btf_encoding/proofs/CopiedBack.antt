-- Reading back a record that was copied.
use Rattle.std.proofs.Common.{◌≡◌, ℕ, ◌≤◌, List, [], ◌∷◌, Option, true, drop, length, take, refl, sym, ap, ◌∙◌, arith, length-drop}
use Rattle.btf_encoding.specs.Records.{HasRecord, ReadsBack, ReadsSame, Spells, kind_at, record_bytes, record_len, type_as, type_in, with_fallback, without_fallback, words_of}
use Rattle.btf_encoding.specs.Rewriting.{is_kept}
use Rattle.btf_encoding.proofs.Kept.{IsBytes, is_kept_back}
use Rattle.btf_encoding.proofs.ManyTypes.{alone, follows}
use Rattle.btf_encoding.proofs.WhateverFollows.{reads_same}
use Rattle.btf_records.specs.Words.{words_bytes}
use Rattle.btf_records.specs.declared.compound.Enum64Fallback.{Enum64Fallback}
use Rattle.btf_records.specs.declared.kind.BtfKind.{BtfKind}
use Rattle.btf_records.specs.declared.kind.BtfKind.TheVariants as kinds
use Rattle.btf_records.specs.declared.types.BtfType.{BtfType}
use Rattle.btf_records.specs.declared.types.BtfType.TheVariants as types
use Rattle.btf_records.specs.declared.words.Endianness.{Endianness}

-- A record that was read from bytes stands for no enum.
read_without : (kind : BtfKind) (order : Endianness) (bytes : List ℕ) → without_fallback (type_as kind order bytes) ≡ type_as kind order bytes
read_without kinds.Unknown order bytes = refl
read_without kinds.Fwd order bytes = refl
read_without kinds.Const order bytes = refl
read_without kinds.Volatile order bytes = refl
read_without kinds.Restrict order bytes = refl
read_without kinds.Ptr order bytes = refl
read_without kinds.Typedef order bytes = refl
read_without kinds.Func order bytes = refl
read_without kinds.Int order bytes = refl
read_without kinds.Float order bytes = refl
read_without kinds.Enum order bytes = refl
read_without kinds.Array order bytes = refl
read_without kinds.Struct order bytes = refl
read_without kinds.Union order bytes = refl
read_without kinds.FuncProto order bytes = refl
read_without kinds.Var order bytes = refl
read_without kinds.DataSec order bytes = refl
read_without kinds.DeclTag order bytes = refl
read_without kinds.TypeTag order bytes = refl
read_without kinds.Enum64 order bytes = refl

nothing_left : (len : ℕ) (bytes : List ℕ) → len ≤ length bytes → drop len bytes ≡ [] → len ≡ length bytes
nothing_left len bytes within none = omega (arith, within, length-drop len bytes, ap length none)

copied_from : (order : Endianness) (bytes r : List ℕ) → HasRecord order r → type_in order r ≡ type_in order bytes → drop (record_len order r) r ≡ [] → record_bytes order (type_in order bytes) ≡ r → ReadsBack order (type_in order bytes)
copied_from order bytes r has same none written =
    let all : record_len order r ≡ length r = nothing_left (record_len order r) r has.whole none in
    let again : ReadsSame order r = reads_same order r has in
    let plain : without_fallback (type_in order bytes) ≡ type_in order bytes = read_without (kind_at order bytes) order bytes in
    record {
      begins = λ after. rw written (again.begins after);
      same = λ after. rw written (again.same after ∙ (same ∙ sym plain));
      len = λ after. rw written (again.len after ∙ all);
      alone = rw written again;
      follows = rw (written, plain) (follows order (type_in order bytes) r has same all);
    }

pub copied_back : (order : Endianness) (bytes : List ℕ) → HasRecord order bytes → IsBytes bytes → is_kept (kind_at order bytes) order bytes ≡ true → ReadsBack order (type_in order bytes)
copied_back order bytes has range kept =
    let one : Spells order (type_in order bytes ∷ []) (take (record_len order bytes) bytes) = alone order bytes has in
    copied_from order bytes (take (record_len order bytes) bytes) one.0 one.1 one.2 (is_kept_back order bytes has range kept)

-- The enum that a union stands for has no bytes.
words_with : (f : Option Enum64Fallback) (t : BtfType) → words_of (with_fallback f t) ≡ words_of t
words_with f types.Unknown = refl
words_with f (types.Fwd t) = refl
words_with f (types.Const t) = refl
words_with f (types.Volatile t) = refl
words_with f (types.Restrict t) = refl
words_with f (types.Ptr t) = refl
words_with f (types.Typedef t) = refl
words_with f (types.Func t) = refl
words_with f (types.Int t) = refl
words_with f (types.Float t) = refl
words_with f (types.Enum t) = refl
words_with f (types.Array t) = refl
words_with f (types.Struct t) = refl
words_with f (types.Union t) = refl
words_with f (types.FuncProto t) = refl
words_with f (types.Var t) = refl
words_with f (types.DataSec t) = refl
words_with f (types.DeclTag t) = refl
words_with f (types.TypeTag t) = refl
words_with f (types.Enum64 t) = refl

without_with : (f : Option Enum64Fallback) (t : BtfType) → without_fallback (with_fallback f t) ≡ without_fallback t
without_with f types.Unknown = refl
without_with f (types.Fwd t) = refl
without_with f (types.Const t) = refl
without_with f (types.Volatile t) = refl
without_with f (types.Restrict t) = refl
without_with f (types.Ptr t) = refl
without_with f (types.Typedef t) = refl
without_with f (types.Func t) = refl
without_with f (types.Int t) = refl
without_with f (types.Float t) = refl
without_with f (types.Enum t) = refl
without_with f (types.Array t) = refl
without_with f (types.Struct t) = refl
without_with f (types.Union t) = refl
without_with f (types.FuncProto t) = refl
without_with f (types.Var t) = refl
without_with f (types.DataSec t) = refl
without_with f (types.DeclTag t) = refl
without_with f (types.TypeTag t) = refl
without_with f (types.Enum64 t) = refl

pub bytes_with : (order : Endianness) (f : Option Enum64Fallback) (t : BtfType) → record_bytes order (with_fallback f t) ≡ record_bytes order t
unfolding record_bytes
bytes_with order f t = ap (words_bytes order) (words_with f t)

pub back_with : (order : Endianness) (f : Option Enum64Fallback) (t : BtfType) → ReadsBack order t → ReadsBack order (with_fallback f t)
back_with order f t back =
    let same = bytes_with order f t in
    let plain = without_with f t in
    record {
      begins = λ after. rw same (back.begins after);
      same = λ after. rw (same, plain) (back.same after);
      len = λ after. rw same (back.len after);
      alone = rw same back.alone;
      follows = rw (same, plain) back.follows;
    }
