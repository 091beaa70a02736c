-- The parts of types by their indices.
use Rattle.std.proofs.Common.{◌≡◌, ◌≢◌, ℕ, zero, suc, List, [], ◌∷◌, ◌++◌, map, length, Some, None, refl, arith}
use Rattle.std.specs.Prelude.{slice_get}
use Rattle.std.specs.List.{zip}
use Rattle.btf_compatibility.specs.TypeCompatibility.{parts_of}
use Rattle.btf_records.specs.Fields.{kind_of_type, params_of, type_of}
use Rattle.btf_encoding.specs.Records.{count_of}
use Rattle.btf_records.specs.declared.item.BtfParam.{BtfParam}
use Rattle.btf_records.specs.declared.kind.BtfKind.TheVariants as kinds
use Rattle.btf_records.specs.declared.types.BtfType.{BtfType}
use Rattle.btf_records.specs.declared.types.BtfType.TheVariants as types

get_param : (ps : List BtfParam) (last i : ℕ) (p : BtfParam) → slice_get ps i ≡ Some p → slice_get (map (λ q. q.btf_type) ps ++ last ∷ []) i ≡ Some p.btf_type
get_param [] last i p e = absurd cc
get_param (q ∷ ps) last zero p e = let same : q ≡ p = cc in rw same refl
get_param (q ∷ ps) last (suc i) p e = get_param ps last i p e

get_last : (ps : List BtfParam) (last i : ℕ) → i ≡ length ps → slice_get (map (λ q. q.btf_type) ps ++ last ∷ []) i ≡ Some last
get_last [] last zero e = refl
get_last [] last (suc i) e = absurd (omega arith)
get_last (q ∷ ps) last zero e = absurd (omega arith)
get_last (q ∷ ps) last (suc i) e = get_last ps last i (omega arith)

get_past : (ps : List BtfParam) (last i : ℕ) → slice_get ps i ≡ None → i ≢ length ps → slice_get (map (λ q. q.btf_type) ps ++ last ∷ []) i ≡ None
get_past [] last zero none other = absurd (other refl)
get_past [] last (suc i) none other = refl
get_past (q ∷ ps) last zero none other = absurd cc
get_past (q ∷ ps) last (suc i) none other = get_past ps last i none (λ e. other (omega arith))

pub param_at : (t : BtfType) (i : ℕ) (p : BtfParam) → kind_of_type t ≡ kinds.FuncProto → slice_get (params_of t) i ≡ Some p → slice_get (parts_of t) i ≡ Some p.btf_type
param_at (types.FuncProto t) i p kind e = get_param t.params t.return_type i p e
param_at _ i p kind e = absurd cc

pub returned_at : (t : BtfType) (i : ℕ) → kind_of_type t ≡ kinds.FuncProto → i ≡ count_of t → slice_get (parts_of t) i ≡ type_of t
returned_at (types.FuncProto t) i kind e = get_last t.params t.return_type i e
returned_at _ i kind e = absurd cc

pub past_returned : (t : BtfType) (i : ℕ) → kind_of_type t ≡ kinds.FuncProto → slice_get (params_of t) i ≡ None → i ≢ count_of t → slice_get (parts_of t) i ≡ None
past_returned (types.FuncProto t) i kind none other = get_past t.params t.return_type i none other
past_returned _ i kind none other = absurd cc

pub both_parts : (xs ys : List ℕ) (i x y : ℕ) → slice_get xs i ≡ Some x → slice_get ys i ≡ Some y → slice_get (zip xs ys) i ≡ Some (x, y)
both_parts [] ys i x y e f = absurd cc
both_parts (a ∷ xs) [] i x y e f = absurd cc
both_parts (a ∷ xs) (b ∷ ys) zero x y e f = cc
both_parts (a ∷ xs) (b ∷ ys) (suc i) x y e f = both_parts xs ys i x y e f

pub no_left_part : (xs ys : List ℕ) (i : ℕ) → slice_get xs i ≡ None → slice_get (zip xs ys) i ≡ None
no_left_part [] ys i e = refl
no_left_part (a ∷ xs) [] i e = refl
no_left_part (a ∷ xs) (b ∷ ys) zero e = absurd cc
no_left_part (a ∷ xs) (b ∷ ys) (suc i) e = no_left_part xs ys i e

pub no_right_part : (xs ys : List ℕ) (i : ℕ) → slice_get ys i ≡ None → slice_get (zip xs ys) i ≡ None
no_right_part [] ys i e = refl
no_right_part (a ∷ xs) [] i e = refl
no_right_part (a ∷ xs) (b ∷ ys) zero e = absurd cc
no_right_part (a ∷ xs) (b ∷ ys) (suc i) e = no_right_part xs ys i e
