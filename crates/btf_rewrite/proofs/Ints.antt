-- The search for the least id of an integer of 4 bytes.
use Rattle.std.proofs.Common.{◌≡◌, ℕ, ◌+◌, true, false, List, drop, Option, None, Some}
use Rattle.std.specs.List.{slice_get}
use Rattle.btf_records.specs.declared.types.BtfType.{BtfType}
use Rattle.btf_storage.specs.Ints.{int4_from, is_int4}
use Rattle.btf_storage.proofs.Left.{left_none, left_some}

pub int_here : (types : List BtfType) (i : ℕ) (t : BtfType) (wanted : Option ℕ) → int4_from (i + 1) (drop i types) ≡ wanted → slice_get types i ≡ Some t → is_int4 t ≡ true → Some (i + 1) ≡ wanted
int_here types i t wanted left here is = rw (left_some types i t here, is) at left

pub no_int_here : (types : List BtfType) (i : ℕ) (t : BtfType) (wanted : Option ℕ) → int4_from (i + 1) (drop i types) ≡ wanted → slice_get types i ≡ Some t → is_int4 t ≡ false → int4_from (i + 1 + 1) (drop (i + 1) types) ≡ wanted
no_int_here types i t wanted left here is = rw (left_some types i t here, is) at left

pub no_ints_left : (types : List BtfType) (i : ℕ) (wanted : Option ℕ) → int4_from (i + 1) (drop i types) ≡ wanted → slice_get types i ≡ None → None ≡ wanted
no_ints_left types i wanted left past = rw (left_none types i past) at left
