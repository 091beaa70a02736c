-- The faults for which a program can't be linked. A program has a fault iff one of the copies of
-- its order has it.
use Rattle.std.specs.Prelude.{◌≡◌, ◌⊎◌, ℕ, ◌^◌, ◌≤◌, true, false, List, [], ◌∷◌, Some, None, slice_get, Bool, ◌&&◌, ◌+◌, ℤ, pos, is_some}
use Rattle.std.specs.Int.{int_rem_euclid}
use Rattle.std.specs.String.{string_bytes}
use Rattle.ebpf_items.specs.declared.instruction.bpf_insn.{bpf_insn}
use Rattle.object_parts.specs.Content.{FunctionContent, function_at}
use Rattle.relocation_errors.specs.declared.error.RelocationError.{RelocationError}
use Rattle.relocation_errors.specs.declared.error.RelocationError.TheVariants as error
use Rattle.linker.specs.Layout.{Key, IsOrder, end_of}
use Rattle.linker.specs.declared.target.Target.{Target}
use Rattle.linker.specs.declared.target.Target.TheVariants as target
use Rattle.linker.specs.Unlinked.{Unlinked, function_in, target_at, table_of}
use Rattle.linker.specs.Records.{mismatches}

-- No function begins at an address. The address of the error is counted modulo 2^64.
abbrev pub IsUnknownAt : ℤ → List ℕ → RelocationError → Type 0
IsUnknownAt place caller (error.UnknownFunction address name) =
    (pos address ≡ int_rem_euclid place (pos (2 ^ 64))) × (string_bytes name ≡ caller)
IsUnknownAt place caller _ = ⊥

-- A reference has no function: its symbol can't stand for a function, or no function begins at its
-- address.
abbrev pub IsTargetFault : Unlinked → FunctionContent → Target → RelocationError → Type 0
IsTargetFault u f (target.UnknownSymbol index) (error.UnknownSymbol i) = i ≡ index
IsTargetFault u f (target.Function section place) e =
    (function_in u.functions section place ≡ None) × IsUnknownAt place f.name e
IsTargetFault u f _ _ = ⊥

-- Some slot of a function has such a reference.
abbrev pub HasTargetFault : Unlinked → FunctionContent → RelocationError → Type 0
HasTargetFault u f e =
    (slot : ℕ)
    × (s : bpf_insn)
    × (slice_get f.instructions slot ≡ Some s)
    × IsTargetFault u f (target_at u f slot s) e

-- The function of a key has a slot with such a reference.
abbrev pub HasTargetFaultAt : Unlinked → Key → RelocationError → Type 0
HasTargetFaultAt u key e =
    (f : FunctionContent) × (function_at u.functions key ≡ Some f) × HasTargetFault u f e

-- The records of the function `callee` don't fit those of the program.
abbrev pub IsMismatchOf : List ℕ → RelocationError → Type 0
IsMismatchOf callee (error.FunctionInfoMismatch name) = string_bytes name ≡ callee
IsMismatchOf callee _ = ⊥

-- The function of the last copy.
abbrev pub last_of : Key → List Key → Key
last_of own [] = own
last_of own (k ∷ ks) = k

-- The records of the last copy's function don't fit those of the program's own function.
abbrev pub HasMismatch : Unlinked → Key → List Key → RelocationError → Type 0
HasMismatch u own [] e = ⊥
HasMismatch u own (k ∷ ks) e =
    (f : FunctionContent)
    × (g : FunctionContent)
    × (function_at u.functions own ≡ Some f)
    × (function_at u.functions k ≡ Some g)
    × (mismatches f g ≡ true)
    × IsMismatchOf g.name e

-- A program has 2^31 slots or more.
abbrev pub IsTooLong : Unlinked → Key → List Key → RelocationError → Type 0
IsTooLong u own ks e =
    (2147483648 ≤ end_of (table_of u) own ks) × (e ≡ error.InvalidRelocationOffset 0 0)

-- A fault of the last of some copies.
abbrev pub IsLastFault : Unlinked → Key → List Key → RelocationError → Type 0
IsLastFault u own ks e =
    HasTargetFaultAt u (last_of own ks) e ⊎ (HasMismatch u own ks e ⊎ IsTooLong u own ks e)

-- A fault of a program: a fault of the last copy of an order of its copies.
abbrev pub HasLinkFault : Unlinked → Key → RelocationError → Type 0
HasLinkFault u own e = (ks : List Key) × (IsOrder (table_of u) own ks × IsLastFault u own ks e)

pub record CanBeLinked (u : Unlinked) (own : Key) : Type 0 where
  pub none : (e : RelocationError) → HasLinkFault u own e → ⊥

-- Whether a reference has a function, or there is no reference.
abbrev pub is_sound : Unlinked → Target → Bool
is_sound u target.Nothing = true
is_sound u (target.UnknownSymbol index) = false
is_sound u (target.Function section place) = is_some (function_in u.functions section place)

-- Whether the references of the slots from `slot` on have no fault.
abbrev pub are_sound : Unlinked → FunctionContent → ℕ → List bpf_insn → Bool
are_sound u f slot [] = true
are_sound u f slot (s ∷ ss) = is_sound u (target_at u f slot s) && are_sound u f (slot + 1) ss
