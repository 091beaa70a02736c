-- The copies of functions that a program consists of, by its slots and the object's functions.
use Rattle.std.specs.Prelude.{◌≡◌, ℕ, ◌+◌, ◌-◌, ◌<◌, ◌==◌, ◌||◌, nat_lt, Bool, false, List, [], ◌∷◌, ◌++◌, length, Option, None, Some, option_and_then, slice_get, if◌then◌else◌}
use Rattle.std.specs.Option.{option_map_or}
use Rattle.std.specs.BTreeMap.{insert_entry, is_at}
use Rattle.std.specs.Map.{lookup}
use Rattle.std.specs.Ordering.{nat_cmp}
use Rattle.ebpf_items.specs.Instruction.{is_pseudo_call, src_reg_of}
use Rattle.ebpf_items.specs.declared.instruction.bpf_insn.{bpf_insn}
use Rattle.linker.specs.Layout.{Key}
use Rattle.linker.specs.Unlinked.{Unlinked, key_at, target_at}
use Rattle.linker.specs.declared.target.Target.{Target}
use Rattle.linker.specs.declared.target.Target.TheVariants as target
use Rattle.object_parts.specs.Content.{FunctionContent, function_at}
use Rattle.plan_copies.specs.Slots.{slot_after}
use Rattle.plan_copies.specs.declared.copies.FunctionCopy.{FunctionCopy}

-- Whether a slot of a linked program may refer to a function of the program: a call
-- (BPF_PSEUDO_CALL), or another slot with the source register that linking writes
-- (BPF_PSEUDO_FUNC). The function's own slot tells whether it does.
abbrev pub may_refer_to_function : bpf_insn → Bool
may_refer_to_function s = is_pseudo_call s || (src_reg_of s == 4)

-- The key of the function that a target names.
abbrev pub key_of_target : Target → Option Key
key_of_target target.Nothing = None
key_of_target (target.UnknownSymbol index) = None
key_of_target (target.Function section address) = key_at section address

-- The key of the function that a function's own slot refers to.
abbrev pub referred_in : Unlinked → ℕ → FunctionContent → Option Key
referred_in u index f =
    option_and_then (λ s. key_of_target (target_at u f index s)) (slice_get f.instructions index)

abbrev pub named : Unlinked → Key → ℕ → Option Key
named u key index = option_and_then (referred_in u index) (function_at u.functions key)

-- Whether a function has slots. One without slots has no copy: another copy may begin at the slot
-- to which its references lead.
abbrev pub has_slots : Unlinked → Key → Bool
has_slots u key =
    option_map_or (λ f. nat_lt 0 (length f.instructions)) (function_at u.functions key) false

abbrev pub if_copied : Unlinked → Key → Option Key
if_copied u key = if has_slots u key then Some key else None

-- The key of the function with slots that a linked slot refers to, by the slot of the function that
-- it is the copy of.
abbrev pub referred : Unlinked → Key → ℕ → bpf_insn → Option Key
referred u key index linked =
    if may_refer_to_function linked then option_and_then (if_copied u) (named u key index) else None

-- A walk over a program's slots: the functions whose copies begin at slots, as far as the slots
-- tell that were visited; the copies that have ended; and the function of the current copy, with
-- the slot at which it begins.
pub record Walk : Type 0 where
  pub starts : List (ℕ × Key)
  pub copies : List FunctionCopy
  pub key : Key
  pub start : ℕ

-- The walk before the first slot.
abbrev pub walk_of : Key → Walk
walk_of own = record { starts = []; copies = []; key = own; start = 0 }

-- The current copy, if it ends before a slot.
abbrev pub copy_until : Walk → ℕ → FunctionCopy
copy_until w slot = record { key = w.key; start = w.start; len = slot - w.start }

abbrev pub copies_until : Walk → ℕ → List FunctionCopy
copies_until w slot =
    if nat_lt w.start slot then w.copies ++ copy_until w slot ∷ [] else w.copies

-- The walk at the beginning of a slot, where the copy of a function begins or none does.
abbrev pub entered_at : Walk → ℕ → Option Key → Walk
entered_at w slot None = w
entered_at w slot (Some key) = record w {
  copies = w.copies ++ copy_until w slot ∷ [];
  key = key;
  start = slot;
}

abbrev pub entered : Walk → ℕ → Walk
entered w slot =
    if nat_lt w.start slot then entered_at w slot (lookup (is_at (nat_cmp slot)) w.starts) else w

-- The walk with the beginning of a function's copy.
abbrev pub with_start : Walk → Option ℕ → Option Key → Walk
with_start w (Some start) (Some key) =
    record w { starts = insert_entry nat_cmp w.starts start key }
with_start w (Some start) None = w
with_start w None key = w

-- The walk after the reference of a slot, if it has one.
abbrev pub noted : Unlinked → Walk → ℕ → bpf_insn → Walk
noted u w slot linked =
    with_start w (slot_after slot linked.imm) (referred u w.key (slot - w.start) linked)

abbrev pub visited : Unlinked → Walk → ℕ → bpf_insn → Walk
visited u w slot linked = noted u (entered w slot) slot linked

-- The copies from a slot on.
abbrev pub copies_from : Unlinked → Walk → ℕ → List bpf_insn → List FunctionCopy
copies_from u w slot [] = copies_until w slot
copies_from u w slot (s ∷ ss) = copies_from u (visited u w slot s) (slot + 1) ss

-- The copies in a program's slots; a program without slots has none. The first is that of the
-- program's own function. Another one begins at each slot that an earlier slot's reference to a
-- function with slots leads to: it is the copy of the function that the last of these references
-- names in the object.
unfoldable pub copies_of : Unlinked → Key → List bpf_insn → List FunctionCopy
copies_of u own slots = copies_from u (walk_of own) 0 slots

-- Copies follow one another from a slot up to another one, and none is empty.
abbrev pub Follow : ℕ → List FunctionCopy → ℕ → Type 0
Follow from [] to = from ≡ to
Follow from (c ∷ cs) to = (c.start ≡ from) × (0 < c.len) × Follow (c.start + c.len) cs to

-- The key of the first copy, or of the copy after these where there is none.
abbrev pub first_key : List FunctionCopy → Key → Key
first_key [] key = key
first_key (c ∷ cs) key = c.key

-- The copies of a program with this many slots: the first is that of its own function, and each
-- slot is in exactly one.
pub record AreCopies (own : Key) (count : ℕ) (copies : List FunctionCopy) : Type 0 where
  pub cover : Follow 0 copies count
  pub first : first_key copies own ≡ own
