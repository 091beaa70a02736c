-- The slots that bytes encode: their number, access by index, and removal of the first slot.
use Rattle.std.proofs.Common.{◌≡◌, ℕ, zero, suc, ◌+◌, ◌*◌, ◌/◌, ◌<◌, ◌≤◌, ◌^◌, Bool, true, false, List, [], ◌∷◌, ◌++◌, length, take, drop, get_or, refl, sym, ap, ap₂, ◌∙◌, Some, arith, length-drop, lit<}
use Rattle.std.specs.Int.{w16, w32, from_le_bytes, to_le_bytes}
use Rattle.std.specs.List.{slice_get}
use Rattle.std.specs.Option.{option_map}
use Rattle.std.proofs.Math.Nat.{div-eq-sub-div}
use Rattle.std.proofs.lemmas.Nat.{le_bytes_2, le_bytes_4}
use Rattle.std.proofs.lemmas.List.{drop-drop, drop-map, length-map, get_or-drop}
use Rattle.std.proofs.lemmas.Int.{of_z-to_z}
use Rattle.std.proofs.lemmas.Option.{slice_get-map}
use Rattle.ebpf_items.specs.declared.instruction.bpf_insn.{bpf_insn}
use Rattle.ebpf_items.specs.declared.slot_list.FileSlots.{FileSlots}
use Rattle.ebpf_items.specs.Instruction.{slot_of, bytes_of, slots_in, slots_of, with_older_helper}
use Rattle.ebpf_items.specs.Slots.{renamed_where, file_slots}

pub length-slots_in : (bytes : List ℕ) (n : ℕ) → length (slots_in bytes n) ≡ n
length-slots_in bytes zero = refl
length-slots_in bytes (suc n) = ap suc (length-slots_in (drop 8 bytes) n)

pub get-slots_in : (bytes : List ℕ) (n i : ℕ) → i < n → slice_get (slots_in bytes n) i ≡ Some (slot_of (take 8 (drop (8 * i) bytes)))
get-slots_in bytes zero i h = absurd (omega arith)
get-slots_in bytes (suc n) zero h = refl
get-slots_in bytes (suc n) (suc i) h =
    let inner = get-slots_in (drop 8 bytes) n i (omega arith) in
    let place : 8 + 8 * i ≡ 8 * suc i = omega arith in
    inner ∙ ap (λ b. Some (slot_of (take 8 b))) (drop-drop (8 * i) 8 bytes ∙ ap (λ k. drop k bytes) place)

pub length-renamed_where : (b : Bool) (slots : List bpf_insn) → length (renamed_where b slots) ≡ length slots
length-renamed_where true slots = length-map slots with_older_helper
length-renamed_where false slots = refl

pub length-file_slots : (f : FileSlots) → length (file_slots f) ≡ length f.bytes.now / 8
length-file_slots f = length-renamed_where f.is_renamed (slots_of f.bytes.now) ∙ length-slots_in f.bytes.now (length f.bytes.now / 8)

pub get-file_slots_as_read : (f : FileSlots) (i : ℕ) → f.is_renamed ≡ false → i < length f.bytes.now / 8 → slice_get (file_slots f) i ≡ Some (slot_of (take 8 (drop (8 * i) f.bytes.now)))
get-file_slots_as_read f i e h = rw e (get-slots_in f.bytes.now (length f.bytes.now / 8) i h)

pub get-file_slots_renamed : (f : FileSlots) (i : ℕ) → f.is_renamed ≡ true → i < length f.bytes.now / 8 → slice_get (file_slots f) i ≡ Some (with_older_helper (slot_of (take 8 (drop (8 * i) f.bytes.now))))
get-file_slots_renamed f i e h = rw e (slice_get-map with_older_helper (slots_of f.bytes.now) i ∙ ap (λ o. option_map with_older_helper o) (get-slots_in f.bytes.now (length f.bytes.now / 8) i h))

-- Without its first slot, the list of slots of some bytes is the list of the bytes after the first
-- eight.
drop-slots_of : (bytes : List ℕ) → 8 ≤ length bytes → drop 1 (slots_of bytes) ≡ slots_of (drop 8 bytes)
drop-slots_of bytes h =
    let count : length bytes / 8 ≡ suc (length (drop 8 bytes) / 8) = div-eq-sub-div (lit< tt) h ∙ rw length-drop (omega arith) in
    rw count refl

drop-renamed_where : (b : Bool) (slots : List bpf_insn) → renamed_where b (drop 1 slots) ≡ drop 1 (renamed_where b slots)
drop-renamed_where true slots = sym (drop-map with_older_helper 1 slots)
drop-renamed_where false slots = refl

pub drop-file_slots : (f : FileSlots) (bytes : List ℕ) → 8 ≤ length f.bytes.now → bytes ≡ drop 8 f.bytes.now → renamed_where f.is_renamed (slots_of bytes) ≡ drop 1 (file_slots f)
drop-file_slots f bytes h e = rw (e, ← drop-slots_of f.bytes.now h) (drop-renamed_where f.is_renamed (slots_of f.bytes.now))

fits_two : (a b : ℕ) → a < 256 → b < 256 → (i : ℕ) → get_or (a ∷ b ∷ []) i 0 < 256
fits_two a b h k zero = h
fits_two a b h k (suc zero) = k
fits_two a b h k (suc (suc i)) = lit< tt

fits_after : (n : ℕ) (bytes : List ℕ) → ((i : ℕ) → get_or bytes i 0 < 256) → (i : ℕ) → get_or (drop n bytes) i 0 < 256
fits_after n bytes fits i = rw get_or-drop (fits (n + i))

-- Decoding eight bytes as a slot and encoding the slot again yields the same bytes.
pub bytes_of-slot_of : (bytes : List ℕ) → length bytes ≡ 8 → ((i : ℕ) → get_or bytes i 0 < 256) → bytes_of (slot_of bytes) ≡ bytes
bytes_of-slot_of (a ∷ b ∷ c ∷ d ∷ e ∷ f ∷ g ∷ h ∷ []) l fits =
    let off_fits : from_le_bytes w16 (c ∷ d ∷ []) < 2 ^ 16 = omega (arith, fits 2, fits 3) in
    let imm_fits : from_le_bytes w32 (e ∷ f ∷ g ∷ h ∷ []) < 2 ^ 32 = omega (arith, fits 4, fits 5, fits 6, fits 7) in
    let off = ap (to_le_bytes w16) (of_z-to_z w16 (from_le_bytes w16 (c ∷ d ∷ [])) off_fits) ∙ le_bytes_2 (c ∷ d ∷ []) (from_le_bytes w16 (c ∷ d ∷ [])) refl (fits_two c d (fits 2) (fits 3)) refl in
    let imm = ap (to_le_bytes w32) (of_z-to_z w32 (from_le_bytes w32 (e ∷ f ∷ g ∷ h ∷ [])) imm_fits) ∙ le_bytes_4 (e ∷ f ∷ g ∷ h ∷ []) (from_le_bytes w32 (e ∷ f ∷ g ∷ h ∷ [])) refl (fits_after 4 (a ∷ b ∷ c ∷ d ∷ e ∷ f ∷ g ∷ h ∷ []) fits) refl in
    ap (λ o. a ∷ b ∷ o) (ap₂ (λ x y. x ++ y) off imm)
bytes_of-slot_of bytes l fits = absurd (omega arith)
