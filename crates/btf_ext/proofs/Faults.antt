-- Section infos without faults.
use Rattle.std.proofs.Common.{◌≡◌, ℕ, zero, suc, ◌*◌, ◌<◌, ◌≤◌, List, None, drop, get_or, refl, arith}
use Rattle.std.proofs.lemmas.Bool.{false≢true}
use Rattle.std.specs.Prelude.{IsSome}
use Rattle.btf_records.specs.Words.{word_at}
use Rattle.btf_records.specs.declared.error.BtfError.{BtfError}
use Rattle.btf_records.specs.declared.error.BtfError.TheVariants.{InvalidRelocationKind, InvalidStringOffset}
use Rattle.btf_records.specs.declared.words.Endianness.{Endianness}
use Rattle.string_table.specs.Texts.{text_at}
use Rattle.btf_ext.specs.Faults.{KindFault, NameFault}
use Rattle.btf_ext.specs.Layout.{AreAllKindsKnown, AreKindsKnown, IsFaultless, IsRead}
use Rattle.btf_ext.specs.Regions.{section_infos_bytes, size_in}
use Rattle.btf_ext.specs.declared.section_info_list.SectionInfoList.{SectionInfoList}
use Rattle.btf_ext.specs.declared.region.RegionKind.TheVariants.{Functions, Lines, Relocations}

named : (order : Endianness) (strings bytes : List ℕ) (e : BtfError) → IsSome (text_at strings (word_at order bytes 0)) → NameFault order strings bytes e → ⊥
named order strings bytes (InvalidStringOffset offset) some fault =
    let none : text_at strings (word_at order bytes 0) ≡ None = rw fault.0 at fault.1 in
    absurd (false≢true (rw none at some))
named order strings bytes _ some fault = fault

pub named_function : (order : Endianness) (size : ℕ) (strings bytes : List ℕ) → IsSome (text_at strings (word_at order bytes 0)) → IsFaultless Functions order size strings bytes
named_function order size strings bytes some = record { none = λ e. named order strings bytes e some }

pub named_line : (order : Endianness) (size : ℕ) (strings bytes : List ℕ) → IsSome (text_at strings (word_at order bytes 0)) → IsFaultless Lines order size strings bytes
named_line order size strings bytes some = record { none = λ e. named order strings bytes e some }

known : (order : Endianness) (size : ℕ) (bytes : List ℕ) (e : BtfError) → AreKindsKnown order size bytes → KindFault order size bytes e → ⊥
known order size bytes (InvalidRelocationKind kind) are fault = omega (arith, are.known fault.index fault.within, fault.here, fault.unknown)
known order size bytes _ are fault = fault

pub known_kinds : (order : Endianness) (size : ℕ) (strings bytes : List ℕ) → AreKindsKnown order size bytes → IsFaultless Relocations order size strings bytes
known_kinds order size strings bytes are = record { none = λ e. known order size bytes e are }

below : (m n : ℕ) → (n ≤ m → ⊥) → m < n
below zero zero less = absurd (less (omega arith))
below zero (suc n) less = omega arith
below (suc m) zero less = absurd (less (omega arith))
below (suc m) (suc n) less =
    let rest : m < n = below m n (λ most. less (omega (arith, most))) in
    omega (arith, rest)

known_of : (order : Endianness) (size : ℕ) (strings bytes : List ℕ) → IsFaultless Relocations order size strings bytes → AreKindsKnown order size bytes
known_of order size strings bytes is = record {
  known = λ index within. below (word_at order (drop (size * index) (drop 8 bytes)) 12) 12 (λ most. is.none (InvalidRelocationKind (word_at order (drop (size * index) (drop 8 bytes)) 12)) (record { index = index; within = within; here = refl; unknown = most }));
}

-- The kinds of the relocations that were read are known.
pub all_known : (order : Endianness) (strings region : List ℕ) (g : SectionInfoList) → IsRead Relocations order strings region g → AreAllKindsKnown g
all_known order strings region g read = record {
  each = rw (read.same_order, read.size, read.bytes) (λ i d lt. known_of order (size_in order region) strings (drop (get_or g.places.items i d) (section_infos_bytes region)) (read.places.faultless i d lt));
}
