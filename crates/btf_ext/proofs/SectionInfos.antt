-- Complete section infos, one after the other.
use Rattle.std.proofs.Common.{ℕ, ◌+◌, ◌*◌, ◌<◌, ◌≤◌, ◌^◌, List, [], ◌∷◌, ◌++◌, length, drop, refl, sym, arith, length-drop}
use Rattle.std.proofs.Math.Nat.{mul-le-mul_left}
use Rattle.btf_records.specs.declared.words.Endianness.{Endianness}
use Rattle.btf_ext.specs.SectionInfos.{IsSectionInfo, Reach, count_in, section_info_len}

-- The product of two words, plus 8, fits 64 bits.
pub product_fits : (a b : ℕ) → a < 2 ^ 32 → b < 2 ^ 32 → 8 + a * b < 2 ^ 64
product_fits a b la lb = omega (arith, mul-le-mul_left a (let most : b ≤ 4294967295 = omega arith in most))

-- An item at an index below the count lies within the items.
pub item_within : (size index count : ℕ) → index < count → size * index + size ≤ size * count
item_within size index count lt = omega (arith, mul-le-mul_left size (let next : index + 1 ≤ count = omega arith in next))

pub reach_none : (order : Endianness) (size : ℕ) (bytes : List ℕ) → Reach order size bytes 0 [] 0
reach_none order size bytes = refl

pub reach_more : (order : Endianness) (size : ℕ) (bytes : List ℕ) (from : ℕ) (places : List ℕ) (at : ℕ) → Reach order size bytes from places at → IsSectionInfo order size (drop at bytes) → Reach order size bytes from (places ++ at ∷ []) (at + section_info_len order size (drop at bytes))
reach_more order size bytes from [] at e g = (sym e, g, refl)
reach_more order size bytes from (place ∷ places) at r g = (r.0, r.1, reach_more order size bytes (place + section_info_len order size (drop place bytes)) places at r.2 g)

pub place_within : (order : Endianness) (size : ℕ) (bytes : List ℕ) (place : ℕ) → IsSectionInfo order size (drop place bytes) → place ≤ length bytes
place_within order size bytes place g = omega (arith, g.begun, length-drop place bytes)

pub records_there : (order : Endianness) (size : ℕ) (section_info : List ℕ) → IsSectionInfo order size section_info → size * count_in order section_info ≤ length (drop 8 section_info)
records_there order size section_info g = omega (arith, g.whole, length-drop 8 section_info)
