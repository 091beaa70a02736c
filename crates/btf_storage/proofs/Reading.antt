-- The offsets of records, one after the other.
use Rattle.std.proofs.Common.{◌≡◌, ℕ, ◌+◌, ◌-◌, ◌<◌, ◌≤◌, ◌^◌, List, [], ◌∷◌, ◌++◌, length, drop, refl, sym, ap, subst, ◌∙◌, arith, length-drop}
use Rattle.std.specs.Prelude.{All}
use Rattle.std.proofs.lemmas.List.{drop-drop}
use Rattle.std.proofs.lemmas.List.Elements.{All-append, All-cons, All-nil}
use Rattle.btf_storage.specs.Layout.{IsLaidOut, types_at}
use Rattle.btf_storage.proofs.Growth.{types_after}
use Rattle.btf_storage.proofs.Lengths.{begins_more, least_of_all, spelled_few, spelled_tight}
use Rattle.btf_storage.proofs.Places.{length_types_at}
use Rattle.btf_encoding.specs.Records.{Begins, HasRecord, ReadsSame, RecordFault, Spells, TypesFault, record_len, type_in}
use Rattle.btf_records.specs.declared.compound.Enum64Fallback.{Enum64Fallback}
use Rattle.btf_records.specs.declared.error.BtfError.{BtfError}
use Rattle.btf_records.specs.declared.types.BtfType.{BtfType}
use Rattle.btf_records.specs.declared.words.Endianness.{Endianness}

-- The offsets of the records that the bytes begin with, and the rest after them.
pub record ArePlaces (order : Endianness) (bytes places : List ℕ) (rest : List ℕ) : Type 0 where
  pub begun : Begins order (types_at order bytes [] 1 places) rest bytes
  pub stand : All (λ p. ReadsSame order (drop p bytes)) places
  pub left : rest ≡ drop (length bytes - length rest) bytes
  pub within : length rest ≤ length bytes

pub no_places : (order : Endianness) (bytes : List ℕ) → ArePlaces order bytes [] bytes
unfolding types_at
no_places order bytes =
    let none : length bytes - length bytes ≡ 0 = omega arith in
    record {
      begun = refl;
      stand = All-nil (λ p. ReadsSame order (drop p bytes));
      left = rw none refl;
      within = omega arith;
    }

pub one_more_place : (order : Endianness) (bytes places : List ℕ) (rest : List ℕ) → ArePlaces order bytes places rest → HasRecord order rest → ReadsSame order rest → ArePlaces order bytes (places ++ (length bytes - length rest) ∷ []) (drop (record_len order rest) rest)
one_more_place order bytes places rest are has alone =
    let place = length bytes - length rest in
    let len = record_len order rest in
    let whole = has.whole in
    let left_len : length (drop len rest) + len ≡ length rest = omega (arith, length-drop len rest) in
    let types : types_at order bytes [] 1 (places ++ place ∷ []) ≡ types_at order bytes [] 1 places ++ type_in order rest ∷ [] =
    types_after order bytes [] 1 places place ∙ ap (λ (r : List ℕ). types_at order bytes [] 1 places ++ type_in order r ∷ []) (sym are.left)
    in
    let further : place + len ≡ length bytes - length (drop len rest) = omega (arith, are.within) in
    record {
      begun = subst (λ (ts : List BtfType). Begins order ts (drop len rest) bytes) (sym types) (begins_more order (types_at order bytes [] 1 places) rest bytes are.begun has);
      stand = All-append (λ p. ReadsSame order (drop p bytes)) places (place ∷ []) are.stand (All-cons (λ p. ReadsSame order (drop p bytes)) place [] (subst (λ (r : List ℕ). ReadsSame order r) are.left alone) (All-nil (λ p. ReadsSame order (drop p bytes))));
      left = ap (drop len) are.left ∙ (drop-drop len place bytes ∙ ap (λ (k : ℕ). drop k bytes) further);
      within = omega (arith, are.within);
    }

pub fault_after : (order : Endianness) (bytes places : List ℕ) (rest : List ℕ) (e : BtfError) → ArePlaces order bytes places rest → 0 < length rest → RecordFault order rest e → TypesFault order bytes e
fault_after order bytes places rest e are more wrong = record { front = types_at order bytes [] 1 places; rest = rest; begins = are.begun; more = more; wrong = wrong }

nothing : (xs : List ℕ) → length xs ≡ 0 → xs ≡ []
nothing [] e = refl
nothing (x ∷ xs) e = absurd (omega (arith, e))

pub all_places : (order : Endianness) (bytes places : List ℕ) (rest : List ℕ) → ArePlaces order bytes places rest → length rest ≡ 0 → Spells order (types_at order bytes [] 1 places) bytes
all_places order bytes places rest are none = subst (λ (r : List ℕ). Begins order (types_at order bytes [] 1 places) r bytes) (nothing rest none) are.begun

pub laid_out : (order : Endianness) (bytes places : List ℕ) → Spells order (types_at order bytes [] 1 places) bytes → All (λ p. ReadsSame order (drop p bytes)) places → length bytes < 2 ^ 32 → IsLaidOut order bytes [] places
laid_out order bytes places spelled stand few = record {
  stand = stand;
  in_use = λ id past. refl;
  spelled = spelled;
  tight = spelled_tight order (types_at order bytes [] 1 places) bytes spelled;
  few_bytes = few;
  few_types = omega (arith, spelled_few order (types_at order bytes [] 1 places) bytes spelled, length_types_at order bytes [] 1 places);
}

-- There are few enough records for one more.
pub has_room : (order : Endianness) (bytes places : List ℕ) (fallbacks : List (ℕ × Enum64Fallback)) → IsLaidOut order bytes fallbacks places → length places + 1 < 2 ^ 32
has_room order bytes places fallbacks laid = omega (arith, laid.tight, laid.few_bytes, least_of_all order (types_at order bytes fallbacks 1 places), length_types_at order bytes fallbacks 1 places)
