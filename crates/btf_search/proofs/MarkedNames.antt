-- The prefixes of marked names.
use Rattle.std.proofs.Common.{◌/◌, ◌%◌, ◌^◌, ◌≡◌, ℕ, zero, suc, ◌<◌, ◌≤◌, Bool, true, false, cond, List, [], ◌∷◌, drop, length, Some, refl, ap, sym, ◌∙◌, subst, inl, inr, arith}
use Rattle.std.specs.Prelude.{◌==◌, ◌||◌, ◌⊎◌, codes, nat_eq, slice_index}
use Rattle.std.proofs.lemmas.Bool.Decides.{nat_tests}
use Rattle.std.specs.List.{starts_with}
use Rattle.btf_tables.specs.EssentialNames.{essential_name}
use Rattle.string_table.specs.FirstBytes.{is_marked}
use Rattle.string_table.specs.Texts.{text_at}
use Rattle.btf_search.specs.Prefixes.{Filter, HasPrefix, MarksName, MarksPrefix, MayBegin, Prefixes, hash_of}
use Rattle.btf_search.proofs.PrefixHashes.{same_hash}
use Rattle.btf_search.proofs.Walks.{both, first_test, other_test}

-- ---- The first bytes of the texts of a name

-- A text begins with the bytes of a name.
record BeginsWith (name text : List ℕ) : Type 0 where
  pub long : length name ≤ length text
  pub same : (i : ℕ) → i < length name → slice_index text i ≡ slice_index name i

one_more : (c : ℕ) (name text : List ℕ) → BeginsWith name text → BeginsWith (c ∷ name) (c ∷ text)
one_more c name text rest = record { long = omega (arith, rest.long); same = each } where
  each : (i : ℕ) → i < length (c ∷ name) → slice_index (c ∷ text) i ≡ slice_index (c ∷ name) i
  each zero lt = refl
  each (suc i) lt = rest.same i (omega (arith, lt))

nothing : (text : List ℕ) → BeginsWith [] text
nothing text = record { long = omega arith; same = λ i lt. absurd (omega (arith, lt)) }

cut_by : (test : Bool) (c : ℕ) (cs : List ℕ) → BeginsWith (essential_name cs) cs → BeginsWith (cond test [] (c ∷ essential_name cs)) (c ∷ cs)
cut_by true c cs rest = nothing (c ∷ cs)
cut_by false c cs rest = one_more c (essential_name cs) cs rest

cut : (text : List ℕ) → BeginsWith (essential_name text) text
cut [] = nothing []
cut (c ∷ cs) = cut_by (starts_with nat_eq (c ∷ cs) (codes "___")) c cs (cut cs)

begins : (name text : List ℕ) → essential_name text ≡ name → BeginsWith name text
begins name text is = subst (λ (n : List ℕ). BeginsWith n text) is (cut text)

-- ---- Marks

-- One more number is marked.
abbrev Marks : List Bool → List Bool → ℕ → Type 0
Marks old new number = (other : ℕ) → is_marked new other ≡ (other == number || is_marked old other)

first_holds : (test old : Bool) → test ≡ true → (test || old) ≡ true
first_holds true old is = refl
first_holds false old is = absurd cc

other_holds : (test old : Bool) → old ≡ true → (test || old) ≡ true
other_holds true old is = refl
other_holds false old is = is

here : (old new : List Bool) (number other : ℕ) → Marks old new number → other ≡ number → is_marked new other ≡ true
here old new number other put same =
    let yes : (other == number) ≡ true = grind (arith, nat_tests, same) in
    put other ∙ first_holds (other == number) (is_marked old other) yes

stays : (old new : List Bool) (number other : ℕ) → Marks old new number → is_marked old other ≡ true → is_marked new other ≡ true
stays old new number other put is = put other ∙ other_holds (other == number) (is_marked old other) is

-- One more name is marked by the hash of its first bytes.
pub marked : (len hash high_byte low_byte : ℕ) (name first : List ℕ) (high low high_new low_new : List Bool) → len ≤ length name → len ≤ 8 → ((i : ℕ) → i < 8 → slice_index first i ≡ slice_index name i) → hash ≡ hash_of len first → high_byte ≡ hash / 2 ^ 8 → low_byte ≡ hash % 2 ^ 8 → Marks high high_new high_byte → Marks low low_new low_byte
    → MarksPrefix name (record { len = len; high = high; low = low }) (record { len = len; high = high_new; low = low_new })
marked len hash high_byte low_byte name first high low high_new low_new short few are is upper lower put_high put_low = record {
  len = refl;
  named = λ text has.
      let begun = begins name text has in
      let same : hash_of len text ≡ hash = same_hash len text first (λ i lt. begun.same i (omega (arith, lt, short)) ∙ sym (are i (omega (arith, lt, few)))) ∙ sym is in
      record {
        long = omega (arith, short, begun.long);
        marked = both (is_marked high_new (hash_of len text / 2 ^ 8)) (is_marked low_new (hash_of len text % 2 ^ 8)) (here high high_new high_byte (hash_of len text / 2 ^ 8) put_high (ap (λ (n : ℕ). n / 2 ^ 8) same ∙ sym upper)) (here low low_new low_byte (hash_of len text % 2 ^ 8) put_low (ap (λ (n : ℕ). n % 2 ^ 8) same ∙ sym lower));
      };
  stay = λ text may. record {
    long = may.long;
    marked = both (is_marked high_new (hash_of len text / 2 ^ 8)) (is_marked low_new (hash_of len text % 2 ^ 8)) (stays high high_new high_byte (hash_of len text / 2 ^ 8) put_high (first_test (is_marked high (hash_of len text / 2 ^ 8)) (is_marked low (hash_of len text % 2 ^ 8)) may.marked)) (stays low low_new low_byte (hash_of len text % 2 ^ 8) put_low (other_test (is_marked high (hash_of len text / 2 ^ 8)) (is_marked low (hash_of len text % 2 ^ 8)) may.marked));
  };
}

-- ---- Names by the filter of their length

either : {A B C D : Type 0} → A ⊎ B → (A → C) → (B → D) → C ⊎ D
either (inl a) one other = inl (one a)
either (inr b) one other = inr (other b)

pub marks_long : (name : List ℕ) (old new : Prefixes) → MarksPrefix name old.long new.long → new.short ≡ old.short → MarksName name old new
marks_long name old new marks same = record {
  len = ap (λ (f : Filter). f.len) same;
  named = λ text is. inl (marks.named text is);
  stay = λ text may. either may (marks.stay text) (subst (λ (f : Filter). HasPrefix f text) (sym same));
}

pub marks_short : (name : List ℕ) (old new : Prefixes) → MarksPrefix name old.short new.short → new.long ≡ old.long → MarksName name old new
marks_short name old new marks same = record {
  len = marks.len;
  named = λ text is. inr (marks.named text is);
  stay = λ text may. either may (subst (λ (f : Filter). HasPrefix f text) (sym same)) (marks.stay text);
}

neither : {A B : Type 0} → (A → ⊥) → (B → ⊥) → A ⊎ B → ⊥
neither no_one no_other (inl a) = no_one a
neither no_one no_other (inr b) = no_other b

-- A text without either prefix begins as none of the names.
abbrev HasNone : Filter → List ℕ → Bool → Type 0
HasNone filter bytes test =
    (strings text : List ℕ) (offset : ℕ)
    → bytes ≡ drop offset strings
    → text_at strings offset ≡ Some text
    → test ≡ false
    → HasPrefix filter text
    → ⊥

pub begins_as_neither : (prefixes : Prefixes) (bytes : List ℕ) (one other : Bool) → HasNone prefixes.long bytes one → HasNone prefixes.short bytes other → one ≡ false → (strings text : List ℕ) (offset : ℕ) → bytes ≡ drop offset strings → text_at strings offset ≡ Some text → other ≡ false → MayBegin prefixes text → ⊥
begins_as_neither prefixes bytes one other no_one no_other isnt strings text offset is e otherwise =
    neither (no_one strings text offset is e isnt) (no_other strings text offset is e otherwise)
