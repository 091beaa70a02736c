-- Types that the search doesn't want, judged by their kinds and the first bytes of their names.
use Rattle.std.proofs.Common.{◌≡◌, ℕ, ◌<◌, Bool, true, false, cond, not, List, [], Option, None, Some, refl, sym, ◌∙◌, drop, length}
use Rattle.std.specs.Prelude.{◌&&◌, is_some}
use Rattle.std.specs.Borrow.{Bor}
use Rattle.std.specs.Cmp.Lexicographic.{same_text, slice_cmp, texts_ties}
use Rattle.std.specs.Option.{option_map, option_map_or}
use Rattle.std.specs.Ordering.{is_eq, nat_cmp}
use Rattle.std.proofs.lemmas.Bool.{false_from_ne_true}
use Rattle.btf_records.specs.Fields.{kind_of_type, name_offset_of}
use Rattle.btf_records.specs.Kinds.{number_of}
use Rattle.btf_records.specs.declared.types.BtfType.{BtfType}
use Rattle.btf_tables.specs.EssentialNames.{essential_name}
use Rattle.btf_tables.specs.Tables.{Table}
use Rattle.string_table.specs.FirstBytes.{AreTexts, is_marked}
use Rattle.string_table.specs.Texts.{text_at}
use Rattle.btf_search.specs.Prefixes.{Prefixes, MarksName, MayBegin}
use Rattle.btf_search.specs.NamedTypes.{name_of}
use Rattle.btf_search.specs.Searches.{ArePrefixes, IsOtherName, Searched, has_name, is_wanted}

-- ---- The first bytes of wanted names

pub none_begin : (prefixes : Prefixes) → ArePrefixes [] prefixes
none_begin prefixes = record { each = λ text is. absurd cc }

begins_by : (old : List (Bor (List ℕ))) (name text : List ℕ) (before prefixes : Prefixes) (test : Bool) → ArePrefixes old before → MarksName name before prefixes → is_eq (slice_cmp nat_cmp name (essential_name text)) ≡ test → cond test true (has_name old (essential_name text)) ≡ true → MayBegin prefixes text
begins_by old name text before prefixes true are begin is has = begin.named text (sym (same_text name (essential_name text) (sym (texts_ties name (essential_name text) ∙ is))))
begins_by old name text before prefixes false are begin is has = begin.stay text (are.each text has)

-- One more name, with its prefix marked.
pub more_beginnings : (old new : List (Bor (List ℕ))) (name : List ℕ) (before prefixes : Prefixes) → ArePrefixes old before → MarksName name before prefixes → ((other : List ℕ) → has_name new other ≡ cond (is_eq (slice_cmp nat_cmp name other)) true (has_name old other)) → ArePrefixes new prefixes
more_beginnings old new name before prefixes are begin put = record {
  each = λ text has. begins_by old name text before prefixes (is_eq (slice_cmp nat_cmp name (essential_name text))) are begin refl (sym (put (essential_name text)) ∙ has);
}

-- ---- Types that the search doesn't want

pub of_other_kind : (search : Searched) (table : Table) (t : BtfType) → is_marked search.kinds (number_of (kind_of_type t)) ≡ false → is_wanted search (kind_of_type t) (name_of table t) ≡ false
of_other_kind search table t other = rw other refl

and_false : (one other : Bool) → other ≡ false → (one && other) ≡ false
and_false true other is = is
and_false false other is = refl

name_by : (names : List (Bor (List ℕ))) (text : Option (List ℕ)) → IsOtherName names text → option_map_or (has_name names) (option_map essential_name text) true ≡ false
name_by names None other = absurd other
name_by names (Some text) other = other

pub of_other_name : (search : Searched) (table : Table) (t : BtfType) → IsOtherName search.names (text_at table.strings (name_offset_of t)) → is_wanted search (kind_of_type t) (name_of table t) ≡ false
of_other_name search table t other = and_false (is_marked search.kinds (number_of (kind_of_type t))) (option_map_or (has_name search.names) (name_of table t) true) (name_by search.names (text_at table.strings (name_offset_of t)) other)

other_by : (names : List (Bor (List ℕ))) (prefixes : Prefixes) (strings : List ℕ) (offset : ℕ) (text : Option (List ℕ)) → ArePrefixes names prefixes → text_at strings offset ≡ text → is_some text ≡ true → ((t : List ℕ) → text_at strings offset ≡ Some t → MayBegin prefixes t → ⊥) → IsOtherName names text
other_by names prefixes strings offset None are is some isnt = absurd cc
other_by names prefixes strings offset (Some text) are is some isnt = false_from_ne_true (has_name names (essential_name text)) (λ has. isnt text is (are.each text has))

not_false : (b : Bool) → not b ≡ true → b ≡ false
not_false true e = absurd cc
not_false false e = refl

pub begins_otherwise : (names : List (Bor (List ℕ))) (prefixes : Prefixes) (strings bytes : List ℕ) (offset : ℕ) (may : Bool) → ArePrefixes names prefixes → AreTexts strings → bytes ≡ drop offset strings → offset < length strings → not may ≡ true → ((strings text : List ℕ) (offset : ℕ) → bytes ≡ drop offset strings → text_at strings offset ≡ Some text → may ≡ false → MayBegin prefixes text → ⊥) → IsOtherName names (text_at strings offset)
begins_otherwise names prefixes strings bytes offset may are texts is within isnt otherwise =
    other_by names prefixes strings offset (text_at strings offset) are refl (texts.each offset within) (λ text e. otherwise strings text offset is e (not_false may isnt))
