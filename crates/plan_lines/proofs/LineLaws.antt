-- Lines and their words.
use Rattle.std.proofs.Common.{◌≡◌, ◌≢◌, ℕ, ◌%◌, ◌^◌, ◌<◌, Bool, true, false, cond, nat_lt, List, [], ◌∷◌, ◌++◌, length, map, refl, ap, sym, ◌∙◌, subst, arith, rules, lit<, append-nil, Option, None, Some, inl, inr, ◌⊎◌, codes}
use Rattle.std.specs.Fmt.{decimal}
use Rattle.std.specs.List.{find, list_any}
use Rattle.std.specs.Option.{option_map}
use Rattle.std.specs.Prelude.{◌==◌, ◌&&◌, option_and_then, slice_index}
use Rattle.std.specs.Str.{bytes_eq, is_utf8}
use Rattle.std.proofs.lemmas.Bool.Decides.{nat_tests}
use Rattle.btf_records.specs.declared.feature.BtfFeature.{BtfFeature}
use Rattle.btf_records.specs.declared.feature.BtfFeature.TheVariants as feature
use Rattle.plan_lines.proofs.KindLaws.{kind_is, section_again, section_takes}
use Rattle.plan_lines.proofs.NumberLists.{AreFew, Rise, first_again, first_takes, limits_few, map_some, map_words_again, map_words_take, numbers_again, numbers_take, places_again, places_take, rise_tables, some_is, tables_rise, then_again, then_takes}
use Rattle.plan_lines.proofs.Pieces.{ArePlain, joined_pieces, pieces_joined, unbroken_joined}
use Rattle.plan_lines.proofs.WordTexts.{IsPlain, bind_some, both_true, bytes_are, eq_is, eq_less, eq_more, first_digit, guard_none, guard_some, hex_first, hex_of_hex, hex_of_is, not_same, number_upto_decimal, number_upto_is, plain_decimal, plain_hex}
use Rattle.plan_lines.specs.Kinds.{section_by}
use Rattle.plan_lines.specs.LineReading.{all_features, all_keywords, answer_by, are_words_of, arguments_by, feature_by, form_by, header_by, keyword_by, license_by, license_in, line_by, line_in, map_by, map_words_by, name_by, numbers_by, places_by, section_words_by, slots_by, slots_in, some_tables, tables_by, text_in, then_by, types_by, types_in, version_by, version_in, whole}
use Rattle.plan_lines.specs.LineReads.{line_text}
use Rattle.plan_lines.specs.Lines.{AreTables, AreWithin, AreWordsOf, End, Feature, Func, Header, Inner, IsName, IsSoundLine, License, LineContent, Map, Program, Slots, Source, Tables, Types, Version, answer_word, arguments_of, feature_word, form_word, keyword_of, keyword_word, kind_list, max_32, numbers_of, table_words, types_word, version_word, word_limits, words_of_line}
use Rattle.plan_lines.specs.ProgramKinds.{kind_numbers, numbered}
use Rattle.plan_lines.specs.WordReading.{IsUnbroken, first_by, hex_of, number_upto, pieces_of}
use Rattle.plan_lines.specs.Words.{hex_word, joined}
use Rattle.plan_lines.specs.declared.line.Keyword.{Keyword}
use Rattle.plan_lines.specs.declared.line.Keyword.TheVariants as keyword
use Rattle.plan_lines.specs.declared.line.TextVersion.TheVariants.{First, Second}
use Rattle.plan_lines.specs.declared.map_words.MapWords.{MapWords}
use Rattle.program_kinds.specs.declared.program_section.ProgramSection.{ProgramSection}

-- Tests.

-- A condition has one of two results.
chosen : {A : Type 0} (b : Bool) (x y z : A) → cond b x y ≡ z → ((b ≡ true) × (x ≡ z)) ⊎ ((b ≡ false) × (y ≡ z))
chosen true x y z h = inl (refl, h)
chosen false x y z h = inr (refl, h)

not_equal : (m n : ℕ) → m ≢ n → (m == n) ≡ false
not_equal m n h = grind (arith, nat_tests)

differ : (m n : ℕ) → (m == n) ≡ false → m ≢ n
differ m n h = grind (arith, nat_tests)

equal : (m n : ℕ) → m ≡ n → (m == n) ≡ true
equal m n h = grind (arith, nat_tests)

lt_true : (m n : ℕ) → m < n → nat_lt m n ≡ true
lt_true m n h = grind (arith, nat_tests)

lt_is : (m n : ℕ) → nat_lt m n ≡ true → m < n
lt_is m n h = grind (arith, nat_tests)

-- The element that is found by its word.

found : {A : Type 0} (test : A → Bool) (xs : List A) (a : A) → find test xs ≡ Some a → test a ≡ true
found test [] a h = cc
found {A} test (x ∷ xs) a h = elim (chosen (test x) (Some x) (find test xs) (Some a) h) [
  | inl p ↦ subst (λ (y : A). test y ≡ true) (some_is x a p.1) p.0
  | inr p ↦ found test xs a p.1
]

keyword_takes : (w : List ℕ) (k : Keyword) → keyword_by w ≡ Some k → w ≡ keyword_word k
keyword_takes w k h = sym (bytes_are (keyword_word k) w (found (λ x. bytes_eq (keyword_word x) w) all_keywords k h))

keyword_again : (k : Keyword) → keyword_by (keyword_word k) ≡ Some k
keyword_again keyword.Header = refl
keyword_again keyword.License = refl
keyword_again keyword.Version = refl
keyword_again keyword.Feature = refl
keyword_again keyword.Types = refl
keyword_again keyword.Map = refl
keyword_again keyword.Inner = refl
keyword_again keyword.Program = refl
keyword_again keyword.Slots = refl
keyword_again keyword.Tables = refl
keyword_again keyword.Func = refl
keyword_again keyword.Source = refl
keyword_again keyword.End = refl

feature_takes : (w : List ℕ) (f : BtfFeature) → feature_by w ≡ Some f → w ≡ feature_word f
feature_takes w f h = sym (bytes_are (feature_word f) w (found (λ x. bytes_eq (feature_word x) w) all_features f h))

feature_again : (f : BtfFeature) → feature_by (feature_word f) ≡ Some f
feature_again feature.Func = refl
feature_again feature.FuncGlobal = refl
feature_again feature.DataSec = refl
feature_again feature.DataSecZero = refl
feature_again feature.Float = refl
feature_again feature.DeclTag = refl
feature_again feature.TypeTag = refl
feature_again feature.Enum64 = refl

-- One of two words, or none.
two_words : {A : Type 0} (w one two : List ℕ) (x y a : A) → cond (bytes_eq w one) (Some x) (cond (bytes_eq w two) (Some y) None) ≡ Some a → ((w ≡ one) × (x ≡ a)) ⊎ ((w ≡ two) × (y ≡ a))
two_words w one two x y a h = elim (chosen (bytes_eq w one) (Some x) (cond (bytes_eq w two) (Some y) None) (Some a) h) [
  | inl p ↦ inl (bytes_are w one p.0, some_is x a p.1)
  | inr p ↦ let g = guard_some (bytes_eq w two) (Some y) a p.1 in inr (bytes_are w two g.0, some_is y a g.1)
]

answer_takes : (w : List ℕ) (b : Bool) → answer_by w ≡ Some b → w ≡ answer_word b
answer_takes w b h = elim (two_words w (codes "yes") (codes "no") true false b h) [
  | inl p ↦ p.0 ∙ ap answer_word p.1
  | inr p ↦ p.0 ∙ ap answer_word p.1
]

answer_again : (b : Bool) → answer_by (answer_word b) ≡ Some b
answer_again true = refl
answer_again false = refl

form_takes : (w : List ℕ) (b : Bool) → form_by w ≡ Some b → w ≡ form_word b
form_takes w b h = elim (two_words w (codes "btf") (codes "legacy") true false b h) [
  | inl p ↦ p.0 ∙ ap form_word p.1
  | inr p ↦ p.0 ∙ ap form_word p.1
]

form_again : (b : Bool) → form_by (form_word b) ≡ Some b
form_again true = refl
form_again false = refl

-- Words of one argument.

-- A word is the only argument of a line, and the line is within its limits.
abbrev IsOnly : Keyword → List ℕ → LineContent → Type 0
IsOnly k w line = (keyword_of line ≡ k) × (w ∷ [] ≡ arguments_of line) × IsSoundLine line

only_is : (k : Keyword) (w : List ℕ) (line read : LineContent) → IsOnly k w line → line ≡ read → IsOnly k w read
only_is k w line read h e = subst (IsOnly k w) e h

header_takes : (w : List ℕ) (line : LineContent) → header_by w ≡ Some line → IsOnly keyword.Header w line
header_takes w line h = elim (two_words w (codes "1") (codes "2") (Header First) (Header Second) line h) [
  | inl p ↦ only_is keyword.Header w (Header First) line (refl, ap (λ x. x ∷ []) p.0, tt) p.1
  | inr p ↦ only_is keyword.Header w (Header Second) line (refl, ap (λ x. x ∷ []) p.0, tt) p.1
]

license_takes : (w : List ℕ) (line : LineContent) → license_by w ≡ Some line → IsOnly keyword.License w line
license_takes w line h =
    let p = bind_some license_in (hex_of w) line h in
    let x = hex_of_is w p.0 p.1 in
    let g = guard_none (list_any (λ b. b == 0) p.0) (Some (License p.0)) line p.2 in
    only_is keyword.License w (License p.0) line (refl, ap (λ v. v ∷ []) x.0, (x.1, g.0)) (some_is (License p.0) line g.1)

version_takes : (w : List ℕ) (line : LineContent) → version_by w ≡ Some line → IsOnly keyword.Version w line
version_takes w line h = elim (chosen (bytes_eq w (codes "any")) (Some (Version None)) (option_and_then version_in (number_upto max_32 w)) (Some line) h) [
  | inl p ↦ only_is keyword.Version w (Version None) line (refl, ap (λ v. v ∷ []) (bytes_are w (codes "any") p.0), tt) (some_is (Version None) line p.1)
  | inr p ↦
      let q = bind_some version_in (number_upto max_32 w) line p.1 in
      let n = number_upto_is max_32 (lit< tt) w q.0 q.1 in
      let g = guard_none (q.0 == 0xffff_fffe) (Some (Version (Some q.0))) line q.2 in
      only_is keyword.Version w (Version (Some q.0)) line (refl, ap (λ v. v ∷ []) n.0, (n.1, differ q.0 0xffff_fffe g.0)) (some_is (Version (Some q.0)) line g.1)
]

types_takes : (w : List ℕ) (line : LineContent) → types_by w ≡ Some line → IsOnly keyword.Types w line
types_takes w line h = elim (chosen (bytes_eq w (codes "none")) (Some (Types None)) (option_and_then types_in (hex_of w)) (Some line) h) [
  | inl p ↦ only_is keyword.Types w (Types None) line (refl, ap (λ v. v ∷ []) (bytes_are w (codes "none") p.0), tt) (some_is (Types None) line p.1)
  | inr p ↦
      let q = bind_some types_in (hex_of w) line p.1 in
      let x = hex_of_is w q.0 q.1 in
      let g = guard_some (nat_lt 0 (length q.0)) (Some (Types (Some q.0))) line q.2 in
      only_is keyword.Types w (Types (Some q.0)) line (refl, ap (λ v. v ∷ []) x.0, (x.1, lt_is 0 (length q.0) g.0)) (some_is (Types (Some q.0)) line g.1)
]

slots_takes : (w : List ℕ) (line : LineContent) → slots_by w ≡ Some line → IsOnly keyword.Slots w line
slots_takes w line h =
    let p = bind_some slots_in (hex_of w) line h in
    let x = hex_of_is w p.0 p.1 in
    let g = guard_some (length p.0 % 8 == 0) (Some (Slots p.0)) line p.2 in
    only_is keyword.Slots w (Slots p.0) line (refl, ap (λ v. v ∷ []) x.0, (x.1, eq_is (length p.0 % 8) 0 g.0)) (some_is (Slots p.0) line g.1)

name_takes : (w name : List ℕ) → name_by w ≡ Some name → (w ≡ hex_word name) × IsName name
name_takes w name h =
    let p = bind_some text_in (hex_of w) name h in
    let x = hex_of_is w p.0 p.1 in
    let g = guard_some (is_utf8 p.0) (Some p.0) name p.2 in
    let P : List ℕ → Type 0 = λ n. (w ≡ hex_word n) × IsName n in
    subst P (some_is p.0 name g.1) (x.0, record { bytes = x.1; text = g.0 })

name_again : (name : List ℕ) → IsName name → name_by (hex_word name) ≡ Some name
name_again name h = ap (option_and_then text_in) (hex_of_hex name h.bytes) ∙ rw h.text refl

-- Several arguments.

words_of_is : (is_btf : Bool) (words : MapWords) → are_words_of is_btf words ≡ true → AreWordsOf is_btf words
words_of_is true words h = eq_is words.id 0 h
words_of_is false words h =
    let p = both_true ((words.map_extra == 0) && (words.btf_key_type_id == 0)) (words.btf_value_type_id == 0) h in
    let q = both_true (words.map_extra == 0) (words.btf_key_type_id == 0) p.0 in
    (eq_is words.map_extra 0 q.0, eq_is words.btf_key_type_id 0 q.1, eq_is words.btf_value_type_id 0 p.1)

words_of_again : (is_btf : Bool) (words : MapWords) → AreWordsOf is_btf words → are_words_of is_btf words ≡ true
words_of_again true words h = equal words.id 0 h
words_of_again false words h =
    rw (equal words.map_extra 0 h.0, equal words.btf_key_type_id 0 h.1, equal words.btf_value_type_id 0 h.2) refl

-- The words are a line's arguments followed by more words, and the line is within its limits.
abbrev IsTaken : Keyword → List (List ℕ) → LineContent × List (List ℕ) → Type 0
IsTaken k ws read = (keyword_of read.0 ≡ k) × (ws ≡ arguments_of read.0 ++ read.1) × IsSoundLine read.0

by_only : (k : Keyword) (by : List ℕ → Option LineContent) (takes : (w : List ℕ) (line : LineContent) → by w ≡ Some line → IsOnly k w line) (ws : List (List ℕ)) (line : LineContent) (rest : List (List ℕ)) → first_by by ws ≡ Some (line, rest) → IsTaken k ws (line, rest)
by_only k by takes ws line rest h =
    let f = first_takes by ws line rest h in
    let t = takes f.0 line f.2 in
    (t.0, f.1 ∙ ap (λ v. v ++ rest) t.1, t.2)

feature_line_takes : (ws : List (List ℕ)) (read : LineContent × List (List ℕ)) → arguments_by keyword.Feature ws ≡ Some read → IsTaken keyword.Feature ws read
feature_line_takes ws read h =
    let a = then_takes (first_by feature_by ws) _ read h in
    let f = first_takes feature_by ws a.0 a.1 a.2 in
    let b = then_takes (first_by answer_by a.1) _ read a.3 in
    let g = first_takes answer_by a.1 b.0 b.1 b.2 in
    subst (IsTaken keyword.Feature ws) (some_is (Feature a.0 b.0, b.1) read b.3)
    (refl, f.1 ∙ (ap (λ w. w ∷ a.1) (feature_takes f.0 a.0 f.2) ∙ ap (λ v. feature_word a.0 ∷ v) (g.1 ∙ ap (λ w. w ∷ b.1) (answer_takes g.0 b.0 g.2))), tt)

map_line_takes : (ws : List (List ℕ)) (read : LineContent × List (List ℕ)) → arguments_by keyword.Map ws ≡ Some read → IsTaken keyword.Map ws read
map_line_takes ws read h =
    let a = then_takes (first_by name_by ws) _ read h in
    let f = first_takes name_by ws a.0 a.1 a.2 in
    let name = name_takes f.0 a.0 f.2 in
    let b = then_takes (first_by (number_upto 0x7fff_ffff) a.1) _ read a.3 in
    let g = first_takes (number_upto 0x7fff_ffff) a.1 b.0 b.1 b.2 in
    let number = number_upto_is 0x7fff_ffff (lit< tt) g.0 b.0 g.2 in
    let c = then_takes (first_by form_by b.1) _ read b.3 in
    let i = first_takes form_by b.1 c.0 c.1 c.2 in
    let form = form_takes i.0 c.0 i.2 in
    let d = then_takes (map_words_by c.1) (map_by a.0 b.0 c.0) read c.3 in
    let words = map_words_take c.1 d.0 d.1 d.2 in
    let e = guard_some (are_words_of c.0 d.0) _ read d.3 in
    let j = then_takes (first_by hex_of d.1) (λ contents left. Some (Map a.0 b.0 c.0 d.0 contents, left)) read e.1 in
    let k = first_takes hex_of d.1 j.0 j.1 j.2 in
    let contents = hex_of_is k.0 j.0 k.2 in
    subst (IsTaken keyword.Map ws) (some_is (Map a.0 b.0 c.0 d.0 j.0, j.1) read j.3) (
      refl,
      f.1 ∙ (ap (λ w. w ∷ a.1) name.0 ∙ ap (λ v. hex_word a.0 ∷ v) (g.1 ∙ (ap (λ w. w ∷ b.1) number.0 ∙ ap (λ v. decimal b.0 ∷ v) (i.1 ∙ (ap (λ w. w ∷ c.1) form ∙ ap (λ v. form_word c.0 ∷ v) (words.0 ∙ ap (λ v. map decimal (numbers_of d.0) ++ v) (k.1 ∙ ap (λ w. w ∷ j.1) contents.0))))))),
      (name.1, number.1, words.1, words_of_is c.0 d.0 e.0, contents.1),
    )

inner_line_takes : (ws : List (List ℕ)) (read : LineContent × List (List ℕ)) → arguments_by keyword.Inner ws ≡ Some read → IsTaken keyword.Inner ws read
inner_line_takes ws read h =
    let a = then_takes (map_words_by ws) (λ words left. Some (Inner words, left)) read h in
    let words = map_words_take ws a.0 a.1 a.2 in
    subst (IsTaken keyword.Inner ws) (some_is (Inner a.0, a.1) read a.3) (refl, words.0, words.1)

-- The three numbers of a kind of program.
section_words_take : (ws : List (List ℕ)) (section : ProgramSection) (rest : List (List ℕ)) → section_words_by ws ≡ Some (section, rest) → ws ≡ map decimal (kind_list (kind_numbers section)) ++ rest
section_words_take ws section rest h =
    let a = then_takes (numbers_by (255 ∷ 255 ∷ 255 ∷ []) ws) _ (section, rest) h in
    let n = numbers_take (255 ∷ 255 ∷ 255 ∷ []) ws a.0 a.1 (lit< tt, (lit< tt, (lit< tt, tt))) a.2 in
    let m = map_some (λ (s : ProgramSection). (s, a.1)) (section_by a.0) (section, rest) a.3 in
    let s = section_takes (numbered (slice_index a.0 0) (slice_index a.0 1) (slice_index a.0 2)) m.0 m.1 in
    let P : ProgramSection × List (List ℕ) → Type 0 = λ p. ws ≡ map decimal (kind_list (kind_numbers p.0)) ++ p.1 in
    subst P m.2 (n.0 ∙ ap (λ v. map decimal v ++ a.1) (three a.0 n.1 ∙ ap kind_list s))
  where
    three : (ns : List ℕ) → AreWithin (255 ∷ 255 ∷ 255 ∷ []) ns → ns ≡ slice_index ns 0 ∷ slice_index ns 1 ∷ slice_index ns 2 ∷ []
    three [] w = absurd w
    three (a ∷ []) w = absurd w.1
    three (a ∷ b ∷ []) w = absurd w.1.1
    three (a ∷ b ∷ c ∷ []) w = refl
    three (a ∷ b ∷ c ∷ d ∷ ns) w = absurd w.1.1.1

program_line_takes : (ws : List (List ℕ)) (read : LineContent × List (List ℕ)) → arguments_by keyword.Program ws ≡ Some read → IsTaken keyword.Program ws read
program_line_takes ws read h =
    let a = then_takes (first_by name_by ws) _ read h in
    let f = first_takes name_by ws a.0 a.1 a.2 in
    let name = name_takes f.0 a.0 f.2 in
    let b = then_takes (section_words_by a.1) (λ section left. Some (Program a.0 section, left)) read a.3 in
    let s = section_words_take a.1 b.0 b.1 b.2 in
    subst (IsTaken keyword.Program ws) (some_is (Program a.0 b.0, b.1) read b.3)
    (refl, f.1 ∙ (ap (λ w. w ∷ a.1) name.0 ∙ ap (λ v. hex_word a.0 ∷ v) s), name.1)

func_line_takes : (ws : List (List ℕ)) (read : LineContent × List (List ℕ)) → arguments_by keyword.Func ws ≡ Some read → IsTaken keyword.Func ws read
func_line_takes ws read h =
    let a = then_takes (numbers_by (max_32 ∷ max_32 ∷ []) ws) (λ n left. Some (Func (slice_index n 0) (slice_index n 1), left)) read h in
    let n = numbers_take (max_32 ∷ max_32 ∷ []) ws a.0 a.1 (lit< tt, (lit< tt, tt)) a.2 in
    let e = two a.0 n.1 in
    subst (IsTaken keyword.Func ws) (some_is (Func (slice_index a.0 0) (slice_index a.0 1), a.1) read a.3)
    (refl, n.0 ∙ ap (λ v. map decimal v ++ a.1) e, subst (AreWithin (max_32 ∷ max_32 ∷ [])) e n.1)
  where
    two : (ns : List ℕ) → AreWithin (max_32 ∷ max_32 ∷ []) ns → ns ≡ slice_index ns 0 ∷ slice_index ns 1 ∷ []
    two [] w = absurd w
    two (a ∷ []) w = absurd w.1
    two (a ∷ b ∷ []) w = refl
    two (a ∷ b ∷ c ∷ ns) w = absurd w.1.1

source_line_takes : (ws : List (List ℕ)) (read : LineContent × List (List ℕ)) → arguments_by keyword.Source ws ≡ Some read → IsTaken keyword.Source ws read
source_line_takes ws read h =
    let a = then_takes (numbers_by (max_32 ∷ max_32 ∷ max_32 ∷ max_32 ∷ []) ws) (λ n left. Some (Source (slice_index n 0) (slice_index n 1) (slice_index n 2) (slice_index n 3), left)) read h in
    let n = numbers_take (max_32 ∷ max_32 ∷ max_32 ∷ max_32 ∷ []) ws a.0 a.1 (lit< tt, (lit< tt, (lit< tt, (lit< tt, tt)))) a.2 in
    let e = four a.0 n.1 in
    subst (IsTaken keyword.Source ws) (some_is (Source (slice_index a.0 0) (slice_index a.0 1) (slice_index a.0 2) (slice_index a.0 3), a.1) read a.3)
    (refl, n.0 ∙ ap (λ v. map decimal v ++ a.1) e, subst (AreWithin (max_32 ∷ max_32 ∷ max_32 ∷ max_32 ∷ [])) e n.1)
  where
    four : (ns : List ℕ) → AreWithin (max_32 ∷ max_32 ∷ max_32 ∷ max_32 ∷ []) ns → ns ≡ slice_index ns 0 ∷ slice_index ns 1 ∷ slice_index ns 2 ∷ slice_index ns 3 ∷ []
    four [] w = absurd w
    four (a ∷ []) w = absurd w.1
    four (a ∷ b ∷ []) w = absurd w.1.1
    four (a ∷ b ∷ c ∷ []) w = absurd w.1.1.1
    four (a ∷ b ∷ c ∷ d ∷ []) w = refl
    four (a ∷ b ∷ c ∷ d ∷ e ∷ ns) w = absurd w.1.1.1.1

-- The words are those of tables whose indexes are strictly increasing.
abbrev AreTaken : List (List ℕ) → Option (List ℕ) → Type 0
AreTaken ws tables = (ws ≡ table_words tables) × IsSoundLine (Tables tables)

some_take : (ws : List (List ℕ)) (tables : Option (List ℕ)) → option_and_then some_tables (places_by None ws) ≡ Some tables → AreTaken ws tables
some_take ws tables h =
    let p = bind_some some_tables (places_by None ws) tables h in
    let r = places_take None ws p.0 p.1 in
    by_places p.0 r.0 r.1 p.2
  where
    by_places : (places : List ℕ) → ws ≡ map decimal places → Rise None places → some_tables places ≡ Some tables → AreTaken ws tables
    by_places [] e r h = cc
    by_places (place ∷ places) e r h =
        subst (AreTaken ws) (some_is (Some (place ∷ places)) tables h) (e, rise_tables None (place ∷ places) r)

tables_take : (ws : List (List ℕ)) (tables : Option (List ℕ)) → tables_by ws ≡ Some tables → AreTaken ws tables
tables_take [] tables h = some_take [] tables h
tables_take (w ∷ v ∷ ws) tables h = some_take (w ∷ v ∷ ws) tables h
tables_take (w ∷ []) tables h = elim (chosen (bytes_eq w (codes "?")) (Some None) (cond (bytes_eq w (codes "-")) (Some (Some [])) (option_and_then some_tables (places_by None (w ∷ [])))) (Some tables) h) [
  | inl p ↦ subst (AreTaken (w ∷ [])) (some_is None tables p.1) (ap (λ x. x ∷ []) (bytes_are w (codes "?") p.0), tt)
  | inr p ↦ elim (chosen (bytes_eq w (codes "-")) (Some (Some [])) (option_and_then some_tables (places_by None (w ∷ []))) (Some tables) p.1) [
    | inl q ↦ subst (AreTaken (w ∷ [])) (some_is (Some []) tables q.1) (ap (λ x. x ∷ []) (bytes_are w (codes "-") q.0), rise_tables None [] tt)
    | inr q ↦ some_take (w ∷ []) tables q.1
  ]
]

tables_line_takes : (ws : List (List ℕ)) (read : LineContent × List (List ℕ)) → arguments_by keyword.Tables ws ≡ Some read → IsTaken keyword.Tables ws read
tables_line_takes ws read h =
    let m = map_some (λ (t : Option (List ℕ)). (Tables t, [])) (tables_by ws) read h in
    let t = tables_take ws m.0 m.1 in
    subst (IsTaken keyword.Tables ws) m.2 (refl, t.0 ∙ sym (append-nil (table_words m.0)), t.1)

arguments_take : (k : Keyword) (ws : List (List ℕ)) (line : LineContent) (rest : List (List ℕ)) → arguments_by k ws ≡ Some (line, rest) → IsTaken k ws (line, rest)
arguments_take keyword.Header ws line rest h = by_only keyword.Header header_by header_takes ws line rest h
arguments_take keyword.License ws line rest h = by_only keyword.License license_by license_takes ws line rest h
arguments_take keyword.Version ws line rest h = by_only keyword.Version version_by version_takes ws line rest h
arguments_take keyword.Feature ws line rest h = feature_line_takes ws (line, rest) h
arguments_take keyword.Types ws line rest h = by_only keyword.Types types_by types_takes ws line rest h
arguments_take keyword.Map ws line rest h = map_line_takes ws (line, rest) h
arguments_take keyword.Inner ws line rest h = inner_line_takes ws (line, rest) h
arguments_take keyword.Program ws line rest h = program_line_takes ws (line, rest) h
arguments_take keyword.Slots ws line rest h = by_only keyword.Slots slots_by slots_takes ws line rest h
arguments_take keyword.Tables ws line rest h = tables_line_takes ws (line, rest) h
arguments_take keyword.Func ws line rest h = func_line_takes ws (line, rest) h
arguments_take keyword.Source ws line rest h = source_line_takes ws (line, rest) h
arguments_take keyword.End ws line rest h = subst (IsTaken keyword.End ws) (some_is (End, ws) (line, rest) h) (refl, refl, tt)

-- A written line is read again.

only_again : (by : List ℕ → Option LineContent) (w : List ℕ) (line : LineContent) → by w ≡ Some line → first_by by (w ∷ []) ≡ Some (line, [])
only_again by w line h = first_again by w line [] h

some_again : (place : ℕ) (places : List ℕ) → AreTables (place ∷ places) → option_and_then some_tables (places_by None (map decimal (place ∷ places))) ≡ Some (Some (place ∷ places))
some_again place places t = ap (option_and_then some_tables) (places_again None (place ∷ places) (tables_rise (place ∷ places) t))

-- No number is a sign.
no_sign : (n sign : ℕ) → n < 2 ^ 64 → (sign < 48) ⊎ (57 < sign) → bytes_eq (decimal n) (sign ∷ []) ≡ false
no_sign n sign h s =
    let d = first_digit n h in
    not_same (decimal n) (sign ∷ []) d.0 sign d.1 [] d.2 refl (elim s [ inl low ↦ eq_more d.0 sign (omega (arith, d.3)) | inr high ↦ eq_less d.0 sign (omega (arith, d.4)) ])

tables_again : (tables : Option (List ℕ)) → IsSoundLine (Tables tables) → tables_by (table_words tables) ≡ Some tables
tables_again None h = refl
tables_again (Some []) h = refl
tables_again (Some (place ∷ next ∷ places)) h = some_again place (next ∷ places) h
tables_again (Some (place ∷ [])) h =
    let r = tables_rise (place ∷ []) h in
    let few : place < 2 ^ 64 = omega (arith, r.0) in
    rw (no_sign place 63 few (inr (lit< tt)), no_sign place 45 few (inl (lit< tt))) (some_again place [] h)

section_words_again : (section : ProgramSection) → section_words_by (map decimal (kind_list (kind_numbers section))) ≡ Some (section, [])
section_words_again section =
    let n = kind_list (kind_numbers section) in
    ap (λ v. section_words_by v) (sym (append-nil (map decimal n)))
    ∙ (then_again (numbers_by (255 ∷ 255 ∷ 255 ∷ []) (map decimal n ++ [])) (λ numbers left. option_map (λ (s : ProgramSection). (s, left)) (section_by numbers)) n [] (numbers_again (255 ∷ 255 ∷ 255 ∷ []) n [] (lit< tt, (lit< tt, (lit< tt, tt))) (kind_is section).few)
    ∙ ap (option_map (λ (s : ProgramSection). (s, []))) (section_again section))

map_line_again : (name : List ℕ) (number : ℕ) (is_btf : Bool) (words : MapWords) (contents : List ℕ) → IsSoundLine (Map name number is_btf words contents) → arguments_by keyword.Map (arguments_of (Map name number is_btf words contents)) ≡ Some (Map name number is_btf words contents, [])
map_line_again name number is_btf words contents h =
    let d = map decimal (numbers_of words) ++ hex_word contents ∷ [] in
    then_again (first_by name_by (hex_word name ∷ decimal number ∷ form_word is_btf ∷ d)) _ name (decimal number ∷ form_word is_btf ∷ d) (first_again name_by (hex_word name) name (decimal number ∷ form_word is_btf ∷ d) (name_again name h.0))
    ∙ (then_again (first_by (number_upto 0x7fff_ffff) (decimal number ∷ form_word is_btf ∷ d)) _ number (form_word is_btf ∷ d) (first_again (number_upto 0x7fff_ffff) (decimal number) number (form_word is_btf ∷ d) (number_upto_decimal 0x7fff_ffff (lit< tt) number h.1))
    ∙ (then_again (first_by form_by (form_word is_btf ∷ d)) _ is_btf d (first_again form_by (form_word is_btf) is_btf d (form_again is_btf))
    ∙ (then_again (map_words_by d) (map_by name number is_btf) words (hex_word contents ∷ []) (map_words_again words (hex_word contents ∷ []) h.2)
    ∙ (ap (λ b. cond b (then_by (first_by hex_of (hex_word contents ∷ [])) (λ v left. Some (Map name number is_btf words v, left))) None) (words_of_again is_btf words h.3)
    ∙ then_again (first_by hex_of (hex_word contents ∷ [])) (λ v left. Some (Map name number is_btf words v, left)) contents [] (first_again hex_of (hex_word contents) contents [] (hex_of_hex contents h.4))))))

version_again : (version : Option ℕ) → IsSoundLine (Version version) → version_by (version_word version) ≡ Some (Version version)
version_again None h = refl
version_again (Some v) h =
    let d = first_digit v (omega (arith, h.0)) in
    rw (not_same (decimal v) (codes "any") d.0 97 d.1 (codes "ny") d.2 refl (eq_less d.0 97 (omega (arith, d.4))))
    (ap (option_and_then version_in) (number_upto_decimal max_32 (lit< tt) v h.0) ∙ rw (not_equal v 0xffff_fffe h.1) refl)

types_again : (type_bytes : Option (List ℕ)) → IsSoundLine (Types type_bytes) → types_by (types_word type_bytes) ≡ Some (Types type_bytes)
types_again None h = refl
types_again (Some bytes) h =
    let x = hex_first bytes h.0 in
    rw (not_same (hex_word bytes) (codes "none") x.0 110 x.1 (codes "one") x.2 refl (eq_less x.0 110 x.3))
    (ap (option_and_then types_in) (hex_of_hex bytes h.0) ∙ rw (lt_true 0 (length bytes) h.1) refl)

arguments_again : (line : LineContent) → IsSoundLine line → arguments_by (keyword_of line) (arguments_of line) ≡ Some (line, [])
arguments_again (Header First) h = refl
arguments_again (Header Second) h = refl
arguments_again (License bytes) h = only_again license_by (hex_word bytes) (License bytes) (ap (option_and_then license_in) (hex_of_hex bytes h.0) ∙ rw h.1 refl)
arguments_again (Version version) h = only_again version_by (version_word version) (Version version) (version_again version h)
arguments_again (Feature asked answer) h =
    then_again (first_by feature_by (feature_word asked ∷ answer_word answer ∷ [])) _ asked (answer_word answer ∷ []) (first_again feature_by (feature_word asked) asked (answer_word answer ∷ []) (feature_again asked))
    ∙ then_again (first_by answer_by (answer_word answer ∷ [])) (λ a left. Some (Feature asked a, left)) answer [] (first_again answer_by (answer_word answer) answer [] (answer_again answer))
arguments_again (Types type_bytes) h = only_again types_by (types_word type_bytes) (Types type_bytes) (types_again type_bytes h)
arguments_again (Map name number is_btf words contents) h = map_line_again name number is_btf words contents h
arguments_again (Inner words) h =
    ap (λ v. arguments_by keyword.Inner v) (sym (append-nil (map decimal (numbers_of words))))
    ∙ then_again (map_words_by (map decimal (numbers_of words) ++ [])) (λ w left. Some (Inner w, left)) words [] (map_words_again words [] h)
arguments_again (Program name section) h =
    let s = map decimal (kind_list (kind_numbers section)) in
    then_again (first_by name_by (hex_word name ∷ s)) _ name s (first_again name_by (hex_word name) name s (name_again name h))
    ∙ then_again (section_words_by s) (λ x left. Some (Program name x, left)) section [] (section_words_again section)
arguments_again (Slots bytes) h = only_again slots_by (hex_word bytes) (Slots bytes) (ap (option_and_then slots_in) (hex_of_hex bytes h.0) ∙ rw (equal (length bytes % 8) 0 h.1) refl)
arguments_again (Tables tables) h = ap (option_map (λ (t : Option (List ℕ)). (Tables t, []))) (tables_again tables h)
arguments_again (Func slot id) h =
    ap (λ v. arguments_by keyword.Func v) (sym (append-nil (map decimal (slot ∷ id ∷ []))))
    ∙ then_again (numbers_by (max_32 ∷ max_32 ∷ []) (map decimal (slot ∷ id ∷ []) ++ [])) (λ n left. Some (Func (slice_index n 0) (slice_index n 1), left)) (slot ∷ id ∷ []) [] (numbers_again (max_32 ∷ max_32 ∷ []) (slot ∷ id ∷ []) [] (lit< tt, (lit< tt, tt)) h)
arguments_again (Source slot file row column) h =
    ap (λ v. arguments_by keyword.Source v) (sym (append-nil (map decimal (slot ∷ file ∷ row ∷ column ∷ []))))
    ∙ then_again (numbers_by (max_32 ∷ max_32 ∷ max_32 ∷ max_32 ∷ []) (map decimal (slot ∷ file ∷ row ∷ column ∷ []) ++ [])) (λ n left. Some (Source (slice_index n 0) (slice_index n 1) (slice_index n 2) (slice_index n 3), left)) (slot ∷ file ∷ row ∷ column ∷ []) [] (numbers_again (max_32 ∷ max_32 ∷ max_32 ∷ max_32 ∷ []) (slot ∷ file ∷ row ∷ column ∷ []) [] (lit< tt, (lit< tt, (lit< tt, (lit< tt, tt)))) h)
arguments_again End h = refl

-- Words without spaces and line feeds.

plain_numbers : (maxima numbers : List ℕ) → AreWithin maxima numbers → AreFew maxima → ArePlain (map decimal numbers)
plain_numbers [] [] w f = tt
plain_numbers [] (n ∷ numbers) w f = absurd w
plain_numbers (max ∷ maxima) [] w f = absurd w
plain_numbers (max ∷ maxima) (n ∷ numbers) w f = (plain_decimal n (omega (arith, w.0, f.0)), plain_numbers maxima numbers w.1 f.1)

plain_places : (last : Option ℕ) (places : List ℕ) → Rise last places → ArePlain (map decimal places)
plain_places last [] r = tt
plain_places last (place ∷ places) r = (plain_decimal place (omega (arith, r.0)), plain_places (Some place) places r.2)

plain_append : (xs ys : List (List ℕ)) → ArePlain xs → ArePlain ys → ArePlain (xs ++ ys)
plain_append [] ys p q = q
plain_append (x ∷ xs) ys p q = (p.0, plain_append xs ys p.1 q)

plain_tables : (tables : Option (List ℕ)) → IsSoundLine (Tables tables) → ArePlain (table_words tables)
plain_tables None h = ((lit< tt, tt), tt)
plain_tables (Some []) h = ((lit< tt, tt), tt)
plain_tables (Some (place ∷ places)) h = plain_places None (place ∷ places) (tables_rise (place ∷ places) h)

plain_feature : (f : BtfFeature) → IsPlain (feature_word f)
plain_feature feature.Func = search rules
plain_feature feature.FuncGlobal = search rules
plain_feature feature.DataSec = search rules
plain_feature feature.DataSecZero = search rules
plain_feature feature.Float = search rules
plain_feature feature.DeclTag = search rules
plain_feature feature.TypeTag = search rules
plain_feature feature.Enum64 = search rules

plain_keyword : (k : Keyword) → IsPlain (keyword_word k)
plain_keyword keyword.Header = search rules
plain_keyword keyword.License = search rules
plain_keyword keyword.Version = search rules
plain_keyword keyword.Feature = search rules
plain_keyword keyword.Types = search rules
plain_keyword keyword.Map = search rules
plain_keyword keyword.Inner = search rules
plain_keyword keyword.Program = search rules
plain_keyword keyword.Slots = search rules
plain_keyword keyword.Tables = search rules
plain_keyword keyword.Func = search rules
plain_keyword keyword.Source = search rules
plain_keyword keyword.End = search rules

plain_form : (b : Bool) → IsPlain (form_word b)
plain_form true = search rules
plain_form false = search rules

plain_answer : (b : Bool) → IsPlain (answer_word b)
plain_answer true = search rules
plain_answer false = search rules

plain_arguments : (line : LineContent) → IsSoundLine line → ArePlain (arguments_of line)
plain_arguments (Header First) h = ((lit< tt, tt), tt)
plain_arguments (Header Second) h = ((lit< tt, tt), tt)
plain_arguments (License bytes) h = (plain_hex bytes h.0, tt)
plain_arguments (Version None) h = (search rules, tt)
plain_arguments (Version (Some v)) h = (plain_decimal v (omega (arith, h.0)), tt)
plain_arguments (Feature asked answer) h = (plain_feature asked, (plain_answer answer, tt))
plain_arguments (Types None) h = (search rules, tt)
plain_arguments (Types (Some bytes)) h = (plain_hex bytes h.0, tt)
plain_arguments (Map name number is_btf words contents) h =
    (plain_hex name h.0.bytes, (plain_decimal number (omega (arith, h.1)), (plain_form is_btf, plain_append (map decimal (numbers_of words)) (hex_word contents ∷ []) (plain_numbers word_limits (numbers_of words) h.2 limits_few) (plain_hex contents h.4, tt))))
plain_arguments (Inner words) h = plain_numbers word_limits (numbers_of words) h limits_few
plain_arguments (Program name section) h = (plain_hex name h.bytes, plain_numbers (255 ∷ 255 ∷ 255 ∷ []) (kind_list (kind_numbers section)) (kind_is section).few (lit< tt, (lit< tt, (lit< tt, tt))))
plain_arguments (Slots bytes) h = (plain_hex bytes h.0, tt)
plain_arguments (Tables tables) h = plain_tables tables h
plain_arguments (Func slot id) h = plain_numbers (max_32 ∷ max_32 ∷ []) (slot ∷ id ∷ []) h (lit< tt, (lit< tt, tt))
plain_arguments (Source slot file row column) h = plain_numbers (max_32 ∷ max_32 ∷ max_32 ∷ max_32 ∷ []) (slot ∷ file ∷ row ∷ column ∷ []) h (lit< tt, (lit< tt, (lit< tt, (lit< tt, tt))))
plain_arguments End h = tt

-- Whole lines.

whole_is : (read : Option (LineContent × List (List ℕ))) (line : LineContent) → whole read ≡ Some line → read ≡ Some (line, [])
whole_is None line h = cc
whole_is (Some (x, [])) line h = ap (λ (l : LineContent). Some (l, [])) (some_is x line h)
whole_is (Some (x, w ∷ ws)) line h = cc

line_by_takes : (ws : List (List ℕ)) (line : LineContent) → line_by ws ≡ Some line → (ws ≡ words_of_line line) × IsSoundLine line
line_by_takes [] line h = cc
line_by_takes (w ∷ ws) line h =
    let k = bind_some (λ k. whole (arguments_by k ws)) (keyword_by w) line h in
    let t = arguments_take k.0 ws line [] (whole_is (arguments_by k.0 ws) line k.2) in
    (ap (λ x. x ∷ ws) (keyword_takes w k.0 k.1 ∙ ap keyword_word (sym t.0)) ∙ ap (λ v. keyword_word (keyword_of line) ∷ v) (t.1 ∙ append-nil (arguments_of line)), t.2)

line_by_again : (line : LineContent) → IsSoundLine line → line_by (words_of_line line) ≡ Some line
line_by_again line h =
    ap (option_and_then (λ k. whole (arguments_by k (arguments_of line)))) (keyword_again (keyword_of line)) ∙ ap whole (arguments_again line h)

-- The bytes that are read as a line are its text.
pub line_takes : (bytes : List ℕ) (line : LineContent) → line_in bytes ≡ Some line → IsSoundLine line × (bytes ≡ line_text line)
line_takes bytes line h =
    let t = line_by_takes (pieces_of bytes) line h in (t.1, sym (joined_pieces bytes) ∙ ap joined t.0)

-- The text of a line is read as the line.
pub line_again : (line : LineContent) → IsSoundLine line → line_in (line_text line) ≡ Some line
line_again line h =
    ap line_by (pieces_joined (keyword_word (keyword_of line)) (arguments_of line) (plain_keyword (keyword_of line)) (plain_arguments line h)) ∙ line_by_again line h

pub line_unbroken : (line : LineContent) → IsSoundLine line → IsUnbroken (line_text line)
line_unbroken line h = unbroken_joined (words_of_line line) (plain_keyword (keyword_of line), plain_arguments line h)
