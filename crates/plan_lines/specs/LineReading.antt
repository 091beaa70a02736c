-- The lines of a load plan's text, read.
use Rattle.std.specs.Prelude.{◌≡◌, ◌≢◌, ℕ, ◌%◌, ◌==◌, ◌&&◌, nat_lt, Bool, true, false, if◌then◌else◌, List, [], ◌∷◌, length, slice_index, codes, Option, Some, None, option_and_then, Result, MatchResult}
use Rattle.std.specs.List.{find, list_any}
use Rattle.std.specs.Option.{option_map}
use Rattle.std.specs.Str.{bytes_eq, is_utf8}
use Rattle.btf_records.specs.declared.feature.BtfFeature.{BtfFeature}
use Rattle.ebpf_items.specs.declared.maps.PinningType.{PinningType}
use Rattle.ebpf_items.specs.declared.maps.PinningType.TheVariants as pinning
use Rattle.plan_lines.specs.Kinds.{section_by}
use Rattle.plan_lines.specs.Lines.{LineContent, Header, License, Version, Feature, Types, Map, Inner, Program, Slots, Tables, Func, Source, End, keyword_word, feature_word, max_32, word_limits}
use Rattle.plan_lines.specs.WordReading.{first_by, hex_of, number_upto, onto, pieces_of}
use Rattle.btf_records.specs.declared.feature.BtfFeature.TheVariants as feature
use Rattle.plan_lines.specs.declared.error.LineError.{LineError}
use Rattle.plan_lines.specs.declared.error.LineError.TheVariants.{OutOfMemory}
use Rattle.plan_lines.specs.declared.line.Keyword.{Keyword}
use Rattle.plan_lines.specs.declared.line.Keyword.TheVariants as keyword
use Rattle.plan_lines.specs.declared.line.TextVersion.TheVariants.{First, Second}
use Rattle.plan_lines.specs.declared.map_words.MapWords.{MapWords}
use Rattle.program_kinds.specs.declared.program_section.ProgramSection.{ProgramSection}

-- The result of reading words, and the words after it.
abbrev pub Read : Type 0 → Type 0
Read A = Option (A × List (List ℕ))

-- Reads something, and then something else from the words after it.
abbrev pub then_by : {A B : Type 0} → Read A → (A → List (List ℕ) → Read B) → Read B
then_by None next = None
then_by (Some read) next = next read.0 read.1

-- The result of a reader is the value of the words, with the words left after it. Out of memory is
-- allowed.
abbrev pub Reads : {A B : Type 0} → (A → B) → Read B → Result A LineError → List (List ℕ) → Type 0
Reads view said answer left =
    MatchResult answer (λ a. said ≡ Some (view a, left)) (λ e. e ≢ OutOfMemory → said ≡ None)

-- The result for one word is the word's value. Out of memory is allowed.
abbrev pub Says : {A B : Type 0} → (A → B) → Option B → Result A LineError → Type 0
Says view said answer =
    MatchResult answer (λ a. said ≡ Some (view a)) (λ e. e ≢ OutOfMemory → said ≡ None)

-- Words.

abbrev pub is_word : List ℕ → List ℕ → Bool
is_word = bytes_eq

abbrev pub all_keywords : List Keyword
all_keywords =
    keyword.Header ∷ keyword.License ∷ keyword.Version ∷ keyword.Feature ∷ keyword.Types
    ∷ keyword.Map ∷ keyword.Inner ∷ keyword.Program ∷ keyword.Slots ∷ keyword.Tables ∷ keyword.Func
    ∷ keyword.Source ∷ keyword.End ∷ []

abbrev pub keyword_by : List ℕ → Option Keyword
keyword_by word = find (λ k. is_word (keyword_word k) word) all_keywords

abbrev pub all_features : List BtfFeature
all_features =
    feature.Func ∷ feature.FuncGlobal ∷ feature.DataSec ∷ feature.DataSecZero ∷ feature.Float
    ∷ feature.DeclTag ∷ feature.TypeTag ∷ feature.Enum64 ∷ []

abbrev pub feature_by : List ℕ → Option BtfFeature
feature_by word = find (λ f. is_word (feature_word f) word) all_features

abbrev pub answer_by : List ℕ → Option Bool
answer_by word =
    if is_word word (codes "yes")
    then Some true
    else if is_word word (codes "no") then Some false else None

abbrev pub form_by : List ℕ → Option Bool
form_by word =
    if is_word word (codes "btf")
    then Some true
    else if is_word word (codes "legacy") then Some false else None

abbrev pub text_in : List ℕ → Option (List ℕ)
text_in bytes = if is_utf8 bytes then Some bytes else None

abbrev pub name_by : List ℕ → Option (List ℕ)
name_by word = option_and_then text_in (hex_of word)

abbrev pub header_by : List ℕ → Option LineContent
header_by word =
    if is_word word (codes "1")
    then Some (Header First)
    else if is_word word (codes "2") then Some (Header Second) else None

abbrev pub license_in : List ℕ → Option LineContent
license_in bytes = if list_any (λ b. b == 0) bytes then None else Some (License bytes)

abbrev pub license_by : List ℕ → Option LineContent
license_by word = option_and_then license_in (hex_of word)

abbrev pub version_in : ℕ → Option LineContent
version_in version = if version == 0xffff_fffe then None else Some (Version (Some version))

abbrev pub version_by : List ℕ → Option LineContent
version_by word =
    if is_word word (codes "any")
    then Some (Version None)
    else option_and_then version_in (number_upto max_32 word)

abbrev pub types_in : List ℕ → Option LineContent
types_in bytes = if nat_lt 0 (length bytes) then Some (Types (Some bytes)) else None

abbrev pub types_by : List ℕ → Option LineContent
types_by word =
    if is_word word (codes "none")
    then Some (Types None)
    else option_and_then types_in (hex_of word)

abbrev pub slots_in : List ℕ → Option LineContent
slots_in bytes = if length bytes % 8 == 0 then Some (Slots bytes) else None

abbrev pub slots_by : List ℕ → Option LineContent
slots_by word = option_and_then slots_in (hex_of word)

-- Numbers.

-- As many numbers as limits, each at most its limit.
abbrev pub numbers_by : List ℕ → List (List ℕ) → Read (List ℕ)
numbers_by [] words = Some ([], words)
numbers_by (max ∷ maxima) words =
    then_by (first_by (number_upto max) words) (λ n others.
    then_by (numbers_by maxima others) (λ numbers left. Some (n ∷ numbers, left)))

abbrev pub pinning_of : ℕ → PinningType
pinning_of number = if number == 1 then pinning.ByName else pinning.None

-- The words that define a map, by their numbers.
abbrev pub words_of : List ℕ → MapWords
words_of numbers = record {
  map_type = slice_index numbers 0;
  key_size = slice_index numbers 1;
  value_size = slice_index numbers 2;
  max_entries = slice_index numbers 3;
  map_flags = slice_index numbers 4;
  map_extra = slice_index numbers 5;
  pinning = pinning_of (slice_index numbers 6);
  id = slice_index numbers 7;
  btf_key_type_id = slice_index numbers 8;
  btf_value_type_id = slice_index numbers 9;
}

abbrev pub map_words_by : List (List ℕ) → Read MapWords
map_words_by words =
    then_by (numbers_by word_limits words) (λ numbers left. Some (words_of numbers, left))

-- Whether these are the words of a map that types define, or of another map.
abbrev pub are_words_of : Bool → MapWords → Bool
are_words_of true words = words.id == 0
are_words_of false words =
    (words.map_extra == 0) && (words.btf_key_type_id == 0) && (words.btf_value_type_id == 0)

abbrev pub section_words_by : List (List ℕ) → Read ProgramSection
section_words_by words =
    then_by (numbers_by (255 ∷ 255 ∷ 255 ∷ []) words) (λ numbers left.
    option_map (λ section. (section, left)) (section_by numbers))

-- Indexes of kernel tables.

abbrev pub is_above : Option ℕ → ℕ → Bool
is_above None place = true
is_above (Some last) place = nat_lt last place

-- An index above the last one.
abbrev pub place_by : Option ℕ → List ℕ → Option ℕ
place_by last word =
    option_and_then (λ place. if is_above last place then Some place else None)
    (number_upto max_32 word)

-- Strictly increasing indexes.
abbrev pub places_by : Option ℕ → List (List ℕ) → Option (List ℕ)
places_by last [] = Some []
places_by last (word ∷ words) =
    option_and_then (λ place. onto (Some place) (places_by (Some place) words)) (place_by last word)

abbrev pub some_tables : List ℕ → Option (Option (List ℕ))
some_tables [] = None
some_tables (place ∷ places) = Some (Some (place ∷ places))

-- The only word of a list.
abbrev pub only_word : List (List ℕ) → Option (List ℕ)
only_word (word ∷ []) = Some word
only_word _ = None

abbrev pub tables_in : Option (List ℕ) → List (List ℕ) → Option (Option (List ℕ))
tables_in None words = option_and_then some_tables (places_by None words)
tables_in (Some word) words =
    if is_word word (codes "?") then Some None
    else
    if is_word word (codes "-")
    then Some (Some [])
    else option_and_then some_tables (places_by None words)

abbrev pub tables_by : List (List ℕ) → Option (Option (List ℕ))
tables_by words = tables_in (only_word words) words

-- Lines.

abbrev pub map_by : List ℕ → ℕ → Bool → MapWords → List (List ℕ) → Read LineContent
map_by name number is_btf map_words words =
    if are_words_of is_btf map_words
    then then_by (first_by hex_of words)
    (λ contents left. Some (Map name number is_btf map_words contents, left)) else None

-- The line of a keyword and the words after it.
abbrev pub arguments_by : Keyword → List (List ℕ) → Read LineContent
arguments_by keyword.Header words = first_by header_by words
arguments_by keyword.License words = first_by license_by words
arguments_by keyword.Version words = first_by version_by words
arguments_by keyword.Feature words =
    then_by (first_by feature_by words) (λ asked a.
    then_by (first_by answer_by a) (λ answer left. Some (Feature asked answer, left)))
arguments_by keyword.Types words = first_by types_by words
arguments_by keyword.Map words =
    then_by (first_by name_by words) (λ name a.
    then_by (first_by (number_upto 0x7fff_ffff) a) (λ number b.
    then_by (first_by form_by b) (λ is_btf c.
    then_by (map_words_by c) (map_by name number is_btf))))
arguments_by keyword.Inner words =
    then_by (map_words_by words) (λ map_words left. Some (Inner map_words, left))
arguments_by keyword.Program words =
    then_by (first_by name_by words) (λ name a.
    then_by (section_words_by a) (λ section left. Some (Program name section, left)))
arguments_by keyword.Slots words = first_by slots_by words
arguments_by keyword.Tables words = option_map (λ tables. (Tables tables, [])) (tables_by words)
arguments_by keyword.Func words =
    then_by (numbers_by (max_32 ∷ max_32 ∷ []) words) (λ n left.
    Some (Func (slice_index n 0) (slice_index n 1), left))
arguments_by keyword.Source words =
    then_by (numbers_by (max_32 ∷ max_32 ∷ max_32 ∷ max_32 ∷ []) words) (λ n left.
    Some (Source (slice_index n 0) (slice_index n 1) (slice_index n 2) (slice_index n 3), left))
arguments_by keyword.End words = Some (End, words)

-- A line whose words were all read.
abbrev pub whole : Read LineContent → Option LineContent
whole (Some (line, [])) = Some line
whole _ = None

abbrev pub line_by : List (List ℕ) → Option LineContent
line_by [] = None
line_by (word ∷ words) = option_and_then (λ k. whole (arguments_by k words)) (keyword_by word)

-- The line of some bytes.
abbrev pub line_in : List ℕ → Option LineContent
line_in bytes = line_by (pieces_of bytes)
