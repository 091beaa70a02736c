-- The lines of a load plan's text.
use Rattle.std.specs.Prelude.{◌≡◌, ◌≢◌, ℕ, ◌%◌, ◌^◌, ◌<◌, ◌≤◌, ◌==◌, Bool, true, false, List, [], ◌∷◌, ◌++◌, length, map, codes, Option, Some, None, IfSome}
use Rattle.std.specs.Fmt.{decimal}
use Rattle.std.specs.List.{All, list_any}
use Rattle.std.specs.List.Sorted.{IsStrictlySortedBy}
use Rattle.std.specs.Ordering.{nat_cmp}
use Rattle.std.specs.Str.{is_utf8}
use Rattle.btf_records.specs.declared.feature.BtfFeature.{BtfFeature}
use Rattle.btf_records.specs.declared.feature.BtfFeature.TheVariants as feature
use Rattle.ebpf_items.specs.declared.maps.PinningType.{PinningType}
use Rattle.ebpf_items.specs.declared.maps.PinningType.TheVariants as pinning
use Rattle.plan_lines.specs.ProgramKinds.{kind_numbers}
use Rattle.plan_lines.specs.Words.{AreBytes, hex_word}
use Rattle.plan_lines.specs.declared.line.Keyword.{Keyword}
use Rattle.plan_lines.specs.declared.line.Keyword.TheVariants as keyword
use Rattle.plan_lines.specs.declared.line.TextVersion.{TextVersion}
use Rattle.plan_lines.specs.declared.line.TextVersion.TheVariants.{First, Second}
use Rattle.plan_lines.specs.declared.map_words.MapWords.{MapWords}
use Rattle.plan_lines.specs.declared.program_kind.KindNumbers.{KindNumbers}
use Rattle.program_kinds.specs.declared.program_section.ProgramSection.{ProgramSection}

-- The content of a line.
pub data LineContent : Type 0 where
  Header : TextVersion → LineContent
  License : List ℕ → LineContent
  Version : Option ℕ → LineContent
  Feature : BtfFeature → Bool → LineContent
  Types : Option (List ℕ) → LineContent
  Map : List ℕ → ℕ → Bool → MapWords → List ℕ → LineContent
  Inner : MapWords → LineContent
  Program : List ℕ → ProgramSection → LineContent
  Slots : List ℕ → LineContent
  Tables : Option (List ℕ) → LineContent
  Func : ℕ → ℕ → LineContent
  Source : ℕ → ℕ → ℕ → ℕ → LineContent
  End : LineContent

-- Words.

abbrev pub keyword_word : Keyword → List ℕ
keyword_word keyword.Header = codes "bpf-plan"
keyword_word keyword.License = codes "license"
keyword_word keyword.Version = codes "version"
keyword_word keyword.Feature = codes "feature"
keyword_word keyword.Types = codes "types"
keyword_word keyword.Map = codes "map"
keyword_word keyword.Inner = codes "inner"
keyword_word keyword.Program = codes "program"
keyword_word keyword.Slots = codes "slots"
keyword_word keyword.Tables = codes "tables"
keyword_word keyword.Func = codes "func"
keyword_word keyword.Source = codes "line"
keyword_word keyword.End = codes "end"

abbrev pub number_word : TextVersion → List ℕ
number_word First = codes "1"
number_word Second = codes "2"

abbrev pub version_word : Option ℕ → List ℕ
version_word None = codes "any"
version_word (Some version) = decimal version

abbrev pub feature_word : BtfFeature → List ℕ
feature_word feature.Func = codes "Func"
feature_word feature.FuncGlobal = codes "FuncGlobal"
feature_word feature.DataSec = codes "DataSec"
feature_word feature.DataSecZero = codes "DataSecZero"
feature_word feature.Float = codes "Float"
feature_word feature.DeclTag = codes "DeclTag"
feature_word feature.TypeTag = codes "TypeTag"
feature_word feature.Enum64 = codes "Enum64"

abbrev pub answer_word : Bool → List ℕ
answer_word true = codes "yes"
answer_word false = codes "no"

abbrev pub types_word : Option (List ℕ) → List ℕ
types_word None = codes "none"
types_word (Some bytes) = hex_word bytes

abbrev pub form_word : Bool → List ℕ
form_word true = codes "btf"
form_word false = codes "legacy"

abbrev pub pinning_number : PinningType → ℕ
pinning_number pinning.None = 0
pinning_number pinning.ByName = 1

-- The numbers that define a map, in their order.
abbrev pub numbers_of : MapWords → List ℕ
numbers_of words =
    words.map_type ∷ words.key_size ∷ words.value_size ∷ words.max_entries ∷ words.map_flags
    ∷ words.map_extra ∷ pinning_number words.pinning ∷ words.id ∷ words.btf_key_type_id
    ∷ words.btf_value_type_id ∷ []

-- The numbers of a kind of program, in their order.
abbrev pub kind_list : KindNumbers → List ℕ
kind_list numbers = numbers.kind ∷ numbers.first ∷ numbers.second ∷ []

-- The words for indexes of kernel tables: a dash where there are none, and a question mark where
-- they aren't known.
abbrev pub table_words : Option (List ℕ) → List (List ℕ)
table_words None = codes "?" ∷ []
table_words (Some []) = codes "-" ∷ []
table_words (Some (place ∷ places)) = map decimal (place ∷ places)

-- Lines.

abbrev pub keyword_of : LineContent → Keyword
keyword_of (Header text_version) = keyword.Header
keyword_of (License bytes) = keyword.License
keyword_of (Version version) = keyword.Version
keyword_of (Feature asked answer) = keyword.Feature
keyword_of (Types type_bytes) = keyword.Types
keyword_of (Map name number is_btf words contents) = keyword.Map
keyword_of (Inner words) = keyword.Inner
keyword_of (Program name section) = keyword.Program
keyword_of (Slots bytes) = keyword.Slots
keyword_of (Tables tables) = keyword.Tables
keyword_of (Func slot id) = keyword.Func
keyword_of (Source slot file line column) = keyword.Source
keyword_of End = keyword.End

-- The words after the first.
abbrev pub arguments_of : LineContent → List (List ℕ)
arguments_of (Header text_version) = number_word text_version ∷ []
arguments_of (License bytes) = hex_word bytes ∷ []
arguments_of (Version version) = version_word version ∷ []
arguments_of (Feature asked answer) = feature_word asked ∷ answer_word answer ∷ []
arguments_of (Types type_bytes) = types_word type_bytes ∷ []
arguments_of (Map name number is_btf words contents) =
    hex_word name ∷ decimal number ∷ form_word is_btf
    ∷ (map decimal (numbers_of words) ++ hex_word contents ∷ [])
arguments_of (Inner words) = map decimal (numbers_of words)
arguments_of (Program name section) = hex_word name ∷ map decimal (kind_list (kind_numbers section))
arguments_of (Slots bytes) = hex_word bytes ∷ []
arguments_of (Tables tables) = table_words tables
arguments_of (Func slot id) = map decimal (slot ∷ id ∷ [])
arguments_of (Source slot file line column) = map decimal (slot ∷ file ∷ line ∷ column ∷ [])
arguments_of End = []

abbrev pub words_of_line : LineContent → List (List ℕ)
words_of_line line = keyword_word (keyword_of line) ∷ arguments_of line

-- Limits.

-- The largest numbers of 32 and of 64 bits.
abbrev pub max_32 : ℕ
max_32 = 0xffff_ffff

abbrev pub max_64 : ℕ
max_64 = 0xffff_ffff_ffff_ffff

-- As many numbers as limits, each at most its limit.
abbrev pub AreWithin : List ℕ → List ℕ → Type 0
AreWithin [] [] = Unit {0}
AreWithin (max ∷ maxima) (n ∷ numbers) = (n ≤ max) × AreWithin maxima numbers
AreWithin _ _ = ⊥

-- The limits of the numbers that define a map.
abbrev pub word_limits : List ℕ
word_limits =
    max_32 ∷ max_32 ∷ max_32 ∷ max_32 ∷ max_32 ∷ max_64 ∷ 1 ∷ max_32 ∷ max_32 ∷ max_32 ∷ []

-- A map that types define has no id, and another map has no extra word and no types.
abbrev pub AreWordsOf : Bool → MapWords → Type 0
AreWordsOf true words = words.id ≡ 0
AreWordsOf false words =
    (words.map_extra ≡ 0) × (words.btf_key_type_id ≡ 0) × (words.btf_value_type_id ≡ 0)

-- The bytes of a text in UTF-8.
pub record IsName (name : List ℕ) : Type 0 where
  pub bytes : AreBytes name
  pub text : is_utf8 name ≡ true

-- Indexes of kernel tables are strictly increasing.
abbrev pub AreTables : List ℕ → Type 0
AreTables places = IsStrictlySortedBy nat_cmp places × All (λ place. place < 2 ^ 32) places

-- The limits of each line.
abbrev pub IsSoundLine : LineContent → Type 0
IsSoundLine (Header text_version) = Unit {0}
IsSoundLine (License bytes) = AreBytes bytes × (list_any (λ b. b == 0) bytes ≡ false)
IsSoundLine (Version version) = IfSome version (λ v. (v ≤ max_32) × (v ≢ 0xffff_fffe))
IsSoundLine (Feature asked answer) = Unit {0}
IsSoundLine (Types type_bytes) = IfSome type_bytes (λ bytes. AreBytes bytes × (0 < length bytes))
IsSoundLine (Map name number is_btf words contents) =
    IsName name
    × (number ≤ 0x7fff_ffff)
    × AreWithin word_limits (numbers_of words)
    × AreWordsOf is_btf words
    × AreBytes contents
IsSoundLine (Inner words) = AreWithin word_limits (numbers_of words)
IsSoundLine (Program name section) = IsName name
IsSoundLine (Slots bytes) = AreBytes bytes × (length bytes % 8 ≡ 0)
IsSoundLine (Tables tables) = IfSome tables AreTables
IsSoundLine (Func slot id) = AreWithin (max_32 ∷ max_32 ∷ []) (slot ∷ id ∷ [])
IsSoundLine (Source slot file line column) =
    AreWithin (max_32 ∷ max_32 ∷ max_32 ∷ max_32 ∷ []) (slot ∷ file ∷ line ∷ column ∷ [])
IsSoundLine End = Unit {0}
