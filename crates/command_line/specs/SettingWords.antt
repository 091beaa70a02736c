-- The words of a line that set something: the number of a map, or the bytes of a global variable.
use Rattle.std.specs.Prelude.{◌≡◌, ℕ, ◌≤◌, ◌^◌, ◌&&◌, nat_lt, Bool, true, false, List, [], ◌∷◌, length, map, Option, Some, None, is_none, option_and_then, if◌then◌else◌}
use Rattle.std.specs.BTreeMap.{insert_entry}
use Rattle.std.specs.Cmp.Lexicographic.{slice_cmp}
use Rattle.std.specs.List.{find}
use Rattle.std.specs.Option.{IsSomeAnd, MatchOption, option_map}
use Rattle.std.specs.Ordering.{nat_cmp}
use Rattle.std.specs.Path.{rsplit_once}
use Rattle.std.specs.Str.{all_ascii_digits}
use Rattle.std.specs.Str.Parse.{digits_value}
use Rattle.std.specs.String.{string_bytes}
use Rattle.btf_records.specs.declared.feature.BtfFeature.{BtfFeature}
use Rattle.hex.specs.Hex.{decode_of}
use Rattle.settings.specs.ValuesContent.{GlobalContent}
use Rattle.run_settings.specs.Documents.{RunContent, if_decoded}
use Rattle.run_settings.specs.Features.{with_answer}
use Rattle.run_settings.specs.declared.features.GrantedFeatures.{GrantedFeatures}
use Rattle.command_line.specs.declared.prepare_line.Arguments.{Arguments}
use Rattle.command_line.specs.declared.setting_words.WordError.{WordError}
use Rattle.command_line.specs.declared.setting_words.WordError.TheVariants.{LargeNumber, NoBytes, NoNumber, NoSign}

-- The text before the last `=` of a word, and the text after it.
abbrev pub split_word : List ℕ → Option (List ℕ × List ℕ)
split_word word = rsplit_once 61 word

-- Whether a text is one decimal digit or more.
abbrev pub are_digits : List ℕ → Bool
are_digits digits = nat_lt 0 (length digits) && all_ascii_digits digits

-- A number in decimal digits, below 2^31.
abbrev pub small_number : List ℕ → Option ℕ
small_number digits =
    if nat_lt (digits_value 10 digits) (2 ^ 31) then Some (digits_value 10 digits) else None

abbrev pub number_of : List ℕ → Option ℕ
number_of digits = if are_digits digits then small_number digits else None

-- The name of a map, and its number.
abbrev pub map_of : List ℕ → Option (List ℕ × ℕ)
map_of word =
    option_and_then (λ parts. option_map (λ number. (parts.0, number)) (number_of parts.1))
    (split_word word)

-- The name of a variable, and its bytes, which an object must have.
abbrev pub value_of : List ℕ → GlobalContent
value_of bytes = record { bytes = bytes; must_exist = true }

abbrev pub global_of : List ℕ → Option (List ℕ × GlobalContent)
global_of word =
    option_and_then
    (λ parts. option_map (λ bytes. (parts.0, value_of bytes)) (if_decoded (decode_of parts.1)))
    (split_word word)

-- The settings after a word, and after several.
abbrev pub with_map : RunContent → List ℕ → Option RunContent
with_map s word =
    option_map
    (λ e.
    record s {
      settings = record s.settings {
        maps = insert_entry (slice_cmp nat_cmp) s.settings.maps e.0 e.1;
      };
    })
    (map_of word)

abbrev pub with_maps : RunContent → List (List ℕ) → Option RunContent
with_maps s [] = Some s
with_maps s (word ∷ words) = option_and_then (λ t. with_maps t words) (with_map s word)

abbrev pub with_global : RunContent → List ℕ → Option RunContent
with_global s word =
    option_map
    (λ e.
    record s {
      settings = record s.settings {
        globals = insert_entry (slice_cmp nat_cmp) s.settings.globals e.0 e.1;
      };
    })
    (global_of word)

abbrev pub with_globals : RunContent → List (List ℕ) → Option RunContent
with_globals s [] = Some s
with_globals s (word ∷ words) = option_and_then (λ t. with_globals t words) (with_global s word)

-- The features without those that are denied.
abbrev pub without : GrantedFeatures → List BtfFeature → GrantedFeatures
without granted [] = granted
without granted (feature ∷ features) = without (with_answer granted feature false) features

-- The settings after a line: numbers of maps, values of variables, and what the kernel lacks.
abbrev pub with_lacks : Arguments → RunContent → RunContent
with_lacks line s =
    record s {
      features = without s.features line.denied.items;
      probe = if line.has_older_helpers then false else s.probe;
    }

abbrev pub with_line : Arguments → RunContent → Option RunContent
with_line line s =
    option_map (with_lacks line)
    (option_and_then (λ t. with_globals t (map (λ word. word.now) line.globals.items))
    (with_maps s (map (λ word. word.now) line.maps.items)))

-- Why a word sets nothing.
abbrev pub IsSplitFault : List ℕ → WordError → Type 0
IsSplitFault word (NoSign named) = (string_bytes named ≡ word) × (split_word word ≡ None)
IsSplitFault word _ = ⊥

abbrev pub IsNumberFault : List ℕ → List ℕ → WordError → Type 0
IsNumberFault word digits (NoNumber named) =
    (string_bytes named ≡ word) × (are_digits digits ≡ false)
IsNumberFault word digits (LargeNumber named) =
    (string_bytes named ≡ word) × (are_digits digits ≡ true) × (2 ^ 31 ≤ digits_value 10 digits)
IsNumberFault word digits _ = ⊥

abbrev pub IsBytesFault : List ℕ → List ℕ → WordError → Type 0
IsBytesFault word digits (NoBytes named) =
    (string_bytes named ≡ word) × (if_decoded (decode_of digits) ≡ None)
IsBytesFault word digits _ = ⊥

abbrev pub IsMapFault : List ℕ → WordError → Type 0
IsMapFault word e =
    MatchOption (split_word word) (IsSplitFault word e) (λ parts. IsNumberFault word parts.1 e)

abbrev pub IsGlobalFault : List ℕ → WordError → Type 0
IsGlobalFault word e =
    MatchOption (split_word word) (IsSplitFault word e) (λ parts. IsBytesFault word parts.1 e)

-- The first word of a map, and of a variable, that sets nothing.
abbrev pub unset_map : List (List ℕ) → Option (List ℕ)
unset_map words = find (λ word. is_none (map_of word)) words

abbrev pub unset_global : List (List ℕ) → Option (List ℕ)
unset_global words = find (λ word. is_none (global_of word)) words

-- Why a line sets nothing: the first such word, of maps before variables.
abbrev pub IsLineFault : Arguments → WordError → Type 0
IsLineFault line e =
    MatchOption (unset_map (map (λ word. word.now) line.maps.items))
    (IsSomeAnd (unset_global (map (λ word. word.now) line.globals.items))
    (λ word. IsGlobalFault word e))
    (λ word. IsMapFault word e)
