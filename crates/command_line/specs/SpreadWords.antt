-- The words of a line in which several files may follow one `--types`, and several objects stand.
use Rattle.std.specs.Prelude.{ℕ, ◌+◌, ◌-◌, ◌&&◌, ◌||◌, not, Bool, true, false, nat_eq, nat_lt, List, [], ◌∷◌, ◌++◌, bytes_eq, codes, if◌then◌else◌}
use Rattle.std.specs.List.{starts_with}
use Rattle.command_line.specs.declared.several_types.OwnOption.{OwnOption}
use Rattle.command_line.specs.declared.several_types.OwnOption.TheVariants as own
use Rattle.command_line.specs.declared.several_types.WordPlace.{WordPlace}
use Rattle.command_line.specs.declared.several_types.WordPlace.TheVariants.{Free, Literal, MoreTypes, Types, Value}

abbrev pub is_dashed : List ℕ → Bool
is_dashed word = starts_with nat_eq word (codes "-")

-- Whether a word is an option that takes one value.
abbrev pub takes_value : List ℕ → Bool
takes_value word =
    bytes_eq word (codes "--types-order")
    || (bytes_eq word (codes "--object")
    || (bytes_eq word (codes "--symbols")
    || (bytes_eq word (codes "--format")
    || (bytes_eq word (codes "--optional")
    || (bytes_eq word (codes "--extract") || bytes_eq word (codes "--program"))))))

-- The place after a word that isn't the value of an option. All words after `--` are literal.
abbrev pub place_after : WordPlace → List ℕ → WordPlace
place_after place word =
    if bytes_eq word (codes "--") then Literal
    else (if bytes_eq word (codes "--types") then Types
    else (if takes_value word then Value
    else (if is_dashed word then Free
    else place)))

-- The place after a word at a place.
abbrev pub next_place : WordPlace → List ℕ → WordPlace
next_place Free word = place_after Free word
next_place MoreTypes word = place_after MoreTypes word
next_place Types word = MoreTypes
next_place Value word = Free
next_place Literal word = Literal

-- Whether a word names the object: it stands by itself, or after `--`.
abbrev pub is_object : WordPlace → List ℕ → Bool
is_object Free word = not (is_dashed word)
is_object Literal word = true
is_object _ word = false

-- Whether a word follows a value of `--types`.
abbrev pub is_more : WordPlace → List ℕ → Bool
is_more MoreTypes word = not (is_dashed word)
is_more _ word = false

abbrev pub has_object : WordPlace → List (List ℕ) → Bool
has_object place [] = false
has_object place (word ∷ words) = is_object place word || has_object (next_place place word) words

abbrev pub count_more : WordPlace → List (List ℕ) → ℕ
count_more place [] = 0
count_more place (word ∷ words) =
    (if is_more place word then 1 else 0) + count_more (next_place place word) words

-- Whether a word names an object and stands before any `--`.
abbrev pub is_free_object : WordPlace → List ℕ → Bool
is_free_object Free word = not (is_dashed word)
is_free_object _ word = false

-- The option that a word gets before it: `--types` if it follows a value of `--types` and `count`
-- words more get it, and `--object` if it names an object and isn't the first that does.
abbrev pub own_option : WordPlace → List ℕ → ℕ → Bool → OwnOption
own_option place word count has_first =
    if nat_lt 0 count && is_more place word then own.Types
    else (if has_first && is_free_object place word then own.Object
    else own.None)

abbrev pub own_word : OwnOption → List ℕ → List (List ℕ)
own_word own.None word = word ∷ []
own_word own.Types word = codes "--types" ∷ word ∷ []
own_word own.Object word = codes "--object" ∷ word ∷ []

abbrev pub left_after : ℕ → OwnOption → ℕ
left_after count own.None = count
left_after count own.Types = count - 1
left_after count own.Object = count

-- The words, with `--types` before the first `count` of those that follow a value of `--types`, and
-- `--object` before the objects after the first.
abbrev pub with_options : ℕ → Bool → WordPlace → List (List ℕ) → List (List ℕ)
with_options count has_first place [] = []
with_options count has_first place (word ∷ words) =
    own_word (own_option place word count has_first) word
    ++ with_options (left_after count (own_option place word count has_first))
    (has_first || is_object place word) (next_place place word) words

-- How many get `--types`: all, or all but the last, which is the object if no other word is.
abbrev pub more_types : List (List ℕ) → ℕ
more_types words =
    if has_object Free words then count_more Free words else count_more Free words - 1

-- The words of a line, whose first one is the program's name.
abbrev pub spread : List (List ℕ) → List (List ℕ)
spread [] = []
spread (program ∷ words) = program ∷ with_options (more_types words) false Free words
