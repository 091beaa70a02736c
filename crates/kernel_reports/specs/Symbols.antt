-- Kernel symbols that are assumed.
use Rattle.std.specs.Prelude.{◌≡◌, true, false, ℕ, ◌==◌, ◌&&◌, Bool, not, if◌then◌else◌, List, [], ◌∷◌, ◌++◌, length, flat_map, codes, None, Some, is_none}
use Rattle.std.specs.Char.{is_whitespace}
use Rattle.std.specs.List.{list_any}
use Rattle.std.specs.Str.{IsUtf8, bytes_eq, chars}
use Rattle.kernel_symbols.specs.Texts.{TextFault, address_of}
use Rattle.kernel_symbols.specs.Words.{space_len}
use Rattle.kernel_symbols.specs.declared.error.SymbolsError.{SymbolsError}
use Rattle.object_externs.specs.Externs.{ExternContent}

-- Whether a name is one word of a line of symbols, in which white space ends words.
abbrev pub is_one_word : List ℕ → Bool
is_one_word name = not (length name == 0) && not (list_any is_whitespace (chars name))

-- Whether an extern must be found among the kernel's symbols.
abbrev pub is_needed : ExternContent → Bool
is_needed e = is_none e.type_id && not e.is_weak

-- Whether an extern is assumed.
abbrev pub is_assumed : List ℕ × ExternContent → Bool
is_assumed e = is_needed e.1 && is_one_word e.0

-- The line that gives a name the address 1.
abbrev pub line_of : List ℕ → List ℕ
line_of name = codes "1 T " ++ name ++ 10 ∷ []

abbrev pub assumed_line : List ℕ × ExternContent → List ℕ
assumed_line e = if is_assumed e then line_of e.0 else []

-- The text with a line for each extern that is assumed.
abbrev pub assumed_text : List (List ℕ × ExternContent) → List ℕ
assumed_text externs = flat_map assumed_line externs

-- Whether this is the name of an assumed extern.
abbrev pub is_name_assumed : List (List ℕ × ExternContent) → List ℕ → Bool
is_name_assumed externs name = list_any (λ e. is_assumed e && bytes_eq e.0 name) externs

-- Any name may be asked for.
abbrev pub IsAny : List ℕ → Type 0
IsAny name = Unit {0}

-- The text has these lines. Read as symbols it has no fault, and it gives the address 1 to the
-- names of assumed externs and no address to others.
pub record IsAssumed (externs : List (List ℕ × ExternContent)) (text : List ℕ) : Type 0 where
  pub lines : text ≡ assumed_text externs
  pub addresses : (name : List ℕ)
      → address_of name text ≡ (if is_name_assumed externs name then Some 1 else None)
  pub faultless : (f : SymbolsError) → TextFault false IsAny text f → ⊥

-- No white space begins at any byte.
abbrev pub HasNoSpace : List ℕ → Type 0
HasNoSpace [] = Unit {0}
HasNoSpace (x ∷ xs) = (space_len (x ∷ xs) ≡ 0) × HasNoSpace xs

-- A text that is one word of a line of symbols.
pub record IsPlainWord (name : List ℕ) : Type 0 where
  pub text : IsUtf8 name
  pub plain : HasNoSpace name

abbrev pub IsPlainName : List ℕ × ExternContent → Type 0
IsPlainName e = is_assumed e ≡ true → IsPlainWord e.0
