-- A text of kernel symbols: a line for each symbol, with its address, its kind and its name, as
-- /proc/kallsyms writes them (kernel/kallsyms.c, "s_show").
use Rattle.std.specs.Prelude.{◌≡◌, ℕ, Bool, true, false, ◌==◌, ◌⊎◌, not, if◌then◌else◌, List, [], ◌∷◌, Option, None, Some, IfSome, is_none, slice_get}
use Rattle.std.specs.Borrow.{Bor}
use Rattle.std.specs.List.{flat_map, list_any}
use Rattle.std.specs.Str.{bytes_eq, is_utf8}
use Rattle.kernel_symbols.specs.Addresses.{address_in}
use Rattle.kernel_symbols.specs.Words.{first_and_third, onto_first, words_of}
use Rattle.kernel_symbols.specs.declared.error.SymbolsError.{SymbolsError}
use Rattle.kernel_symbols.specs.declared.error.SymbolsError.TheVariants as error

-- The lines of a text, without the NL at the end of each. The last line may lack the NL.
unfoldable pub lines_of : List ℕ → List (List ℕ)
lines_of [] = []
lines_of (x ∷ xs) = if x == 10 then [] ∷ lines_of xs else onto_first x (lines_of xs)

-- The addresses that the first and third word of a line give for a name: none if the line is of
-- another name. An unreadable address is `None`.
abbrev pub said_by : List ℕ → Option (List ℕ × List ℕ) → List (Option ℕ)
said_by name None = []
said_by name (Some entry) = if bytes_eq entry.1 name then address_in entry.0 ∷ [] else []

-- The addresses that a line gives for a name. A line of fewer than three words gives none.
abbrev pub said_in : List ℕ → List ℕ → List (Option ℕ)
said_in name line = said_by name (first_and_third (words_of line))

-- The addresses that lines give for a name.
abbrev pub said : List ℕ → List (List ℕ) → List (Option ℕ)
said name lines = flat_map (said_in name) lines

-- The kernel shows address 0 in place of a hidden address. It counts as no address.
abbrev pub shown : Option ℕ → List ℕ
shown None = []
shown (Some address) = if address == 0 then [] else address ∷ []

-- The addresses that lines give, without 0 and unreadable addresses.
abbrev pub addresses_in : List (Option ℕ) → List ℕ
addresses_in said = flat_map shown said

-- The address of a name: the first that the lines give.
unfoldable pub address_of : List ℕ → List ℕ → Option ℕ
address_of name text = slice_get (addresses_in (said name (lines_of text))) 0

-- Whether a line isn't UTF-8.
abbrev pub is_foreign : List ℕ → Bool
is_foreign line = not (is_utf8 line)

-- Whether lines give an unreadable address.
abbrev pub has_unreadable : List (Option ℕ) → Bool
has_unreadable said = list_any is_none said

-- Whether lines give this address.
abbrev pub has_address : List (Option ℕ) → ℕ → Bool
has_address said address = list_any (λ a. a == address) (addresses_in said)

-- Lines give a first address and a different one.
abbrev pub AreTwo : List (Option ℕ) → ℕ → ℕ → Type 0
AreTwo said first second =
    (slice_get (addresses_in said) 0 ≡ Some first)
    × (has_address said second ≡ true)
    × ((first == second) ≡ false)

-- The reason why the addresses of these names can't be read from lines: the reader failed or a line
-- isn't UTF-8; the address of a name is unreadable; a name has two addresses.
abbrev pub LinesFault : Bool → (List ℕ → Type 0) → List (List ℕ) → SymbolsError → Type 0
LinesFault failed IsWanted lines (error.Access e) =
    (failed ≡ true) ⊎ (list_any is_foreign lines ≡ true)
LinesFault failed IsWanted lines (error.UnreadableAddress name) =
    IsWanted name.now × (has_unreadable (said name.now lines) ≡ true)
LinesFault failed IsWanted lines (error.Ambiguous name first second) =
    IsWanted name.now × AreTwo (said name.now lines) first second
LinesFault failed IsWanted lines error.OutOfMemory = ⊥

abbrev pub TextFault : Bool → (List ℕ → Type 0) → List ℕ → SymbolsError → Type 0
TextFault failed IsWanted text e = LinesFault failed IsWanted (lines_of text) e

-- A possible text of a reader: its known bytes, or any text where they aren't known.
abbrev pub IsGiven : Option (List ℕ) → List ℕ → Type 0
IsGiven known text = IfSome known (λ bytes. bytes ≡ text)

-- Whether a name is one of some borrowed names.
abbrev pub is_among : List (Bor (List ℕ)) → List ℕ → Bool
is_among names name = list_any (λ n. bytes_eq n.now name) names

abbrev pub IsAmong : List (Bor (List ℕ)) → List ℕ → Type 0
IsAmong names name = is_among names name ≡ true
