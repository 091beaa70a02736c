-- The progress of reading a text of kernel symbols.
use Rattle.std.specs.Prelude.{◌≡◌, ◌≢◌, ℕ, Bool, true, false, List, [], ◌∷◌, ◌++◌, Option, None, Some, IfSome, IsSome, is_some, slice_get}
use Rattle.std.specs.Borrow.{Bor}
use Rattle.std.specs.Io.KnownBytes.{Consumes}
use Rattle.std.specs.List.{list_all, list_any}
use Rattle.std.specs.Prelude.{◌==◌, if◌then◌else◌, option_and_then, Result, Ok, Err}
use Rattle.kernel_symbols.specs.Wanted.{under}
use Rattle.kernel_symbols.specs.Texts.{IsAmong, is_among, IsGiven, LinesFault, TextFault, address_of, addresses_in, has_unreadable, is_foreign, lines_of, said}
use Rattle.kernel_symbols.specs.declared.error.SymbolsError.{SymbolsError}
use Rattle.kernel_symbols.specs.declared.error.SymbolsError.TheVariants.{Ambiguous, OutOfMemory, UnreadableAddress}
use Rattle.kernel_symbols.specs.declared.reading.Reading.{Reading}
use Rattle.kernel_symbols.specs.declared.wanted.Addresses.{Addresses}
use Rattle.kernel_symbols.specs.declared.wanted.Wanted.{Wanted}

abbrev pub IsWantedIn : List (List ℕ × Wanted) → List ℕ → Type 0
IsWantedIn entries name = IsSome (under entries name)

-- The address is the first of some addresses, and each is equal to it. `None` stands for none.
abbrev pub IsOnly : Option ℕ → List ℕ → Type 0
IsOnly None addresses = addresses ≡ []
IsOnly (Some address) addresses =
    (slice_get addresses 0 ≡ Some address) × (list_all (λ a. a == address) addresses ≡ true)

-- The address is the only one that the lines give.
pub record IsSettled (said_of : List (Option ℕ)) (address : Option ℕ) : Type 0 where
  pub readable : has_unreadable said_of ≡ false
  pub only : IsOnly address (addresses_in said_of)

abbrev pub IsSettledAs : List ℕ → List (List ℕ) → Wanted → Type 0
IsSettledAs name lines w = (w.name.now ≡ name) × IsSettled (said name lines) w.address

-- Each wanted name has the address that these lines give.
pub record AreSettled (entries : List (List ℕ × Wanted)) (lines : List (List ℕ))
    : Type 0 where
  pub texts : list_any is_foreign lines ≡ false
  pub found : (name : List ℕ) → IfSome (under entries name) (IsSettledAs name lines)

-- The wanted names are exactly these.
pub record AreWanted (names : List (Bor (List ℕ))) (entries : List (List ℕ × Wanted))
    : Type 0 where
  pub among : (name : List ℕ) → is_some (under entries name) ≡ is_among names name

pub record HasNoAddress (entries : List (List ℕ × Wanted)) : Type 0 where
  pub none : (name : List ℕ)
      → IfSome (under entries name) (λ w. (w.name.now ≡ name) × (w.address ≡ None))

-- The address of a wanted name after a line with this address. The first address is kept, and a
-- different one is refused.
abbrev pub settled_beside : Wanted → ℕ → Option ℕ → Result (Option ℕ) SymbolsError
settled_beside w address None = Ok (Some address)
settled_beside w address (Some first) =
    if first == address then Ok (Some first) else Err (Ambiguous w.name first address)

abbrev pub settled : Wanted → Option ℕ → Result (Option ℕ) SymbolsError
settled w None = Err (UnreadableAddress w.name)
settled w (Some address) = if address == 0 then Ok w.address else settled_beside w address w.address

-- The wanted names are the same.
pub record SameNames (old new : List (List ℕ × Wanted)) : Type 0 where
  pub same : (name : List ℕ) → is_some (under new name) ≡ is_some (under old name)

-- One more line is taken.
pub record TakesLine (old new : List (List ℕ × Wanted)) (line : List ℕ) : Type 0 where
  pub settled : (lines : List (List ℕ)) → AreSettled old lines → AreSettled new (lines ++ line ∷ [])
  pub names : SameNames old new

-- One more line is refused. The fault holds whatever lines follow.
pub record RefusesLine (old : List (List ℕ × Wanted)) (line : List ℕ) (e : SymbolsError)
    : Type 0 where
  pub stands : e ≢ OutOfMemory
      → (failed : Bool) (lines more : List (List ℕ))
      → AreSettled old lines
      → LinesFault failed (IsWantedIn old) (lines ++ line ∷ more) e

abbrev pub is_break : ℕ → Bool
is_break b = b == 10

-- A line without NL.
abbrev pub IsUnbroken : List ℕ → Type 0
IsUnbroken line = list_any is_break line ≡ false

-- A text consists of whole lines, which are settled, and the beginning of the next line. Bytes that
-- follow continue this beginning.
pub record IsAfter (text : List ℕ) (entries : List (List ℕ × Wanted)) (partial : List ℕ)
    : Type 0 where
  pub lines : List (List ℕ)
  pub split : (more : List ℕ) → lines_of (text ++ more) ≡ lines ++ lines_of (partial ++ more)
  pub open_line : IsUnbroken partial
  pub settled : AreSettled entries lines

abbrev pub entries_of : Reading → List (List ℕ × Wanted)
entries_of r = r.by_name

abbrev pub HasRead : List ℕ → Reading → Type 0
HasRead text r = IsAfter text r.by_name r.partial.items

pub record Takes (old : Reading) (bytes : List ℕ) (new : Reading) : Type 0 where
  pub after : (text : List ℕ) → HasRead text old → HasRead (text ++ bytes) new
  pub names : SameNames (entries_of old) (entries_of new)

-- All but the rest of some bytes is taken.
pub record TakesAllBut (old : Reading) (bytes rest : List ℕ) (new : Reading) : Type 0 where
  pub front : List ℕ
  pub parts : bytes ≡ front ++ rest
  pub taken : Takes old front new

pub record Refuses (old : Reading) (bytes : List ℕ) (e : SymbolsError) : Type 0 where
  pub stands : e ≢ OutOfMemory
      → (failed : Bool) (text more : List ℕ)
      → HasRead text old
      → TextFault failed (IsWantedIn (entries_of old)) ((text ++ bytes) ++ more) e

-- The bytes that were read from the reader are taken.
pub record ReadsSome (known left : Option (List ℕ)) (old new : Reading) : Type 0 where
  pub text : List ℕ
  pub lost : Consumes known left text
  pub taken : Takes old text new

-- The whole text of the reader is taken.
pub record ReadsWhole (known : Option (List ℕ)) (old new : Reading) : Type 0 where
  pub text : List ℕ
  pub given : IsGiven known text
  pub taken : Takes old text new

-- A fault stands in the text that was read, followed by what the reader gives.
pub record RefusesReader (known : Option (List ℕ)) (failed : Bool) (old : Reading)
    (e : SymbolsError) : Type 0 where
  pub more : List ℕ
  pub given : IsGiven known more
  pub stands : e ≢ OutOfMemory
      → (text : List ℕ)
      → HasRead text old
      → TextFault failed (IsWantedIn (entries_of old)) (text ++ more) e

-- The text that was read is the whole text.
pub record Finishes (old : Reading) (found : Addresses) : Type 0 where
  pub settled : (text : List ℕ)
      → HasRead text old
      → AreSettled found.by_name (lines_of text)
  pub names : SameNames (entries_of old) found.by_name

pub record CannotFinish (old : Reading) (e : SymbolsError) : Type 0 where
  pub stands : e ≢ OutOfMemory
      → (failed : Bool) (text : List ℕ)
      → HasRead text old
      → TextFault failed (IsWantedIn (entries_of old)) text e

-- The reason why the addresses of these names can't be read from a reader with these bytes, which
-- failed or didn't fail: a fault of its text.
pub record ReaderFault (names : List (Bor (List ℕ))) (known : Option (List ℕ)) (failed : Bool)
    (e : SymbolsError) : Type 0 where
  pub text : List ℕ
  pub given : IsGiven known text
  pub stands : TextFault failed (IsAmong names) text e

-- The address that was found under a name.
abbrev pub address_under : Addresses → List ℕ → Option ℕ
address_under a name = option_and_then (λ w. w.address) (under a.by_name name)

-- The text of the reader has no fault, and each of the names has the address that the text gives.
-- No other name has an address.
pub record AreAddresses (names : List (Bor (List ℕ))) (known : Option (List ℕ)) (found : Addresses)
    : Type 0 where
  pub text : List ℕ
  pub given : IsGiven known text
  pub faultless : (e : SymbolsError) → TextFault false (IsAmong names) text e → ⊥
  pub value : (name : List ℕ) → IsAmong names name → address_under found name ≡ address_of name text
  pub others : (name : List ℕ) → is_among names name ≡ false → address_under found name ≡ None
