-- The prefixes of names.
use Rattle.std.specs.Prelude.{◌≡◌, ◌⊎◌, ℕ, ◌*◌, ◌/◌, ◌%◌, ◌^◌, ◌≤◌, ◌&&◌, Bool, true, List, length}
use Rattle.std.specs.Int.{from_le_bytes, w64}
use Rattle.btf_tables.specs.EssentialNames.{essential_name}
use Rattle.string_table.specs.FirstBytes.{is_marked}

-- The first `len` bytes as a little-endian number, for a `len` of at most eight. Bytes past the end
-- count as zeros.
abbrev pub prefix_of : ℕ → List ℕ → ℕ
prefix_of len bytes = from_le_bytes w64 bytes % 2 ^ (8 * len)

-- A hash of the first `len` bytes, of 16 bits.
abbrev pub hash_of : ℕ → List ℕ → ℕ
hash_of len bytes = prefix_of len bytes * 11400714819323198485 % 2 ^ 64 / 2 ^ 48

-- The number of bytes of a prefix, and the high and low bytes of the hashes of the names' prefixes.
pub record Filter : Type 0 where
  pub len : ℕ
  pub high : List Bool
  pub low : List Bool

-- Whether both bytes of a hash are marked.
abbrev pub has_hash : Filter → ℕ → Bool
has_hash filter hash =
    is_marked filter.high (hash / 2 ^ 8) && is_marked filter.low (hash % 2 ^ 8)

-- A text has a marked prefix.
pub record HasPrefix (filter : Filter) (text : List ℕ) : Type 0 where
  pub long : filter.len ≤ length text
  pub marked : has_hash filter (hash_of filter.len text) ≡ true

-- The prefix of one more name is marked, with and without flavours.
pub record MarksPrefix (name : List ℕ) (old new : Filter) : Type 0 where
  pub len : new.len ≡ old.len
  pub named : (text : List ℕ) → essential_name text ≡ name → HasPrefix new text
  pub stay : (text : List ℕ) → HasPrefix old text → HasPrefix new text

-- The prefixes of the names of eight bytes and more, and of the shorter ones.
pub record Prefixes : Type 0 where
  pub long : Filter
  pub short : Filter

-- A text may begin as one of the names.
abbrev pub MayBegin : Prefixes → List ℕ → Type 0
MayBegin prefixes text = HasPrefix prefixes.long text ⊎ HasPrefix prefixes.short text

-- One more name is marked, with and without flavours.
pub record MarksName (name : List ℕ) (old new : Prefixes) : Type 0 where
  pub len : new.short.len ≡ old.short.len
  pub named : (text : List ℕ) → essential_name text ≡ name → MayBegin new text
  pub stay : (text : List ℕ) → MayBegin old text → MayBegin new text
