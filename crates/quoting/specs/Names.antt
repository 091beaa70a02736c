-- Lists of names, shortened for a report.
use Rattle.std.specs.Prelude.{ℕ, ◌+◌, ◌-◌, ◌^◌, nat_le, nat_lt, Bool, List, [], ◌∷◌, ◌++◌, length, Option, None, if◌then◌else◌}
use Rattle.std.specs.Fmt.{debug_str}

-- A name of at most 256 bytes is printed as Rust's debug form of it, which std states for ASCII.
abbrev pub name_text : List ℕ → Option (List ℕ)
name_text name = if nat_le (length name) 256 then debug_str name else None

-- The first 10 of some names, and the number of the others.
pub record ShortenedNames : Type 0 where
  pub first : List (List ℕ)
  pub more : ℕ

abbrev pub no_names : ShortenedNames
no_names = record { first = []; more = 0 }

-- The number of the others stays at 2^64 - 1 from there on.
abbrev pub one_more : ℕ → ℕ
one_more n = if nat_lt n (2 ^ 64 - 1) then n + 1 else n

abbrev pub with_name : ShortenedNames → List ℕ → ShortenedNames
with_name names name =
    if nat_lt (length names.first) 10 then record names { first = names.first ++ name ∷ [] }
    else record names { more = one_more names.more }

-- Whether there are two names or more.
abbrev pub are_several : ShortenedNames → Bool
are_several names = nat_lt 1 (length names.first)
