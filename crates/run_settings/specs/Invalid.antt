-- The first key of a document that isn't valid.
use Rattle.std.specs.Prelude.{ℕ, ◌&&◌, ◌||◌, Bool, List, ◌++◌, codes, Option, Some, None, is_some, if◌then◌else◌}
use Rattle.std.specs.Option.{option_or}
use Rattle.std.specs.Str.{bytes_eq}
use Rattle.toml.specs.Data.{Data, Members, as_bool, as_table, member, no_members}
use Rattle.run_settings.specs.Documents.{global_of, number_of}
use Rattle.run_settings.specs.Features.{feature_named}

-- Whether a member is valid in the table `maps`, `globals` or `features`.
abbrev pub is_taken : List ℕ → List ℕ → Data → Bool
is_taken table name d =
    if bytes_eq table (codes "maps") then is_some (number_of d)
    else (if bytes_eq table (codes "globals") then is_some (global_of d)
    else is_some (feature_named name) && is_some (as_bool d))

-- The first member of such a table that isn't valid, by the key of the table, a dot and its own
-- key.
abbrev pub invalid_entry : List ℕ → Members → Option (List ℕ)
invalid_entry table no_members = None
invalid_entry table (member key d ms) =
    if is_taken table key d then invalid_entry table ms else Some (table ++ (codes "." ++ key))

-- The key that isn't valid in a member of the document's table.
abbrev pub invalid_in : List ℕ → Option Members → Option (List ℕ)
invalid_in key None = Some key
invalid_in key (Some ms) = invalid_entry key ms

abbrev pub is_table : List ℕ → Bool
is_table key =
    bytes_eq key (codes "maps") || (bytes_eq key (codes "globals") || bytes_eq key (codes "features"))

abbrev pub invalid_part : List ℕ → Data → Option (List ℕ)
invalid_part key d =
    if is_table key then invalid_in key (as_table d)
    else (if bytes_eq key (codes "probe") && is_some (as_bool d) then None else Some key)

-- The first key that isn't valid in the document's table.
abbrev pub first_invalid : Members → Option (List ℕ)
first_invalid no_members = None
first_invalid (member key d ms) = option_or (invalid_part key d) (first_invalid ms)
