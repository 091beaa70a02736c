-- The member of a struct or union with a name. Members are compared in order. A member without a
-- name is searched in its turn. The first member with the name decides.
use Rattle.std.specs.Prelude.{ℕ, zero, suc, ◌==◌, Bool, List, [], ◌∷◌, ◌++◌, length, Option, None, Some, Result, Ok, Err, if◌then◌else◌}
use Rattle.std.specs.List.{list_any}
use Rattle.core_spec.specs.FieldPaths.{bits_after}
use Rattle.core_spec.specs.Lookups.{and_then, with_type}
use Rattle.core_spec.specs.declared.error.AccessError.{AccessError}
use Rattle.core_spec.specs.declared.error.AccessError.TheVariants.{MaximumNestingLevelReached}
use Rattle.btf_encoding.specs.Records.{bits_of}
use Rattle.btf_records.specs.Fields.{members_of}
use Rattle.btf_records.specs.Items.{bit_offset_of}
use Rattle.btf_records.specs.declared.item.BtfMember.{BtfMember}
use Rattle.btf_records.specs.declared.types.BtfType.{BtfType}
use Rattle.btf_tables.specs.Tables.{Table}
use Rattle.core_match.specs.Looks.{Search, look_at}
use Rattle.core_match.specs.declared.look.Look.{Look}
use Rattle.core_match.specs.declared.look.Look.TheVariants.{Next, Match, Descend, Mismatch}
use Rattle.core_match.specs.declared.search.FoundMember.{FoundMember}

-- The first result, or the second if the first found nothing.
abbrev pub or_next : Result (Option FoundMember) AccessError
    → Result (Option FoundMember) AccessError
    → Result (Option FoundMember) AccessError
or_next (Ok None) next = next
or_next (Ok (Some found)) next = Ok (Some found)
or_next (Err e) next = Err e

-- The result after the comparison of a member. `here` is the member as the match, `next` the result
-- of the members after it, and `go` the search of an inner struct or union.
abbrev pub by_look : (ℕ → Option ℕ → Result (Option FoundMember) AccessError) → FoundMember → Result
    (Option FoundMember) AccessError → Look
    → Result (Option FoundMember) AccessError
by_look go here next Next = next
by_look go here next Mismatch = Ok None
by_look go here next Match = Ok (Some here)
by_look go here next (Descend id) = or_next (go id here.bits) next

-- The member at this index as the match. Its struct or union begins at these bits and is the
-- innermost of `depth` open ones.
abbrev pub found_here : ℕ → BtfType → ℕ → Option ℕ → ℕ → BtfMember → FoundMember
found_here id t depth bits index m = record {
  place = record { type_id = id; index = index };
  type_id = m.btf_type;
  bits = bits_after bits (bit_offset_of (bits_of t).flag m);
  parts = depth;
}

-- The result of the members from this index on.
unfoldable pub members_found : (ℕ → Option ℕ → Result (Option FoundMember) AccessError) → Search → ℕ
    → BtfType → ℕ → Option ℕ → ℕ → List BtfMember
    → Result (Option FoundMember) AccessError
members_found go search id t depth bits index [] = Ok None
members_found go search id t depth bits index (m ∷ ms) =
    and_then (look_at search m)
    (by_look go (found_here id t depth bits index m)
    (members_found go search id t depth bits (suc index) ms))

abbrev pub is_among : List ℕ → ℕ → Bool
is_among open_ids id = list_any (λ other. other == id) open_ids

-- The result for the struct or union of an id inside the open ones. One that is already open is
-- nested too deep. At most n are opened inside each other.
unfoldable pub found_in : ℕ → Search → List ℕ → ℕ → Option ℕ → Result (Option FoundMember) AccessError
found_in zero search open_ids id bits = Err MaximumNestingLevelReached
found_in (suc n) search open_ids id bits =
    if is_among open_ids id then Err MaximumNestingLevelReached
    else with_type search.target id (λ t.
    members_found (found_in n search (open_ids ++ id ∷ [])) search id t
    (length (open_ids ++ id ∷ [])) bits 0 (members_of t))

-- A limit that is greater than the number of types.
abbrev pub most_open : Table → ℕ
most_open target = suc (length target.types)

-- The member of a struct or union that begins at these bits.
abbrev pub member_found : Search → ℕ → Option ℕ → Result (Option FoundMember) AccessError
member_found search id bits = found_in (most_open search.target) search [] id bits
