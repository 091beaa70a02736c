-- The comparison of one member in a search for a member (`bpf_core_match_member`,
-- tools/lib/bpf/relo_core.c).
use Rattle.std.specs.Prelude.{ℕ, Bool, false, true, nat_eq, List, [], ◌∷◌, Result, Ok, if◌then◌else◌}
use Rattle.std.specs.Cmp.Lexicographic.{pointwise}
use Rattle.core_spec.specs.Lookups.{with_found, with_text, with_type}
use Rattle.core_spec.specs.declared.error.AccessError.{AccessError}
use Rattle.btf_compatibility.specs.FieldCompatibility.{fields_compatible}
use Rattle.btf_records.specs.declared.item.BtfMember.{BtfMember}
use Rattle.btf_records.specs.declared.types.BtfType.{BtfType}
use Rattle.btf_records.specs.declared.types.BtfType.TheVariants as types
use Rattle.btf_tables.specs.ResolvedTypes.{resolved_type}
use Rattle.btf_tables.specs.Tables.{Table}
use Rattle.core_match.specs.declared.look.Look.{Look}
use Rattle.core_match.specs.declared.look.Look.TheVariants.{Next, Match, Descend, Mismatch}

-- A search for a member of the target's types by the name and the type of a local member.
pub record Search : Type 0 where
  pub local : Table
  pub type_id : ℕ
  pub name : List ℕ
  pub target : Table

abbrev pub searched : Table → ℕ → List ℕ → Table → Search
searched local id name target = record { local = local; type_id = id; name = name; target = target }

abbrev pub is_composite : BtfType → Bool
is_composite (types.Struct t) = true
is_composite (types.Union t) = true
is_composite _ = false

-- The comparison of a member without a name. It descends into a struct or union.
abbrev pub look_at_unnamed : Table → BtfMember → Result Look AccessError
look_at_unnamed target m =
    with_found (resolved_type target m.btf_type) (λ id.
    with_type target id (λ t.
    if is_composite t then Ok (Descend id) else Ok Next))

-- The comparison of a member with the name.
abbrev pub look_at_named : Table → ℕ → Table → BtfMember → Result Look AccessError
look_at_named local id target m =
    with_found (fields_compatible local id target m.btf_type) (λ yes.
    if yes then Ok Match else Ok Mismatch)

abbrev pub look_by_name : Search → BtfMember → List ℕ → Result Look AccessError
look_by_name search m [] = look_at_unnamed search.target m
look_by_name search m (b ∷ bs) =
    if pointwise nat_eq (b ∷ bs) search.name then look_at_named search.local search.type_id
    search.target m
    else Ok Next

abbrev pub look_at : Search → BtfMember → Result Look AccessError
look_at search m = with_text search.target m.name_offset (look_by_name search m)
