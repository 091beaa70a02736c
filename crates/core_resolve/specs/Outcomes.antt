-- The outcome of matches (`bpf_core_calc_relo_insn`, tools/lib/bpf/relo_core.c).
use Rattle.std.specs.Prelude.{◌==◌, ◌&&◌, not, Bool, true, filter, List, [], ◌∷◌, Option, None, Some, Result, Ok, Err, if◌then◌else◌}
use Rattle.std.specs.List.{list_all}
use Rattle.core_spec.specs.FieldValues.{plain}
use Rattle.core_spec.specs.declared.value.RelocationValue.{RelocationValue}
use Rattle.ebpf_items.specs.declared.relocation_kind.RelocationKind.{RelocationKind}
use Rattle.ebpf_items.specs.declared.relocation_kind.RelocationKind.TheVariants as kinds
use Rattle.core_resolve.specs.declared.error.TypeRelocationError.{TypeRelocationError}
use Rattle.core_resolve.specs.declared.error.TypeRelocationError.TheVariants.{ConflictingCandidates, MissingTargetDefinition}
use Rattle.core_resolve.specs.declared.matches.Match.{Match}
use Rattle.core_resolve.specs.declared.resolved.Resolved.{Resolved}
use Rattle.core_resolve.specs.declared.resolved.Resolved.TheVariants.{Poison, Value}

abbrev pub no_match : RelocationKind → Result Resolved TypeRelocationError
no_match kinds.FieldExists = Ok (Value (plain 0))
no_match kinds.TypeExists = Ok (Value (plain 0))
no_match kinds.EnumVariantExists = Ok (Value (plain 0))
no_match kinds.TypeIdTarget = Err MissingTargetDefinition
no_match kinds.TypeSize = Err MissingTargetDefinition
no_match _ = Ok Poison

-- Whether two values are equal. A missing value counts as equal to any other.
abbrev pub same_values : Option RelocationValue → Option RelocationValue → Bool
same_values (Some one) (Some another) = one.value == another.value
same_values _ _ = true

abbrev pub agree : Match → Match → Bool
agree first other = (first.bit_offset == other.bit_offset) && same_values first.value other.value

abbrev pub value_of_first : Option RelocationValue → Resolved
value_of_first (Some value) = Value value
value_of_first None = Poison

abbrev pub of_first : Match → Resolved
of_first first = value_of_first first.value

-- The outcome of matches in order of tables and ids. The first match decides, and the others must
-- agree with it.
abbrev pub outcome_of : RelocationKind → List Match → Result Resolved TypeRelocationError
outcome_of kind [] = no_match kind
outcome_of kind (first ∷ others) =
    if list_all (agree first) others then Ok (of_first first) else Err ConflictingCandidates

-- The matches that disagree with the first match, in order.
abbrev pub conflicts : List Match → List Match
conflicts [] = []
conflicts (first ∷ others) = filter (λ other. not (agree first other)) others
