use Rattle.std.proofs.Common.{◌≡◌, ℕ, Bool, true}
use Rattle.std.specs.List.{list_any}
use Rattle.std.specs.Option.{option_copied}
use Rattle.object_parts.specs.Content.{FunctionContent}
use Rattle.load_plan.specs.NamedFunctions.{keeps_nameless}
use Rattle.load_plan.proofs.named_functions.nameless_record.Given as goal

-- The rest of the functions determines the result, and belongs to the functions.
abbrev pub invariant-loop-key : goal.invariant-loop-key
invariant-loop-key l =
    (list_any (λ e. keeps_nameless (option_copied l.table) e.1) l._key-iterator ≡ list_any (λ e. keeps_nameless (option_copied l.table) e.1) l.functions)
    × ((p : (ℕ × ℕ) × FunctionContent → Bool) → list_any p l._key-iterator ≡ true → list_any p l.functions ≡ true)
