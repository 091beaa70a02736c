-- Names of helpers, by number.
use Rattle.std.specs.Prelude.{◌≡◌, ◌++◌, ℕ, ℤ, ◌||◌, not, nat_eq, Bool, true, false, List, Option, codes, drop, is_some, length, map, if◌then◌else◌}
use Rattle.std.specs.BTreeMap.{is_at}
use Rattle.std.specs.List.{flat_map, list_all, list_any, starts_with}
use Rattle.std.specs.Map.{lookup}
use Rattle.std.specs.Option.{option_map, option_or}
use Rattle.std.specs.Ordering.{int_cmp}
use Rattle.std.specs.String.{string_bytes}
use Rattle.btf_tables.specs.Tables.{Table}
use Rattle.report_checks.specs.declared.reports.PlanReport.{PlanReport}
use Rattle.report_checks.specs.declared.reports.ProgramReport.{ProgramReport}
use Rattle.report_needs.specs.Enums.{func_ids, helper_name}
use Rattle.report_needs.specs.declared.enums.Presence.{Presence}
use Rattle.report_needs.specs.declared.enums.Presence.TheVariants.{Found, Missing, Unknown}
use Rattle.report_needs.specs.declared.needs.HelperNeed.{HelperNeed}
use Rattle.report_texts.specs.declared.helper_names.HelperNames.{HelperNames}

-- The name of a helper.
abbrev pub name_of : HelperNames → ℤ → Option (List ℕ)
name_of names number =
    option_map string_bytes (lookup (is_at (int_cmp number)) names.by_number.entries)

abbrev pub has_name : HelperNames → ℤ → Bool
has_name names number = is_some (lookup (is_at (int_cmp number)) names.by_number.entries)

abbrev pub is_found : Presence → Bool
is_found Found = true
is_found Missing = false
is_found Unknown = false

-- Whether a helper has a name, if the kernel has it.
abbrev pub is_named : HelperNames → HelperNeed → Bool
is_named names need = not (is_found need.presence) || has_name names need.number

-- Whether all helpers that a plan's programs call are so.
abbrev pub are_named_in : HelperNames → ProgramReport → Bool
are_named_in names report = list_all (is_named names) report.needs.helpers.items

abbrev pub are_all_named : HelperNames → PlanReport → Bool
are_all_named names report = list_all (are_named_in names) report.programs.items

-- The name of a variant of `enum bpf_func_id` without `BPF_FUNC_`, if it begins with that.
abbrev pub without_front : List ℕ → List ℕ
without_front variant =
    if starts_with nat_eq variant (codes "BPF_FUNC_")
    then drop (length (codes "BPF_FUNC_")) variant
    else variant

-- The name of a helper, given that of its variant.
abbrev pub name_for : List ℕ → List ℕ
name_for variant = codes "bpf_" ++ without_front variant

-- The name of a helper by a kernel's enum.
abbrev pub kernel_name : Table → ℤ → Option (List ℕ)
kernel_name kernel number = option_map name_for (helper_name kernel (func_ids kernel) number)

-- The numbers of the helpers that a program calls, and that a plan's programs call.
abbrev pub numbers_in : ProgramReport → List ℤ
numbers_in report = map (λ need. need.number) report.needs.helpers.items

abbrev pub numbers_of : PlanReport → List ℤ
numbers_of report = flat_map numbers_in report.programs.items

abbrev pub is_among : List ℤ → ℤ → Bool
is_among numbers number = list_any (λ n. is_at (int_cmp n) number) numbers

-- The name of a helper after the kernel's names of some helpers are added: if it is one of these,
-- the kernel's name, if the kernel has one, and else the name from before.
abbrev pub name_after : Table → List ℤ → HelperNames → ℤ → Option (List ℕ)
name_after kernel numbers names number =
    if is_among numbers number
    then option_or (kernel_name kernel number) (name_of names number)
    else name_of names number

-- The names after the kernel's names of these helpers are added.
pub record AreAdded (kernel : Table) (numbers : List ℤ) (old new : HelperNames) : Type 0 where
  pub each : (number : ℤ) → name_of new number ≡ name_after kernel numbers old number
