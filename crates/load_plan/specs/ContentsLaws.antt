-- The laws of the records of a plan.
use Rattle.std.specs.Prelude.{◌≡◌, ℕ, List, map, Bool, true, false, Option, Some}
use Rattle.btf_sanitize.specs.Answers.{Answers}
use Rattle.btf_tables.specs.Tables.{Table}
use Rattle.ebpf_object.specs.Helpers.{for_kernel}
use Rattle.linker.specs.Layout.{Key}
use Rattle.load_plan.specs.NamedFunctions.{all_named, names_function, names_function_in}
use Rattle.load_plan.specs.RewrittenFunctions.{IsRewrittenUnder, is_denied}
use Rattle.linker.specs.Linked.{AreLinked}
use Rattle.linker.specs.Records.{functions_in}
use Rattle.linker.specs.Unlinked.{Unlinked}
use Rattle.object_parts.specs.Content.{FunctionContent, ProgramContent, function_at}
use Rattle.load_plan.specs.Plans.{AllNamed, HoldsTypeBytes, Names, plan_program_of, type_bytes_of}

-- For each key, the functions have the function records of the other functions.
pub record HaveRecordsOf (old new : List (Key × FunctionContent)) : Type 0 where
  pub at : (key : Key) → functions_in (function_at new key) ≡ functions_in (function_at old key)

-- Let each record of an object's functions name a function, and let the bytes of a plan's types
-- name the same functions. Then each record of the plan's programs names a function there. The
-- programs are linked with the object's records, for a kernel that has the newer helpers or lacks
-- them.
pub record RecordsName : Type 0 where
  pub each : (types : Option Table) (bytes : Option (List ℕ)) (answers : Answers)
      (has_types has_helpers : Bool) (functions : List (Key × FunctionContent)) (u : Unlinked)
      (keys : List Key) (new : List (Key × FunctionContent))
      (programs : List (List ℕ × ProgramContent))
      → all_named types functions ≡ true
      → HaveRecordsOf functions u.functions
      → AreLinked u keys new
      → (is_denied answers ≡ false
      → (id : ℕ)
      → names_function types id ≡ true
      → Names types bytes id)
      → AllNamed types bytes
      (map (plan_program_of answers has_types (for_kernel has_helpers new)) programs)

-- If types are rewritten under answers that don't deny functions, an id that names a function in
-- the old types also names one in the bytes of the new types.
pub record NamesAreCarried : Type 0 where
  pub each : (answers : Answers) (sizes offsets : List ℕ → Option ℕ) (ksyms : Option (ℕ × Option ℕ))
      (table new : Table) (bytes : Option (List ℕ)) (id : ℕ)
      → IsRewrittenUnder answers sizes offsets ksyms table new
      → new.order ≡ table.order
      → bytes ≡ type_bytes_of new
      → HoldsTypeBytes (Some new) bytes
      → is_denied answers ≡ false
      → names_function_in id table ≡ true
      → Names (Some table) bytes id
