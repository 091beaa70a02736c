-- An id that names a function in an object's types names one in the bytes of the rewritten types.
use Rattle.std.proofs.Common.{◌≡◌, ℕ, ◌-◌, ◌==◌, List, [], ◌∷◌, map, Bool, true, false, Some, None, length, subst, arith}
use Rattle.std.proofs.lemmas.Bool.Decides.{nat_tests}
use Rattle.std.specs.Prelude.{Option, if◌then◌else◌, slice_get}
use Rattle.btf_encoding.specs.Records.{without_fallback}
use Rattle.btf_records.specs.declared.functions.Func.{Func}
use Rattle.btf_records.specs.declared.types.BtfType.{BtfType}
use Rattle.btf_records.specs.declared.types.BtfType.TheVariants as types
use Rattle.btf_sanitize.specs.Answers.{Answers}
use Rattle.btf_tables.specs.Sections.{HoldsTable, without_fallbacks}
use Rattle.btf_tables.specs.Tables.{Table, table_bytes}
use Rattle.load_plan.specs.NamedFunctions.{names_function_in}
use Rattle.load_plan.specs.RewrittenFunctions.{FunctionsStay, IsRewrittenUnder, NamesSame, is_denied}
use Rattle.load_plan.specs.ContentsLaws.{NamesAreCarried}
use Rattle.load_plan.specs.Plans.{HoldsTypeBytes, Names, type_bytes_of}

-- A table in which an id is a function has types.
not_empty : {A : Type 0} (x : A) (xs : List A) → (length (x ∷ xs) == 0) ≡ false
not_empty x xs = grind (arith, nat_tests)

some_type : (ts : List BtfType) (id : ℕ) (b : Bool) (f : Func) → (if b then Some types.Unknown else slice_get (map without_fallback ts) (id - 1)) ≡ Some (types.Func f) → (length ts == 0) ≡ false
some_type [] id true f h = absurd (cc)
some_type [] id false f h = absurd (cc)
some_type (t ∷ ts) id b f h = not_empty t ts

names_under : (table new : Table) (b : Bool) (bytes : Option (List ℕ)) (id : ℕ) → bytes ≡ (if b then None else Some (table_bytes new)) → b ≡ false → new.order ≡ table.order → HoldsTypeBytes (Some new) bytes → NamesSame table (without_fallbacks new) id → Names (Some table) bytes id
names_under table new true bytes id e is_false order holds same = absurd (cc)
names_under table new false None id e is_false order holds same = absurd (cc)
names_under table new false (Some bytes) id e is_false order holds same =
    record { held = without_fallbacks new; holds = subst (λ o. HoldsTable o bytes (without_fallbacks new)) order holds; same = same }

carried : FunctionsStay → (answers : Answers) (sizes offsets : List ℕ → Option ℕ) (ksyms : Option (ℕ × Option ℕ)) (table new : Table) (bytes : Option (List ℕ)) (id : ℕ) → IsRewrittenUnder answers sizes offsets ksyms table new → new.order ≡ table.order → bytes ≡ type_bytes_of new → HoldsTypeBytes (Some new) bytes → is_denied answers ≡ false → names_function_in id table ≡ true → Names (Some table) bytes id
carried stay answers sizes offsets ksyms table new bytes id under order is holds denied named =
    let same = stay.each answers sizes offsets ksyms table new id under denied named in
    names_under table new (length new.types == 0) bytes id is (some_type new.types id (id == 0) same.after.func same.after.here) order holds same

pub names_are_carried : FunctionsStay → NamesAreCarried
names_are_carried stay = record { each = carried stay }
