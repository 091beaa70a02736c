-- The externs between the steps of their resolution.
use Rattle.std.specs.Prelude.{◌≡◌, ℕ, Bool, true, false, if◌then◌else◌, List, ◌++◌, Option, None}
use Rattle.std.specs.Borrow.{Bor}
use Rattle.std.specs.List.{AllByRecursion, AllZip}
use Rattle.std.specs.Option.{MatchOption}
use Rattle.btf_tables.specs.Tables.{Table}
use Rattle.extern_resolution.specs.Faults.{SymbolsFault}
use Rattle.extern_resolution.specs.Outcomes.{IsFoundIn, is_name_sought, is_sought, left_weak, with_address, with_kernel_id}
use Rattle.extern_resolution.specs.declared.error.KsymsError.{KsymsError}
use Rattle.extern_resolution.specs.declared.error.KsymsError.TheVariants as error
use Rattle.kernel_symbols.specs.Reading.{address_under}
use Rattle.kernel_symbols.specs.Texts.{IsGiven, address_of, is_among}
use Rattle.kernel_symbols.specs.declared.wanted.Addresses.{Addresses}
use Rattle.object_externs.specs.Externs.{ExternContent, ExternsContent}
use Rattle.std.specs.String.{string_bytes}

pub record NoFault (fault : KsymsError → Type 0) : Type 0 where
  pub none : (f : KsymsError) → fault f → ⊥

-- An extern after the search by its type.
abbrev pub TypedBecomes : Table → Option Table → List ℕ → ExternContent → ExternContent → Type 0
TypedBecomes table kernel name old new =
    MatchOption old.type_id (new ≡ old) (λ type_id.
    (found : Option ℕ)
    × IsFoundIn table kernel name old type_id found
    × (new ≡ with_kernel_id found old))

abbrev pub EntryTyped : Table
    → Option Table
    → (List ℕ × ExternContent)
    → (List ℕ × ExternContent)
    → Type 0
EntryTyped table kernel old new = (new.0 ≡ old.0) × TypedBecomes table kernel old.0 old.1 new.1

-- An extern after the search by its name.
abbrev pub address_found : Addresses → List ℕ → ExternContent → Option ℕ
address_found addresses name e = if is_sought e then address_under addresses name else None

abbrev pub addressed : Addresses → List ℕ → ExternContent → ExternContent
addressed addresses name e = left_weak (with_address (address_found addresses name e) e)

abbrev pub EntryAddressed : Addresses → (List ℕ × ExternContent) → (List ℕ × ExternContent) → Type 0
EntryAddressed addresses old new = (new.0 ≡ old.0) × (new.1 ≡ addressed addresses old.0 old.1)

-- A strong extern has no address.
abbrev pub NoAddress : Addresses → KsymsError → (List ℕ × ExternContent) → Type 0
NoAddress addresses (error.VariableNotFound name) entry =
    (string_bytes name ≡ entry.0)
    × (is_sought entry.1 ≡ true)
    × (entry.1.is_weak ≡ false)
    × (address_under addresses entry.0 ≡ None)
NoAddress addresses _ entry = ⊥

-- Each extern is changed by the step `R`. Their order and section are unchanged.
pub record AreSteps (R : (List ℕ × ExternContent) → (List ℕ × ExternContent) → Type 0)
    (old new : ExternsContent) : Type 0 where
  pub each : AllZip R old.by_name new.by_name
  pub section : new.ksyms ≡ old.ksyms

-- The entries before the rest are changed by the step `R`.
pub record Grows (R : (List ℕ × ExternContent) → (List ℕ × ExternContent) → Type 0)
    (all rest done : List (List ℕ × ExternContent)) : Type 0 where
  pub front : List (List ℕ × ExternContent)
  pub split : all ≡ front ++ rest
  pub each : AllZip R front done

-- No entry before the rest has a fault.
pub record NoneBefore (fault : KsymsError → (List ℕ × ExternContent) → Type 0)
    (all rest : List (List ℕ × ExternContent)) : Type 0 where
  pub front : List (List ℕ × ExternContent)
  pub split : all ≡ front ++ rest
  pub none : AllByRecursion (λ x. NoFault (λ f. fault f x)) front

-- The names are those of the externs that are searched among the kernel's symbols.
pub record AreSoughtNames (externs : List (List ℕ × ExternContent)) (names : List (Bor (List ℕ)))
    : Type 0 where
  pub same : (name : List ℕ) → is_among names name ≡ is_name_sought externs name

-- The addresses of the externs that are searched among the kernel's symbols.
pub record AreSought (externs : List (List ℕ × ExternContent)) (known : Option (List ℕ))
    (failed : Bool) (found : Addresses) : Type 0 where
  pub text : List ℕ
  pub given : IsGiven known text
  pub none : NoFault (SymbolsFault failed text externs)
  pub value : (name : List ℕ)
      → is_name_sought externs name ≡ true
      → address_under found name ≡ address_of name text

pub record CannotSeek (externs : List (List ℕ × ExternContent)) (known : Option (List ℕ))
    (failed : Bool) (f : KsymsError) : Type 0 where
  pub text : List ℕ
  pub given : IsGiven known text
  pub stands : SymbolsFault failed text externs f
