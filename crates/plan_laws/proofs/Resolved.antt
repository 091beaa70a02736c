-- The outcomes of externs are determined by the tables and the text of symbols.
use Rattle.std.proofs.Common.{◌≡◌, ◌≢◌, ◌⊎◌, inl, inr, ℕ, Bool, true, false, List, [], ◌∷◌, Option, Some, None, Result, Ok, IfSome, IsSomeAnd, refl, sym, ap, ap₂, ◌∙◌, subst, arith, nat_lt, MatchOption, ◌||◌, ◌&&◌, not, is_none, bytes_eq, if◌then◌else◌, string_bytes}
use Rattle.std.specs.List.{AllZip}
use Rattle.std.proofs.lemmas.List.Folds.{list_any-from_Any}
use Rattle.btf_compatibility.specs.TypeCompatibility.{types_compatible}
use Rattle.btf_records.specs.Fields.{kind_of_type, name_offset_of}
use Rattle.btf_records.specs.declared.error.BtfError.{BtfError}
use Rattle.btf_records.specs.declared.kind.BtfKind.{BtfKind}
use Rattle.btf_records.specs.declared.types.BtfType.{BtfType}
use Rattle.btf_tables.specs.Tables.{Table, type_by_id}
use Rattle.btf_tables.specs.TypesByName.{IsFirstNamed}
use Rattle.extern_resolution.specs.Faults.{EntryAddressFault, ResolutionFault, SymbolsFault}
use Rattle.extern_resolution.specs.Outcomes.{Becomes, EntryBecomes, IsFound, IsFoundIn, IsIncompatible, IsKernelRecord, IsMissing, is_any_sought, is_name_sought, is_sought, kernel_name, left_weak, sought_address, type_held_at, with_address, with_kernel_id}
use Rattle.extern_resolution.specs.Resolution.{AreResolved}
use Rattle.extern_resolution.specs.declared.error.KsymsError.{KsymsError}
use Rattle.extern_resolution.specs.declared.error.KsymsError.TheVariants as error
use Rattle.kernel_symbols.specs.Texts.{address_of}
use Rattle.object_externs.specs.Externs.{ExternContent, ExternsContent}
use Rattle.string_table.specs.Texts.{text_at}

-- The kernel's record of a kind and a name is unique.

named-not : (strings name : List ℕ) (kind : BtfKind) (o : Option BtfType)
    → IsSomeAnd o (λ t. (kind_of_type t ≡ kind) × (text_at strings (name_offset_of t) ≡ Some name))
    → IfSome o (λ t. kind_of_type t ≡ kind → IsSomeAnd (text_at strings (name_offset_of t)) (λ text. text ≢ name)) → ⊥
named-not strings name kind None named not = named
named-not strings name kind (Some t) named not =
    subst (λ (o : Option (List ℕ)). IsSomeAnd o (λ text. text ≢ name)) named.1 (not named.0) refl

first-same : (table : Table) (name : List ℕ) (kind : BtfKind) (a b : ℕ) → IsFirstNamed table name kind a
    → IsFirstNamed table name kind b → a ≡ b
first-same table name kind a b one two = by (nat_lt a b) (nat_lt b a) refl refl where
  by : (t u : Bool) → nat_lt a b ≡ t → nat_lt b a ≡ u → a ≡ b
  by true u below above =
      absurd (named-not table.strings name kind (type_by_id table a) one.named (two.first a (grind arith)))
  by false true below above =
      absurd (named-not table.strings name kind (type_by_id table b) two.named (one.first b (grind arith)))
  by false false below above = grind arith

kind-same : (o : Option BtfType) (a b : BtfKind) → IsSomeAnd o (λ t. kind_of_type t ≡ a)
    → IsSomeAnd o (λ t. kind_of_type t ≡ b) → a ≡ b
kind-same None a b one two = absurd one
kind-same (Some t) a b one two = sym one ∙ two

not-both : (table kernel : Table) (type_id : ℕ) (kind : BtfKind) (name : List ℕ) (a : ℕ)
    → IsKernelRecord table kernel type_id kind name (Ok true) a
    → IsMissing kernel kind name ⊎ IsIncompatible table kernel type_id kind name → ⊥
not-both table kernel type_id kind name a is (inl missing) = missing.none a is.found
not-both table kernel type_id kind name a is (inr other) =
    let same : other.id ≡ a = first-same kernel name kind other.id a other.record_of.found is.found in
    let compared : types_compatible table type_id kernel (type_held_at kernel a) ≡ Ok false =
    subst (λ (id : ℕ). types_compatible table type_id kernel (type_held_at kernel id) ≡ Ok false) same
    other.record_of.compared in
    let differs : ◌≡◌ {A = Result Bool BtfError} (Ok true) (Ok false) = sym is.compared ∙ compared in
    cc

found-same : (table kernel : Table) (type_id : ℕ) (kind : BtfKind) (name : List ℕ) (a b : Option ℕ)
    → IsFound table kernel type_id kind name a → IsFound table kernel type_id kind name b → a ≡ b
found-same table kernel type_id kind name None None one two = refl
found-same table kernel type_id kind name None (Some b) one two =
    absurd (not-both table kernel type_id kind name b two one)
found-same table kernel type_id kind name (Some a) None one two =
    absurd (not-both table kernel type_id kind name a one two)
found-same table kernel type_id kind name (Some a) (Some b) one two =
    ap (λ (id : ℕ). Some id) (first-same kernel name kind a b one.found two.found)

found-in-same : (table : Table) (kernel : Option Table) (name : List ℕ) (e : ExternContent) (type_id : ℕ)
    → (a b : Option ℕ) → IsFoundIn table kernel name e type_id a → IsFoundIn table kernel name e type_id b → a ≡ b
found-in-same table None name e type_id a b one two = one ∙ sym two
found-in-same table (Some kernel) name e type_id a b one two =
    let kind : two.kind ≡ one.kind =
    kind-same (type_by_id table e.btf_id) two.kind one.kind two.declared_as one.declared_as in
    found-same table kernel type_id one.kind (kernel_name one.kind name) a b one.is_found
    (subst (λ (k : BtfKind). IsFound table kernel type_id k (kernel_name k name) b) kind two.is_found)

-- The outcome of each extern is unique.

becomes-same : (table : Table) (kernel : Option Table) (text name : List ℕ) (old a b : ExternContent)
    → Becomes table kernel text name old a → Becomes table kernel text name old b → a ≡ b
becomes-same table kernel text name old a b one two = by old.type_id one two where
  by : (o : Option ℕ)
      → MatchOption o (a ≡ left_weak (with_address (sought_address text name old) old))
      (λ id. (o : Option ℕ) × IsFoundIn table kernel name old id o × (a ≡ left_weak (with_kernel_id o old)))
      → MatchOption o (b ≡ left_weak (with_address (sought_address text name old) old))
      (λ id. (o : Option ℕ) × IsFoundIn table kernel name old id o × (b ≡ left_weak (with_kernel_id o old)))
      → a ≡ b
  by None first second = first ∙ sym second
  by (Some type_id) first second =
      first.2 ∙ ap (λ (o : Option ℕ). left_weak (with_kernel_id o old))
      (found-in-same table kernel name old type_id first.0 second.0 first.1 second.1) ∙ sym second.2

entries-same : (table : Table) (kernel : Option Table) (text : List ℕ) (old a b : List (List ℕ × ExternContent))
    → AllZip (EntryBecomes table kernel text) old a → AllZip (EntryBecomes table kernel text) old b → a ≡ b
entries-same table kernel text [] [] [] one two = refl
entries-same table kernel text [] [] (y ∷ ys) one two = absurd two
entries-same table kernel text [] (x ∷ xs) b one two = absurd one
entries-same table kernel text (e ∷ es) [] b one two = absurd one
entries-same table kernel text (e ∷ es) (x ∷ xs) [] one two = absurd two
entries-same table kernel text (e ∷ es) (x ∷ xs) (y ∷ ys) one two =
    ap₂ (λ (n : List ℕ) (v : ExternContent). (n, v) ∷ xs) (one.0.0 ∙ sym two.0.0)
    (becomes-same table kernel text e.0 e.1 x.1 y.1 one.0.1 two.0.1)
    ∙ ap (λ (rest : List (List ℕ × ExternContent)). y ∷ rest) (entries-same table kernel text es xs ys one.1 two.1)

-- A text in which no extern is searched doesn't matter.

neither : (a b : Bool) → (a || b) ≡ false → (a ≡ false) × (b ≡ false)
neither true b is = absurd (cc)
neither false b is = (refl, is)

becomes-unread : (table : Table) (kernel : Option Table) (s t name : List ℕ) (old new : ExternContent)
    → is_sought old ≡ false → Becomes table kernel s name old new → Becomes table kernel t name old new
becomes-unread table kernel s t name old new unread becomes = by old.type_id becomes where
  by : (o : Option ℕ)
      → MatchOption o (new ≡ left_weak (with_address (sought_address s name old) old))
      (λ id. (o : Option ℕ) × IsFoundIn table kernel name old id o × (new ≡ left_weak (with_kernel_id o old)))
      → MatchOption o (new ≡ left_weak (with_address (sought_address t name old) old))
      (λ id. (o : Option ℕ) × IsFoundIn table kernel name old id o × (new ≡ left_weak (with_kernel_id o old)))
  by None is =
      is
      ∙ ap (λ (b : Bool). left_weak (with_address (if b then address_of name s else None) old)) unread
      ∙ sym (ap (λ (b : Bool). left_weak (with_address (if b then address_of name t else None) old)) unread)
  by (Some id) is = is

entries-unread : (table : Table) (kernel : Option Table) (s t : List ℕ) (old new : List (List ℕ × ExternContent))
    → is_any_sought old ≡ false → AllZip (EntryBecomes table kernel s) old new
    → AllZip (EntryBecomes table kernel t) old new
entries-unread table kernel s t [] [] unread each = tt
entries-unread table kernel s t [] (y ∷ ys) unread each = absurd each
entries-unread table kernel s t (x ∷ xs) [] unread each = absurd each
entries-unread table kernel s t (x ∷ xs) (y ∷ ys) unread each =
    let parts = neither (is_sought x.1) (is_any_sought xs) unread in (
      (each.0.0, becomes-unread table kernel s t x.0 x.1 y.1 parts.0 each.0.1),
      entries-unread table kernel s t xs ys parts.1 each.1,
    )

left-sought : (e : ExternContent) → is_sought (left_weak e) ≡ is_sought e
left-sought e = by (e.is_weak && not e.is_resolved) where
  by : (t : Bool) → is_sought (if t then record e { ksym_addr = Some 0 } else e) ≡ is_sought e
  by true = refl
  by false = refl

typed-unsought : (e : ExternContent) (id : ℕ) (found : Option ℕ) → e.type_id ≡ Some id
    → is_sought (with_kernel_id found e) ≡ false
typed-unsought e id None is = ap (λ (o : Option ℕ). is_none o && not e.is_resolved) is
typed-unsought e id (Some k) is = ap (λ (o : Option ℕ). is_none o && false) is

becomes-unsought : (table : Table) (kernel : Option Table) (text name : List ℕ) (old new : ExternContent)
    → is_sought old ≡ false → Becomes table kernel text name old new → is_sought new ≡ false
becomes-unsought table kernel text name old new unread becomes = by old.type_id refl becomes where
  by : (o : Option ℕ) → old.type_id ≡ o
      → MatchOption o (new ≡ left_weak (with_address (sought_address text name old) old))
      (λ id. (o : Option ℕ) × IsFoundIn table kernel name old id o × (new ≡ left_weak (with_kernel_id o old)))
      → is_sought new ≡ false
  by None none is =
      ap is_sought is ∙ left-sought (with_address (sought_address text name old) old)
      ∙ ap (λ (b : Bool). is_sought (with_address (if b then address_of name text else None) old)) unread ∙ unread
  by (Some id) some is =
      ap is_sought is.2 ∙ left-sought (with_kernel_id is.0 old) ∙ typed-unsought old id is.0 some

entries-unsought : (table : Table) (kernel : Option Table) (text : List ℕ) (old new : List (List ℕ × ExternContent))
    → is_any_sought old ≡ false → AllZip (EntryBecomes table kernel text) old new → is_any_sought new ≡ false
entries-unsought table kernel text [] [] unread each = refl
entries-unsought table kernel text [] (y ∷ ys) unread each = absurd each
entries-unsought table kernel text (x ∷ xs) [] unread each = absurd each
entries-unsought table kernel text (x ∷ xs) (y ∷ ys) unread each =
    let parts = neither (is_sought x.1) (is_any_sought xs) unread in
    ap (λ (b : Bool). b || is_any_sought ys) (becomes-unsought table kernel text x.0 x.1 y.1 parts.0 each.0.1)
    ∙ entries-unsought table kernel text xs ys parts.1 each.1

-- If no extern was searched in the text, no resolved extern is.
pub stays-unsought : (table : Table) (kernel : Option Table) (text : List ℕ) (failed : Bool)
    → (old new : ExternsContent) → is_any_sought old.by_name ≡ false → AreResolved table kernel text failed old new
    → is_any_sought new.by_name ≡ false
stays-unsought table kernel text failed old new unread resolved =
    entries-unsought table kernel text old.by_name new.by_name unread resolved.each

any-sought : (externs : List (List ℕ × ExternContent)) (name : List ℕ) → is_name_sought externs name ≡ true
    → is_any_sought externs ≡ true
any-sought [] name is = is
any-sought (e ∷ es) name is = by (is_sought e.1) (bytes_eq e.0 name) is (any-sought es name) where
  by : (a b : Bool) → ((a && b) || is_name_sought es name) ≡ true
      → (is_name_sought es name ≡ true → is_any_sought es ≡ true) → (a || is_any_sought es) ≡ true
  by true b there rest = refl
  by false b there rest = rest there

address-sought : (text : List ℕ) (f : KsymsError) (e : List ℕ × ExternContent) → EntryAddressFault text f e
    → is_sought e.1 ≡ true
address-sought text (error.VariableNotFound said_name) e fault = fault.1
address-sought text _ e fault = absurd fault

symbols-sought : (failed : Bool) (text : List ℕ) (externs : List (List ℕ × ExternContent)) (f : KsymsError)
    → SymbolsFault failed text externs f → is_any_sought externs ≡ true
symbols-sought failed text externs (error.KallsymsAccessError e) fault = fault.0
symbols-sought failed text externs (error.KallsymsParseError name) fault =
    any-sought externs (string_bytes name) fault.0
symbols-sought failed text externs (error.AmbiguousResolution name first second) fault =
    any-sought externs (string_bytes name) fault.0
symbols-sought failed text externs _ fault = absurd fault

-- A fault of the resolution also occurs with another text.
pub fault-unread : (table : Table) (kernel : Option Table) (failed : Bool)
    → (externs : List (List ℕ × ExternContent)) (s t : List ℕ) (f : KsymsError) → is_any_sought externs ≡ false
    → ResolutionFault table kernel failed s externs f → ResolutionFault table kernel failed t externs f
fault-unread table kernel failed externs s t f unread (inl fault) = inl fault
fault-unread table kernel failed externs s t f unread (inr (inl fault)) =
    let there = symbols-sought failed s externs f fault in
    absurd (cc)
fault-unread table kernel failed externs s t f unread (inr (inr fault)) =
    let there : is_any_sought externs ≡ true =
    list_any-from_Any (λ e. is_sought e.1) externs
    (fault.0, fault.1, fault.2, fault.3, address-sought s f fault.1 fault.4) in
    absurd (cc)

pub resolved-unread : (table : Table) (kernel : Option Table) (failed : Bool) (s t : List ℕ)
    → (old new : ExternsContent) → is_any_sought old.by_name ≡ false → AreResolved table kernel s failed old new
    → AreResolved table kernel t failed old new
resolved-unread table kernel failed s t old new unread resolved = record {
  faultless = λ f fault. resolved.faultless f (fault-unread table kernel failed old.by_name t s f unread fault);
  each = entries-unread table kernel s t old.by_name new.by_name unread resolved.each;
  section = resolved.section;
}

pub resolved-same : (table : Table) (kernel : Option Table) (text : List ℕ) (failed : Bool)
    → (old a b : ExternsContent) → AreResolved table kernel text failed old a
    → AreResolved table kernel text failed old b → a ≡ b
resolved-same table kernel text failed old a b one two =
    ap₂
    (λ (entries : List (List ℕ × ExternContent)) (ids : Option (ℕ × Option ℕ)).
    let x : ExternsContent = record { by_name = entries; ksyms = ids } in x)
    (entries-same table kernel text old.by_name a.by_name b.by_name one.each two.each)
    (one.section ∙ sym two.section)
