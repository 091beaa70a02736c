-- The kernel's record of a kind and a name is unique.
use Rattle.std.proofs.Common.{◌≡◌, ◌≢◌, ℕ, zero, suc, ◌<◌, Bool, true, false, List, Option, None, Some, Result, Ok, Err, refl, ap, sym, ◌∙◌, subst, arith, inl, inr, ◌⊎◌}
use Rattle.std.specs.Prelude.{IfErr, IfSome}
use Rattle.std.specs.Result.{IsErrAnd}
use Rattle.btf_records.specs.declared.error.BtfError.TheVariants as btf_error
use Rattle.extern_resolution.specs.Errors.{ksyms_error_of}
use Rattle.std.specs.Option.{IsSomeAnd}
use Rattle.std.specs.String.{string_bytes}
use Rattle.btf_compatibility.specs.TypeCompatibility.{types_compatible}
use Rattle.btf_records.specs.Fields.{kind_of_type, name_offset_of}
use Rattle.btf_records.specs.declared.error.BtfError.{BtfError}
use Rattle.btf_records.specs.declared.kind.BtfKind.{BtfKind}
use Rattle.btf_records.specs.declared.types.BtfType.{BtfType}
use Rattle.btf_tables.specs.Tables.{Table, type_by_id}
use Rattle.btf_tables.specs.TypesByName.{IsFirstNamed}
use Rattle.extern_resolution.specs.Faults.{KindFault}
use Rattle.extern_resolution.specs.Outcomes.{IsFound, IsIncompatible, IsKernelRecord, IsMissing, kernel_name, type_held_at}
use Rattle.extern_resolution.specs.Steps.{NoFault}
use Rattle.extern_resolution.specs.declared.error.KsymsError.{KsymsError}
use Rattle.extern_resolution.specs.declared.error.KsymsError.TheVariants as error
use Rattle.object_externs.specs.Externs.{ExternContent, declares}
use Rattle.string_table.specs.Texts.{text_at}

pub three_ways : (a b : ℕ) → (a < b) ⊎ (b < a) ⊎ (a ≡ b)
three_ways zero zero = inr (inr refl)
three_ways zero (suc b) = inl (omega arith)
three_ways (suc a) zero = inr (inl (omega arith))
three_ways (suc a) (suc b) = elim (three_ways a b) [ inl h ↦ inl (omega arith) | inr r ↦ elim r [ inl h ↦ inr (inl (omega arith)) | inr h ↦ inr (inr (ap suc h)) ] ]

pub not_both : (strings : List ℕ) (name : List ℕ) (kind : BtfKind) (o : Option BtfType) → IsSomeAnd o (λ t. (kind_of_type t ≡ kind) × (text_at strings (name_offset_of t) ≡ Some name)) → IfSome o (λ t. kind_of_type t ≡ kind → IsSomeAnd (text_at strings (name_offset_of t)) (λ text. text ≢ name)) → ⊥
not_both strings name kind None named other = absurd named
not_both strings name kind (Some t) named other =
    let differs : IsSomeAnd (Some name) (λ text. text ≢ name) = subst (λ (o : Option (List ℕ)). IsSomeAnd o (λ text. text ≢ name)) named.1 (other named.0) in
    differs refl

pub one_record : (kernel : Table) (name : List ℕ) (kind : BtfKind) (a b : ℕ) → IsFirstNamed kernel name kind a → IsFirstNamed kernel name kind b → a ≡ b
one_record kernel name kind a b p q = elim (three_ways a b) [
  | inl h ↦ absurd (not_both kernel.strings name kind (type_by_id kernel a) p.named (q.first a h))
  | inr r ↦ elim r [ inl h ↦ absurd (not_both kernel.strings name kind (type_by_id kernel b) q.named (p.first b h)) | inr h ↦ h ]
]

-- Two results of the same comparison are equal.
one_answer : (table kernel : Table) (type_id : ℕ) (kind : BtfKind) (name : List ℕ) (x y : Result Bool BtfError) (a b : ℕ) → IsKernelRecord table kernel type_id kind name x a → IsKernelRecord table kernel type_id kind name y b → x ≡ y
one_answer table kernel type_id kind name x y a b p q =
    let same : a ≡ b = one_record kernel name kind a b p.found q.found in
    sym p.compared ∙ ap (λ (i : ℕ). types_compatible table type_id kernel (type_held_at kernel i)) same ∙ q.compared

true_false : true ≡ false → ⊥
true_false h = absurd cc

-- The result of the search excludes each fault, if every extern without a result is weak.
not_missing : (table kernel : Table) (type_id : ℕ) (kind : BtfKind) (name : List ℕ) (found : Option ℕ) (weak : Bool) → IsFound table kernel type_id kind name found → (found ≡ None → weak ≡ true) → weak ≡ false → IsMissing kernel kind name → ⊥
not_missing table kernel type_id kind name None weak is left strong missing = true_false (sym (left refl) ∙ strong)
not_missing table kernel type_id kind name (Some id) weak is left strong missing = missing.none id is.found

not_incompatible : (table kernel : Table) (type_id : ℕ) (kind : BtfKind) (name : List ℕ) (found : Option ℕ) (weak : Bool) → IsFound table kernel type_id kind name found → (found ≡ None → weak ≡ true) → weak ≡ false → IsIncompatible table kernel type_id kind name → ⊥
not_incompatible table kernel type_id kind name None weak is left strong other = true_false (sym (left refl) ∙ strong)
not_incompatible table kernel type_id kind name (Some id) weak is left strong other =
    let same : Ok true ≡ Ok false = one_answer table kernel type_id kind name (Ok true) (Ok false) id other.id is other.record_of in
    absurd cc

not_refused : (table kernel : Table) (type_id : ℕ) (kind : BtfKind) (name : List ℕ) (found : Option ℕ) (e : BtfError) (id : ℕ) → IsFound table kernel type_id kind name found → IsKernelRecord table kernel type_id kind name (Err e) id → ⊥
not_refused table kernel type_id kind name (Some other) e id is refused =
    let same : Ok true ≡ Err e = one_answer table kernel type_id kind name (Ok true) (Err e) other id is refused in
    absurd cc
not_refused table kernel type_id kind name None e id is refused = elim is [
  | inl missing ↦ missing.none id refused.found
  | inr other ↦ let same : Ok false ≡ Err e = one_answer table kernel type_id kind name (Ok false) (Err e) other.id id other.record_of refused in absurd cc
]

as_named : (P : List ℕ → Type 0) (a b : List ℕ) → a ≡ b → P a → P b
as_named P a b same p = subst P same p

pub no_kind_fault : (table kernel : Table) (type_id : ℕ) (kind : BtfKind) (name : List ℕ) (e : ExternContent) (found : Option ℕ) → declares kind ≡ true → IsFound table kernel type_id kind (kernel_name kind name) found → (found ≡ None → e.is_weak ≡ true) → NoFault (KindFault table kernel type_id kind name e)
no_kind_fault table kernel type_id kind name e found stated is left = record { none = λ f h. at f h }
  where
    at : (f : KsymsError) → KindFault table kernel type_id kind name e f → ⊥
    at (error.FunctionNotFound n) h = not_missing table kernel type_id kind (kernel_name kind name) found e.is_weak is left h.1 (as_named (IsMissing kernel kind) (string_bytes n) (kernel_name kind name) h.2 h.3)
    at (error.VariableNotFound n) h = not_missing table kernel type_id kind (kernel_name kind name) found e.is_weak is left h.1 (as_named (IsMissing kernel kind) (string_bytes n) (kernel_name kind name) h.2 h.3)
    at (error.IncompatibleFunctionSignature n) h = not_incompatible table kernel type_id kind (kernel_name kind name) found e.is_weak is left h.1 (as_named (IsIncompatible table kernel type_id kind) (string_bytes n) (kernel_name kind name) h.2 h.3)
    at (error.IncompatibleVariableType n) h = not_incompatible table kernel type_id kind (kernel_name kind name) found e.is_weak is left h.1 (as_named (IsIncompatible table kernel type_id kind) (string_bytes n) (kernel_name kind name) h.2 h.3)
    at (error.InvalidExternType n) h = true_false (sym stated ∙ h.0)
    at (error.BtfError x) h = not_refused table kernel type_id kind (kernel_name kind name) found x h.1.0 is h.1.1
    at error.TypedKsymRequiresKernelBtf h = h
    at (error.AmbiguousResolution n a b) h = h
    at (error.KallsymsAccessError x) h = h
    at (error.KallsymsParseError n) h = h
    at error.OutOfMemory h = h

-- A fault of the comparison.
by : (table kernel : Table) (type_id : ℕ) (kind : BtfKind) (name said_name : List ℕ) (e : ExternContent) (x : BtfError) → declares kind ≡ true → said_name ≡ kernel_name kind name → ((id : ℕ) × IsKernelRecord table kernel type_id kind said_name (Err x) id) → KindFault table kernel type_id kind name e (error.BtfError x)
by table kernel type_id kind name said_name e x stated same refused = (stated, (refused.0, subst (λ (n : List ℕ). IsKernelRecord table kernel type_id kind n (Err x) refused.0) same refused.1))

-- A fault of the comparison that is passed on.
refused_by : (table kernel : Table) (type_id : ℕ) (kind : BtfKind) (name said_name : List ℕ) (e : ExternContent) (x : BtfError) → declares kind ≡ true → said_name ≡ kernel_name kind name → (x ≢ btf_error.OutOfMemory → (id : ℕ) × IsKernelRecord table kernel type_id kind said_name (Err x) id) → ksyms_error_of x ≢ error.OutOfMemory → KindFault table kernel type_id kind name e (ksyms_error_of x)
refused_by table kernel type_id kind name said_name e btf_error.OutOfMemory stated same refused other = absurd (other refl)
refused_by table kernel type_id kind name said_name e btf_error.InvalidHeader stated same refused other = by table kernel type_id kind name said_name e btf_error.InvalidHeader stated same (refused (λ h. absurd cc))
refused_by table kernel type_id kind name said_name e btf_error.InvalidTypeInfo stated same refused other = by table kernel type_id kind name said_name e btf_error.InvalidTypeInfo stated same (refused (λ h. absurd cc))
refused_by table kernel type_id kind name said_name e btf_error.InvalidRelocationInfo stated same refused other = by table kernel type_id kind name said_name e btf_error.InvalidRelocationInfo stated same (refused (λ h. absurd cc))
refused_by table kernel type_id kind name said_name e (btf_error.InvalidTypeKind a) stated same refused other = by table kernel type_id kind name said_name e (btf_error.InvalidTypeKind a) stated same (refused (λ h. absurd cc))
refused_by table kernel type_id kind name said_name e (btf_error.InvalidRelocationKind a) stated same refused other = by table kernel type_id kind name said_name e (btf_error.InvalidRelocationKind a) stated same (refused (λ h. absurd cc))
refused_by table kernel type_id kind name said_name e (btf_error.InvalidStringOffset a) stated same refused other = by table kernel type_id kind name said_name e (btf_error.InvalidStringOffset a) stated same (refused (λ h. absurd cc))
refused_by table kernel type_id kind name said_name e (btf_error.InvalidInfo a b c) stated same refused other = by table kernel type_id kind name said_name e (btf_error.InvalidInfo a b c) stated same (refused (λ h. absurd cc))
refused_by table kernel type_id kind name said_name e (btf_error.InvalidLineInfo a b c) stated same refused other = by table kernel type_id kind name said_name e (btf_error.InvalidLineInfo a b c) stated same (refused (λ h. absurd cc))
refused_by table kernel type_id kind name said_name e (btf_error.UnknownBtfType a) stated same refused other = by table kernel type_id kind name said_name e (btf_error.UnknownBtfType a) stated same (refused (λ h. absurd cc))
refused_by table kernel type_id kind name said_name e (btf_error.UnexpectedBtfType a) stated same refused other = by table kernel type_id kind name said_name e (btf_error.UnexpectedBtfType a) stated same (refused (λ h. absurd cc))
refused_by table kernel type_id kind name said_name e (btf_error.UnknownBtfTypeName a) stated same refused other = by table kernel type_id kind name said_name e (btf_error.UnknownBtfTypeName a) stated same (refused (λ h. absurd cc))
refused_by table kernel type_id kind name said_name e (btf_error.MaximumTypeDepthReached a) stated same refused other = by table kernel type_id kind name said_name e (btf_error.MaximumTypeDepthReached a) stated same (refused (λ h. absurd cc))
refused_by table kernel type_id kind name said_name e (btf_error.SymbolOffsetNotFound a) stated same refused other = by table kernel type_id kind name said_name e (btf_error.SymbolOffsetNotFound a) stated same (refused (λ h. absurd cc))
refused_by table kernel type_id kind name said_name e btf_error.InvalidDatasec stated same refused other = by table kernel type_id kind name said_name e btf_error.InvalidDatasec stated same (refused (λ h. absurd cc))
refused_by table kernel type_id kind name said_name e (btf_error.UnknownSectionSize a) stated same refused other = by table kernel type_id kind name said_name e (btf_error.UnknownSectionSize a) stated same (refused (λ h. absurd cc))
refused_by table kernel type_id kind name said_name e btf_error.InvalidSymbolName stated same refused other = by table kernel type_id kind name said_name e btf_error.InvalidSymbolName stated same (refused (λ h. absurd cc))
refused_by table kernel type_id kind name said_name e (btf_error.InnerMapCannotBePinned a) stated same refused other = by table kernel type_id kind name said_name e (btf_error.InnerMapCannotBePinned a) stated same (refused (λ h. absurd cc))
refused_by table kernel type_id kind name said_name e (btf_error.MultiLevelMapInMapNotSupported a) stated same refused other = by table kernel type_id kind name said_name e (btf_error.MultiLevelMapInMapNotSupported a) stated same (refused (λ h. absurd cc))
refused_by table kernel type_id kind name said_name e (btf_error.InvalidValuesSpec a) stated same refused other = by table kernel type_id kind name said_name e (btf_error.InvalidValuesSpec a) stated same (refused (λ h. absurd cc))

pub record_refused : {T : Type 0} (r : Result T KsymsError) (table kernel : Table) (type_id : ℕ) (kind : BtfKind) (name : List ℕ) (e : ExternContent) (said_name : List ℕ) (x : BtfError) → declares kind ≡ true → said_name ≡ kernel_name kind name → IsErrAnd r (λ f. f ≡ ksyms_error_of x) → (x ≢ btf_error.OutOfMemory → (id : ℕ) × IsKernelRecord table kernel type_id kind said_name (Err x) id) → IfErr r (λ f. f ≢ error.OutOfMemory → KindFault table kernel type_id kind name e f)
record_refused (Ok y) table kernel type_id kind name e said_name x stated same passed refused = tt
record_refused (Err f) table kernel type_id kind name e said_name x stated same passed refused = λ other. subst (KindFault table kernel type_id kind name e) (sym passed) (refused_by table kernel type_id kind name said_name e x stated same refused (λ h. other (passed ∙ h)))
