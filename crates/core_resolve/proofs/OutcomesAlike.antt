-- The outcomes of type relocations, for tables of an object's types that agree on the reached
-- types.
use Rattle.std.proofs.Common.{◌≡◌, ℕ, Bool, true, List, [], ◌∷◌, ◌++◌, None, Some, Ok, Err, Option, Result, refl, ap, subst, ◌∙◌}
use Rattle.std.specs.Prelude.{IfOk, IfSome, slice_get}
use Rattle.std.specs.Option.{option_map_or, option_to_list}
use Rattle.core_spec.specs.Laws.{AreAlike, HasReachedField, IsReachedPath, LookupsRest, PathsRest, ValuesRest}
use Rattle.core_spec.specs.LocalPaths.{local_path}
use Rattle.core_spec.specs.Lookups.{and_then}
use Rattle.core_spec.specs.Subjects.{subject_of}
use Rattle.core_spec.specs.declared.error.AccessError.{AccessError}
use Rattle.core_spec.specs.declared.path.AccessPath.{AccessPath}
use Rattle.core_spec.specs.declared.value.RelocationValue.{RelocationValue}
use Rattle.btf_records.specs.Fields.{name_offset_of}
use Rattle.btf_records.specs.declared.error.BtfError.{BtfError}
use Rattle.btf_records.specs.declared.error.BtfError.TheVariants.{InvalidStringOffset, UnknownBtfType}
use Rattle.btf_records.specs.declared.types.BtfType.{BtfType}
use Rattle.btf_tables.specs.Tables.{Table, type_by_id}
use Rattle.ebpf_items.specs.declared.relocation_kind.RelocationKind.{RelocationKind}
use Rattle.ebpf_items.specs.declared.relocation_kind.RelocationKind.TheVariants as kinds
use Rattle.core_match.specs.Laws.{MatchesRest}
use Rattle.string_table.specs.Texts.{text_at}
use Rattle.core_match.specs.Candidates.{Wanted, candidates, wanted_for, wanted_of}
use Rattle.core_match.specs.declared.error.CandidateError.{CandidateError}
use Rattle.core_match.specs.declared.kernel_type.KernelType.{KernelType}
use Rattle.core_resolve.specs.Laws.{OutcomesRest}
use Rattle.core_resolve.specs.Matches.{followed_by, kernel_matches, match_at, match_in, matches_of, of_path, searched_tables, with_candidates, with_own_type, with_kernel, with_local}
use Rattle.core_resolve.specs.RelocationOutcomes.{resolved_by_kind, local_value, relocation_outcome, outcome_of_matches}
use Rattle.core_resolve.specs.declared.error.TypeRelocationError.{TypeRelocationError}
use Rattle.core_resolve.specs.declared.matches.Match.{Match}
use Rattle.core_resolve.specs.declared.relocation.RelocationOutcome.{RelocationOutcome}
use Rattle.core_resolve.specs.declared.relocation.TypeRelocation.{TypeRelocation}

-- Two tables that agree on the reached types.
pub record Both : Type 0 where
  pub lookups : LookupsRest
  pub paths : PathsRest
  pub values : ValuesRest
  pub matches : MatchesRest
  pub reached : ℕ → Bool
  pub one : Table
  pub other : Table
  pub alike : AreAlike reached one other

-- ---- Results of look-ups

local-then : {T U : Type 0} (r r' : Result T AccessError) (go go' : T → Result U TypeRelocationError) → r' ≡ r → ((x : T) → r ≡ Ok x → go' x ≡ go x) → with_local r' go' ≡ with_local r go
local-then {T} {U} r r' go go' e h = ap (λ (s : Result T AccessError). with_local s go') e ∙ by r refl where
  by : (s : Result T AccessError) → r ≡ s → with_local s go' ≡ with_local s go
  by (Ok x) is = h x is
  by (Err f) is = refl

found-then : {T U : Type 0} (r r' : Result T BtfError) (go go' : T → Result U TypeRelocationError) → r' ≡ r → ((x : T) → go' x ≡ go x) → with_own_type r' go' ≡ with_own_type r go
found-then {T} {U} r r' go go' e h = ap (λ (s : Result T BtfError). with_own_type s go') e ∙ by r where
  by : (s : Result T BtfError) → with_own_type s go' ≡ with_own_type s go
  by (Ok x) = h x
  by (Err f) = refl

then-same : {T U : Type 0} (r r' : Result T TypeRelocationError) (go go' : T → Result U TypeRelocationError) → r' ≡ r → ((x : T) → go' x ≡ go x) → followed_by r' go' ≡ followed_by r go
then-same {T} {U} r r' go go' e h = ap (λ (s : Result T TypeRelocationError). followed_by s go') e ∙ by r where
  by : (s : Result T TypeRelocationError) → followed_by s go' ≡ followed_by s go
  by (Ok x) = h x
  by (Err f) = refl

candidates-then : {U : Type 0} (r : Result (List KernelType) CandidateError) (go go' : List KernelType → Result U TypeRelocationError) → ((cs : List KernelType) → go' cs ≡ go cs) → with_candidates r go' ≡ with_candidates r go
candidates-then (Ok cs) go go' h = h cs
candidates-then (Err e) go go' h = refl

-- ---- Matches

match-same : (b : Both) (kind : RelocationKind) (path : AccessPath) → IsReachedPath b.reached path → (target : Table) (place : KernelType) → match_in kind b.other path target place ≡ match_in kind b.one path target place
match-same b kind path here target place =
    ap (λ (r : Result (Option AccessPath) AccessError). and_then r (of_path kind target place.table)) (b.matches.same b.reached b.one b.other b.alike (subject_of kind) path here target place.type_id)

at-same : (b : Both) (kind : RelocationKind) (path : AccessPath) → IsReachedPath b.reached path → (targets : List Table) (place : KernelType) → match_at kind b.other path targets place ≡ match_at kind b.one path targets place
at-same b kind path here targets place = by (slice_get targets place.table) where
  by : (o : Option Table) → option_map_or (λ target. with_kernel place (match_in kind b.other path target place) (λ m. Ok m)) o (Ok None) ≡ option_map_or (λ target. with_kernel place (match_in kind b.one path target place) (λ m. Ok m)) o (Ok None)
  by None = refl
  by (Some target) = ap (λ (r : Result (Option Match) AccessError). with_kernel place r (λ m. Ok m)) (match-same b kind path here target place)

all-same : (b : Both) (kind : RelocationKind) (path : AccessPath) → IsReachedPath b.reached path → (targets : List Table) (cs : List KernelType) (done : List Match) → matches_of kind b.other path targets done cs ≡ matches_of kind b.one path targets done cs
unfolding matches_of
all-same b kind path here targets [] done = refl
all-same b kind path here targets (c ∷ cs) done =
    then-same (match_at kind b.one path targets c) (match_at kind b.other path targets c) _ _ (at-same b kind path here targets c) (λ m. all-same b kind path here targets cs (done ++ option_to_list m))

wanted-of-type : (b : Both) (id : ℕ) (t : BtfType) → b.reached id ≡ true → type_by_id b.one id ≡ Some t
    → option_map_or (λ name. Ok (wanted_of t name)) (text_at b.other.strings (name_offset_of t)) (Err (InvalidStringOffset (name_offset_of t))) ≡ option_map_or (λ name. Ok (wanted_of t name)) (text_at b.one.strings (name_offset_of t)) (Err (InvalidStringOffset (name_offset_of t)))
wanted-of-type b id t here known = ap (λ (o : Option (List ℕ)). option_map_or (λ name. Ok (wanted_of t name)) o (Err (InvalidStringOffset (name_offset_of t)))) (b.lookups.names b.reached b.one b.other b.alike id t here known)

-- The kind and name of the candidates for a record.
abbrev wanted_in : Table → ℕ → Option BtfType → Result Wanted BtfError
wanted_in local id o = option_map_or (λ t. option_map_or (λ name. Ok (wanted_of t name)) (text_at local.strings (name_offset_of t)) (Err (InvalidStringOffset (name_offset_of t)))) o (Err (UnknownBtfType id))

wanted-same : (b : Both) (id : ℕ) → b.reached id ≡ true → wanted_for b.other id ≡ wanted_for b.one id
wanted-same b id here = ap (wanted_in b.other id) (b.alike.records.same id here) ∙ by (type_by_id b.one id) refl where
  by : (o : Option BtfType) → type_by_id b.one id ≡ o → wanted_in b.other id o ≡ wanted_in b.one id o
  by None known = refl
  by (Some t) known = wanted-of-type b id t here known

kernel-same : (b : Both) (kind : RelocationKind) (path : AccessPath) → IsReachedPath b.reached path → (targets : List Table) → kernel_matches kind b.other path targets ≡ kernel_matches kind b.one path targets
kernel-same b kind path here targets =
    found-then (wanted_for b.one path.type_id) (wanted_for b.other path.type_id) _ _ (wanted-same b path.type_id here.root)
    (λ wanted. candidates-then (candidates wanted (searched_tables kind targets)) _ _ (λ cs. all-same b kind path here targets cs []))

-- ---- Outcomes

value-same : (b : Both) (kind : RelocationKind) (path : AccessPath) → IsReachedPath b.reached path → local_value b.other kind path ≡ local_value b.one kind path
value-same b kinds.TypeSize path here = refl
value-same b kinds.FieldByteOffset path here = b.values.same b.reached b.one b.other b.alike kinds.FieldByteOffset path here
value-same b kinds.FieldByteSize path here = b.values.same b.reached b.one b.other b.alike kinds.FieldByteSize path here
value-same b kinds.FieldExists path here = b.values.same b.reached b.one b.other b.alike kinds.FieldExists path here
value-same b kinds.FieldSigned path here = b.values.same b.reached b.one b.other b.alike kinds.FieldSigned path here
value-same b kinds.FieldLShift64 path here = b.values.same b.reached b.one b.other b.alike kinds.FieldLShift64 path here
value-same b kinds.FieldRShift64 path here = b.values.same b.reached b.one b.other b.alike kinds.FieldRShift64 path here
value-same b kinds.TypeIdLocal path here = b.values.same b.reached b.one b.other b.alike kinds.TypeIdLocal path here
value-same b kinds.TypeIdTarget path here = b.values.same b.reached b.one b.other b.alike kinds.TypeIdTarget path here
value-same b kinds.TypeExists path here = b.values.same b.reached b.one b.other b.alike kinds.TypeExists path here
value-same b kinds.EnumVariantExists path here = b.values.same b.reached b.one b.other b.alike kinds.EnumVariantExists path here
value-same b kinds.EnumVariantValue path here = b.values.same b.reached b.one b.other b.alike kinds.EnumVariantValue path here

path-reached : (b : Both) (r : TypeRelocation) (path : AccessPath) → b.reached r.type_id ≡ true → local_path b.one r.kind r.type_id r.access_str_off ≡ Ok path → IsReachedPath b.reached path
path-reached b r path here is = subst (λ (s : Result AccessPath AccessError). IfOk s (IsReachedPath b.reached)) is (b.paths.within b.reached b.one b.other b.alike r.kind r.type_id r.access_str_off here)

outcome-same : (b : Both) (r : TypeRelocation) → b.reached r.type_id ≡ true → text_at b.other.strings r.access_str_off ≡ text_at b.one.strings r.access_str_off → (targets : List Table) → relocation_outcome b.other r targets ≡ relocation_outcome b.one r targets
outcome-same b r here text targets =
    local-then (local_path b.one r.kind r.type_id r.access_str_off) (local_path b.other r.kind r.type_id r.access_str_off) _ _ (b.paths.same b.reached b.one b.other b.alike r.kind r.type_id r.access_str_off here text)
    (λ path is. let reached = path-reached b r path here is in
    then-same (kernel_matches r.kind b.one path targets) (kernel_matches r.kind b.other path targets) _ _ (kernel-same b r.kind path reached targets)
    (λ matches. local-then (local_value b.one r.kind path) (local_value b.other r.kind path) _ _ (value-same b r.kind path reached) (λ value _. refl)))

-- ---- The field of an outcome

local-gives : {T U : Type 0} (P : U → Type 0) (r : Result T AccessError) (go : T → Result U TypeRelocationError) → ((x : T) → r ≡ Ok x → IfOk (go x) P) → IfOk (with_local r go) P
local-gives P (Ok x) go h = h x refl
local-gives P (Err e) go h = tt

then-gives : {T U : Type 0} (P : U → Type 0) (r : Result T TypeRelocationError) (go : T → Result U TypeRelocationError) → ((x : T) → IfOk (go x) P) → IfOk (followed_by r go) P
then-gives P (Ok x) go h = h x
then-gives P (Err e) go h = tt

-- The type of the field that an instruction was compiled for, if there is one, is reached.
abbrev IsOfReached : (ℕ → Bool) → RelocationOutcome → Type 0
IsOfReached reached o = IfSome o.local_field (λ f. reached f.type_id ≡ true)

value-within : (b : Both) (kind : RelocationKind) (path : AccessPath) → IsReachedPath b.reached path → IfOk (local_value b.one kind path) (HasReachedField b.reached)
value-within b kinds.TypeSize path here = tt
value-within b kinds.FieldByteOffset path here = b.values.within b.reached b.one b.other b.alike kinds.FieldByteOffset path here
value-within b kinds.FieldByteSize path here = b.values.within b.reached b.one b.other b.alike kinds.FieldByteSize path here
value-within b kinds.FieldExists path here = b.values.within b.reached b.one b.other b.alike kinds.FieldExists path here
value-within b kinds.FieldSigned path here = b.values.within b.reached b.one b.other b.alike kinds.FieldSigned path here
value-within b kinds.FieldLShift64 path here = b.values.within b.reached b.one b.other b.alike kinds.FieldLShift64 path here
value-within b kinds.FieldRShift64 path here = b.values.within b.reached b.one b.other b.alike kinds.FieldRShift64 path here
value-within b kinds.TypeIdLocal path here = b.values.within b.reached b.one b.other b.alike kinds.TypeIdLocal path here
value-within b kinds.TypeIdTarget path here = b.values.within b.reached b.one b.other b.alike kinds.TypeIdTarget path here
value-within b kinds.TypeExists path here = b.values.within b.reached b.one b.other b.alike kinds.TypeExists path here
value-within b kinds.EnumVariantExists path here = b.values.within b.reached b.one b.other b.alike kinds.EnumVariantExists path here
value-within b kinds.EnumVariantValue path here = b.values.within b.reached b.one b.other b.alike kinds.EnumVariantValue path here

outcome_of_matches-within : (b : Both) (kind : RelocationKind) (matches : List Match) (value : RelocationValue) → HasReachedField b.reached value → IfOk (outcome_of_matches kind matches value) (IsOfReached b.reached)
outcome_of_matches-within b kind matches value here = then-gives (IsOfReached b.reached) (resolved_by_kind kind value matches) _ (λ outcome. here)

outcome-within : (b : Both) (r : TypeRelocation) → b.reached r.type_id ≡ true → (targets : List Table) → IfOk (relocation_outcome b.one r targets) (IsOfReached b.reached)
outcome-within b r here targets =
    local-gives (IsOfReached b.reached) (local_path b.one r.kind r.type_id r.access_str_off) _
    (λ path is. then-gives (IsOfReached b.reached) (kernel_matches r.kind b.one path targets) _
    (λ matches. local-gives (IsOfReached b.reached) (local_value b.one r.kind path) (outcome_of_matches r.kind matches)
    (λ value known. outcome_of_matches-within b r.kind matches value
    (subst (λ (s : Result RelocationValue AccessError). IfOk s (HasReachedField b.reached)) known (value-within b r.kind path (path-reached b r path here is))))))

pub outcomes_rest : LookupsRest → PathsRest → ValuesRest → MatchesRest → OutcomesRest
outcomes_rest lookups paths values matches = record {
  same = λ reached one other alike r here text targets.
      outcome-same (record { lookups = lookups; paths = paths; values = values; matches = matches; reached = reached; one = one; other = other; alike = alike }) r here text targets;
  field = λ reached one other alike r here targets.
      outcome-within (record { lookups = lookups; paths = paths; values = values; matches = matches; reached = reached; one = one; other = other; alike = alike }) r here targets;
}
