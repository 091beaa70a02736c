-- Paths in a target's types, from local tables that agree on the reached types.
use Rattle.std.proofs.Common.{◌≡◌, ◌-◌, ℕ, zero, suc, Bool, true, List, [], ◌∷◌, ◌++◌, length, None, Some, Ok, Err, Option, Result, refl, ap, ◌∙◌}
use Rattle.std.proofs.lemmas.List.Elements.{All-head, All-tail}
use Rattle.std.specs.Prelude.{All, IfSome, ◌&&◌, nat_le, slice_get, if◌then◌else◌}
use Rattle.std.specs.Option.{option_map, option_map_or, option_to_list}
use Rattle.core_spec.specs.FieldPaths.{step_place}
use Rattle.core_spec.specs.Laws.{AreAlike, IsReachedPath, LookupsRest}
use Rattle.core_spec.specs.Lookups.{and_then, found_type, with_found, with_text}
use Rattle.core_spec.specs.Variants.{variant_count, variant_name}
use Rattle.core_spec.specs.declared.error.AccessError.{AccessError}
use Rattle.core_spec.specs.declared.error.AccessError.TheVariants as errors
use Rattle.core_spec.specs.declared.path.AccessPath.{AccessPath}
use Rattle.core_spec.specs.declared.path.Place.{Place}
use Rattle.core_spec.specs.declared.path.Step.{Step}
use Rattle.core_spec.specs.declared.path.Step.TheVariants.{Element, Member, Variant}
use Rattle.core_spec.specs.declared.subject.Subject.{Subject}
use Rattle.core_spec.specs.declared.subject.Subject.TheVariants as subjects
use Rattle.btf_compatibility.specs.Laws.{ComparisonsRest}
use Rattle.btf_compatibility.specs.TypeCompatibility.{types_compatible}
use Rattle.btf_records.specs.Fields.{members_of}
use Rattle.btf_records.specs.declared.item.BtfMember.{BtfMember}
use Rattle.btf_records.specs.declared.types.BtfType.{BtfType}
use Rattle.btf_tables.specs.ResolvedTypes.{resolved_type}
use Rattle.btf_tables.specs.Tables.{Table, type_by_id}
use Rattle.string_table.specs.Texts.{text_at}
use Rattle.core_match.specs.Laws.{MatchesRest}
use Rattle.core_match.specs.Matches.{enum_matched, first_progress, matched_from, matching_path}
use Rattle.core_match.specs.Steps.{has_members, local_member, max_parts, member_matched, passed_to, step_matched}
use Rattle.core_match.specs.VariantMatches.{first_variant, local_variant, variant_matched}
use Rattle.core_match.specs.declared.step.Progress.{Progress}
use Rattle.core_match.specs.Laws.{SearchesRest}
use Rattle.core_match.specs.declared.search.FoundMember.{FoundMember}
use Rattle.core_spec.proofs.LookupsAlike.{found-same, text-same, then-same, type-same}

-- Two tables that agree on the reached types.
pub record Both : Type 0 where
  pub lookups : LookupsRest
  pub comparisons : ComparisonsRest
  pub searches : SearchesRest
  pub reached : ℕ → Bool
  pub one : Table
  pub other : Table
  pub alike : AreAlike reached one other

records : (b : Both) (id : ℕ) → b.reached id ≡ true → type_by_id b.other id ≡ type_by_id b.one id
records b id here = b.alike.records.same id here

-- ---- Results of look-ups

-- ---- Members

-- A local member whose type is reached and whose name is the same text in both tables.
pub record IsMember (b : Both) (m : BtfMember) : Type 0 where
  pub reached : b.reached m.btf_type ≡ true
  pub name : text_at b.other.strings m.name_offset ≡ text_at b.one.strings m.name_offset

local-same : (b : Both) (place : Place) → b.reached place.type_id ≡ true → local_member b.other place ≡ local_member b.one place
local-same b place here = type-same b.one b.other place.type_id _ _ (records b place.type_id here) (λ t known. refl)

-- The member at a place, or the error that there is none.
abbrev member_or : Place → Option BtfMember → Result BtfMember AccessError
member_or place o = option_map_or (λ x. Ok x) o (Err (errors.InvalidRelocationKindForType place.type_id))

is-member : (b : Both) (place : Place) (m : BtfMember) → b.reached place.type_id ≡ true → local_member b.one place ≡ Ok m → IsMember b m
is-member b place m here e = by (type_by_id b.one place.type_id) refl e where
  at : (t : BtfType) → type_by_id b.one place.type_id ≡ Some t → (o : Option BtfMember) → slice_get (members_of t) place.index ≡ o → member_or place o ≡ Ok m → IsMember b m
  at t known None is found = absurd cc
  at t known (Some x) is found =
      let same : x ≡ m = cc in
      let both = b.lookups.members b.reached b.one b.other b.alike place.type_id place.index t m here known (is ∙ ap (λ (y : BtfMember). Some y) same) in
      record { reached = both.0; name = both.1 }

  by : (o : Option BtfType) → type_by_id b.one place.type_id ≡ o → with_found (found_type b.one place.type_id o) (λ t. member_or place (slice_get (members_of t) place.index)) ≡ Ok m → IsMember b m
  by None known found = absurd cc
  by (Some t) known found = at t known (slice_get (members_of t) place.index) refl found

member-same : (b : Both) (place : Place) (target : Table) (from : Progress) → b.reached place.type_id ≡ true → member_matched b.other place target from ≡ member_matched b.one place target from
member-same b place target from here =
    found-same (resolved_type target from.type_id) (resolved_type target from.type_id) _ _ refl
    (λ root _. then-same (local_member b.one place) (local_member b.other place) _ _ (local-same b place here)
    (λ m is. let member = is-member b place m here is in text-same b.one b.other m.name_offset _ _ member.name
    (λ name. type-same target target root _ _ refl
    (λ t _. ap (λ (r : Result (Option FoundMember) AccessError). if nat_le max_parts from.parts && has_members t then Err errors.MaximumNestingLevelReached else passed_to from r)
    (b.searches.same b.reached b.one b.other b.alike m.btf_type member.reached name target root from.bits)))))

step-same : (b : Both) (s : Step) (target : Table) (from : Progress) → b.reached (step_place s).type_id ≡ true → step_matched b.other s target from ≡ step_matched b.one s target from
step-same b (Element place) target from here = refl
step-same b (Member place) target from here = member-same b place target from here
step-same b (Variant place) target from here = refl

next-same : (b : Both) (target : Table) (id : ℕ) (steps ss : List Step) (o : Option Progress) → ((more : List Step) (n : Progress) → matched_from b.other target id more n ss ≡ matched_from b.one target id more n ss)
    → option_map_or (λ n. matched_from b.other target id (steps ++ option_to_list n.last) n ss) o (Ok None) ≡ option_map_or (λ n. matched_from b.one target id (steps ++ option_to_list n.last) n ss) o (Ok None)
next-same b target id steps ss None h = refl
next-same b target id steps ss (Some n) h = h (steps ++ option_to_list n.last) n

from-same : (b : Both) (target : Table) (id : ℕ) (ss : List Step) → All (λ s. b.reached (step_place s).type_id ≡ true) ss → (steps : List Step) (from : Progress) → matched_from b.other target id steps from ss ≡ matched_from b.one target id steps from ss
unfolding matched_from
from-same b target id [] here steps from = refl
from-same b target id (s ∷ ss) here steps from =
    let rest = All-tail (λ (x : Step). b.reached (step_place x).type_id ≡ true) s ss here in
    then-same (step_matched b.one s target from) (step_matched b.other s target from) _ _ (step-same b s target from (All-head (λ (x : Step). b.reached (step_place x).type_id ≡ true) s ss here))
    (λ next _. next-same b target id steps ss next (λ more n. from-same b target id ss rest more n))

-- ---- Variants

named-same : (b : Both) (place : Place) → b.reached place.type_id ≡ true → local_variant b.other place ≡ local_variant b.one place
named-same b place here = type-same b.one b.other place.type_id _ _ (records b place.type_id here) (λ t known. by t known (variant_name t place.index) refl) where
  by : (t : BtfType) → type_by_id b.one place.type_id ≡ Some t → (o : Option ℕ) → variant_name t place.index ≡ o → option_map_or (λ offset. with_text b.other offset (λ name. Ok name)) o (Err (errors.InvalidRelocationKindForType place.type_id)) ≡ option_map_or (λ offset. with_text b.one offset (λ name. Ok name)) o (Err (errors.InvalidRelocationKindForType place.type_id))
  by t known None is = refl
  by t known (Some offset) is = text-same b.one b.other offset _ _ (b.lookups.variants b.reached b.one b.other b.alike place.type_id place.index t offset here known is) (λ name. refl)

-- The variant with a name, among the first variants.
abbrev variant_of : Table → ℕ → BtfType → ℕ → List ℕ → Result (Option Place) AccessError
variant_of target root t count name = and_then (first_variant target t name count 0) (λ index. Ok (option_map (λ i. record { type_id = root; index = i }) index))

counted-same : (b : Both) (place : Place) (target : Table) (root : ℕ) (t : BtfType) (o : Option ℕ) → b.reached place.type_id ≡ true
    → option_map_or (λ count. and_then (local_variant b.other place) (variant_of target root t count)) o (Ok None) ≡ option_map_or (λ count. and_then (local_variant b.one place) (variant_of target root t count)) o (Ok None)
counted-same b place target root t None here = refl
counted-same b place target root t (Some count) here = then-same (local_variant b.one place) (local_variant b.other place) _ _ (named-same b place here) (λ name _. refl)

variant-same : (b : Both) (place : Place) (target : Table) (id : ℕ) → b.reached place.type_id ≡ true → variant_matched b.other place target id ≡ variant_matched b.one place target id
variant-same b place target id here =
    found-same (resolved_type target id) (resolved_type target id) _ _ refl
    (λ root _. type-same target target root _ _ refl (λ t _. counted-same b place target root t (variant_count t) here))

enum-same : (b : Both) (o : Option Step) (target : Table) (id : ℕ) → IfSome o (λ s. b.reached (step_place s).type_id ≡ true) → enum_matched b.other o target id ≡ enum_matched b.one o target id
enum-same b None target id here = refl
enum-same b (Some (Element place)) target id here = refl
enum-same b (Some (Member place)) target id here = refl
enum-same b (Some (Variant place)) target id here = then-same (variant_matched b.one place target id) (variant_matched b.other place target id) _ _ (variant-same b place target id here) (λ found _. refl)

-- ---- All subjects

at-index : {A : Type 0} (P : A → Type 0) (xs : List A) (i : ℕ) → All P xs → IfSome (slice_get xs i) P
at-index P [] i h = tt
at-index P (x ∷ xs) zero h = All-head P x xs h
at-index P (x ∷ xs) (suc i) h = at-index P xs i (All-tail P x xs h)

path-same : (b : Both) (subject : Subject) (path : AccessPath) → IsReachedPath b.reached path → (target : Table) (id : ℕ) → matching_path subject b.other path target id ≡ matching_path subject b.one path target id
path-same b subjects.Field path here target id = from-same b target id path.steps here.steps [] (first_progress id)
path-same b subjects.Type path here target id =
    found-same (types_compatible b.one path.type_id target id) (types_compatible b.other path.type_id target id) _ _ (b.comparisons.types b.reached b.one b.other b.alike.records path.type_id here.root target id) (λ yes _. refl)
path-same b subjects.Variant path here target id = enum-same b (slice_get path.steps (length path.steps - 1)) target id (at-index (λ (s : Step). b.reached (step_place s).type_id ≡ true) path.steps (length path.steps - 1) here.steps)

pub matches_rest : LookupsRest → ComparisonsRest → SearchesRest → MatchesRest
matches_rest lookups comparisons searches = record {
  same = λ reached one other alike subject path here target id.
      path-same (record { lookups = lookups; comparisons = comparisons; searches = searches; reached = reached; one = one; other = other; alike = alike }) subject path here target id;
}
