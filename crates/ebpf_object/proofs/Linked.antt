-- The functions of an object that passes write keep their keys.
use Rattle.std.proofs.Common.{◌≡◌, ℕ, true, List, [], ◌∷◌, map, refl, sym, ap, ◌∙◌}
use Rattle.std.specs.Prelude.{Result, Ok, Err, OnOk, OnErr}
use Rattle.std.specs.BTreeMap.{is_at}
use Rattle.std.specs.List.{list_any}
use Rattle.std.specs.Map.{keys_of}
use Rattle.std.proofs.lemmas.Map.Made.{is_some-lookup}
use Rattle.core_relocation.specs.Relocations.{SectionInfos, TypesGiven}
use Rattle.core_relocation.specs.Writes as types
use Rattle.object_parts.specs.Content.{FunctionContent, HaveFunctions, ProgramContent, has_function, key_cmp, with_older_helpers}
use Rattle.linker.specs.Linked.{AreLinked}
use Rattle.linker.specs.Unlinked.{Unlinked}
use Rattle.slot_relocation.specs.Writes.{AreRelocated, Rule}

abbrev Keyed : Type 0
Keyed = List ((ℕ × ℕ) × FunctionContent)

-- Whether a function has a key depends on the keys alone.
by-keys : (old new : Keyed) (key : ℕ × ℕ) → keys_of new ≡ keys_of old → has_function old key ≡ true → has_function new key ≡ true
by-keys old new key same had =
    is_some-lookup (is_at (key_cmp key)) new ∙ ap (list_any (is_at (key_cmp key))) same ∙ sym (is_some-lookup (is_at (key_cmp key)) old) ∙ had

keys-stay : (programs : List (List ℕ × ProgramContent)) (old new : Keyed) → keys_of new ≡ keys_of old → HaveFunctions programs old → HaveFunctions programs new
unfolding HaveFunctions
keys-stay [] old new same have = have
keys-stay (p ∷ ps) old new same have =
    (by-keys old new (p.1.section_index, p.1.address) same have.0, keys-stay ps old new same have.1)

-- Each program has its function after linking, also where linking fails.
pub functions_stay : {T E : Type 0} (r : Result T E) (programs : List (List ℕ × ProgramContent)) (u : Unlinked) (keys : List (ℕ × ℕ)) (old new : Keyed) → u.functions ≡ old → OnOk r (AreLinked u keys new) → OnErr r (new ≡ old) → HaveFunctions programs old → HaveFunctions programs new
functions_stay (Ok x) programs u keys old new is linked same have = keys-stay programs old new (linked.stay ∙ ap keys_of is) have
functions_stay (Err e) programs u keys old new is linked same have = rw same have

-- Each program has its function after relocations, also where they fail.
pub functions_stay_relocated : {T E : Type 0} (r : Result T E) (programs : List (List ℕ × ProgramContent)) (rule : Rule) (file : List ℕ) (old new : Keyed) → OnOk r (AreRelocated rule file old new) → OnErr r (new ≡ old) → HaveFunctions programs old → HaveFunctions programs new
functions_stay_relocated (Ok x) programs rule file old new is same have = keys-stay programs old new is.keys have
functions_stay_relocated (Err e) programs rule file old new is same have = rw same have

-- The renaming of helpers keeps the keys.
keys_renamed : (functions : Keyed) → keys_of (map (λ e. (e.0, with_older_helpers e.1)) functions) ≡ keys_of functions
keys_renamed [] = refl
keys_renamed (e ∷ es) = ap (λ (ks : List (ℕ × ℕ)). e.0 ∷ ks) (keys_renamed es)

pub functions_stay_renamed : (programs : List (List ℕ × ProgramContent)) (old new : Keyed) → new ≡ map (λ e. (e.0, with_older_helpers e.1)) old → HaveFunctions programs old → HaveFunctions programs new
functions_stay_renamed programs old new is have = keys-stay programs old new (ap keys_of is ∙ keys_renamed old) have

-- Each program has its function after type relocations, also where they fail.
pub functions_stay_typed : {T E : Type 0} (r : Result T E) (programs : List (List ℕ × ProgramContent)) (g : TypesGiven) (section_infos : SectionInfos) (old new : Keyed) → g.functions ≡ old → OnOk r (types.AreRelocated g section_infos new) → OnErr r (new ≡ old) → HaveFunctions programs old → HaveFunctions programs new
functions_stay_typed (Ok x) programs g section_infos old new is relocated same have = keys-stay programs old new (relocated.keys ∙ ap keys_of is) have
functions_stay_typed (Err e) programs g section_infos old new is relocated same have = rw same have
