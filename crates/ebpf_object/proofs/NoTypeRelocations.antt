-- An object without types, or without section infos of type relocations, has no type relocations.
use Rattle.std.proofs.Common.{◌≡◌, ◌==◌, ℕ, Bool, false, List, [], ◌∷◌, ◌++◌, length, Option, Some, None, refl, inl, inr, sym, subst, arith}
use Rattle.std.proofs.lemmas.Grind.{common_steps}
use Rattle.std.specs.Option.{option_map, option_map_or}
use Rattle.std.specs.Prelude.{not, unwrap_or}
use Rattle.btf_ext.specs.Extensions.{Extension}
use Rattle.btf_tables.specs.Tables.{Table, new_table}
use Rattle.ebpf_object.specs.ParsedObject.{ObjectContent}
use Rattle.ebpf_object.specs.TypeRelocations.{section_infos_beside, type_section_infos, types_of}
use Rattle.object_parts.specs.Content.{FunctionContent, function_at}
use Rattle.core_relocation.specs.Faults.{CanBeRelocated, HasTypesFault, WritesFault}
use Rattle.core_relocation.specs.Relocations.{SectionInfos, TypesGiven, types_given}
use Rattle.core_relocation.specs.Writes.{AreRelocated, types_inside, with_types}
use Rattle.relocation_errors.specs.declared.type_relocations.BtfRelocationCause.{BtfRelocationCause}

abbrev Keyed : Type 0
Keyed = List ((ℕ × ℕ) × FunctionContent)

same_function : (g : TypesGiven) (o : Option FunctionContent) → o ≡ option_map (with_types g []) o
same_function g None = refl
same_function g (Some f) = refl

pub none_written : (g : TypesGiven) → AreRelocated g [] g.functions
none_written g = record { keys = refl; at = λ key. same_function g (function_at g.functions key) }

nothing_splits : {A : Type 0} (before : List A) (r : A) (rest : List A) → before ++ (r ∷ rest) ≡ [] → ⊥
nothing_splits [] r rest h = absurd (cc)
nothing_splits (b ∷ before) r rest h = absurd (cc)

no_writes_fault : (g : TypesGiven) (functions : Keyed) (c : BtfRelocationCause) → WritesFault (types_inside g []) functions c → ⊥
no_writes_fault g [] c stands = stands
no_writes_fault g (f ∷ fs) c (inl stands) = nothing_splits stands.2.0 stands.2.1 stands.2.2 stands.2.3
no_writes_fault g (f ∷ fs) c (inr stands) = no_writes_fault g fs c stands

no_fault : (g : TypesGiven) (c : BtfRelocationCause) → HasTypesFault g [] c → ⊥
no_fault g c (inl stands) = stands
no_fault g c (inr stands) = no_writes_fault g g.functions c stands

pub none_refused : (g : TypesGiven) → CanBeRelocated g []
none_refused g = record { none = no_fault g }

-- Whether an extension has section infos with type relocations.
abbrev pub has_section_infos : Option Extension → Bool
has_section_infos extension = option_map_or (λ x. not (length x.relocations == 0)) extension false

no_section_info : (section_infos : SectionInfos) → not (length section_infos == 0) ≡ false → section_infos ≡ []
no_section_info [] h = refl
no_section_info (x ∷ xs) h = grind (arith, common_steps)

none_beside : (types : Option Table) (extension : Option Extension) → has_section_infos extension ≡ false → section_infos_beside types extension ≡ []
none_beside None None h = refl
none_beside None (Some x) h = refl
none_beside (Some t) None h = refl
none_beside (Some t) (Some x) h = no_section_info x.relocations h

pub unasked_written : (o : ObjectContent) (targets : List Table) → has_section_infos o.extension ≡ false → AreRelocated (types_of o targets) (type_section_infos o) o.functions
unasked_written o targets h =
    let g = types_of o targets in
    subst (λ gs. AreRelocated g gs g.functions) (sym (none_beside o.types o.extension h)) (none_written g)

pub unasked_refused : (o : ObjectContent) (targets : List Table) → has_section_infos o.extension ≡ false → CanBeRelocated (types_of o targets) (type_section_infos o)
unasked_refused o targets h =
    let g = types_of o targets in
    subst (λ gs. CanBeRelocated g gs) (sym (none_beside o.types o.extension h)) (none_refused g)

-- Without types there are no section infos, whatever the extension.
typeless : (types : Option Table) (extension : Option Extension) → None ≡ types → section_infos_beside types extension ≡ []
typeless None None h = refl
typeless None (Some x) h = refl
typeless (Some t) extension h = absurd cc

pub typeless_written : (file : List ℕ) (types : Option Table) (extension : Option Extension) (functions : Keyed) (targets : List Table) → None ≡ types → AreRelocated (types_given file functions (unwrap_or types new_table) targets) (section_infos_beside types extension) functions
typeless_written file types extension functions targets h =
    let g = types_given file functions (unwrap_or types new_table) targets in
    subst (λ gs. AreRelocated g gs functions) (sym (typeless types extension h)) (none_written g)

pub typeless_refused : (file : List ℕ) (types : Option Table) (extension : Option Extension) (functions : Keyed) (targets : List Table) → None ≡ types → CanBeRelocated (types_given file functions (unwrap_or types new_table) targets) (section_infos_beside types extension)
typeless_refused file types extension functions targets h =
    let g = types_given file functions (unwrap_or types new_table) targets in
    subst (λ gs. CanBeRelocated g gs) (sym (typeless types extension h)) (none_refused g)

-- Without an extension there are no section infos.
bare : (types : Option Table) (extension : Option Extension) → None ≡ extension → section_infos_beside types extension ≡ []
bare None None h = refl
bare (Some t) None h = refl
bare types (Some x) h = absurd cc

pub bare_written : (file : List ℕ) (types : Option Table) (extension : Option Extension) (functions : Keyed) (targets : List Table) → None ≡ extension → AreRelocated (types_given file functions (unwrap_or types new_table) targets) (section_infos_beside types extension) functions
bare_written file types extension functions targets h =
    let g = types_given file functions (unwrap_or types new_table) targets in
    subst (λ gs. AreRelocated g gs functions) (sym (bare types extension h)) (none_written g)

pub bare_refused : (file : List ℕ) (types : Option Table) (extension : Option Extension) (functions : Keyed) (targets : List Table) → None ≡ extension → CanBeRelocated (types_given file functions (unwrap_or types new_table) targets) (section_infos_beside types extension)
bare_refused file types extension functions targets h =
    let g = types_given file functions (unwrap_or types new_table) targets in
    subst (λ gs. CanBeRelocated g gs) (sym (bare types extension h)) (none_refused g)
