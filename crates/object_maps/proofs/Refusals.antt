-- The errors of reading a struct, member by member.
use Rattle.std.proofs.Common.{◌≡◌, ◌≢◌, ℕ, List, ◌∷◌, ◌++◌, Contains, flat_map, sym, ap, ◌∙◌, subst}
use Rattle.std.proofs.lemmas.List.Elements.{Contains-append_left}
use Rattle.std.specs.Prelude.{Result, Ok}
use Rattle.btf_records.specs.declared.item.BtfMember.{BtfMember}
use Rattle.btf_tables.specs.Tables.{Table}
use Rattle.object_maps.specs.Definitions.{errors_said, inner_errors, member_errors, out_of_memory}
use Rattle.object_maps.specs.Members.{member_said}
use Rattle.object_maps.specs.declared.lookup.DefinitionError.{DefinitionError}
use Rattle.object_maps.specs.declared.member.Said.{Said}
use Rattle.object_maps.specs.declared.member.Said.TheVariants as said

-- An error of the struct of inner maps is one of the member that names it.
pub inner_refused : (table told read : Table) (m : BtfMember) (s : Said) (id : ℕ) (e : DefinitionError) → (e ≢ out_of_memory → Contains (inner_errors read id) e) → Ok s ≡ member_said told m → s ≡ said.Inner id → told ≡ table → read ≡ table → e ≢ out_of_memory → Contains (member_errors table m) e
inner_refused table told read m s id e refused is inner same own other =
    let here : Contains (inner_errors table id) e = subst (λ (t : Table). Contains (inner_errors t id) e) own (refused other) in
    let given : Ok (said.Inner id) ≡ member_said table m = subst (λ (t : Table). Ok (said.Inner id) ≡ member_said t m) same (ap Ok (sym inner) ∙ is) in
    subst (λ (v : Result Said DefinitionError). Contains (errors_said table v) e) given here

-- An error of the next member is one of the struct.
pub member_refused : (table read : Table) (m : BtfMember) (rest members : List BtfMember) (all : List DefinitionError) (e : DefinitionError) → (e ≢ out_of_memory → Contains (member_errors read m) e) → read ≡ table → members ≡ m ∷ rest → flat_map (member_errors table) members ≡ all → e ≢ out_of_memory → Contains all e
member_refused table read m rest members all e refused own split is other =
    let here : Contains (member_errors table m) e = subst (λ (t : Table). Contains (member_errors t m) e) own (refused other) in
    let among : Contains (flat_map (member_errors table) (m ∷ rest)) e = Contains-append_left (member_errors table m) (flat_map (member_errors table) rest) e here in
    subst (λ (l : List DefinitionError). Contains l e) (ap (flat_map (member_errors table)) (sym split) ∙ is) among
