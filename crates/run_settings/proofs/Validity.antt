-- A document's table has settings exactly where no key of it is invalid.
use Rattle.std.proofs.Common.{◌≡◌, ℕ, Bool, true, false, List, Option, None, Some, is_some, refl, sym, ap, ◌∙◌, codes, if◌then◌else◌, option_map}
use Rattle.std.specs.Prelude.{◌&&◌, ◌||◌, is_none, option_and_then}
use Rattle.std.specs.BTreeMap.{insert_entry}
use Rattle.std.specs.Cmp.Lexicographic.{slice_cmp}
use Rattle.std.specs.Option.{option_or}
use Rattle.std.specs.Ordering.{nat_cmp}
use Rattle.std.specs.Str.{bytes_eq}
use Rattle.settings.specs.ValuesContent.{GlobalContent}
use Rattle.toml.specs.Data.{Data, Members, as_bool, as_table, member, no_members}
use Rattle.btf_records.specs.declared.feature.BtfFeature.{BtfFeature}
use Rattle.run_settings.specs.Documents.{RunContent, global_of, number_of, set_features, set_globals, set_maps, with_features, with_globals, with_member, with_members, with_numbers}
use Rattle.run_settings.specs.Features.{feature_named, with_answer}
use Rattle.run_settings.specs.Invalid.{first_invalid, invalid_entry, invalid_in, invalid_part}
use Rattle.run_settings.specs.declared.features.GrantedFeatures.{GrantedFeatures}

-- One member, and then the others.
one : {T U X : Type 0} (o : Option T) (f : T → Option U) (rest : Option X) (here : X) → ((t : T) → is_some (f t) ≡ is_none rest) → is_some (option_and_then f o) ≡ is_none (if is_some o then rest else Some here)
one None f rest here h = refl
one (Some t) f rest here h = h t

two : {S T U X : Type 0} (o : Option S) (p : Option T) (f : S → T → U) (g : U → Option U) (rest : Option X) (here : X) → ((u : U) → is_some (g u) ≡ is_none rest)
    → is_some (option_and_then g (option_and_then (λ s. option_map (f s) p) o)) ≡ is_none (if (is_some o && is_some p) then rest else Some here)
two None p f g rest here h = refl
two (Some s) None f g rest here h = refl
two (Some s) (Some t) f g rest here h = h (f s t)

numbers : (key : List ℕ) (e : bytes_eq key (codes "maps") ≡ true) (maps : List (List ℕ × ℕ)) (ms : Members) → is_some (with_numbers maps ms) ≡ is_none (invalid_entry key ms)
numbers key e maps no_members = refl
numbers key e maps (member name d ms) =
    rw e (one (number_of d) (λ n. with_numbers (insert_entry (slice_cmp nat_cmp) maps name n) ms) (invalid_entry key ms) _ (λ n. numbers key e (insert_entry (slice_cmp nat_cmp) maps name n) ms))

globals : (key : List ℕ) (m : bytes_eq key (codes "maps") ≡ false) (e : bytes_eq key (codes "globals") ≡ true) (gs : List (List ℕ × GlobalContent)) (ms : Members) → is_some (with_globals gs ms) ≡ is_none (invalid_entry key ms)
globals key m e gs no_members = refl
globals key m e gs (member name d ms) =
    rw (m, e) (one (global_of d) (λ g. with_globals (insert_entry (slice_cmp nat_cmp) gs name g) ms) (invalid_entry key ms) _ (λ g. globals key m e (insert_entry (slice_cmp nat_cmp) gs name g) ms))

features : (key : List ℕ) (m : bytes_eq key (codes "maps") ≡ false) (e : bytes_eq key (codes "globals") ≡ false) (granted : GrantedFeatures) (ms : Members) → is_some (with_features granted ms) ≡ is_none (invalid_entry key ms)
features key m e granted no_members = refl
features key m e granted (member name d ms) =
    rw (m, e) (two (feature_named name) (as_bool d) (λ feature answer. with_answer granted feature answer) (λ g. with_features g ms) (invalid_entry key ms) _ (λ g. features key m e g ms))

-- A table of a document, and a member of it.
mapped : {T U : Type 0} (f : T → U) (o : Option T) → is_some (option_map f o) ≡ is_some o
mapped f None = refl
mapped f (Some t) = refl

table : (key : List ℕ) (o : Option Members) (f : Members → Option RunContent) → ((ms : Members) → is_some (f ms) ≡ is_none (invalid_entry key ms)) → is_some (option_and_then f o) ≡ is_none (invalid_in key o)
table key None f h = refl
table key (Some ms) f h = h ms

answer : (key : List ℕ) (o : Option Bool) (f : Bool → RunContent) → is_some (option_map f o) ≡ is_none (if is_some o then None else Some key)
answer key None f = refl
answer key (Some b) f = refl

part : (s : RunContent) (key : List ℕ) (d : Data) (m g f p : Bool)
    → bytes_eq key (codes "maps") ≡ m → bytes_eq key (codes "globals") ≡ g → bytes_eq key (codes "features") ≡ f → bytes_eq key (codes "probe") ≡ p
    → is_some (with_member s key d) ≡ is_none (invalid_part key d)
part s key d true g f p em eg ef ep = rw em (table key (as_table d) (set_maps s) (λ ms. mapped _ (with_numbers s.settings.maps ms) ∙ numbers key em s.settings.maps ms))
part s key d false true f p em eg ef ep = rw (em, eg) (table key (as_table d) (set_globals s) (λ ms. mapped _ (with_globals s.settings.globals ms) ∙ globals key em eg s.settings.globals ms))
part s key d false false true p em eg ef ep = rw (em, eg, ef) (table key (as_table d) (set_features s) (λ ms. mapped _ (with_features s.features ms) ∙ features key em eg s.features ms))
part s key d false false false true em eg ef ep = rw (em, eg, ef, ep) (answer key (as_bool d) (λ b. record s { probe = b }))
part s key d false false false false em eg ef ep = rw (em, eg, ef, ep) refl

next : (o : Option RunContent) (p : Option (List ℕ)) (f : RunContent → Option RunContent) (rest : Option (List ℕ)) → is_some o ≡ is_none p → ((s : RunContent) → is_some (f s) ≡ is_none rest) → is_some (option_and_then f o) ≡ is_none (option_or p rest)
next None None f rest e h = absurd cc
next None (Some k) f rest e h = refl
next (Some s) None f rest e h = h s
next (Some s) (Some k) f rest e h = absurd cc

members : (s : RunContent) (ms : Members) → is_some (with_members s ms) ≡ is_none (first_invalid ms)
members s no_members = refl
members s (member key d ms) =
    next (with_member s key d) (invalid_part key d) (λ t. with_members t ms) (first_invalid ms) (part s key d _ _ _ _ refl refl refl refl) (λ t. members t ms)

-- What was found is the first key, by its bytes.
pub found_is : {T : Type 0} (bytes : T → List ℕ) (found : Option T) (s : RunContent) (ms : Members) → option_map bytes found ≡ first_invalid ms → is_some (with_members s ms) ≡ is_none found
found_is bytes None s ms e = members s ms ∙ ap is_none (sym e)
found_is bytes (Some t) s ms e = members s ms ∙ ap is_none (sym e)
