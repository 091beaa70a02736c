-- The words that clap accepts for features.
use Rattle.std.proofs.Common.{◌≡◌, ℕ, ◌<◌, ◌∷◌, ◌∙◌, ◌||◌, Bool, List, [], Option, None, Some, true, false, length, map, zero, suc, ap, sym, subst, refl, codes, is_some, inl, inr, slice_index, unwrap_or, option_map, if◌then◌else◌, arith}
use Rattle.std.specs.Borrow.{Bor}
use Rattle.std.specs.List.{All, list_any, slice_index_or}
use Rattle.std.specs.Str.{bytes_eq}
use Rattle.std.proofs.lemmas.List.{get_or-map, length-map}
use Rattle.std.proofs.lemmas.List.Elements.{All-map, All-nil}
use Rattle.std.proofs.lemmas.Slice.Eq.{bytes_eq-Decides}
use Rattle.btf_records.specs.declared.feature.BtfFeature.{BtfFeature}
use Rattle.clap.specs.Built.{IsAuto, IsParsedFrom}
use Rattle.clap.specs.Facts.{args_of, groups_of, parser_of_value, EntryPasses, EntryValuesPass, IsGroupEntry, IsKnownGroup, PassesArg}
use Rattle.clap.specs.Matches.{found_of, matched_of, raw_values}
use Rattle.clap.specs.Simple.{App, app_of}
use Rattle.clap.specs.Values.{Accepts}
use Rattle.clap.specs.Walk.{Rule, rule_of}
use Rattle.clap.specs.declared.builder.arg.Arg.{Arg}
use Rattle.clap.specs.declared.builder.command.Command.{Command}
use Rattle.clap.specs.declared.builder.value_parser.ValueParser.{ValueParser}
use Rattle.clap.specs.declared.parser.matches.ArgMatches.{ArgMatches}
use Rattle.clap.specs.declared.parser.matches.MatchedArg.{MatchedArg}
use Rattle.clap.proofs.CallerLemmas.{entry_by_id, same_rules_by_id}
use Rattle.run_settings.specs.Features.{feature_named, feature_names}
use Rattle.command_line.specs.Commands.{kernel_file_rules, object_app, TakesObject}
use Rattle.command_line.specs.Found.{values_found}
use Rattle.command_line.specs.Options.{with_rules, TakesNames}
use Rattle.command_line.specs.PrepareCommand.{lack_rules, settings_rules, IsPrepareCommand}

-- Names of features.

-- A name is the first of a list or one of the others.
first_or_other : (b c : Bool) (f : BtfFeature) (rest : Bool) (other : Option BtfFeature) → (b ≡ true → c ≡ true) → (rest ≡ true → is_some other ≡ true)
    → (b || rest) ≡ true → is_some (if c then Some f else other) ≡ true
first_or_other b true f rest other same others e = refl
first_or_other true false f rest other same others e =
    let no : false ≡ true = same refl in
    cc
first_or_other false false f rest other same others e = others e

same_name : (name w : List ℕ) → bytes_eq name w ≡ true → bytes_eq w name ≡ true
same_name name w e = (bytes_eq-Decides w name).1 (sym ((bytes_eq-Decides name w).0 e))

is_feature : (w : List ℕ) → list_any (λ name. bytes_eq name w) feature_names ≡ true → is_some (feature_named w) ≡ true
is_feature w =
    first_or_other _ _ _ _ _ (same_name _ w)
    (first_or_other _ _ _ _ _ (same_name _ w)
    (first_or_other _ _ _ _ _ (same_name _ w)
    (first_or_other _ _ _ _ _ (same_name _ w)
    (first_or_other _ _ _ _ _ (same_name _ w)
    (first_or_other _ _ _ _ _ (same_name _ w)
    (first_or_other _ _ _ _ _ (same_name _ w)
    (first_or_other _ _ _ _ _ (same_name _ w) (λ e. cc))))))))

any_of_map : {X Y : Type 0} (f : X → Y) (test : Y → Bool) (xs : List X) → list_any test (map f xs) ≡ list_any (λ x. test (f x)) xs
any_of_map f test [] = refl
any_of_map f test (x ∷ xs) = ap (λ rest. test (f x) || rest) (any_of_map f test xs)

is_accepted : (parser : ValueParser) (w : List ℕ) → TakesNames parser feature_names → Accepts false parser w → is_some (feature_named w) ≡ true
is_accepted parser w takes accepts =
    let among : list_any (λ name. bytes_eq name.now w) takes.list.now ≡ true = subst (λ p. Accepts false p w) takes.is accepts in
    is_feature w (ap (list_any (λ name. bytes_eq name w)) (sym takes.named) ∙ any_of_map (λ name. name.now) (λ name. bytes_eq name w) takes.list.now ∙ among)

-- Lists.

pub all_before : {X Y : Type 0} (P : Y → Type 0) (f : X → Y) (xs : List X) (ys : List Y) → map f xs ≡ ys → All P ys → All (λ x. P (f x)) xs
all_before P f xs ys same all =
    let mapped : All P (map f xs) = subst (All P) (sym same) all in
    λ k d lt.
    let within : k < length (map f xs) = rw (length-map xs f) lt in
    subst P (get_or-map f xs k d (f d) lt) (mapped k (f d) within)

pub map_after : {X Y Z : Type 0} (f : X → Y) (g : Y → Z) (xs : List X) → map g (map f xs) ≡ map (λ x. g (f x)) xs
map_after f g [] = refl
map_after f g (x ∷ xs) = ap (λ rest. g (f x) ∷ rest) (map_after f g xs)

all_words : (P Q : List ℕ → Type 0) → ((w : List ℕ) → P w → Q w) → (values : List (Bor (List ℕ))) → All (λ value. P value.now) values → All Q (map (λ value. value.now) values)
all_words P Q step values all = All-map Q (λ value. value.now) values (λ k d lt. step (slice_index_or values k d).now (all k d lt))

-- The program's options.

abbrev prepare_rules : ValueParser → ValueParser → List Rule
prepare_rules order feature = (with_rules (with_rules (with_rules (object_app (codes "bpf_prepare")) (kernel_file_rules order)) (lack_rules feature)) settings_rules).top.rules

rules_are : (c : Command) (p : IsPrepareCommand (app_of c)) → map rule_of (args_of c) ≡ prepare_rules p.of_files.order p.of_lacks.feature
rules_are c p =
    let files = p.of_files.is in
    let lacks = p.of_lacks.is ∙ ap (λ app. with_rules app (lack_rules p.of_lacks.feature)) files in
    let all = p.of_settings.is ∙ ap (λ app. with_rules app settings_rules) lacks in
    ap (λ (app : App). app.top.rules) all

-- The option that denies features has the index 4.
only_deny : (order feature : ValueParser) (j : ℕ) (d : Rule) → j < 12 → bytes_eq (slice_index_or (prepare_rules order feature) j d).id (codes "deny") ≡ true → j ≡ 4
only_deny order feature zero d lt same = cc
only_deny order feature (suc zero) d lt same = cc
only_deny order feature (suc (suc zero)) d lt same = cc
only_deny order feature (suc (suc (suc zero))) d lt same = cc
only_deny order feature (suc (suc (suc (suc zero)))) d lt same = refl
only_deny order feature (suc (suc (suc (suc (suc zero))))) d lt same = cc
only_deny order feature (suc (suc (suc (suc (suc (suc zero)))))) d lt same = cc
only_deny order feature (suc (suc (suc (suc (suc (suc (suc zero))))))) d lt same = cc
only_deny order feature (suc (suc (suc (suc (suc (suc (suc (suc zero)))))))) d lt same = cc
only_deny order feature (suc (suc (suc (suc (suc (suc (suc (suc (suc zero))))))))) d lt same = cc
only_deny order feature (suc (suc (suc (suc (suc (suc (suc (suc (suc (suc zero)))))))))) d lt same = cc
only_deny order feature (suc (suc (suc (suc (suc (suc (suc (suc (suc (suc (suc zero))))))))))) d lt same = cc
only_deny order feature (suc (suc (suc (suc (suc (suc (suc (suc (suc (suc (suc (suc j)))))))))))) d lt same = absurd (omega arith)

differs : (t : List ℕ) → t ≡ codes "deny" → (t ≡ [] → ⊥) × (t ≡ codes "help" → ⊥) × (t ≡ codes "version" → ⊥)
differs t e = (
  (λ h. let bad : 100 ≡ 0 = ap (λ l. slice_index l 0) (sym e ∙ h) in absurd (omega arith)),
  (λ h. let bad : 100 ≡ 104 = ap (λ l. slice_index l 0) (sym e ∙ h) in absurd (omega arith)),
  (λ h. let bad : 100 ≡ 118 = ap (λ l. slice_index l 0) (sym e ∙ h) in absurd (omega arith)),
)

module _ (c : Command) (m : ArgMatches) (p : IsPrepareCommand (app_of c)) (t : TakesObject c) (parsed : IsParsedFrom c m) where
  options : map rule_of (args_of c) ≡ prepare_rules p.of_files.order p.of_lacks.feature
  options = rules_are c p

  count : length (args_of c) ≡ 12
  count = sym (length-map (args_of c) rule_of) ∙ ap length options

  abbrev deny_arg : Arg
  deny_arg = slice_index_or (args_of c) 4 t.object

  at : (j : ℕ) (e : Arg) → j < length (args_of c) → rule_of (slice_index_or (args_of c) j e) ≡ slice_index_or (prepare_rules p.of_files.order p.of_lacks.feature) j (rule_of e)
  at j e lt = sym (get_or-map rule_of (args_of c) j e (rule_of e) lt) ∙ ap (λ l. slice_index_or l j (rule_of e)) options

  in_reach : 4 < length (args_of c)
  in_reach = rw count (omega arith)

  deny_rule : rule_of deny_arg ≡ slice_index_or (prepare_rules p.of_files.order p.of_lacks.feature) 4 (rule_of t.object)
  deny_rule = at 4 t.object in_reach

  id : deny_arg.id.now ≡ codes "deny"
  id = ap (λ (r : Rule). r.id) deny_rule

  parser : deny_arg.value_parser ≡ Some p.of_lacks.feature
  parser = ap (λ (r : Rule). r.parser) deny_rule

  exact : deny_arg.ignore_case ≡ false
  exact = ap (λ (r : Rule). r.ignore_case) deny_rule

  only : (j : ℕ) (e : Arg) → j < length (args_of c) → bytes_eq (slice_index_or (args_of c) j e).id.now deny_arg.id.now ≡ true → j ≡ 4
  only j e lt same =
      let place : (slice_index_or (args_of c) j e).id.now ≡ (slice_index_or (prepare_rules p.of_files.order p.of_lacks.feature) j (rule_of e)).id =
      ap (λ (r : Rule). r.id) (at j e lt) in
      only_deny p.of_files.order p.of_lacks.feature j (rule_of e) (rw (← count) lt) (rw (place, id) at same)

  own : IsAuto deny_arg → ⊥
  own auto =
      let apart = differs deny_arg.id.now id in
      elim auto [ inl h ↦ apart.1 h | inr h ↦ apart.2 h ]

  word : (w : List ℕ) → PassesArg parsed.built (codes "deny") w → is_some (feature_named w) ≡ true
  word w passes =
      let x = passes.1 in
      let same = same_rules_by_id c m parsed 4 t.object in_reach only own passes.0 x passes.2 passes.3 (rw id passes.4.0) in
      let by_case : Accepts false (parser_of_value x.value_parser) w = subst (λ b. Accepts b (parser_of_value x.value_parser) w) (same.ignore_case ∙ exact) passes.4.1 in
      is_accepted p.of_lacks.feature w p.of_lacks.features (subst (λ v. Accepts false (parser_of_value v) w) (same.parser p.of_lacks.feature parser) by_case)

  no_group : (key : List ℕ) → key ≡ codes "deny" → IsKnownGroup parsed.built key → ⊥
  no_group key same (inl empty) = (differs key same).0 empty
  no_group key same (inr has) =
      let none : groups_of parsed.built ≡ [] = (parsed.from.plain t.plain).1 in
      let bad : 0 < 0 = rw none at has in
      absurd (omega arith)

  values_pass : (key : Bor (List ℕ)) (a : MatchedArg) → key.now ≡ codes "deny" → IsGroupEntry parsed.built (key, a) → EntryValuesPass parsed.built (key, a)
      → All (λ value. PassesArg parsed.built (codes "deny") value.now) a.vals.items
  values_pass key a same groups (inl group) = absurd (no_group key.now same (groups group))
  values_pass key a same groups (inr all) = subst (λ id. All (λ value. PassesArg parsed.built id value.now) a.vals.items) same all

  found_pass : (a : MatchedArg) → matched_of (found_of m) (codes "deny") ≡ Some a → All (λ value. PassesArg parsed.built (codes "deny") value.now) a.vals.items
  found_pass a e =
      let checked = parsed.parsed (parsed.from.globals ∙ t.local) in
      let entry = entry_by_id (EntryPasses parsed.built) (found_of m).entries.items (codes "deny") a checked.values e in
      let key : entry.0.0.now ≡ codes "deny" = (bytes_eq-Decides _ _).0 entry.2 in
      let all = values_pass entry.0.0 entry.0.1 key entry.3.3 entry.3.0 in
      subst (λ (b : MatchedArg). All (λ value. PassesArg parsed.built (codes "deny") value.now) b.vals.items) entry.1 all

  found : (o : Option MatchedArg) → matched_of (found_of m) (codes "deny") ≡ o → All (λ w. is_some (feature_named w) ≡ true) (unwrap_or (option_map raw_values o) [])
  found None e = All-nil _
  found (Some a) e = all_words (PassesArg parsed.built (codes "deny")) (λ w. is_some (feature_named w) ≡ true) word a.vals.items (found_pass a e)

  -- Each word that is found for a denied feature is the name of a feature.
  pub denied_are_features : All (λ w. is_some (feature_named w) ≡ true) (values_found m (codes "deny"))
  denied_are_features = found (matched_of (found_of m) (codes "deny")) refl
