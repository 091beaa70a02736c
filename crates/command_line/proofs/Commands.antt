-- Commands that require the object's file.
use Rattle.std.proofs.Common.{◌≡◌, ℕ, ◌<◌, ◌++◌, ◌∷◌, ◌∙◌, ◌||◌, List, [], true, false, length, zero, suc, ap, sym, subst, refl, codes, is_some, inl, inr, slice_index, arith}
use Rattle.std.specs.List.{All, slice_index_or}
use Rattle.std.specs.Str.{bytes_eq}
use Rattle.std.proofs.lemmas.List.Elements.{All-push, All-nil}
use Rattle.clap.specs.Built.{AddsArg, IsParsedFrom, IsPlain, IsPlainArg, TakesValue}
use Rattle.clap.specs.Facts.{args_of, groups_of}
use Rattle.clap.specs.Matches.{first_value, found_of}
use Rattle.clap.specs.declared.builder.command.Command.TheViews.{out-Command}
use Rattle.clap.specs.declared.builder.arg.Arg.{Arg}
use Rattle.clap.specs.declared.builder.command.Command.{Command}
use Rattle.clap.specs.declared.parser.matches.ArgMatches.{ArgMatches}
use Rattle.clap.proofs.CallerLemmas.{added_plain, required_has_value}
use Rattle.clap.specs.Simple.{App, with_rule}
use Rattle.clap.specs.Walk.{Rule}
use Rattle.command_line.specs.Commands.{TakesObject}
use Rattle.command_line.specs.Options.{IsOption, with_rules}

-- One more option.
pub with_option : (c d : Command) (a : Arg) → TakesObject c → IsOption a → AddsArg c a d → TakesObject d
with_option c d a t o added = record {
  plain = added_plain c d a added t.plain o.0;
  local = added.globals ∙ (ap (λ b. b || a.global) t.local ∙ ap (λ b. false || b) o.1);
  needs = added.negates ∙ t.needs;
  object = t.object;
  options = t.options ++ added.arg ∷ [];
  args = added.args ∙ ap (λ l. l ++ added.arg ∷ []) t.args;
  value = t.value;
  name = t.name;
  others = All-push (λ x. bytes_eq x.id.now (codes "OBJECT") ≡ false) t.options added.arg t.others (ap (λ x. bytes_eq x.now (codes "OBJECT")) added.rules.id ∙ o.2);
}

-- The first argument.
pub with_object : (c d : Command) (a : Arg) → args_of c ≡ [] → groups_of c ≡ [] → (out-Command c).has_globals ≡ false
    → (out-Command c).subcommand_negates_reqs ≡ false → IsPlainArg a → a.global ≡ false → TakesValue a → a.id.now ≡ codes "OBJECT"
    → AddsArg c a d → TakesObject d
with_object c d a args groups globals negates plain global value id added =
    let start-plain : IsPlain c = (subst (All IsPlainArg) (sym args) (All-nil IsPlainArg), groups) in
    record {
      plain = added_plain c d a added start-plain plain;
      local = added.globals ∙ (ap (λ b. b || a.global) globals ∙ ap (λ b. false || b) global);
      needs = added.negates ∙ negates;
      object = added.arg;
      options = [];
      args = added.args ∙ ap (λ l. l ++ added.arg ∷ []) args;
      value = (added.rules.required ∙ value.0, added.rules.action _ value.1, added.rules.val_delim ∙ value.2, added.rules.least value.1 value.3);
      name = ap (λ x. x.now) added.rules.id ∙ id;
      others = All-nil _;
    }

-- The name of the object's file differs from the names of clap's own arguments.
differs : (t : List ℕ) → t ≡ codes "OBJECT" → (t ≡ [] → ⊥) × (t ≡ codes "help" → ⊥) × (t ≡ codes "version" → ⊥)
differs t e = (
  (λ h. let bad : 79 ≡ 0 = ap (λ l. slice_index l 0) (sym e ∙ h) in absurd (omega arith)),
  (λ h. let bad : 79 ≡ 104 = ap (λ l. slice_index l 0) (sym e ∙ h) in absurd (omega arith)),
  (λ h. let bad : 79 ≡ 118 = ap (λ l. slice_index l 0) (sym e ∙ h) in absurd (omega arith)),
)

-- The matches of such a command have the object's file.
pub object_is_there : (c : Command) (m : ArgMatches) → TakesObject c → IsParsedFrom c m → is_some (first_value (found_of m) (codes "OBJECT")) ≡ true
object_is_there c m t p =
    let first : (d : Arg) → slice_index_or (args_of c) 0 d ≡ t.object = λ d. ap (λ l. slice_index_or l 0 d) t.args in
    let lt : 0 < length (args_of c) = rw t.args (omega arith) in
    let elem = first t.object in
    let name : (slice_index_or (args_of c) 0 t.object).id.now ≡ codes "OBJECT" = ap (λ x. x.id.now) elem ∙ t.name in
    let apart = differs _ name in
    let only : (j : ℕ) (e : Arg) → j < length (args_of c)
    → bytes_eq (slice_index_or (args_of c) j e).id.now (slice_index_or (args_of c) 0 t.object).id.now ≡ true → j ≡ 0 =
    λ j e low same. alone j e low (rw name at same) in
    subst (λ id. is_some (first_value (found_of m) id) ≡ true) name
    (required_has_value c m p t.plain t.local t.needs 0 t.object lt
    (ap (λ x. x.required) elem ∙ t.value.0) (ap (λ x. x.action) elem ∙ t.value.1) (ap (λ x. x.val_delim) elem ∙ t.value.2)
    (rw elem t.value.3) only apart.0 (λ auto. elim auto [ inl h ↦ apart.1 h | inr h ↦ apart.2 h ]))
  where
    others : (j : ℕ) (e : Arg) → j < length (t.object ∷ t.options)
        → bytes_eq (slice_index_or (t.object ∷ t.options) j e).id.now (codes "OBJECT") ≡ true → j ≡ 0
    others zero e low same = refl
    others (suc j) e low same =
        let other = t.others j e (omega arith) in
        cc

    alone : (j : ℕ) (e : Arg) → j < length (args_of c)
        → bytes_eq (slice_index_or (args_of c) j e).id.now (codes "OBJECT") ≡ true → j ≡ 0
    alone j e = rw t.args (others j e)

-- More options, one after another.
pub two_more : (a b c : App) (r1 r2 s1 s2 : Rule) → b ≡ with_rule a r1 → c ≡ with_rule b r2 → r1 ≡ s1 → r2 ≡ s2 → c ≡ with_rules a (s1 ∷ s2 ∷ [])
two_more a b c r1 r2 s1 s2 h1 h2 e1 e2 =
    let first : b ≡ with_rule a s1 = h1 ∙ ap (with_rule a) e1 in
    h2 ∙ (ap (λ x. with_rule x r2) first ∙ ap (with_rule (with_rule a s1)) e2)

pub three_more : (a b c d : App) (r1 r2 r3 s1 s2 s3 : Rule) → b ≡ with_rule a r1 → c ≡ with_rule b r2 → d ≡ with_rule c r3
    → r1 ≡ s1 → r2 ≡ s2 → r3 ≡ s3 → d ≡ with_rules a (s1 ∷ s2 ∷ s3 ∷ [])
three_more a b c d r1 r2 r3 s1 s2 s3 h1 h2 h3 e1 e2 e3 =
    let two : c ≡ with_rule (with_rule a s1) s2 = two_more a b c r1 r2 s1 s2 h1 h2 e1 e2 in
    h3 ∙ (ap (λ x. with_rule x r3) two ∙ ap (with_rule (with_rule (with_rule a s1) s2)) e3)

pub six_more : (a b c d e f g : App) (r1 r2 r3 r4 r5 r6 s1 s2 s3 s4 s5 s6 : Rule) → b ≡ with_rule a r1 → c ≡ with_rule b r2 → d ≡ with_rule c r3 → e ≡ with_rule d r4
    → f ≡ with_rule e r5 → g ≡ with_rule f r6 → r1 ≡ s1 → r2 ≡ s2 → r3 ≡ s3 → r4 ≡ s4 → r5 ≡ s5 → r6 ≡ s6 → g ≡ with_rules a (s1 ∷ s2 ∷ s3 ∷ s4 ∷ s5 ∷ s6 ∷ [])
six_more a b c d e f g r1 r2 r3 r4 r5 r6 s1 s2 s3 s4 s5 s6 h1 h2 h3 h4 h5 h6 e1 e2 e3 e4 e5 e6 =
    three_more d e f g r4 r5 r6 s4 s5 s6 h4 h5 h6 e4 e5 e6
    ∙ ap (λ x. with_rules x (s4 ∷ s5 ∷ s6 ∷ [])) (three_more a b c d r1 r2 r3 s1 s2 s3 h1 h2 h3 e1 e2 e3)
