-- Answers of closures that depend only on the question.
use Rattle.std.proofs.Common.{◌≡◌, Bool, [], ◌∷◌, Option, None, Some, inl, inr, subst, sym}
use Rattle.std.specs.Fn.{Called}
use Rattle.std.specs.List.{FoldsTo}
use Rattle.load_plan.specs.Content.{PlanContent}
use Rattle.load_plan.specs.Inputs.{Answers, AreAnswered, BtfFeature, Inputs, IsSaid, Predicate}
use Rattle.load_plan.specs.Known.{GoByFeature, IsPlanFor, IsRefusalFor}
use Rattle.load_plan.specs.Planned.{IsPlanned, IsRefusal}
use Rattle.plan_errors.specs.declared.error.PrepareError.{PrepareError}

said : (Says : Bool → Type 0) (b : Bool) → ((answer : Bool) → Says answer → answer ≡ b) → (o : Option Bool) → IsSaid Says o → IsSaid (λ answer. answer ≡ b) o
said Says b says None h = tt
said Says b says (Some answer) h = says answer h

module _ {F : Type 0} (predicate : Predicate F) (grants : BtfFeature → Bool) (Keeps : F → Type 0) (tells : (s t : F) (f : BtfFeature) (b : Bool) → Keeps s → Called predicate s (f, tt) b t → (b ≡ grants f) × Keeps t) where
  folded : (s after : F) (answers : Answers) → Keeps s → FoldsTo (λ s a t. Called predicate s (a.0, tt) a.1 t) s answers after → GoByFeature grants answers
  folded s after [] keeps h = tt
  folded s after (a ∷ others) keeps h =
      let told = tells s h.0 a.0 a.1 keeps h.1 in
      (told.0, folded h.0 after others told.1 h.2)

  answered : (before : F) → Keeps before → (answers : Answers) → AreAnswered predicate before answers → GoByFeature grants answers
  answered before keeps answers are =
      subst (λ (l : Answers). GoByFeature grants l) (sym are.given.appended) (folded before are.after are.given.more keeps are.given.called)

  pub planned : (before : F) → Keeps before → (Says : Bool → Type 0) (b : Bool) → ((answer : Bool) → Says answer → answer ≡ b) → (i : Inputs) (plan : PlanContent) → IsPlanned predicate before Says i plan → IsPlanFor grants b i plan
  planned before keeps Says b says i plan p = record {
    object = p.object;
    whole = p.whole;
    under = p.planned.under;
    known = record {
      features = answered before keeps p.planned.under.answers p.planned.said.features;
      helpers = said Says b says p.planned.under.has_helpers p.planned.said.helpers;
    };
    planned = p.planned.planned;
  }

  pub refused : (before : F) → Keeps before → (i : Inputs) (e : PrepareError) → IsRefusal predicate before i e → IsRefusalFor grants i e
  refused before keeps i e (inl fault) = inl fault
  refused before keeps i e (inr r) = inr (record {
    object = r.object;
    whole = r.whole;
    under = r.refused.under;
    known = answered before keeps r.refused.under.answers r.refused.answered;
    refused = r.refused.refused;
  })
