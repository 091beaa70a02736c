-- A text in which no extern is searched doesn't matter to the passes.
use Rattle.std.proofs.Common.{◌≡◌, inl, inr, false, List, [], ◌∷◌, ℕ, Option, None, Some, ap, subst, sym, ◌∙◌, IsSomeAnd, MatchOption}
use Rattle.btf_tables.specs.Tables.{Table}
use Rattle.extern_resolution.specs.Outcomes.{is_any_sought}
use Rattle.extern_resolution.specs.Resolution.{AreResolved, CannotResolve}
use Rattle.extern_resolution.specs.declared.error.KsymsError.{KsymsError}
use Rattle.load_plan.specs.Inputs.{Inputs, State, Under}
use Rattle.load_plan.specs.Passes.{ExternSlots, Externs, FunctionRecords, GlobalValues, Helpers, KernelTypes, Links, Made, Makes, MapNumbers, MapSlots, OfKsyms, Pass, Refused, Refuses, TypeSlots, Types, first_table, linking, passes, patching}
use Rattle.object_externs.specs.Externs.{ExternsContent}
use Rattle.plan_errors.specs.declared.error.PrepareError.{PrepareError}
use Rattle.plan_errors.specs.declared.error.PrepareError.TheVariants as error
use Rattle.plan_laws.proofs.Resolved.{fault-unread, resolved-unread, stays-unsought}
use Rattle.plan_laws.specs.Determined.{TextsAreUnread, with_text}

-- No extern of an object is searched in the text.
abbrev IsUnsought : State → Type 0
IsUnsought s = is_any_sought s.externs.by_name ≡ false

same-externs : (s t : State) → t.externs ≡ s.externs → IsUnsought s → IsUnsought t
same-externs s t same none = ap (λ (x : ExternsContent). is_any_sought x.by_name) same ∙ none

unsought-by : (i : Inputs) (types : Option Table) (old new : ExternsContent) → is_any_sought old.by_name ≡ false
    → MatchOption types (new ≡ old) (λ table. AreResolved table (first_table i) i.symbols.bytes i.symbols.failed old new)
    → is_any_sought new.by_name ≡ false
unsought-by i None old new none same = ap (λ (x : ExternsContent). is_any_sought x.by_name) same ∙ none
unsought-by i (Some table) old new none resolved =
    stays-unsought table (first_table i) i.symbols.bytes i.symbols.failed old new none resolved

-- Exactly one pass changes externs.
unsought-stays : (i : Inputs) (u : Under) (p : Pass) (s t : State) → IsUnsought s → Makes p i u s t → IsUnsought t
unsought-stays i u FunctionRecords s t none made = same-externs s t (ap (λ (x : State). x.externs) made.1) none
unsought-stays i u MapNumbers s t none made = same-externs s t (ap (λ (x : State). x.externs) made.1) none
unsought-stays i u GlobalValues s t none made = same-externs s t (ap (λ (x : State). x.externs) made.maps) none
unsought-stays i u KernelTypes s t none made = same-externs s t (ap (λ (x : State). x.externs) made.1) none
unsought-stays i u Externs s t none made = unsought-by i s.types s.externs t.externs none made.externs
unsought-stays i u TypeSlots s t none made = same-externs s t (ap (λ (x : State). x.externs) made.others) none
unsought-stays i u Types s t none made = same-externs s t (ap (λ (x : State). x.externs) made.others) none
unsought-stays i u MapSlots s t none made = same-externs s t (ap (λ (x : State). x.externs) made.others) none
unsought-stays i u ExternSlots s t none made = same-externs s t (ap (λ (x : State). x.externs) made.others) none
unsought-stays i u Links s t none made = same-externs s t (ap (λ (x : State). x.externs) made.others) none
unsought-stays i u Helpers s t none made = same-externs s t (ap (λ (x : State). x.externs) made.functions) none

resolved-by : (i : Inputs) (text : List ℕ) (types : Option Table) (old new : ExternsContent)
    → is_any_sought old.by_name ≡ false
    → MatchOption types (new ≡ old) (λ table. AreResolved table (first_table i) i.symbols.bytes i.symbols.failed old new)
    → MatchOption types (new ≡ old) (λ table. AreResolved table (first_table i) text i.symbols.failed old new)
resolved-by i text None old new none same = same
resolved-by i text (Some table) old new none resolved =
    resolved-unread table (first_table i) i.symbols.failed i.symbols.bytes text old new none resolved

makes-unread : (i : Inputs) (text : List ℕ) (u : Under) (p : Pass) (s t : State) → IsUnsought s
    → Makes p i u s t → Makes p (with_text text i) u s t
makes-unread i text u FunctionRecords s t none made = made
makes-unread i text u MapNumbers s t none made = made
makes-unread i text u GlobalValues s t none made = made
makes-unread i text u KernelTypes s t none made = made
makes-unread i text u Externs s t none made = record {
  externs = resolved-by i text s.types s.externs t.externs none made.externs;
  others = made.others;
}
makes-unread i text u TypeSlots s t none made = made
makes-unread i text u Types s t none made = made
makes-unread i text u MapSlots s t none made = made
makes-unread i text u ExternSlots s t none made = made
makes-unread i text u Links s t none made = made
makes-unread i text u Helpers s t none made = made

made-unread : (i : Inputs) (text : List ℕ) (u : Under) (ps : List Pass) (s t : State) → IsUnsought s
    → Made ps i u s t → Made ps (with_text text i) u s t
made-unread i text u [] s t none made = made
made-unread i text u (p ∷ ps) s t none made = (
  made.0,
  makes-unread i text u p s made.0 none made.1,
  made-unread i text u ps made.0 t (unsought-stays i u p s made.0 none made.1) made.2,
)

made-unsought : (i : Inputs) (u : Under) (ps : List Pass) (s t : State) → IsUnsought s → Made ps i u s t → IsUnsought t
made-unsought i u [] s t none made = subst IsUnsought (sym made) none
made-unsought i u (p ∷ ps) s t none made =
    made-unsought i u ps made.0 t (unsought-stays i u p s made.0 none made.1) made.2

cannot-unread : (i : Inputs) (text : List ℕ) (types : Option Table) (old : ExternsContent) (e : KsymsError)
    → is_any_sought old.by_name ≡ false
    → IsSomeAnd types (λ table. CannotResolve table (first_table i) i.symbols.bytes i.symbols.failed old e)
    → IsSomeAnd types (λ table. CannotResolve table (first_table i) text i.symbols.failed old e)
cannot-unread i text None old e none cannot = cannot
cannot-unread i text (Some table) old e none cannot =
    fault-unread table (first_table i) i.symbols.failed old.by_name i.symbols.bytes text e none cannot

of-ksyms : (P Q : KsymsError → Type 0) → ((e : KsymsError) → P e → Q e) → (e : PrepareError) → OfKsyms P e → OfKsyms Q e
of-ksyms P Q more (error.Ksyms e) stands = more e stands
of-ksyms P Q more _ stands = absurd stands

refuses-unread : (i : Inputs) (text : List ℕ) (u : Under) (p : Pass) (s : State) (e : PrepareError) → IsUnsought s
    → Refuses p i u s e → Refuses p (with_text text i) u s e
refuses-unread i text u FunctionRecords s e none refuses = refuses
refuses-unread i text u MapNumbers s e none refuses = refuses
refuses-unread i text u GlobalValues s e none refuses = refuses
refuses-unread i text u KernelTypes s e none refuses = refuses
refuses-unread i text u Externs s e none refuses =
    of-ksyms _ _ (λ f cannot. cannot-unread i text s.types s.externs f none cannot) e refuses
refuses-unread i text u TypeSlots s e none refuses = refuses
refuses-unread i text u Types s e none refuses = refuses
refuses-unread i text u MapSlots s e none refuses = refuses
refuses-unread i text u ExternSlots s e none refuses = refuses
refuses-unread i text u Links s e none refuses = refuses
refuses-unread i text u Helpers s e none refuses = refuses

refused-unread : (i : Inputs) (text : List ℕ) (u : Under) (ps : List Pass) (s : State) (e : PrepareError) → IsUnsought s
    → Refused ps i u s e → Refused ps (with_text text i) u s e
refused-unread i text u [] s e none refused = refused
refused-unread i text u (p ∷ ps) s e none (inl refuses) = inl (refuses-unread i text u p s e none refuses)
refused-unread i text u (p ∷ ps) s e none (inr after) = inr (
  after.0,
  makes-unread i text u p s after.0 none after.1,
  refused-unread i text u ps after.0 e (unsought-stays i u p s after.0 none after.1) after.2,
)

pub texts_are_unread : TextsAreUnread
texts_are_unread = record {
  plans = λ i text u object none plan made. record {
    patched = made.patched;
    patching = made-unread i text u (patching i.order) object made.patched none made.patching;
    final = made.final;
    linking = made-unread i text u linking made.patched made.final
        (made-unsought i u (patching i.order) object made.patched none made.patching) made.linking;
    is = made.is;
  };
  refusals = λ i text u object none e refused. refused-unread i text u (passes i.order) object e none refused;
}
