-- The maps that are causes, one index after another.
use Rattle.std.proofs.Common.{◌≡◌, ℕ, ◌+◌, Bool, true, false, List, [], ◌∷◌, ◌++◌, filter, refl, ◌∙◌, ap}
use Rattle.std.specs.Prelude.{map}
use Rattle.std.specs.List.{range_with_len}
use Rattle.std.proofs.lemmas.List.{map-append}
use Rattle.ebpf_items.specs.declared.instruction.bpf_insn.{bpf_insn}
use Rattle.plan_text.specs.Content.{MapContent}
use Rattle.report_needs.specs.declared.enums.Presence.{Presence}
use Rattle.report_checks.proofs.Harmful.{below_next}
use Rattle.report_checks.specs.Causes.{map_causes_below, map_is, when}
use Rattle.report_checks.specs.declared.causes.ProgramCause.TheVariants.{Map}

single : (p : ℕ → Bool) (n : ℕ) (b : Bool) → p n ≡ b → map Map (filter p (n ∷ [])) ≡ when b (Map n)
single p n true is = rw is refl
single p n false is = rw is refl

pub one_more : (maps : List MapContent) (presences : List Presence) (slots : List bpf_insn) (wanted : Presence) (count : ℕ) → map_causes_below maps presences slots wanted (count + 1) ≡ map_causes_below maps presences slots wanted count ++ when (map_is maps presences slots wanted count) (Map count)
one_more maps presences slots wanted count =
    let p : ℕ → Bool = map_is maps presences slots wanted in
    ap (map Map) (below_next p count)
    ∙ (map-append Map (filter p (range_with_len 0 count)) (filter p (count ∷ []))
    ∙ ap (λ l. map Map (filter p (range_with_len 0 count)) ++ l) (single p count (p count) refl))
