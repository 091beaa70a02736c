use Rattle.std.proofs.Common.{◌≡◌, ℕ, ◌==◌}
use Rattle.std.specs.Prelude.{◌||◌}
use Rattle.std.specs.List.{list_any}
use Rattle.std.specs.Map.{keys_of}
use Rattle.ebpf_object.specs.TextSections.{has_section, text_sections, with_sections}
use Rattle.ebpf_object.proofs.text_sections.text_sections.Given as goal

-- The sections so far, extended by those of the rest, are the sections of all functions.
abbrev pub invariant-loop-key : goal.invariant-loop-key
invariant-loop-key l =
    (with_sections l.sections.keys (keys_of l.key-iterator) ≡ text_sections l.functions)
    × ((index : ℕ) → (has_section l.sections.keys index || list_any (λ e. e.0.0 == index) l.key-iterator) ≡ list_any (λ e. e.0.0 == index) l.functions)
