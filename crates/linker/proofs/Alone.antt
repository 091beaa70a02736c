-- A program that refers to no function has the slots of its own function.
use Rattle.std.proofs.Common.{◌≡◌, ℕ, zero, suc, ◌+◌, true, Bool, List, [], ◌∷◌, Option, Some, None, refl, ap, ◌∙◌, reverse, length, ◌==◌, arith}
use Rattle.std.proofs.lemmas.Bool.Decides.{nat_tests}
use Rattle.std.specs.Prelude.{slice_get}
use Rattle.ebpf_items.specs.declared.instruction.bpf_insn.{bpf_insn}
use Rattle.object_parts.specs.Content.{FunctionContent, function_at}
use Rattle.linker.specs.Layout.{Key, Table, copy_of, first_open, flat_option, has, linked, next_key, or_else, placed, ref_at}
use Rattle.linker.specs.Unlinked.{Unlinked, table_of}
use Rattle.linker.specs.Walks.{IsOrdered}
use Rattle.linker.specs.declared.order.CopyOrder.{CopyOrder}
use Rattle.linker.proofs.Walk.{slots_read}

first-none : (o : Option Key) → or_else o None ≡ None → o ≡ None
first-none None h = refl
first-none (Some key) h = absurd cc

all-none : (refs : List (Option Key)) → first_open (has []) refs ≡ None → (i : ℕ) → flat_option (slice_get refs i) ≡ None
all-none [] h i = refl
all-none (None ∷ refs) h zero = refl
all-none (None ∷ refs) h (suc i) = all-none refs h i
all-none (Some key ∷ refs) h i = absurd cc

same-slots : (t : Table) (own : Key) (ks : List Key) (k : Key) (b i : ℕ) (ss : List bpf_insn) → ((j : ℕ) → ref_at t k j ≡ None) → copy_of t own ks k b i ss ≡ ss
same-slots t own ks k b i [] none = refl
same-slots t own ks k b i (s ∷ ss) none =
    ap (λ r. placed t own ks r (b + i) s ∷ copy_of t own ks k b (i + 1) ss) (none i)
    ∙ ap (λ rest. s ∷ rest) (same-slots t own ks k b (i + 1) ss none)

own-alone : (t : Table) (own : Key) → next_key t own [] ≡ None → linked t own [] ≡ t.slots own
own-alone t own complete =
    same-slots t own [] own 0 0 (t.slots own) (all-none (t.refs own) (first-none (first_open (has []) (t.refs own)) complete))

pub alone : (u : Unlinked) (own : Key) (f : FunctionContent) (o : CopyOrder) (slots : List bpf_insn) → IsOrdered u own f o → o.keys.items ≡ [] → function_at u.functions own ≡ Some f → slots ≡ linked (table_of u) own (reverse o.keys.items) → slots ≡ f.instructions
alone u own f o slots ordered none at are =
    let no-keys : reverse o.keys.items ≡ [] = ap reverse none in
    are
    ∙ ap (linked (table_of u) own) no-keys
    ∙ own-alone (table_of u) own (rw no-keys at ordered.layout.complete)
    ∙ slots_read u own f at

pub none_of : {A : Type 0} (xs : List A) → (length xs == 0) ≡ true → xs ≡ []
none_of [] h = refl
none_of (x ∷ xs) h = absurd (grind (arith, nat_tests))
