-- A program that was linked has no fault.
use Rattle.std.proofs.Common.{◌≡◌, ℕ, zero, suc, ◌+◌, ◌<◌, ◌≤◌, Bool, true, false, List, [], ◌∷◌, ◌++◌, Option, Some, refl, sym, ap, ◌∙◌, subst, arith, reverse, is_some, inl, inr}
use Rattle.std.specs.Prelude.{slice_get, ◌&&◌}
use Rattle.std.proofs.lemmas.List.{reverse-append}
use Rattle.ebpf_items.specs.declared.instruction.bpf_insn.{bpf_insn}
use Rattle.object_parts.specs.Content.{FunctionContent, function_at, key_of}
use Rattle.relocation_errors.specs.declared.error.RelocationError.{RelocationError}
use Rattle.btf_ext.specs.declared.record.bpf_func_info.{bpf_func_info}
use Rattle.btf_ext.specs.declared.record.bpf_line_info.{bpf_line_info}
use Rattle.linker.specs.Layout.{Key, Table, end_of, linked}
use Rattle.linker.specs.Machines.{VisitsSame}
use Rattle.linker.specs.Theorems.{LinkedVisitsSame, ReachedAreAppended}
use Rattle.linker.specs.Linked.{IsLinked, with_copies}
use Rattle.linker.specs.Walking.{OrderLaws}
use Rattle.linker.specs.declared.target.Target.{Target}
use Rattle.linker.specs.declared.target.Target.TheVariants as target
use Rattle.linker.specs.declared.order.CopyOrder.{CopyOrder}
use Rattle.linker.specs.Unlinked.{Unlinked, function_in, table_of, target_at}
use Rattle.linker.specs.Records.{functions_of, lines_of, mismatches, tables_of}
use Rattle.linker.specs.Faults.{CanBeLinked, HasMismatch, HasTargetFaultAt, IsLastFault, IsTargetFault, are_sound, is_sound, last_of}
use Rattle.linker.specs.Walks.{AllFit, AllSound, Fits, IsOrdered, SoundAt}

no_target : (u : Unlinked) (f : FunctionContent) (t : Target) (e : RelocationError) → is_sound u t ≡ true → IsTargetFault u f t e → ⊥
no_target u f target.Nothing e s h = h
no_target u f (target.UnknownSymbol i) e s h = absurd (cc)
no_target u f (target.Function section place) e s h =
    let no' : is_some (function_in u.functions section place) ≡ false = ap is_some h.0 in absurd (cc)

both : (a b : Bool) → a && b ≡ true → (a ≡ true) × (b ≡ true)
both true b h = (refl, h)
both false b h = absurd (cc)

no_slot : (u : Unlinked) (f : FunctionContent) (i : ℕ) (ss : List bpf_insn) (n : ℕ) (s : bpf_insn) (e : RelocationError) → are_sound u f i ss ≡ true → slice_get ss n ≡ Some s → IsTargetFault u f (target_at u f (i + n) s) e → ⊥
no_slot u f i [] n s e all at h = absurd (cc)
no_slot u f i (x ∷ ss) zero s e all at h =
    let q : x ≡ s = cc in
    let z : i + 0 ≡ i = omega arith in
    no_target u f (target_at u f i s) e (subst (λ y. is_sound u (target_at u f i y) ≡ true) q (both _ _ all).0) (subst (λ m. IsTargetFault u f (target_at u f m s) e) z h)
no_slot u f i (x ∷ ss) (suc n) s e all at h =
    let z : i + suc n ≡ i + 1 + n = omega arith in
    no_slot u f (i + 1) ss n s e (both _ _ all).1 at (subst (λ m. IsTargetFault u f (target_at u f m s) e) z h)

no_target_at : (u : Unlinked) (k : Key) (e : RelocationError) → SoundAt u k → HasTargetFaultAt u k e → ⊥
no_target_at u k e s h =
    let n : 0 + h.2.0 ≡ h.2.0 = omega arith in
    no_slot u h.0 0 h.0.instructions h.2.0 h.2.1 e (s.each h.0 h.1) h.2.2 (subst (λ m. IsTargetFault u h.0 (target_at u h.0 m h.2.1) e) (sym n) h.2.3)

sound_last : (u : Unlinked) (own : Key) (ks : List Key) → AllSound u own ks → SoundAt u (last_of own ks)
sound_last u own [] s = s
sound_last u own (k ∷ ks) s = s.0

sound_front : (u : Unlinked) (own : Key) (a b : List Key) → AllSound u own (a ++ b) → AllSound u own b
sound_front u own [] b s = s
sound_front u own (x ∷ a) b s = sound_front u own a b s.1

fit_front : (u : Unlinked) (g : FunctionContent) (a b : List Key) → AllFit u g (a ++ b) → AllFit u g b
fit_front u g [] b s = s
fit_front u g (x ∷ a) b s = fit_front u g a b s.1

same_function : (f g : FunctionContent) → ◌≡◌ {A = Option FunctionContent} (Some f) (Some g) → f ≡ g
same_function f g e = cc

no_mismatch : (u : Unlinked) (own : Key) (g : FunctionContent) (ks : List Key) (e : RelocationError) → function_at u.functions own ≡ Some g → AllFit u g ks → HasMismatch u own ks e → ⊥
no_mismatch u own g [] e at fit h = h
no_mismatch u own g (k ∷ ks) e at fit h =
    let q : h.0 ≡ g = same_function h.0 g (sym h.2 ∙ at) in
    let ok : mismatches g h.1 ≡ false = subst (Fits g) h.3 fit.0 in
    let bad : mismatches g h.1 ≡ true = subst (λ x. mismatches x h.1 ≡ true) q h.4 in
    absurd (cc)

end_front : (t : Table) (own : Key) (a b : List Key) → end_of t own b ≤ end_of t own (a ++ b)
end_front t own [] b = omega arith
end_front t own (x ∷ a) b = omega (arith, end_front t own a b)

no_last : (u : Unlinked) (own : Key) (g : FunctionContent) (ks : List Key) (e : RelocationError) → function_at u.functions own ≡ Some g → AllSound u own ks → AllFit u g ks → end_of (table_of u) own ks < 2147483648 → IsLastFault u own ks e → ⊥
no_last u own g ks e at sound fit within (inl h) = no_target_at u (last_of own ks) e (sound_last u own ks sound) h
no_last u own g ks e at sound fit within (inr (inl h)) = no_mismatch u own g ks e at fit h
no_last u own g ks e at sound fit within (inr (inr h)) = let le = h.0 in absurd (omega arith)

all_both : (u : Unlinked) (g : FunctionContent) (xs ys : List Key) → AllFit u g xs → AllFit u g ys → AllFit u g (xs ++ ys)
all_both u g [] ys h k = k
all_both u g (x ∷ xs) ys h k = (h.0, all_both u g xs ys h.1 k)

all_reverse : (u : Unlinked) (g : FunctionContent) (xs : List Key) → AllFit u g xs → AllFit u g (reverse xs)
all_reverse u g [] h = h
all_reverse u g (x ∷ xs) h = subst (AllFit u g) (sym (reverse-append (x ∷ []) xs)) (all_both u g (reverse xs) (x ∷ []) (all_reverse u g xs h.1) (h.0, tt))

pub can_be_linked : (orders : OrderLaws) (u : Unlinked) (own : Key) (g : FunctionContent) (o : CopyOrder) → function_at u.functions own ≡ Some g → IsOrdered u own g o → AllSound u own (reverse o.keys.items) → CanBeLinked u own
can_be_linked orders u own g o at h sound = record {
  none = λ e f.
      let t = table_of u in
      let ks = f.0 in
      let front = orders.front t own ks (reverse o.keys.items) f.1.0 h.layout in
      let within : end_of t own ks < 2147483648 = let le = subst (λ l. end_of t own ks ≤ end_of t own l) (sym front.1) (end_front t own front.0 ks) in omega (arith, le, h.within) in
      no_last u own g ks e at (sound_front u own front.0 ks (subst (AllSound u own) front.1 sound)) (fit_front u g front.0 ks (subst (AllFit u g) front.1 (all_reverse u g o.keys.items h.fit))) within f.1.1;
}

-- A program that was written is linked.
pub is_linked : (reached : ReachedAreAppended) (visits : LinkedVisitsSame) (u : Unlinked) (own : Key) (g : FunctionContent) (o : CopyOrder) (f : FunctionContent) (slots : List bpf_insn) (functions : List bpf_func_info) (lines : List bpf_line_info) (tables : List ℕ) → function_at u.functions own ≡ Some g → key_of g ≡ own → IsOrdered u own g o → f ≡ with_copies g slots functions lines tables → slots ≡ linked (table_of u) own (reverse o.keys.items) → functions ≡ functions_of u own (reverse o.keys.items) → lines ≡ lines_of u own (reverse o.keys.items) → tables ≡ tables_of u own (reverse o.keys.items) → IsLinked u own f
is_linked reached visits u own g o f slots functions lines tables at k h e s fs ls ts =
    let ks = reverse o.keys.items in
    let t = table_of u in
    record {
      keys = ks;
      layout = h.layout;
      reached = reached.each t own ks h.layout;
      function = g;
      before = at;
      keyed = ap key_of e ∙ k;
      content = e
          ∙ ap (λ x. with_copies g x functions lines tables) s
          ∙ ap (λ x. with_copies g (linked t own ks) x lines tables) fs
          ∙ ap (λ x. with_copies g (linked t own ks) (functions_of u own ks) x tables) ls
          ∙ ap (with_copies g (linked t own ks) (functions_of u own ks) (lines_of u own ks)) ts;
      visits = subst (VisitsSame t own ks) (sym (ap (λ x. x.instructions) e ∙ s)) (visits.each t own ks h.layout);
    }
