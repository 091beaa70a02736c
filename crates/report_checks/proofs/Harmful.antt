-- The calls below a slot, one slot after another.
use Rattle.std.proofs.Common.{◌≡◌, ℕ, zero, suc, ◌+◌, Bool, true, false, List, [], ◌∷◌, ◌++◌, arith, filter, refl, sym, ◌∙◌, ap}
use Rattle.std.specs.Prelude.{is_some}
use Rattle.std.specs.List.{range_with_len}
use Rattle.std.proofs.lemmas.List.{append-nil, map-append}
use Rattle.std.proofs.lemmas.List.Elements.{All-nil, All-push, filter-append}
use Rattle.btf_tables.specs.Tables.{Table}
use Rattle.plan_text.specs.Content.{ProgramContent}
use Rattle.report_checks.specs.Calls.{cause_at}
use Rattle.report_checks.specs.Codes.{KnownCode}
use Rattle.report_checks.specs.Reports.{AreHarmfulCalls, IsHarmfulCall, harmful_slots}
use Rattle.report_checks.specs.declared.reported_calls.HarmfulCall.{HarmfulCall}

range_more : (from count : ℕ) → range_with_len from (count + 1) ≡ range_with_len from count ++ (from + count) ∷ []
range_more from zero =
    let same : from + 0 ≡ from = omega arith in
    rw same refl
range_more from (suc count) =
    let one : suc count + 1 ≡ suc (count + 1) = omega arith in
    let next : from + suc count ≡ (from + 1) + count = omega arith in
    rw (one, next) (ap (λ xs. from ∷ xs) (range_more (from + 1) count))

pub below_next : (p : ℕ → Bool) (count : ℕ) → filter p (range_with_len 0 (count + 1)) ≡ filter p (range_with_len 0 count) ++ filter p (count ∷ [])
below_next p count =
    let same : 0 + count ≡ count = omega arith in
    ap (filter p) (range_more 0 count)
    ∙ (filter-append p (range_with_len 0 count) ((0 + count) ∷ [])
    ∙ ap (λ n. filter p (range_with_len 0 count) ++ filter p (n ∷ [])) same)

kept : (p : ℕ → Bool) (n : ℕ) → p n ≡ true → filter p (n ∷ []) ≡ n ∷ []
kept p n is = rw is refl

dropped : (p : ℕ → Bool) (n : ℕ) → p n ≡ false → filter p (n ∷ []) ≡ []
dropped p n is = rw is refl

pub none_yet : (kernel : Table) (known : KnownCode) (p : ProgramContent) → AreHarmfulCalls kernel known p 0 []
none_yet kernel known p = record { slots = refl; each = All-nil _ }

pub one_more : (kernel : Table) (known : KnownCode) (p : ProgramContent) (slot : ℕ) (calls : List HarmfulCall) (call : HarmfulCall) → AreHarmfulCalls kernel known p slot calls → call.slot ≡ slot → IsHarmfulCall kernel known p call → is_some (cause_at kernel p.slots slot) ≡ true → AreHarmfulCalls kernel known p (slot + 1) (calls ++ call ∷ [])
one_more kernel known p slot calls call are same is found =
    let test : ℕ → Bool = λ s. is_some (cause_at kernel p.slots s) in
    let before = harmful_slots kernel p slot in
    record {
      slots = map-append (λ (c : HarmfulCall). c.slot) calls (call ∷ [])
          ∙ (ap (λ l. l ++ call.slot ∷ []) are.slots
          ∙ (ap (λ s. before ++ s ∷ []) same
          ∙ sym (below_next test slot ∙ ap (λ l. before ++ l) (kept test slot found))));
      each = All-push (IsHarmfulCall kernel known p) calls call are.each is;
    }

pub none_here : (kernel : Table) (known : KnownCode) (p : ProgramContent) (slot : ℕ) (calls : List HarmfulCall) → AreHarmfulCalls kernel known p slot calls → is_some (cause_at kernel p.slots slot) ≡ false → AreHarmfulCalls kernel known p (slot + 1) calls
none_here kernel known p slot calls are missing =
    let test : ℕ → Bool = λ s. is_some (cause_at kernel p.slots s) in
    let before = harmful_slots kernel p slot in
    record {
      slots = are.slots ∙ sym (below_next test slot ∙ (ap (λ l. before ++ l) (dropped test slot missing) ∙ append-nil before));
      each = are.each;
    }
