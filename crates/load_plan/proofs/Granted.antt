-- The types of a plan need only granted features.
use Rattle.std.proofs.Common.{◌≡◌, ℕ, zero, suc, ◌-◌, ◌≤◌, ◌==◌, List, [], ◌∷◌, Bool, true, false, Option, Some, None, length, drop, refl, sym, ap, ◌∙◌, subst, arith}
use Rattle.std.proofs.lemmas.Bool.Decides.{nat_tests}
use Rattle.std.specs.Prelude.{if◌then◌else◌, slice_get, unwrap_or}
use Rattle.btf_storage.specs.Ids.{record_of_id}
use Rattle.btf_records.specs.declared.feature.BtfFeature.{BtfFeature}
use Rattle.btf_records.specs.declared.types.BtfType.{BtfType}
use Rattle.btf_records.specs.declared.types.BtfType.TheVariants.{Unknown}
use Rattle.btf_sanitize.specs.Answers.{Answers, granted}
use Rattle.btf_sanitize.specs.Facts.{Facts}
use Rattle.btf_sanitize.specs.Kept.{AllGranted, EachGranted, Keeps, needed_after}
use Rattle.btf_sanitize.specs.Rewritten.{rewritten}
use Rattle.btf_rewrite.specs.Sanitizing.{facts_in, stepped}
use Rattle.btf_tables.specs.Tables.{Table}
use Rattle.ebpf_object.specs.Rewriting.{IsRewritten, IsRewrittenIf}
use Rattle.load_plan.specs.Granted.{AreGranted, NeedGranted, came_as}

get_none : (l : List BtfType) (i : ℕ) → slice_get l i ≡ None → length l ≤ i
get_none [] i h = omega arith
get_none (x ∷ xs) zero h = absurd (cc)
get_none (x ∷ xs) (suc i) h = omega (arith, get_none xs i h)

get_drop : (n : ℕ) (l : List BtfType) (i : ℕ) → n ≤ i → slice_get l i ≡ slice_get (drop n l) (i - n)
get_drop zero l i h = let e : i ≡ i - 0 = omega arith in ap (slice_get l) e
get_drop (suc n) [] i h = refl
get_drop (suc n) (x ∷ xs) zero h = absurd (omega arith)
get_drop (suc n) (x ∷ xs) (suc i) h =
    let e : i - n ≡ suc i - suc n = omega arith in
    let l : n ≤ i = omega arith in
    get_drop n xs i l ∙ ap (slice_get (drop n xs)) e

granted_at : (grants : BtfFeature → Bool) (l : List BtfType) (i : ℕ) (r : BtfType) → EachGranted grants l → slice_get l i ≡ Some r → AllGranted grants (needed_after r r)
granted_at grants [] i r each here = absurd (cc)
granted_at grants (x ∷ xs) zero r each here = let same : x ≡ r = cc in subst (λ y. AllGranted grants (needed_after y y)) same each.0
granted_at grants (x ∷ xs) (suc i) r each here = granted_at grants xs i r each.1 here

-- An id above the records before.
granted_after : (known : Facts) (types : List BtfType) → Keeps known types → (b : Bool) (i : ℕ) (r : BtfType) → (if b then Some Unknown else slice_get types i) ≡ Some r → (if b then Some Unknown else slice_get known.types i) ≡ None → AllGranted known.grants (needed_after r r)
granted_after known types keeps true i r here came = absurd (cc)
granted_after known types keeps false i r here came =
    let past : length known.types ≤ i = get_none known.types i came in
    granted_at known.grants (drop (length known.types) types) (i - length known.types) r keeps.added (sym (get_drop (length known.types) types i past) ∙ here)

granted_here : (known : Facts) (types : List BtfType) → Keeps known types → (id : ℕ) (r : BtfType) → record_of_id types id ≡ Some r → (o : Option BtfType) → record_of_id known.types id ≡ o → AllGranted known.grants (needed_after (unwrap_or o r) r)
granted_here known types keeps id r here (Some t) came =
    let one = keeps.each id t came in
    let same : Some (rewritten known one.added_before t) ≡ Some r = sym one.here ∙ here in
    let is : rewritten known one.added_before t ≡ r = cc in
    subst (λ x. AllGranted known.grants (needed_after t x)) is one.granted
granted_here known types keeps id r here None came = granted_after known types keeps (id == 0) (id - 1) r here came

-- A table without types has only void.
void_needs : (grants : BtfFeature → Bool) (types : List BtfType) (b : Bool) (i : ℕ) (came r : BtfType) → (length types == 0) ≡ true → (if b then Some Unknown else slice_get types i) ≡ Some r → AllGranted grants (needed_after came r)
void_needs grants types true i came r empty here = let same : Unknown ≡ r = cc in subst (λ x. AllGranted grants (needed_after came x)) same tt
void_needs grants [] false i came r empty here = absurd (cc)
void_needs grants (x ∷ xs) false i came r empty here = let none : length (x ∷ xs) ≡ 0 = grind (arith, nat_tests) in absurd (omega arith)

granted_if : (answers : Answers) (file : List ℕ) (ksyms : Option (ℕ × Option ℕ)) (table new : Table) (b : Bool) → (length table.types == 0) ≡ b → IsRewrittenIf b answers file ksyms table new → NeedGranted answers (stepped ksyms table).types new.types
granted_if answers file ksyms table new true empty left =
    let same : new ≡ table = cc (left.same) in
    record { each = λ id r here. void_needs (granted answers) new.types (id == 0) (id - 1) (came_as (stepped ksyms table).types id r) r (ap (λ (t : Table). length t.types == 0) same ∙ empty) here }
granted_if answers file ksyms table new false filled is =
    let known = facts_in answers is.sizes is.offsets (stepped ksyms table) in
    record { each = λ id r here. granted_here known new.types is.keeps id r here (record_of_id known.types id) refl }

pub granted_of : (answers : Answers) (file : List ℕ) (ksyms : Option (ℕ × Option ℕ)) (old new : Option Table) → IsRewritten answers file ksyms old new → AreGranted answers ksyms old new
granted_of answers file ksyms (Some old) (Some new) is = granted_if answers file ksyms old new (length old.types == 0) refl is
granted_of answers file ksyms None None is = tt
granted_of answers file ksyms (Some old) None is = absurd is
granted_of answers file ksyms None (Some new) is = absurd is
