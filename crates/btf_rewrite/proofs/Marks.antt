-- Marks of the ids that entries name.
use Rattle.std.proofs.Common.{◌≡◌, ℕ, ◌+◌, ◌<◌, ◌≤◌, ◌==◌, ◌||◌, Bool, true, false, List, get_or, length, set, take, refl, sym, ap, ◌∙◌, subst, arith}
use Rattle.std.specs.List.{list_any}
use Rattle.std.proofs.lemmas.Bool.{eqb-true}
use Rattle.std.proofs.lemmas.Bool.Decides.{nat_tests}
use Rattle.std.proofs.lemmas.List.{get_or-set_other, get_or-set_same, length-set, take_all}
use Rattle.std.proofs.lemmas.List.Folds.{list_any_more}
use Rattle.btf_records.specs.declared.item.DataSecEntry.{DataSecEntry}
use Rattle.btf_rewrite.specs.Steps.{AreMarks}

-- The marks of the first entries.
pub record MarkFirst (marks : List Bool) (entries : List DataSecEntry) (i : ℕ) : Type 0 where
  pub marked : AreMarks marks (take i entries)

or_true : (b : Bool) → (b || true) ≡ true
or_true true = refl
or_true false = refl

or_false : (b : Bool) → (b || false) ≡ b
or_false true = refl
or_false false = refl

with_mark : (marks : List Bool) (named : Bool) (id x : ℕ) (same : Bool) → (x == id) ≡ same → x < length marks → get_or marks id false ≡ named → get_or (set marks x true) id false ≡ (named || same)
with_mark marks named id x true is here before = subst (λ n. get_or (set marks x true) n false ≡ (named || true)) (eqb-true x id is) (get_or-set_same marks x true false here ∙ sym (or_true named))
with_mark marks named id x false is here before = get_or-set_other marks x id true false (λ e. grind (arith, nat_tests, e, is)) ∙ (before ∙ sym (or_false named))

without_mark : (named : Bool) (id x len : ℕ) (marks : List Bool) → id < len → len ≤ x → get_or marks id false ≡ named → get_or marks id false ≡ (named || (x == id))
without_mark named id x len marks within past before =
    let other : (x == id) ≡ false = grind (arith, nat_tests, within, past) in
    rw other (before ∙ sym (or_false named))

named_more : (entries : List DataSecEntry) (i : ℕ) (e : DataSecEntry) (id : ℕ) → i < length entries → e ≡ get_or entries i e → list_any (λ x. x.btf_type == id) (take (i + 1) entries) ≡ (list_any (λ x. x.btf_type == id) (take i entries) || (e.btf_type == id))
named_more entries i e id h is = list_any_more (λ x. x.btf_type == id) entries i e h ∙ ap (λ (x : DataSecEntry). list_any (λ y. y.btf_type == id) (take i entries) || (x.btf_type == id)) (sym is)

pub no_marks : (marks : List Bool) (entries : List DataSecEntry) → ((id : ℕ) → get_or marks id false ≡ false) → MarkFirst marks entries 0
no_marks marks entries none = record { marked = record { each = λ id h. none id } }

pub marked_within : (marks : List Bool) (entries : List DataSecEntry) (i : ℕ) (e : DataSecEntry) → MarkFirst marks entries i → i < length entries → e ≡ get_or entries i e → e.btf_type < length marks → MarkFirst (set marks e.btf_type true) entries (i + 1)
marked_within marks entries i e before h is here = record {
  marked = record {
    each = λ id lt.
        with_mark marks (list_any (λ x. x.btf_type == id) (take i entries)) id e.btf_type (e.btf_type == id) refl here (before.marked.each id (rw length-set at lt)) ∙ sym (named_more entries i e id h is);
  };
}

pub marked_past : (marks : List Bool) (entries : List DataSecEntry) (i : ℕ) (e : DataSecEntry) → MarkFirst marks entries i → i < length entries → e ≡ get_or entries i e → length marks ≤ e.btf_type → MarkFirst marks entries (i + 1)
marked_past marks entries i e before h is past = record {
  marked = record {
    each = λ id lt.
        without_mark (list_any (λ x. x.btf_type == id) (take i entries)) id e.btf_type (length marks) marks lt past (before.marked.each id lt) ∙ sym (named_more entries i e id h is);
  };
}

pub all_marks : (marks : List Bool) (entries : List DataSecEntry) (i : ℕ) → MarkFirst marks entries i → length entries ≤ i → AreMarks marks entries
all_marks marks entries i h past = subst (AreMarks marks) (take_all i entries past) h.marked
