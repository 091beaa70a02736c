-- The entries of a section, placed one after the other.
use Rattle.std.proofs.Common.{◌≡◌, ℕ, ◌+◌, ◌<◌, ◌≤◌, ◌||◌, Bool, List, [], ◌∷◌, ◌++◌, drop, get_or, length, take, length-append, append-nil, append_assoc, sym, ap, ◌∙◌, arith}
use Rattle.std.specs.List.{list_any}
use Rattle.std.proofs.lemmas.List.{drop_all, take_all}
use Rattle.std.proofs.lemmas.List.Elements.{All-more}
use Rattle.std.proofs.lemmas.List.Folds.{list_any_more}
use Rattle.std.proofs.lemmas.Option.{slice_get-get_or}
use Rattle.btf_records.specs.declared.item.DataSecEntry.{DataSecEntry}
use Rattle.btf_records.specs.declared.kind.BtfKind.TheVariants as kinds
use Rattle.btf_rewrite.specs.Ksyms.{EntryFault, Ksyms, names_a, placed_entry, placed_from}
use Rattle.btf_rewrite.proofs.Elements.{HoldsOfFirst}
use Rattle.btf_storage.proofs.Left.{left_some}
use Rattle.btf_storage.specs.Faultless.{IsFaultless}

pub record PlacedFirst (k : Ksyms) (entries : List DataSecEntry) (i : ℕ) (done : List DataSecEntry) (has_variables : Bool) : Type 0 where
  pub made : done ++ placed_from k i (drop i entries) ≡ placed_from k 0 entries
  pub len : length done ≡ i
  pub right : HoldsOfFirst (λ e. IsFaultless (EntryFault k e)) entries i
  pub variables : has_variables ≡ list_any (names_a kinds.Var k) (take i entries)

pub one_more_placed : (k : Ksyms) (entries : List DataSecEntry) (i : ℕ) (done : List DataSecEntry) (e x : DataSecEntry) (so_far is_variable : Bool) → PlacedFirst k entries i done so_far → i < length entries → x ≡ placed_entry k i (get_or entries i e) → is_variable ≡ names_a kinds.Var k (get_or entries i e) → IsFaultless (EntryFault k (get_or entries i e)) → PlacedFirst k entries (i + 1) (done ++ x ∷ []) (so_far || is_variable)
one_more_placed k entries i done e x so_far is_variable before h is variable faultless =
    let left = left_some entries i (get_or entries i e) (slice_get-get_or entries i e h) in
    record {
      made = append_assoc done (x ∷ []) _ ∙ (rw is (ap (λ l. done ++ placed_from k i l) (sym left) ∙ before.made));
      len = omega (arith, before.len, length-append done (x ∷ []));
      right = record { each = All-more (λ y. IsFaultless (EntryFault k y)) entries i e h before.right.each faultless };
      variables = rw (before.variables, variable) (sym (list_any_more (names_a kinds.Var k) entries i e h));
    }

pub all_placed : (k : Ksyms) (entries : List DataSecEntry) (i : ℕ) (done : List DataSecEntry) (has_variables : Bool) → PlacedFirst k entries i done has_variables → length entries ≤ i → done ≡ placed_from k 0 entries
all_placed k entries i done has_variables h past = sym (append-nil done) ∙ (ap (λ l. done ++ placed_from k i l) (sym (drop_all i entries past)) ∙ h.made)

pub all_variables : (k : Ksyms) (entries : List DataSecEntry) (i : ℕ) (done : List DataSecEntry) (has_variables : Bool) → PlacedFirst k entries i done has_variables → length entries ≤ i → has_variables ≡ list_any (names_a kinds.Var k) entries
all_variables k entries i done has_variables h past = h.variables ∙ ap (list_any (names_a kinds.Var k)) (take_all i entries past)
