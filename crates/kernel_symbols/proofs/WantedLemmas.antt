-- Wanted names.
use Rattle.std.proofs.Common.{◌≡◌, ℕ, ◌+◌, ◌<◌, ◌⊎◌, Bool, true, false, cond, ◌||◌, List, [], length, take, get_or, set, inl, inr, Option, None, Some, Bor, refl, ap, sym, ◌∙◌, subst, arith, Result, Ok, Err}
use Rattle.std.specs.Prelude.{IfSome, is_some}
use Rattle.std.specs.Result.{IfErr, IsErrAnd}
use Rattle.std.specs.Cmp.Lexicographic.{same_text}
use Rattle.std.specs.Str.{bytes_eq}
use Rattle.kernel_symbols.specs.Reading.{AreWanted, HasNoAddress, IsAfter, IsSettledAs}
use Rattle.kernel_symbols.specs.Wanted.{AreMarked, mark, under, with_address}
use Rattle.std.proofs.lemmas.Bool.{cases_eq}
use Rattle.std.proofs.lemmas.List.{get_or-set_other, get_or-set_same, length-set}
use Rattle.std.proofs.lemmas.List.Folds.{list_any_more}
use Rattle.kernel_symbols.specs.Texts.{is_among}
use Rattle.kernel_symbols.specs.declared.error.SymbolsError.{SymbolsError}
use Rattle.kernel_symbols.specs.declared.wanted.Wanted.{Wanted}

-- An error that is passed on.
pub passed_on : {T : Type 0} (result : Result T SymbolsError) (e : SymbolsError) (P : SymbolsError → Type 0) → IsErrAnd result (λ f. f ≡ e) → P e → IfErr result P
passed_on (Ok x) e P h p = tt
passed_on (Err f) e P h p = subst P (sym h) p

pub put_under : (name other : List ℕ) (address : Option ℕ) (w : Wanted) (old new : List (List ℕ × Wanted)) → Some w ≡ under old name → under new other ≡ cond (bytes_eq name other) (Some (record { name = w.name; address = address })) (under old other) → under new other ≡ cond (bytes_eq name other) (with_address address (under old name)) (under old other)
put_under name other address w old new known put = put ∙ ap (λ (o : Option Wanted). cond (bytes_eq name other) o (under old other)) (ap (with_address address) known)

pub entered_under : (name key other : List ℕ) (w old new : Option Wanted) → key ≡ name → new ≡ cond (bytes_eq key other) w old → new ≡ cond (bytes_eq name other) w old
entered_under name key other w old new same put = put ∙ ap (λ (k : List ℕ). cond (bytes_eq k other) w old) same

-- ---- Marks

set_there : (marks : List Bool) (at other : ℕ) → at < length marks → (other ≡ at) ⊎ (get_or marks other false ≡ true) → get_or (set marks at true) other false ≡ true
set_there marks at other within (inl same) = rw same (get_or-set_same marks at true false within)
set_there marks at other within (inr there) = elim (cases_eq other at) [ inl same ↦ rw same (get_or-set_same marks at true false within) | inr apart ↦ get_or-set_other marks at other true false apart ∙ there ]

-- Adding a wanted name and its mark leaves each wanted name marked.
pub marked_more : (name : List ℕ) (w : Wanted) (marks : List Bool) (old new : List (List ℕ × Wanted)) (at : ℕ) → at ≡ mark name → at < 256 → ((other : List ℕ) → under new other ≡ cond (bytes_eq name other) (Some w) (under old other)) → AreMarked old marks → AreMarked new (set marks at true)
marked_more name w marks old new at marked within put before = record {
  long = length-set marks at true ∙ before.long;
  each = λ other known. set_there marks at (mark other) (omega (arith, within, before.long)) (by other (bytes_eq name other) refl (sym (ap is_some (put other)) ∙ known));
}
  where
    by : (other : List ℕ) (e : Bool) → bytes_eq name other ≡ e → is_some (cond e (Some w) (under old other)) ≡ true → (mark other ≡ at) ⊎ (get_or marks (mark other) false ≡ true)
    by other true equal known = inl (ap mark (sym (same_text name other (sym equal))) ∙ sym marked)
    by other false equal known = inr (before.each other known)

-- Setting the address of a wanted name leaves each wanted name marked.
pub marked_still : (name : List ℕ) (was w : Wanted) (old new : List (List ℕ × Wanted)) (marks : List Bool) → Some was ≡ under old name → ((other : List ℕ) → under new other ≡ cond (bytes_eq name other) (Some w) (under old other)) → AreMarked old marks → AreMarked new marks
marked_still name was w old new marks here put before = record { long = before.long; each = λ other known. before.each other (by other (bytes_eq name other) refl (sym (ap is_some (put other)) ∙ known)) }
  where
    by : (other : List ℕ) (e : Bool) → bytes_eq name other ≡ e → is_some (cond e (Some w) (under old other)) ≡ true → is_some (under old other) ≡ true
    by other true equal known = sym (ap is_some (here ∙ ap (under old) (same_text name other (sym equal))))
    by other false equal known = known

pub none_marked : (marks : List Bool) → length marks ≡ 256 → AreMarked [] marks
none_marked marks long = record { long = long; each = λ name known. absurd cc }

-- ---- The names, one after another

-- Entries without addresses are the entries after an empty text.
pub begun : (entries : List (List ℕ × Wanted)) (partial : List ℕ) → partial ≡ [] → HasNoAddress entries → IsAfter [] entries partial
begun entries partial none fresh = record {
  lines = [];
  split = λ more. rw none refl;
  open_line = rw none refl;
  settled = record { texts = refl; found = λ name. at name (under entries name) (fresh.none name) };
}
  where
    at : (name : List ℕ) (o : Option Wanted) → IfSome o (λ w. (w.name.now ≡ name) × (w.address ≡ None)) → IfSome o (IsSettledAs name [])
    at name None h = tt
    at name (Some w) h = (h.0, record { readable = refl; only = rw h.1 refl })

wanted_at : (name other : List ℕ) (w : Option Wanted) (old new : Option Wanted) (b c : Bool) → new ≡ cond (bytes_eq name other) w old → is_some w ≡ true → is_some old ≡ b → is_some new ≡ (b || bytes_eq name other)
wanted_at name other w old new b c is some before = ap is_some is ∙ at (bytes_eq name other) b before
  where
    at : (e b : Bool) → is_some old ≡ b → is_some (cond e w old) ≡ (b || e)
    at true true before = some
    at true false before = some
    at false true before = before
    at false false before = before

no_address : (name other : List ℕ) (n : Bor (List ℕ)) (old new : Option Wanted) → n.now ≡ name → new ≡ cond (bytes_eq name other) (Some (record { name = n; address = None })) old → IfSome old (λ w. (w.name.now ≡ other) × (w.address ≡ None)) → IfSome new (λ w. (w.name.now ≡ other) × (w.address ≡ None))
no_address name other n old new here is before = rw is (at (bytes_eq name other) refl)
  where
    at : (e : Bool) → bytes_eq name other ≡ e → IfSome (cond e (Some (record { name = n; address = None })) old) (λ w. (w.name.now ≡ other) × (w.address ≡ None))
    at true equal = (here ∙ same_text name other (sym equal), refl)
    at false equal = before

pub wanted_more : (names : List (Bor (List ℕ))) (k : ℕ) (d n : Bor (List ℕ)) (old new : List (List ℕ × Wanted)) → k < length names → get_or names k d ≡ n → ((other : List ℕ) → under new other ≡ cond (bytes_eq n.now other) (Some (record { name = n; address = None })) (under old other)) → AreWanted (take k names) old → HasNoAddress old → AreWanted (take (k + 1) names) new × HasNoAddress new
wanted_more names k d n old new within here put among none = (
  record { among = λ name. wanted_at n.now name _ (under old name) (under new name) (is_among (take k names) name) true (put name) refl (among.among name) ∙ sym (list_any_more (λ n. bytes_eq n.now name) names k d within ∙ ap (λ (x : Bor (List ℕ)). is_among (take k names) name || bytes_eq x.now name) here) },
  record { none = λ name. no_address n.now name n (under old name) (under new name) refl (put name) (none.none name) },
)
