-- The text of a reader, and the addresses in it.
use Rattle.std.proofs.Common.{◌≡◌, ◌≢◌, ℕ, ◌<◌, Bool, true, false, List, [], ◌∷◌, ◌++◌, length, drop, Option, None, Some, Bor, Result, Ok, Err, refl, ap, sym, ◌∙◌, subst, arith, append_assoc, append-nil, inl, inr}
use Rattle.std.specs.Prelude.{◌==◌, IfErr, IfOk, IfSome, MatchBool, is_some}
use Rattle.std.specs.Io.KnownBytes.{Consumes, IsAtEnd}
use Rattle.std.proofs.KnownBytes.{Consumes-nil, Consumes-trans, starts_with_rest}
use Rattle.std.proofs.lemmas.Bool.{true≢false}
use Rattle.std.proofs.lemmas.Bool.Decides.{nat_tests}
use Rattle.watched.specs.Handing.{HasAtHand}
use Rattle.kernel_symbols.proofs.TextLemmas.{no_lines, one_line, takes_both, takes_nothing, wanted_as}
use Rattle.kernel_symbols.proofs.SaidLemmas.{only_first, only_has}
use Rattle.kernel_symbols.specs.Reading.{AreAddresses, AreSettled, AreWanted, CannotFinish, Finishes, HasRead, IsOnly, IsSettledAs, IsWantedIn, ReaderFault, ReadsSome, ReadsWhole, Refuses, RefusesLine, RefusesReader, TakesLine, address_under, entries_of}
use Rattle.kernel_symbols.specs.Wanted.{under}
use Rattle.kernel_symbols.specs.Texts.{IsAmong, IsGiven, LinesFault, TextFault, address_of, addresses_in, is_among, lines_of, said}
use Rattle.kernel_symbols.specs.declared.error.SymbolsError.{SymbolsError}
use Rattle.kernel_symbols.specs.declared.error.SymbolsError.TheVariants as error
use Rattle.kernel_symbols.specs.declared.reading.Reading.{Reading}
use Rattle.kernel_symbols.specs.declared.wanted.Addresses.{Addresses}
use Rattle.kernel_symbols.specs.declared.wanted.Wanted.{Wanted}

-- ---- Faults

at_hand : (known : Option (List ℕ)) (failed : Bool) (old : Reading) (e : SymbolsError) → HasAtHand known (λ bytes. Refuses old bytes e) → RefusesReader known failed old e
at_hand None failed old e h = record {
  more = h.bytes;
  given = tt;
  stands = λ other text read. subst (λ (t : List ℕ). TextFault failed (IsWantedIn (entries_of old)) t e) (append-nil (text ++ h.bytes)) (h.holds.stands other failed text [] read);
}
at_hand (Some xs) failed old e h = record {
  more = xs;
  given = refl;
  stands = λ other text read. subst (λ (t : List ℕ). TextFault failed (IsWantedIn (entries_of old)) t e)
      (append_assoc text h.bytes (drop (length h.bytes) xs) ∙ ap (λ (l : List ℕ). text ++ l) (sym (starts_with_rest xs h.bytes h.front)))
      (h.holds.stands other failed text (drop (length h.bytes) xs) read);
}

pub hand_refused : {T : Type 0} (r : Result T SymbolsError) (known : Option (List ℕ)) (failed : Bool) (old : Reading) → IfErr r (λ e. HasAtHand known (λ bytes. Refuses old bytes e)) → IfErr r (RefusesReader known failed old)
hand_refused (Ok x) known failed old h = tt
hand_refused (Err e) known failed old h = at_hand known failed old e h

-- A text of a reader: its known bytes, or no bytes where they aren't known.
some_text : Option (List ℕ) → List ℕ
some_text None = []
some_text (Some xs) = xs

some_given : (known : Option (List ℕ)) → IsGiven known (some_text known)
unfolding some_text
some_given None = tt
some_given (Some xs) = refl

abbrev pub IsAccess : SymbolsError → Type 0
IsAccess (error.Access x) = Unit {0}
IsAccess (error.UnreadableAddress name) = ⊥
IsAccess (error.Ambiguous name first second) = ⊥
IsAccess error.OutOfMemory = ⊥

failed_stands : (failed : Bool) (P : List ℕ → Type 0) (text : List ℕ) (e : SymbolsError) → IsAccess e → failed ≡ true → TextFault failed P text e
failed_stands failed P text (error.Access x) h is = inl is
failed_stands failed P text (error.UnreadableAddress name) h is = absurd h
failed_stands failed P text (error.Ambiguous name first second) h is = absurd h
failed_stands failed P text error.OutOfMemory h is = absurd h

pub reader_failed : (known : Option (List ℕ)) (failed : Bool) (old : Reading) (x : SymbolsError) → IsAccess x → failed ≡ true → RefusesReader known failed old x
reader_failed known failed old x access is = record { more = some_text known; given = some_given known; stands = λ _ text read. failed_stands failed (IsWantedIn (entries_of old)) (text ++ some_text known) x access is }

-- ---- More of a text

pub reads_none : (known : Option (List ℕ)) (old : Reading) → ReadsSome known known old old
reads_none known old = record { text = []; lost = Consumes-nil known; taken = takes_nothing old }

pub reads_more : (known between left : Option (List ℕ)) (one two three : Reading) → ReadsSome known between one two → ReadsSome between left two three → ReadsSome known left one three
reads_more known between left one two three p q = record {
  text = p.text ++ q.text;
  lost = Consumes-trans known between left p.text q.text p.lost q.lost;
  taken = takes_both one two three p.text q.text p.taken q.taken;
}

whole_given : (known left : Option (List ℕ)) (text : List ℕ) → Consumes known left text → IsAtEnd left → IsGiven known text
whole_given None left text lost end = tt
whole_given (Some xs) None text lost end = absurd lost
whole_given (Some xs) (Some ys) text lost end = lost ∙ ap (λ (l : List ℕ). text ++ l) end ∙ append-nil text

pub reads_whole : (known left : Option (List ℕ)) (one two : Reading) → ReadsSome known left one two → IsAtEnd left → ReadsWhole known one two
reads_whole known left one two p end = record { text = p.text; given = whole_given known left p.text p.lost end; taken = p.taken }

given_after : (known left : Option (List ℕ)) (text more : List ℕ) → Consumes known left text → IsGiven left more → IsGiven known (text ++ more)
given_after None left text more lost given = tt
given_after (Some xs) None text more lost given = absurd lost
given_after (Some xs) (Some ys) text more lost given = lost ∙ ap (λ (l : List ℕ). text ++ l) given

pub refused_later : (known left : Option (List ℕ)) (failed : Bool) (one two : Reading) (e : SymbolsError) → ReadsSome known left one two → RefusesReader left failed two e → RefusesReader known failed one e
refused_later known left failed one two e p refuses = record {
  more = p.text ++ refuses.more;
  given = given_after known left p.text refuses.more p.lost refuses.given;
  stands = λ other text read. subst (λ (t : List ℕ). TextFault failed (IsWantedIn (entries_of one)) t e) (append_assoc text p.text refuses.more)
      (wanted_as (IsWantedIn (entries_of two)) (IsWantedIn (entries_of one)) (λ name h. sym (p.taken.names.same name) ∙ h) failed ((text ++ p.text) ++ refuses.more) e (refuses.stands other (text ++ p.text) (p.taken.after text read)));
}

-- ---- The end

-- The lines of the text that was read.
whole_text : (old : Reading) (text : List ℕ) (read : HasRead text old) → lines_of text ≡ read.lines ++ lines_of old.partial.items
whole_text old text read = ap lines_of (sym (append-nil text)) ∙ read.split [] ∙ ap (λ (l : List ℕ). read.lines ++ lines_of l) (append-nil old.partial.items)

pub finished : (old : Reading) (found : Addresses) → length old.partial.items ≡ 0 → found.by_name ≡ entries_of old → Finishes old found
finished old found none same = record {
  settled = λ text read.
      let all : lines_of text ≡ read.lines = whole_text old text read ∙ ap (λ (l : List (List ℕ)). read.lines ++ l) (no_lines old.partial.items none) ∙ append-nil read.lines in
      rw (all, same) read.settled;
  names = rw same (record { same = λ name. refl });
}

last_line : (old : Reading) (text : List ℕ) (read : HasRead text old) → 0 < length old.partial.items → lines_of text ≡ read.lines ++ old.partial.items ∷ []
last_line old text read some = whole_text old text read ∙ ap (λ (l : List (List ℕ)). read.lines ++ l) (one_line old.partial.items read.open_line some)

pub finished_line : (old : Reading) (found : Addresses) (line : List ℕ) (is_empty : Bool) → is_empty ≡ (length old.partial.items == 0) → is_empty ≡ false → line ≡ old.partial.items → TakesLine (entries_of old) found.by_name line → Finishes old found
finished_line old found line is_empty empty filled is takes = record {
  settled = λ text read.
      let all : lines_of text ≡ read.lines ++ line ∷ [] = last_line old text read (grind (arith, nat_tests, empty, filled)) ∙ ap (λ (l : List ℕ). read.lines ++ l ∷ []) (sym is) in
      subst (AreSettled found.by_name) (sym all) (takes.settled read.lines read.settled);
  names = takes.names;
}

pub cannot_finish : (old : Reading) (line : List ℕ) (e : SymbolsError) (is_empty : Bool) → is_empty ≡ (length old.partial.items == 0) → is_empty ≡ false → line ≡ old.partial.items → RefusesLine (entries_of old) line e → CannotFinish old e
cannot_finish old line e is_empty empty filled is refuses = record {
  stands = λ other failed text read.
      let all : lines_of text ≡ read.lines ++ line ∷ [] = last_line old text read (grind (arith, nat_tests, empty, filled)) ∙ ap (λ (l : List ℕ). read.lines ++ l ∷ []) (sym is) in
      subst (λ (l : List (List ℕ)). LinesFault failed (IsWantedIn (entries_of old)) l e) (sym all) (refuses.stands other failed read.lines [] read.settled);
}

-- ---- The addresses

faultless : (names : List (Bor (List ℕ))) (entries : List (List ℕ × Wanted)) (text : List ℕ) → AreSettled entries (lines_of text) → ((name : List ℕ) → is_some (under entries name) ≡ is_among names name) → (e : SymbolsError) → TextFault false (IsAmong names) text e → ⊥
faultless names entries text settled among (error.Access x) h = elim h [ inl f ↦ true≢false (sym f) | inr f ↦ true≢false (sym f ∙ settled.texts) ]
faultless names entries text settled among (error.UnreadableAddress name) h = at (under entries name.now) (among name.now ∙ h.0) (settled.found name.now)
  where
    at : (o : Option Wanted) → is_some o ≡ true → IfSome o (IsSettledAs name.now (lines_of text)) → ⊥
    at None some found = true≢false (sym some)
    at (Some w) some found = true≢false (sym h.1 ∙ found.1.readable)
faultless names entries text settled among (error.Ambiguous name first second) h = at (under entries name.now) (among name.now ∙ h.0) (settled.found name.now)
  where
    at : (o : Option Wanted) → is_some o ≡ true → IfSome o (IsSettledAs name.now (lines_of text)) → ⊥
    at None some found = true≢false (sym some)
    at (Some w) some found =
        let known : w.address ≡ Some first = only_first w.address _ found.1.only ∙ h.1.0 in
        let only : IsOnly (Some first) (addresses_in (said name.now (lines_of text))) = subst (λ (o : Option ℕ). IsOnly o (addresses_in (said name.now (lines_of text)))) known found.1.only in
        let same : first ≡ second = only_has _ first second only.1 h.1.1 in
        let equal : (first == second) ≡ true = grind (arith, nat_tests, same) in
        true≢false (sym equal ∙ h.1.2)
faultless names entries text settled among error.OutOfMemory h = h

address_at : (found : Addresses) (name text : List ℕ) (o : Option Wanted) → under found.by_name name ≡ o → is_some o ≡ true → IfSome o (IsSettledAs name (lines_of text)) → address_under found name ≡ address_of name text
unfolding address_of
address_at found name text None known some settled = absurd (true≢false (sym some))
address_at found name text (Some w) known some settled = rw known (only_first w.address _ settled.1.only)

unwanted_at : (found : Addresses) (name : List ℕ) (o : Option Wanted) → under found.by_name name ≡ o → is_some o ≡ false → address_under found name ≡ None
unwanted_at found name None known none = rw known refl
unwanted_at found name (Some w) known none = absurd (true≢false none)

pub all_found : (names : List (Bor (List ℕ))) (known : Option (List ℕ)) (one two : Reading) (found : Addresses) → AreWanted names (entries_of one) → HasRead [] one → ReadsWhole known one two → Finishes two found → AreAddresses names known found
all_found names known one two found wanted begun reads finishes =
    let settled = finishes.settled reads.text (reads.taken.after [] begun) in
    let among : (name : List ℕ) → is_some (under found.by_name name) ≡ is_among names name = λ name. finishes.names.same name ∙ reads.taken.names.same name ∙ wanted.among name in
    record {
      text = reads.text;
      given = reads.given;
      faultless = faultless names found.by_name reads.text settled among;
      value = λ name h. address_at found name reads.text (under found.by_name name) refl (among name ∙ h) (settled.found name);
      others = λ name h. unwanted_at found name (under found.by_name name) refl (among name ∙ h);
    }

pub fault_read : (names : List (Bor (List ℕ))) (known : Option (List ℕ)) (failed : Bool) (one : Reading) (e : SymbolsError) → e ≢ error.OutOfMemory → AreWanted names (entries_of one) → HasRead [] one → RefusesReader known failed one e → ReaderFault names known failed e
fault_read names known failed one e other wanted begun refuses = record {
  text = refuses.more;
  given = refuses.given;
  stands = wanted_as (IsWantedIn (entries_of one)) (IsAmong names) (λ name h. sym (wanted.among name) ∙ h) failed refuses.more e (refuses.stands other [] begun);
}

pub fault_last : (names : List (Bor (List ℕ))) (known : Option (List ℕ)) (failed : Bool) (one two : Reading) (e : SymbolsError) → e ≢ error.OutOfMemory → AreWanted names (entries_of one) → HasRead [] one → ReadsWhole known one two → CannotFinish two e → ReaderFault names known failed e
fault_last names known failed one two e other wanted begun reads cannot = record {
  text = reads.text;
  given = reads.given;
  stands = wanted_as (IsWantedIn (entries_of two)) (IsAmong names) (λ name h. sym (reads.taken.names.same name ∙ wanted.among name) ∙ h) failed reads.text e (cannot.stands other failed reads.text (reads.taken.after [] begun));
}

-- ---- Results

pub ok_found : (r : Result Addresses SymbolsError) (names : List (Bor (List ℕ))) (known : Option (List ℕ)) (one two : Reading) → AreWanted names (entries_of one) → HasRead [] one → ReadsWhole known one two → IfOk r (Finishes two) → IfOk r (AreAddresses names known)
ok_found (Ok found) names known one two wanted begun reads finishes = all_found names known one two found wanted begun reads finishes
ok_found (Err e) names known one two wanted begun reads finishes = tt

pub err_last : (r : Result Addresses SymbolsError) (names : List (Bor (List ℕ))) (known : Option (List ℕ)) (failed : Bool) (one two : Reading) → AreWanted names (entries_of one) → HasRead [] one → ReadsWhole known one two → IfErr r (CannotFinish two) → IfErr r (λ e. e ≢ error.OutOfMemory → ReaderFault names known failed e)
err_last (Ok found) names known failed one two wanted begun reads cannot = tt
err_last (Err e) names known failed one two wanted begun reads cannot = λ other. fault_last names known failed one two e other wanted begun reads cannot

-- One iteration of the reading.
pub turned : (is_more failed : Bool) (known between left : Option (List ℕ)) (one two three : Reading) → ReadsSome known between one two → (is_more ≡ true → ReadsSome between left two three) → (is_more ≡ false → (three ≡ two) × IsAtEnd between) → failed ≡ false
    → MatchBool is_more (ReadsSome known left one three) (ReadsWhole known one three × (failed ≡ false))
turned true failed known between left one two three before more end sound = reads_more known between left one two three before (more refl)
turned false failed known between left one two three before more end sound = (subst (ReadsWhole known one) (sym (end refl).0) (reads_whole known between one two before (end refl).1), sound)
