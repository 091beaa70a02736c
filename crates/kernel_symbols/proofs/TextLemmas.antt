-- A text and its lines.
use Rattle.std.proofs.Common.{◌≡◌, ℕ, zero, suc, ◌+◌, ◌<◌, ◌≤◌, Bool, true, false, List, [], ◌∷◌, ◌++◌, length, take, drop, get_or, zero-le, Result, Ok, Err, Option, None, Some, refl, ap, sym, ◌∙◌, subst, arith, append_assoc, append-nil}
use Rattle.std.specs.Prelude.{◌==◌, MatchBool, MatchOption}
use Rattle.std.specs.Str.{IsAscii, IsNotAscii}
use Rattle.std.specs.Result.{IfErr, OnOk}
use Rattle.memchr.specs.Find.{IsFirstByte, is_byte}
use Rattle.std.proofs.lemmas.Bool.{false_from_ne_true, or_from, or_parts}
use Rattle.std.proofs.lemmas.Bool.Decides.{nat_tests}
use Rattle.std.specs.List.{list_any}
use Rattle.std.proofs.lemmas.List.Folds.{list_any-append}
use Rattle.std.proofs.Math.Seq.{drop-append_seam}
use Rattle.std.proofs.lemmas.Str.{IsAscii-drop, IsAscii-take}
use Rattle.kernel_symbols.specs.Reading.{HasRead, IsAfter, IsUnbroken, IsWantedIn, Refuses, RefusesLine, Takes, TakesAllBut, TakesLine, entries_of, is_break}
use Rattle.kernel_symbols.specs.Texts.{TextFault, lines_of}
use Rattle.kernel_symbols.specs.Words.{onto_first}
use Rattle.kernel_symbols.specs.declared.error.SymbolsError.{SymbolsError}
use Rattle.kernel_symbols.specs.declared.error.SymbolsError.TheVariants as error
use Rattle.kernel_symbols.specs.declared.reading.Reading.{Reading}
use Rattle.kernel_symbols.specs.declared.wanted.Wanted.{Wanted}

-- ---- Lines of a text

line_broken : (line rest : List ℕ) → IsUnbroken line → lines_of (line ++ 10 ∷ rest) ≡ line ∷ lines_of rest
unfolding lines_of
line_broken [] rest whole = refl
line_broken (x ∷ line) rest whole =
    let both = or_parts (is_break x) (list_any is_break line) whole in
    rw both.0 (ap (onto_first x) (line_broken line rest both.1))

pub no_lines : (line : List ℕ) → length line ≡ 0 → lines_of line ≡ []
unfolding lines_of
no_lines [] h = refl
no_lines (x ∷ xs) h = absurd (omega arith)

pub one_line : (line : List ℕ) → IsUnbroken line → 0 < length line → lines_of line ≡ line ∷ []
unfolding lines_of
one_line [] whole some = absurd (omega arith)
one_line (x ∷ []) whole some =
    let both = or_parts (is_break x) false whole in
    rw both.0 refl
one_line (x ∷ y ∷ line) whole some =
    let both = or_parts (is_break x) (list_any is_break (y ∷ line)) whole in
    rw both.0 (ap (onto_first x) (one_line (y ∷ line) both.1 (omega arith)))

unbroken_both : (one other : List ℕ) → IsUnbroken one → IsUnbroken other → IsUnbroken (one ++ other)
unbroken_both one other a b = list_any-append is_break one other ∙ or_from _ _ a b

-- ---- The end of a line

-- The lines of a text in which a line ends.
line_ended : (text partial end more : List ℕ) (entries : List (List ℕ × Wanted)) (before : IsAfter text entries partial) → IsUnbroken end → lines_of ((text ++ (end ++ 10 ∷ [])) ++ more) ≡ before.lines ++ (partial ++ end) ∷ lines_of more
line_ended text partial end more entries before whole =
    ap lines_of (append_assoc text (end ++ 10 ∷ []) more)
    ∙ before.split ((end ++ 10 ∷ []) ++ more)
    ∙ ap (λ (l : List ℕ). before.lines ++ lines_of (partial ++ l)) (append_assoc end (10 ∷ []) more)
    ∙ ap (λ (l : List ℕ). before.lines ++ lines_of l) (sym (append_assoc partial end (10 ∷ more)))
    ∙ ap (λ (l : List (List ℕ)). before.lines ++ l) (line_broken (partial ++ end) more (unbroken_both partial end before.open_line whole))

pub ended : (old new : Reading) (end line : List ℕ) → IsUnbroken end → line ≡ old.partial.items ++ end → new.partial.items ≡ [] → TakesLine (entries_of old) (entries_of new) line → Takes old (end ++ 10 ∷ []) new
ended old new end line whole is none takes = record {
  after = λ text before. record {
    lines = before.lines ++ line ∷ [];
    split = λ more. rw (none, is) (line_ended text old.partial.items end more (entries_of old) before whole ∙ sym (append_assoc before.lines ((old.partial.items ++ end) ∷ []) (lines_of more)));
    open_line = rw none refl;
    settled = takes.settled before.lines before.settled;
  };
  names = takes.names;
}

pub end_refused : (old : Reading) (end line : List ℕ) (e : SymbolsError) → IsUnbroken end → line ≡ old.partial.items ++ end → RefusesLine (entries_of old) line e → Refuses old (end ++ 10 ∷ []) e
end_refused old end line e whole is refuses = record {
  stands = λ other failed text more before.
      let all : lines_of ((text ++ (end ++ 10 ∷ [])) ++ more) ≡ before.lines ++ line ∷ lines_of more = rw is (line_ended text old.partial.items end more (entries_of old) before whole) in
      rw all (refuses.stands other failed before.lines (lines_of more) before.settled);
}

-- ---- The first NL

no_break : (bytes : List ℕ) (n : ℕ) → ((k : ℕ) → k < n → is_byte 10 (get_or bytes k 0) ≡ true → ⊥) → n ≤ length bytes → IsUnbroken (take n bytes)
no_break [] zero none within = refl
no_break [] (suc n) none within = refl
no_break (x ∷ bytes) zero none within = refl
no_break (x ∷ bytes) (suc n) none within = or_from _ _ (false_from_ne_true (is_break x) (none 0 (omega arith))) (no_break bytes n (λ k h. none (suc k) (omega arith)) (omega arith))

eq_is : (x : ℕ) → (x == 10) ≡ true → x ≡ 10
eq_is x h = grind (arith, nat_tests)

parted : (bytes : List ℕ) (n : ℕ) → n < length bytes → get_or bytes n 0 ≡ 10 → bytes ≡ take n bytes ++ 10 ∷ drop (suc n) bytes
parted [] n within is = absurd (omega arith)
parted (x ∷ bytes) zero within is = ap (λ (y : ℕ). y ∷ bytes) is
parted (x ∷ bytes) (suc n) within is = ap (λ (l : List ℕ). x ∷ l) (parted bytes n (omega arith) is)

pub first_break : (bytes : List ℕ) (r : Option ℕ) → IsFirstByte (is_byte 10) bytes r → MatchOption r (IsUnbroken bytes) (λ at. (at < length bytes) × IsUnbroken (take at bytes) × (bytes ≡ take at bytes ++ 10 ∷ drop (at + 1) bytes))
first_break bytes None h = whole bytes (no_break bytes (length bytes) (λ k within. h k zero-le within) (omega arith))
  where
    whole : (bytes : List ℕ) → IsUnbroken (take (length bytes) bytes) → IsUnbroken bytes
    whole bytes h = subst IsUnbroken (take_whole bytes) h
      where
        take_whole : (bytes : List ℕ) → take (length bytes) bytes ≡ bytes
        take_whole [] = refl
        take_whole (x ∷ bytes) = ap (λ (l : List ℕ). x ∷ l) (take_whole bytes)
first_break bytes (Some at) h =
    let next : at + 1 ≡ suc at = omega arith in (
      h.0.high,
      no_break bytes at (λ k within. h.0.before k zero-le within) (omega (arith, h.0.high)),
      rw next (parted bytes at h.0.high (eq_is (get_or bytes at 0) h.1)),
    )

-- ---- Some bytes of a text

pub nothing_before : (partial end : List ℕ) → length partial ≡ 0 → (end ≡ partial ++ end) × (partial ≡ [])
nothing_before [] end h = (refl, refl)
nothing_before (x ∷ partial) end h = absurd (omega arith)

pub ended_ok : {E : Type 0} {T : Type 0} (r : Result T E) (old new : Reading) (end line : List ℕ) → IsUnbroken end → line ≡ old.partial.items ++ end → new.partial.items ≡ [] → OnOk r (TakesLine (entries_of old) (entries_of new) line) → OnOk r (Takes old (end ++ 10 ∷ []) new)
ended_ok (Ok x) old new end line whole is none takes = ended old new end line whole is none takes
ended_ok (Err e) old new end line whole is none takes = tt

pub end_refused_err : {T : Type 0} (r : Result T SymbolsError) (old : Reading) (end line : List ℕ) → IsUnbroken end → line ≡ old.partial.items ++ end → IfErr r (RefusesLine (entries_of old) line) → IfErr r (Refuses old (end ++ 10 ∷ []))
end_refused_err (Ok x) old end line whole is refuses = tt
end_refused_err (Err e) old end line whole is refuses = end_refused old end line e whole is refuses

pub takes_nothing : (old : Reading) → Takes old [] old
takes_nothing old = record { after = λ text before. subst (λ (t : List ℕ). HasRead t old) (sym (append-nil text)) before; names = record { same = λ name. refl } }

pub takes_both : (one between other : Reading) (a b : List ℕ) → Takes one a between → Takes between b other → Takes one (a ++ b) other
takes_both one between other a b p q = record {
  after = λ text read. subst (λ (t : List ℕ). HasRead t other) (append_assoc text a b) (q.after (text ++ a) (p.after text read));
  names = record { same = λ name. q.names.same name ∙ p.names.same name };
}

pub takes_none : (old : Reading) (bytes : List ℕ) → TakesAllBut old bytes bytes old
takes_none old bytes = record { front = []; parts = refl; taken = takes_nothing old }

-- One more line is taken.
pub takes_more : (old between new : Reading) (bytes rest line more : List ℕ) → TakesAllBut old bytes rest between → rest ≡ line ++ 10 ∷ more → Takes between (line ++ 10 ∷ []) new → TakesAllBut old bytes more new
takes_more old between new bytes rest line more before split takes = record {
  front = before.front ++ (line ++ 10 ∷ []);
  parts = before.parts ∙ ap (λ (l : List ℕ). before.front ++ l) (split ∙ sym (append_assoc line (10 ∷ []) more)) ∙ sym (append_assoc before.front (line ++ 10 ∷ []) more);
  taken = takes_both old between new before.front (line ++ 10 ∷ []) before.taken takes;
}

-- The rest begins a line that doesn't end yet.
pub takes_rest : (old between new : Reading) (bytes rest : List ℕ) → TakesAllBut old bytes rest between → IsUnbroken rest → entries_of new ≡ entries_of between → new.partial.items ≡ between.partial.items ++ rest → Takes old bytes new
takes_rest old between new bytes rest before whole same grown =
    subst (λ (b : List ℕ). Takes old b new) (sym before.parts) (takes_both old between new before.front rest before.taken (record {
      after = λ text known. record {
        lines = known.lines;
        split = λ more. rw grown (ap lines_of (append_assoc text rest more) ∙ known.split (rest ++ more) ∙ ap (λ (l : List ℕ). known.lines ++ lines_of l) (sym (append_assoc between.partial.items rest more)));
        open_line = rw grown (unbroken_both between.partial.items rest known.open_line whole);
        settled = rw same known.settled;
      };
      names = rw same (record { same = λ name. refl });
    }))

-- ---- Bytes of ASCII

ascii_rest : (bytes taken rest : List ℕ) → IsAscii bytes → bytes ≡ taken ++ rest → IsAscii rest
ascii_rest bytes taken rest ascii split = subst IsAscii (ap (drop (length taken)) split ∙ drop-append_seam taken rest) (IsAscii-drop bytes (length taken) ascii)

-- Each line of bytes of ASCII is ASCII.
pub ascii_line : (b : Bool) (bytes taken rest : List ℕ) (at : ℕ) → MatchBool b (IsAscii bytes) (IsNotAscii bytes) → bytes ≡ taken ++ rest → b ≡ true → IsAscii (take at rest)
ascii_line true bytes taken rest at ascii split is = IsAscii-take rest at (ascii_rest bytes taken rest ascii split)
ascii_line false bytes taken rest at ascii split is = absurd cc

-- ---- A fault among other names

pub wanted_as : (P Q : List ℕ → Type 0) → ((name : List ℕ) → P name → Q name) → (failed : Bool) (text : List ℕ) (e : SymbolsError) → TextFault failed P text e → TextFault failed Q text e
wanted_as P Q from failed text (error.Access e) h = h
wanted_as P Q from failed text (error.UnreadableAddress name) h = (from name.now h.0, h.1)
wanted_as P Q from failed text (error.Ambiguous name first second) h = (from name.now h.0, h.1)
wanted_as P Q from failed text error.OutOfMemory h = h

-- Bytes are refused after others.
pub refuses_both : (old between : Reading) (front bytes : List ℕ) (e : SymbolsError) → Takes old front between → Refuses between bytes e → Refuses old (front ++ bytes) e
refuses_both old between front bytes e before refuses = record {
  stands = λ other failed text more read.
      let all : (text ++ (front ++ bytes)) ++ more ≡ ((text ++ front) ++ bytes) ++ more = ap (λ (l : List ℕ). l ++ more) (sym (append_assoc text front bytes)) in
      rw all (wanted_as (IsWantedIn (entries_of between)) (IsWantedIn (entries_of old)) (λ name h. sym (before.names.same name) ∙ h) failed (((text ++ front) ++ bytes) ++ more) e
      (refuses.stands other failed (text ++ front) more (before.after text read)));
}

refuses_more : (old : Reading) (bytes after : List ℕ) (e : SymbolsError) → Refuses old bytes e → Refuses old (bytes ++ after) e
refuses_more old bytes after e refuses = record {
  stands = λ other failed text more read.
      subst (λ (t : List ℕ). TextFault failed (IsWantedIn (entries_of old)) t e)
      (sym (append_assoc (text ++ bytes) after more) ∙ ap (λ (l : List ℕ). l ++ more) (append_assoc text bytes after))
      (refuses.stands other failed text (after ++ more) read);
}

-- A line is refused after other lines.
pub refused_after : (old between : Reading) (bytes rest line more : List ℕ) (e : SymbolsError) → TakesAllBut old bytes rest between → rest ≡ line ++ 10 ∷ more → Refuses between (line ++ 10 ∷ []) e → Refuses old bytes e
refused_after old between bytes rest line more e before split refuses =
    let all : before.front ++ ((line ++ 10 ∷ []) ++ more) ≡ bytes = ap (λ (l : List ℕ). before.front ++ l) (append_assoc line (10 ∷ []) more ∙ sym split) ∙ sym before.parts in
    subst (λ (b : List ℕ). Refuses old b e) all (refuses_both old between before.front ((line ++ 10 ∷ []) ++ more) e before.taken (refuses_more between (line ++ 10 ∷ []) more e refuses))
