-- Properties of a watched reader or writer.
use Rattle.std.specs.Prelude.{◌≡◌, ℕ, ◌-◌, ◌≤◌, Bool, true, false, List, [], ◌++◌, length, take, drop, Option, refl, ◌⊎◌}
use Rattle.std.specs.Io.KnownBytes.{Appends}
use Rattle.std.proofs.Common.{sym, ap, ◌∙◌, subst, append_assoc, take-append-drop, inl, inr}
use Rattle.std.proofs.lemmas.List.{take_rest}
use Rattle.std.proofs.Math.Nat.{le_refl, le_trans}
use Rattle.std.proofs.KnownBytes.{Appends-nil, Appends-trans}
use Rattle.watched.specs.declared.watch.Watched.{Watched}

-- The reader or writer inside.
abbrev pub watched_inner : {T : Type 0} → Watched T → T
watched_inner w = w.inner

abbrev pub has_failed : {T : Type 0} → Watched T → Bool
has_failed w = w.has_failed

-- The number of calls that may still be passed on.
abbrev pub calls_left : {T : Type 0} → Watched T → ℕ
calls_left w = w.calls_left

-- All but the rest of a text was appended to the known bytes of a writer.
pub record AppendsAllBut (old new : Option (List ℕ)) (text rest : List ℕ) : Type 0 where
  pub front : List ℕ
  pub split : text ≡ front ++ rest
  pub appended : Appends old new front

-- A prefix of a text was appended.
abbrev pub AppendsPart : Option (List ℕ) → Option (List ℕ) → List ℕ → Type 0
AppendsPart old new text = (rest : List ℕ) × AppendsAllBut old new text rest

-- The whole text was appended, or a prefix of it if the writer has failed. A writer that had failed
-- before is unchanged. The number of calls left doesn't grow.
pub record Sends {W : Type 0} (contents : W → Option (List ℕ)) (old new : Watched W) (text : List ℕ)
    : Type 0 where
  pub ok : has_failed new ≡ false
      → (has_failed old ≡ false)
      × Appends (contents (watched_inner old)) (contents (watched_inner new)) text
  pub part : has_failed new ≡ true
      → AppendsPart (contents (watched_inner old)) (contents (watched_inner new)) text
  pub still : has_failed old ≡ true → new ≡ old
  pub calls : calls_left new ≤ calls_left old

-- ---- Laws

pub AppendsAllBut-none : (old : Option (List ℕ)) (text : List ℕ) → AppendsAllBut old old text text
AppendsAllBut-none old text = record { front = []; split = refl; appended = Appends-nil old }

-- A part of the rest is appended too.
pub AppendsAllBut-more : (old between new : Option (List ℕ)) (text rest : List ℕ) (n : ℕ)
    → AppendsAllBut old between text rest
    → Appends between new (take n rest)
    → AppendsAllBut old new text (take (length rest - n) (drop n rest))
AppendsAllBut-more old between new text rest n before more = record {
  front = before.front ++ take n rest;
  split =
      before.split
      ∙ ap (λ l. before.front ++ l) (sym (take-append-drop n rest))
      ∙ sym (append_assoc before.front (take n rest) (drop n rest))
      ∙ ap (λ l. (before.front ++ take n rest) ++ l) (sym (take_rest rest n));
  appended = Appends-trans old between new before.front (take n rest) before.appended more;
}

-- A whole text is appended, and then all but a rest of another text.
AppendsAllBut-after : (old between new : Option (List ℕ)) (first text rest : List ℕ)
    → Appends old between first
    → AppendsAllBut between new text rest
    → AppendsAllBut old new (first ++ text) rest
AppendsAllBut-after old between new first text rest whole more = record {
  front = first ++ more.front;
  split = ap (λ l. first ++ l) more.split ∙ sym (append_assoc first more.front rest);
  appended = Appends-trans old between new first more.front whole more.appended;
}

-- If a text continues, its rest continues too.
AppendsAllBut-before : (old new : Option (List ℕ)) (text last rest : List ℕ)
    → AppendsAllBut old new text rest
    → AppendsAllBut old new (text ++ last) (rest ++ last)
AppendsAllBut-before old new text last rest part = record {
  front = part.front;
  split = ap (λ l. l ++ last) part.split ∙ append_assoc part.front rest last;
  appended = part.appended;
}

true_or_false : (b : Bool) → (b ≡ true) ⊎ (b ≡ false)
true_or_false true = inl refl
true_or_false false = inr refl

module _ {W : Type 0} (contents : W → Option (List ℕ)) where
  -- Nothing is sent.
  pub Sends-none : (out : Watched W) → Sends contents out out []
  Sends-none out = record {
    ok = λ well. (well, Appends-nil (contents (watched_inner out)));
    part = λ _. ([], AppendsAllBut-none (contents (watched_inner out)) []);
    still = λ _. refl;
    calls = le_refl (calls_left out);
  }

  -- One text is sent, and then another.
  pub Sends-then : (a b c : Watched W) (first last : List ℕ)
      → Sends contents a b first
      → Sends contents b c last
      → Sends contents a c (first ++ last)
  Sends-then a b c first last p q = record {
    ok =
        λ well.
        let later = q.ok well in
        let sooner = p.ok later.0 in (
          sooner.0,
          Appends-trans (contents (watched_inner a)) (contents (watched_inner b))
              (contents (watched_inner c)) first last sooner.1 later.1,
        );
    part = λ failed. elim (true_or_false (has_failed b)) [
      | inl sooner ↦
          let same : c ≡ b = q.still sooner in
          let w = p.part sooner in (
            w.0 ++ last,
            subst
                (λ (x : Watched W).
                AppendsAllBut (contents (watched_inner a)) (contents (watched_inner x))
                (first ++ last)
                (w.0 ++ last)) (sym same)
                (AppendsAllBut-before (contents (watched_inner a)) (contents (watched_inner b))
                first last w.0 w.1),
          )
      | inr well ↦
          let whole = p.ok well in
          let w = q.part failed in (
            w.0,
            AppendsAllBut-after (contents (watched_inner a)) (contents (watched_inner b))
                (contents (watched_inner c)) first last w.0 whole.1 w.1,
          )
    ];
    still =
        λ failed. let same : b ≡ a = p.still failed in q.still (ap has_failed same ∙ failed) ∙ same;
    calls = le_trans q.calls p.calls;
  }
