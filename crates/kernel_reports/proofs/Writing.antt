-- Lines that are written one after another.
use Rattle.std.proofs.Common.{◌≡◌, ℕ, List, [], ◌∷◌, ◌++◌, ap, sym, ◌∙◌, append_assoc, append-nil, subst}
use Rattle.std.specs.List.{AllByRecursion}
use Rattle.object_externs.specs.Externs.{ExternContent}
use Rattle.kernel_reports.proofs.Lines.{assumed}
use Rattle.kernel_reports.specs.Symbols.{IsAssumed, IsPlainName, assumed_line, assumed_text}

-- The externs before the rest have their lines.
pub record AreWritten (all rest : List (List ℕ × ExternContent)) (text : List ℕ) : Type 0 where
  pub front : List (List ℕ × ExternContent)
  pub split : all ≡ front ++ rest
  pub lines : text ≡ assumed_text front
  pub plain : AllByRecursion IsPlainName front

text_more : (front : List (List ℕ × ExternContent)) (e : List ℕ × ExternContent) → assumed_text (front ++ e ∷ []) ≡ assumed_text front ++ assumed_line e
text_more [] e = append-nil (assumed_line e)
text_more (f ∷ front) e = ap (λ l. assumed_line f ++ l) (text_more front e) ∙ sym (append_assoc (assumed_line f) (assumed_text front) (assumed_line e))

plain_more : (front : List (List ℕ × ExternContent)) (e : List ℕ × ExternContent) → AllByRecursion IsPlainName front → IsPlainName e → AllByRecursion IsPlainName (front ++ e ∷ [])
plain_more [] e h k = (k, tt)
plain_more (f ∷ front) e h k = (h.0, plain_more front e h.1 k)

pub none_written : (all rest : List (List ℕ × ExternContent)) (text : List ℕ) → rest ≡ all → text ≡ [] → AreWritten all rest text
none_written all rest text whole empty = record { front = []; split = sym whole; lines = empty; plain = tt }

pub one_more : (all rest more : List (List ℕ × ExternContent)) (e : List ℕ × ExternContent) (old new : List ℕ) → rest ≡ e ∷ more → AreWritten all rest old → new ≡ old ++ assumed_line e → IsPlainName e → AreWritten all more new
one_more all rest more e old new next before line plain = record {
  front = before.front ++ e ∷ [];
  split = before.split ∙ ap (λ l. before.front ++ l) next ∙ sym (append_assoc before.front (e ∷ []) more);
  lines = line ∙ ap (λ l. l ++ assumed_line e) before.lines ∙ sym (text_more before.front e);
  plain = plain_more before.front e before.plain plain;
}

pub all_written : (all rest : List (List ℕ × ExternContent)) (text : List ℕ) → rest ≡ [] → AreWritten all rest text → IsAssumed all text
all_written all rest text none before =
    let same : before.front ≡ all = sym (before.split ∙ ap (λ l. before.front ++ l) none ∙ append-nil before.front) in
    assumed all text (subst (AllByRecursion IsPlainName) same before.plain) (before.lines ∙ ap assumed_text same)
