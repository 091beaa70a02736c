-- Tables, one by one.
use Rattle.std.proofs.Common.{◌≡◌, ◌<◌, ◌+◌, ℕ, List, [], ◌∷◌, ◌++◌, length, take, get_or, subst, sym, ap, ◌∙◌, inl}
use Rattle.std.proofs.lemmas.List.{length_push, take_more}
use Rattle.std.proofs.lemmas.Option.{slice_get-get_or}
use Rattle.btf_tables.specs.Tables.{Table}
use Rattle.morvezin.specs.Calls.{AreInvalid, AreTables, HasFaulty, HoldsGiven, IsFaulty, NoKind, Says}
use Rattle.morvezin.specs.declared.inputs.Types.{Types}
use Rattle.morvezin.specs.declared.failure.Failure.{Failure}
use Rattle.morvezin.specs.declared.failure.Failure.TheVariants as failure

added : (all : List Types) (tables : List Table) (given : Types) (table : Table)
    → AreTables all tables
    → HoldsGiven given table
    → AreTables (all ++ given ∷ []) (tables ++ table ∷ [])
added [] [] given table are holds = (holds, tt)
added (first ∷ all) (one ∷ tables) given table are holds =
    (are.0, added all tables given table are.1 holds)
added [] (one ∷ tables) given table are holds = absurd are
added (first ∷ all) [] given table are holds = absurd are

-- One more table of those that are given.
pub one_more : (all : List Types) (i : ℕ) (d : Types) (tables new : List Table) (table : Table)
    → i < length all
    → new ≡ tables ++ table ∷ []
    → AreTables (take i all) tables
    → HoldsGiven (get_or all i d) table
    → AreTables (take (i + 1) all) new
one_more all i d tables new table below is_new are holds =
    subst (λ given. AreTables given new) (sym (take_more all i d below))
    (subst (λ made. AreTables (take i all ++ get_or all i d ∷ []) made) (sym is_new)
    (added (take i all) tables (get_or all i d) table are holds))

-- The same with the number of tables.
pub next : (all : List Types) (i : ℕ) (d : Types) (tables new : List Table) (table : Table)
    → i < length all
    → new ≡ tables ++ table ∷ []
    → AreTables (take i all) tables × (length tables ≡ i)
    → HoldsGiven (get_or all i d) table
    → AreTables (take (i + 1) all) new × (length new ≡ i + 1)
next all i d tables new table below is_new are holds = (
  one_more all i d tables new table below is_new are.0 holds,
  subst (λ made. length made ≡ i + 1) (sym is_new) (length_push tables table ∙ ap (λ n. n + 1) are.1),
)

-- A fault of one of the tables that are given.
pub invalid_at : (all : List Types) (i : ℕ) (d : Types) (e : Failure)
    → i < length all
    → Says NoKind ⊥ (IsFaulty (get_or all i d)) e
    → Says NoKind ⊥ (AreInvalid all) e
invalid_at all i d (failure.Refused kind text) below said = said
invalid_at all i d (failure.Settings text) below said = said
invalid_at all i d (failure.Types text) below said =
    inl (record { index = i; given = get_or all i d; at = slice_get-get_or all i d below; error = said.error; fault = said.fault })
invalid_at all i d failure.OutOfMemory below said = said
