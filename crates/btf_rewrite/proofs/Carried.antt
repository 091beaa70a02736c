-- The records and texts that a rewriting keeps.
use Rattle.std.proofs.Common.{◌≡◌, ℕ, ◌&&◌, Bool, true, false, List, Option, None, Some, is_some, refl}
use Rattle.std.specs.Prelude.{All, IfSome, IsSomeAnd}
use Rattle.std.proofs.lemmas.List.Elements.{All-head}
use Rattle.btf_rewrite.specs.Ksyms.{StepKeeps, leaves}
use Rattle.btf_records.specs.Fields.{name_offset_of}
use Rattle.btf_records.specs.declared.types.BtfType.{BtfType}
use Rattle.btf_sanitize.specs.Answers.{Answers}
use Rattle.btf_sanitize.specs.Kept.{Keeps}
use Rattle.btf_sanitize.specs.Stays.{stays}
use Rattle.btf_rewrite.specs.Carrying.{AreReadable, Carries, stays_in}
use Rattle.btf_tables.specs.GrownTables.{TextsStay}
use Rattle.btf_tables.specs.Holdings.{held_names, item_names}
use Rattle.btf_rewrite.specs.Sanitizing.{StepStays, facts_in, ksyms_in, stepped}
use Rattle.btf_tables.specs.Tables.{Table, type_by_id}
use Rattle.string_table.specs.Texts.{text_at}

same_record : (one other : Option BtfType) (is_left : BtfType → Bool) → IsSomeAnd one (λ t. is_left t ≡ true) → ((t : BtfType) → one ≡ Some t → is_left t ≡ true → other ≡ Some t) → other ≡ one
same_record None other is_left there keeps = absurd there
same_record (Some t) other is_left there keeps = keeps t refl there

same_text : (one other : Option (List ℕ)) → is_some one ≡ true → ((text : List ℕ) → one ≡ Some text → other ≡ Some text) → other ≡ one
same_text None other there stays = absurd cc
same_text (Some text) other there stays = stays text refl

same_texts : (one other : List ℕ) (t : Option BtfType) → ((offset : ℕ) (text : List ℕ) → text_at one offset ≡ Some text → text_at other offset ≡ Some text) → IfSome t (λ u. All (λ offset. is_some (text_at one offset) ≡ true) (held_names u)) → IfSome t (λ u. All (λ offset. text_at other offset ≡ text_at one offset) (held_names u))
same_texts one other None stay readable = tt
same_texts one other (Some u) stay readable = λ i d lt. same_text _ _ (readable i d lt) (stay _)

own_names : (one other : List ℕ) (t : Option BtfType) → IfSome t (λ u. All (λ offset. text_at other offset ≡ text_at one offset) (held_names u)) → IfSome t (λ u. text_at other (name_offset_of u) ≡ text_at one (name_offset_of u))
own_names one other None same = tt
own_names one other (Some u) same = All-head (λ offset. text_at other offset ≡ text_at one offset) (name_offset_of u) (item_names u) same

carried : (is_left : ℕ → BtfType → Bool) (one other : Table) → ((id : ℕ) (t : BtfType) → type_by_id one id ≡ Some t → is_left id t ≡ true → type_by_id other id ≡ Some t) → TextsStay one other → Carries is_left one other
carried is_left one other keeps texts =
    let same = λ (reached : ℕ → Bool) (readable : AreReadable reached one) (id : ℕ) (here : reached id ≡ true). same_texts one.strings other.strings (type_by_id one id) texts.stay (readable.each id here) in
    record {
      ids = λ reached left. record {
        same = λ id here. same_record (type_by_id one id) (type_by_id other id) (is_left id) (left.left id here) (keeps id);
        closed = left.closed;
      };
      names = λ reached readable. record { same = λ id here. own_names one.strings other.strings (type_by_id one id) (same reached readable id here) };
      texts = λ reached readable. record { same = same reached readable };
    }

-- The rewriting of `.ksyms` carries results over.
pub step_carries : (section : ℕ) (placeholder : Option ℕ) (old new : Table) → StepKeeps (ksyms_in old section placeholder) new.types → TextsStay old new → Carries (leaves (ksyms_in old section placeholder)) old new
step_carries section placeholder old new keeps texts = carried (leaves (ksyms_in old section placeholder)) old new keeps.left texts

both : (a b : Bool) → (a && b) ≡ true → (a ≡ true) × (b ≡ true)
both true b h = (refl, h)
both false b h = absurd cc

left_over : (ids : Option (ℕ × Option ℕ)) (answers : Answers) (sizes offsets : List ℕ → Option ℕ) (old new : Table) → StepStays ids old → Keeps (facts_in answers sizes offsets (stepped ids old)) new.types → (id : ℕ) (t : BtfType) → type_by_id old id ≡ Some t → stays_in ids old (facts_in answers sizes offsets (stepped ids old)) id t ≡ true → type_by_id new id ≡ Some t
left_over None answers sizes offsets old new step keeps id t here left = keeps.left id t here left
left_over (Some ids) answers sizes offsets old new step keeps id t here left =
    let known = facts_in answers sizes offsets (stepped (Some ids) old) in
    let each = both (leaves (ksyms_in old ids.0 ids.1) id t) (stays known t) left in
    keeps.left id t (step.left id t here each.0) each.1

-- The whole rewriting carries results over.
pub rewriting_carries : (ids : Option (ℕ × Option ℕ)) (answers : Answers) (sizes offsets : List ℕ → Option ℕ) (old new : Table) → StepStays ids old → Keeps (facts_in answers sizes offsets (stepped ids old)) new.types → TextsStay old new → Carries (stays_in ids old (facts_in answers sizes offsets (stepped ids old))) old new
rewriting_carries ids answers sizes offsets old new step keeps texts = carried (stays_in ids old (facts_in answers sizes offsets (stepped ids old))) old new (left_over ids answers sizes offsets old new step keeps) texts
