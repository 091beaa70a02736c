-- Type relocations that are made one after the other.
use Rattle.std.proofs.Common.{arith, ◌≡◌, ◌⊎◌, ℕ, ◌+◌, ◌<◌, ◌≤◌, List, [], ◌∷◌, ◌++◌, drop, length, get_or, map, Option, Some, inl, inr, refl, sym, ap, ◌∙◌, subst, append_assoc, append-nil, add-one, drop-cons}
use Rattle.std.proofs.lemmas.Grind.{common_steps}
use Rattle.std.specs.Map.{values_of}
use Rattle.std.specs.Option.{option_to_list}
use Rattle.btf_ext.specs.SectionInfos.{SectionInfo}
use Rattle.btf_ext.specs.declared.record.bpf_core_relo.{bpf_core_relo}
use Rattle.object_parts.specs.Content.{FunctionContent}
use Rattle.core_relocation.specs.Faults.{CanBeRelocated, HasTypesFault, RecordsFault, SectionInfosFault, WritesFault}
use Rattle.core_relocation.specs.Relocations.{SectionInfos, TypesGiven, all_placed, placed, placed_among, placed_section_info}
use Rattle.core_relocation.specs.Walks.{AllTake, AreMade, HasWriteFault, IsRefusedAmong, MakesAll, RecordFault, SectionInfoFault, StandsNone, after_relocation}
use Rattle.core_relocation.specs.Writes.{inside_of, with_types}
use Rattle.relocation_errors.specs.declared.type_relocations.BtfRelocationCause.{BtfRelocationCause}
use Rattle.core_relocation.specs.declared.placed_relocation.PlacedRelocation.{PlacedRelocation}
use Rattle.core_relocation.proofs.Writing.{all_one_more, all_sound, as_before, fault_among, fault_with_more, no_writes_fault, none_refused}

abbrev Listed : Type 0
Listed = List FunctionContent

-- ---- Relocations after others

none_made : (g : TypesGiven) (list : Listed) → list ≡ values_of g.functions → AreMade g [] list
none_made g list is = record { functions = is ∙ as_before (values_of g.functions); sound = none_refused g.functions }

nothing_made : (g : TypesGiven) (list : Listed) → MakesAll g [] list list
nothing_made g list = record { after = λ before are. subst (λ ps. AreMade g ps list) (sym (append-nil before)) are }

makes_both : (g : TypesGiven) (ps more : List PlacedRelocation) (old now new : Listed) → MakesAll g ps old now → MakesAll g more now new → MakesAll g (ps ++ more) old new
makes_both g ps more old now new one other = record {
  after = λ before are. subst (λ l. AreMade g l new) (append_assoc before ps more) (other.after (before ++ ps) (one.after before are));
}

abbrev FaultBy : TypesGiven → BtfRelocationCause → List PlacedRelocation → Type 0
FaultBy g c ps = WritesFault (inside_of ps) g.functions c

fault_later : (g : TypesGiven) (ps more : List PlacedRelocation) (old now : Listed) (c : BtfRelocationCause) → MakesAll g ps old now → HasWriteFault g more now c → HasWriteFault g (ps ++ more) old c
fault_later g ps more old now c one fault = record {
  after = λ before are. subst (FaultBy g c) (append_assoc before ps more) (fault.after (before ++ ps) (one.after before are));
}

fault_sooner : (g : TypesGiven) (ps more : List PlacedRelocation) (old : Listed) (c : BtfRelocationCause) → HasWriteFault g ps old c → HasWriteFault g (ps ++ more) old c
fault_sooner g ps more old c fault = record {
  after = λ before are. subst (FaultBy g c) (append_assoc before ps more) (fault_with_more (before ++ ps) more g.functions c (fault.after before are));
}

-- One relocation is made, or its write has a fault.
pub one_made : (g : TypesGiven) (section : Option ℕ) (r : bpf_core_relo) (p : PlacedRelocation) (old new : Listed) → placed g section r ≡ Some p → new ≡ map (after_relocation p) old → AllTake p old → MakesAll g (option_to_list (placed g section r)) old new
one_made g section r p old new at is took = record {
  after = λ before are.
      subst (λ (o : Option PlacedRelocation). AreMade g (before ++ option_to_list o) new) (sym at)
      (record {
        functions = is ∙ ap (map (after_relocation p)) are.functions ∙ all_one_more before p (values_of g.functions);
        sound = all_sound before p g.functions (subst (AllTake p) are.functions took) are.sound;
      });
}

pub one_refused : (g : TypesGiven) (section : Option ℕ) (r : bpf_core_relo) (p : PlacedRelocation) (old : Listed) (c : BtfRelocationCause) → placed g section r ≡ Some p → IsRefusedAmong p old c → HasWriteFault g (option_to_list (placed g section r)) old c
one_refused g section r p old c at refused = record {
  after = λ before are.
      subst (λ (o : Option PlacedRelocation). FaultBy g c (before ++ option_to_list o)) (sym at)
      (fault_among before p g.functions c (subst (λ l. IsRefusedAmong p l c) are.functions refused));
}

-- ---- Lists

nothing_left : {A : Type 0} (xs : List A) (i : ℕ) → length xs ≤ i → drop i xs ≡ []
nothing_left xs i le = grind (arith, common_steps)

this_one : {A : Type 0} (xs : List A) (i : ℕ) (d x : A) → i < length xs → x ≡ get_or xs i d → drop i xs ≡ x ∷ drop (i + 1) xs
this_one xs i d x lt is = rw add-one (drop-cons xs i d lt) ∙ ap (λ y. y ∷ drop (i + 1) xs) (sym is)

past_this : {A B C : Type 0} → A ⊎ (B ⊎ C) → (A ⊎ B → ⊥) → C
past_this (inl a) none = absurd (none (inl a))
past_this (inr (inl b)) none = absurd (none (inr b))
past_this (inr (inr c)) none = c

at_this : {A B C : Type 0} → A ⊎ B → A ⊎ (B ⊎ C)
at_this (inl a) = inl a
at_this (inr b) = inr (inl b)

either : {A B C D : Type 0} → A ⊎ B → (A → C) → (B → D) → C ⊎ D
either (inl a) one other = inl (one a)
either (inr b) one other = inr (other b)

neither : {A B : Type 0} → (A → ⊥) → (B → ⊥) → A ⊎ B → ⊥
neither no_one no_other (inl a) = no_one a
neither no_one no_other (inr b) = no_other b

-- ---- The relocations of a section info

-- The remaining records come after those that were made. They have a fault iff some record has it.
pub record AreRecordsMade (g : TypesGiven) (section : Option ℕ) (records : List bpf_core_relo) (number : ℕ) (old now : Listed) : Type 0 where
  pub makes : (new : Listed) → MakesAll g (placed_among g section (drop number records)) now new → MakesAll g (placed_among g section records) old new
  pub fault : (c : BtfRelocationCause) → HasWriteFault g (placed_among g section (drop number records)) now c → HasWriteFault g (placed_among g section records) old c
  pub onward : (c : BtfRelocationCause) → RecordsFault g section records c → RecordsFault g section (drop number records) c
  pub back : (c : BtfRelocationCause) → RecordsFault g section (drop number records) c → RecordsFault g section records c

module _ (g : TypesGiven) (section : Option ℕ) (records : List bpf_core_relo) (old : Listed) where
  pub no_record_yet : AreRecordsMade g section records 0 old old
  no_record_yet = record { makes = λ new h. h; fault = λ c h. h; onward = λ c h. h; back = λ c h. h }

  pub record_next : (n : ℕ) (now new : Listed) (d r : bpf_core_relo) → n < length records → r ≡ get_or records n d → AreRecordsMade g section records n old now → MakesAll g (option_to_list (placed g section r)) now new → StandsNone (RecordFault g section r) → AreRecordsMade g section records (n + 1) old new
  record_next n now new d r lt here so made sound =
      let split = this_one records n d r lt here in
      let one = option_to_list (placed g section r) in
      let more = placed_among g section (drop (n + 1) records) in
      record {
        makes = λ last h. so.makes last (subst (λ l. MakesAll g (placed_among g section l) now last) (sym split) (makes_both g one more now new last made h));
        fault = λ c h. so.fault c (subst (λ l. HasWriteFault g (placed_among g section l) now c) (sym split) (fault_later g one more now new c made h));
        onward = λ c h. past_this (subst (λ l. RecordsFault g section l c) split (so.onward c h)) (sound.none c);
        back = λ c h. so.back c (subst (λ l. RecordsFault g section l c) (sym split) (inr (inr h)));
      }

  pub all_records : (n : ℕ) (now : Listed) → length records ≤ n → AreRecordsMade g section records n old now → MakesAll g (placed_among g section records) old now
  all_records n now le so = so.makes now (subst (λ l. MakesAll g (placed_among g section l) now now) (sym (nothing_left records n le)) (nothing_made g now))

  pub no_record_refused : (n : ℕ) (now : Listed) → length records ≤ n → AreRecordsMade g section records n old now → StandsNone (RecordsFault g section records)
  no_record_refused n now le so = record { none = λ c h. subst (λ l. RecordsFault g section l c) (nothing_left records n le) (so.onward c h) }

  pub record_refused : (n : ℕ) (now : Listed) (d r : bpf_core_relo) (c : BtfRelocationCause) → n < length records → r ≡ get_or records n d → AreRecordsMade g section records n old now → RecordFault g section r c ⊎ HasWriteFault g (option_to_list (placed g section r)) now c → RecordsFault g section records c ⊎ HasWriteFault g (placed_among g section records) old c
  record_refused n now d r c lt here so fault =
      let split = this_one records n d r lt here in
      let one = option_to_list (placed g section r) in
      let more = placed_among g section (drop (n + 1) records) in
      either fault
      (λ h. so.back c (subst (λ l. RecordsFault g section l c) (sym split) (at_this h)))
      (λ h. so.fault c (subst (λ l. HasWriteFault g (placed_among g section l) now c) (sym split) (fault_sooner g one more now c h)))

-- ---- The section infos

pub record AreSectionInfosMade (g : TypesGiven) (section_infos : SectionInfos) (number : ℕ) (old now : Listed) : Type 0 where
  pub makes : (new : Listed) → MakesAll g (all_placed g (drop number section_infos)) now new → MakesAll g (all_placed g section_infos) old new
  pub fault : (c : BtfRelocationCause) → HasWriteFault g (all_placed g (drop number section_infos)) now c → HasWriteFault g (all_placed g section_infos) old c
  pub onward : (c : BtfRelocationCause) → SectionInfosFault g section_infos c → SectionInfosFault g (drop number section_infos) c
  pub back : (c : BtfRelocationCause) → SectionInfosFault g (drop number section_infos) c → SectionInfosFault g section_infos c

module _ (g : TypesGiven) (section_infos : SectionInfos) (old : Listed) where
  pub no_section_info_yet : AreSectionInfosMade g section_infos 0 old old
  no_section_info_yet = record { makes = λ new h. h; fault = λ c h. h; onward = λ c h. h; back = λ c h. h }

  pub section_info_next : (n : ℕ) (now new : Listed) (d x : SectionInfo bpf_core_relo) → n < length section_infos → x ≡ get_or section_infos n d → AreSectionInfosMade g section_infos n old now → MakesAll g (placed_section_info g x) now new → StandsNone (SectionInfoFault g x) → AreSectionInfosMade g section_infos (n + 1) old new
  section_info_next n now new d x lt here so made sound =
      let split = this_one section_infos n d x lt here in
      let one = placed_section_info g x in
      let more = all_placed g (drop (n + 1) section_infos) in
      record {
        makes = λ last h. so.makes last (subst (λ l. MakesAll g (all_placed g l) now last) (sym split) (makes_both g one more now new last made h));
        fault = λ c h. so.fault c (subst (λ l. HasWriteFault g (all_placed g l) now c) (sym split) (fault_later g one more now new c made h));
        onward = λ c h. past_this (subst (λ l. SectionInfosFault g l c) split (so.onward c h)) (sound.none c);
        back = λ c h. so.back c (subst (λ l. SectionInfosFault g l c) (sym split) (inr (inr h)));
      }

  pub all_section_infos : (n : ℕ) (now : Listed) → length section_infos ≤ n → AreSectionInfosMade g section_infos n old now → MakesAll g (all_placed g section_infos) old now
  all_section_infos n now le so = so.makes now (subst (λ l. MakesAll g (all_placed g l) now now) (sym (nothing_left section_infos n le)) (nothing_made g now))

  pub no_section_info_refused : (n : ℕ) (now : Listed) → length section_infos ≤ n → AreSectionInfosMade g section_infos n old now → StandsNone (SectionInfosFault g section_infos)
  no_section_info_refused n now le so = record { none = λ c h. subst (λ l. SectionInfosFault g l c) (nothing_left section_infos n le) (so.onward c h) }

  pub section_info_refused : (n : ℕ) (now : Listed) (d x : SectionInfo bpf_core_relo) (c : BtfRelocationCause) → n < length section_infos → x ≡ get_or section_infos n d → AreSectionInfosMade g section_infos n old now → SectionInfoFault g x c ⊎ HasWriteFault g (placed_section_info g x) now c → SectionInfosFault g section_infos c ⊎ HasWriteFault g (all_placed g section_infos) old c
  section_info_refused n now d x c lt here so fault =
      let split = this_one section_infos n d x lt here in
      let one = placed_section_info g x in
      let more = all_placed g (drop (n + 1) section_infos) in
      either fault
      (λ h. so.back c (subst (λ l. SectionInfosFault g l c) (sym split) (at_this h)))
      (λ h. so.fault c (subst (λ l. HasWriteFault g (all_placed g l) now c) (sym split) (fault_sooner g one more now c h)))

-- ---- All relocations, in copies of the functions

module _ (g : TypesGiven) (section_infos : SectionInfos) (copies : Listed) where
  pub all_made : (list : Listed) → copies ≡ values_of g.functions → MakesAll g (all_placed g section_infos) copies list → list ≡ map (with_types g section_infos) (values_of g.functions)
  all_made list are made = let done = made.after [] (none_made g copies are) in done.functions

  pub none_refused_of : (list : Listed) → copies ≡ values_of g.functions → MakesAll g (all_placed g section_infos) copies list → StandsNone (SectionInfosFault g section_infos) → CanBeRelocated g section_infos
  none_refused_of list are made sound =
      let done = made.after [] (none_made g copies are) in
      record { none = λ c h. neither (sound.none c) (no_writes_fault (all_placed g section_infos) g.functions c done.sound) h }

  pub one_fault : (c : BtfRelocationCause) → copies ≡ values_of g.functions → SectionInfosFault g section_infos c ⊎ HasWriteFault g (all_placed g section_infos) copies c → HasTypesFault g section_infos c
  one_fault c are fault = either fault (λ h. h) (λ h. h.after [] (none_made g copies are))
