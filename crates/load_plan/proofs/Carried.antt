-- The slots of a plan's program, by the slots of the object's functions.
use Rattle.std.proofs.Common.{◌≡◌, ◌⊎◌, ℕ, zero, suc, ◌+◌, ◌<◌, ◌==◌, List, [], ◌∷◌, map, length, Bool, true, false, Option, Some, None, refl, sym, ap, ◌∙◌, subst, inl, inr, arith}
use Rattle.std.proofs.lemmas.Bool.Decides.{nat_tests}
use Rattle.std.specs.Prelude.{ℤ, pos, ◌&&◌, if◌then◌else◌, is_some, slice_get, unwrap_or}
use Rattle.ebpf_object.specs.TypeRelocations.{type_section_infos, types_of}
use Rattle.ebpf_items.specs.Instruction.{calls_newer_helper, dst_reg_of, is_helper_call, older_helper, src_reg_of, with_older_helper}
use Rattle.ebpf_items.specs.declared.instruction.bpf_insn.{bpf_insn}
use Rattle.elf64.specs.Relocations.{Relocation}
use Rattle.slot_relocation.specs.Externs.{missing_number}
use Rattle.slot_relocation.specs.ExternLaws as externs
use Rattle.slot_relocation.specs.declared.extern_rule.Resolution.{Resolution}
use Rattle.slot_relocation.specs.declared.extern_rule.Resolution.TheVariants.{Id, Address, Missing, Unresolved}
use Rattle.linker.specs.Copies.{SlotsAreCopied}
use Rattle.linker.specs.Copies.{IsCopy}
use Rattle.linker.specs.Layout.{Key, linked, placed, ref_at}
use Rattle.linker.specs.Unlinked.{Unlinked, slots_in, table_of}
use Rattle.object_parts.specs.Content.{FunctionContent, function_at}
use Rattle.plan_text.specs.Content.{MapContent}
use Rattle.slot_relocation.specs.BySymbol.{symbol_index}
use Rattle.slot_relocation.specs.Laws as maps
use Rattle.slot_relocation.specs.Laws.{CarriesNumber, map_of, mark_of}
use Rattle.slot_relocation.specs.Maps.{MapsGiven, NumberedMap}
use Rattle.slot_relocation.specs.Writes.{index_of_slot}
use Rattle.slot_relocation.specs.declared.outcome.Write.{Write}
use Rattle.load_plan.specs.Inputs.{Inputs, State, Under, keeps_helpers}
use Rattle.load_plan.specs.Passes.{maps_given, unlinked_of}
use Rattle.load_plan.specs.Programs.{AreSlotsOf, Before, HasBecome, HasMap, HasType, IsCopied, NumbersMap, PutsExtern, PutsNumber, PutsType, WritesExtern, WritesNumber, WritesType, for_helpers}
use Rattle.core_relocation.specs.Laws as types

abbrev Keyed : Type 0
Keyed = List (Key × FunctionContent)

-- Slots for a kernel that has the newer helpers or lacks them.
abbrev pub kernel_slots : Bool → List bpf_insn → List bpf_insn
kernel_slots true slots = slots
kernel_slots false slots = map with_older_helper slots

none_of : (o : Option ℤ) → is_some o ≡ false → o ≡ None
none_of None h = refl
none_of (Some x) h = absurd (cc)

same_if : (b : Bool) (s : bpf_insn) → (b && is_some (older_helper s.imm)) ≡ false → (if b then record s { imm = unwrap_or (older_helper s.imm) s.imm } else s) ≡ s
same_if true s h = ap (λ (o : Option ℤ). record s { imm = unwrap_or o s.imm }) (none_of (older_helper s.imm) h)
same_if false s h = refl

same_slot : (s : bpf_insn) → calls_newer_helper s ≡ false → with_older_helper s ≡ s
same_slot s h = same_if (is_helper_call s) s h

get_renamed : (slots : List bpf_insn) (i : ℕ) (s : bpf_insn) → slice_get slots i ≡ Some s → slice_get (map with_older_helper slots) i ≡ Some (with_older_helper s)
get_renamed [] i s h = absurd (cc)
get_renamed (x ∷ xs) zero s h = let same : x ≡ s = cc in ap (λ y. Some (with_older_helper y)) same
get_renamed (x ∷ xs) (suc i) s h = get_renamed xs i s h

get_kernel : (has_helpers : Bool) (slots : List bpf_insn) (i : ℕ) (s : bpf_insn) → slice_get slots i ≡ Some s → slice_get (kernel_slots has_helpers slots) i ≡ Some (for_helpers has_helpers s)
get_kernel true slots i s here = here
get_kernel false slots i s here = get_renamed slots i s here

-- A slot that calls no newer helper is unchanged.
kept_slot : (has_helpers : Bool) (s : bpf_insn) → calls_newer_helper s ≡ false → for_helpers has_helpers s ≡ s
kept_slot true s older = refl
kept_slot false s older = same_slot s older

-- A slot that carries a map's number calls no helper.
not_helper : (code zero dst newer : Bool) → zero ≡ false → ((code && zero && dst) && newer) ≡ false
not_helper true true dst newer h = absurd (cc)
not_helper true false dst newer h = refl
not_helper false z dst newer h = refl

marked : (bytes : List ℕ) (n : ℕ) → n ≡ mark_of bytes → (n == 0) ≡ false
marked [] n h = ap (λ m. m == 0) h
marked (b ∷ bs) n h = ap (λ m. m == 0) h

number_kept : (g : MapsGiven) (r : Relocation) (s : bpf_insn) → CarriesNumber g r s → calls_newer_helper s ≡ false
number_kept g r s carried =
    not_helper (s.code == 0x85) (src_reg_of s == 0) (dst_reg_of s == 0) (is_some (older_helper s.imm)) (marked carried.map.map.contents (src_reg_of s) carried.source)

-- A slot that carries what is known about an extern calls no newer helper.
not_newer : (helper newer : Bool) → newer ≡ false → (helper && newer) ≡ false
not_newer true newer h = h
not_newer false newer h = refl

not_call : (code source dst newer : Bool) → code ≡ false → ((code && source && dst) && newer) ≡ false
not_call code source dst newer h = ap (λ b. (b && source && dst) && newer) h

past_helpers : (n : ℕ) → is_some (older_helper (pos (missing_number n))) ≡ false
past_helpers n = grind (arith, nat_tests)

call_kept : (s : bpf_insn) (index : ℕ) (resolution : Resolution) → externs.CallCarries s index resolution → calls_newer_helper s ≡ false
call_kept s index (Id id) carried = not_helper (s.code == 0x85) (src_reg_of s == 0) (dst_reg_of s == 0) (is_some (older_helper s.imm)) (ap (λ m. m == 0) carried.0)
call_kept s index (Address address) carried = absurd carried
call_kept s index Missing carried = not_newer (is_helper_call s) (is_some (older_helper s.imm)) (ap (λ i. is_some (older_helper i)) carried.2 ∙ past_helpers index)
call_kept s index Unresolved carried = absurd carried

extern_kept_by : (s : bpf_insn) (index : ℕ) (resolution : Resolution) → ((s.code ≡ 0x85) × externs.CallCarries s index resolution) ⊎ ((s.code ≡ 0x18) × externs.LoadCarries s resolution) → calls_newer_helper s ≡ false
extern_kept_by s index resolution (inl call) = call_kept s index resolution call.1
extern_kept_by s index resolution (inr load) = not_call (s.code == 0x85) (src_reg_of s == 0) (dst_reg_of s == 0) (is_some (older_helper s.imm)) (ap (λ m. m == 0x85) load.0)

extern_kept : (file : List ℕ) (by_name : externs.ByName) (r : Relocation) (s : bpf_insn) → externs.CarriesExtern file by_name r s → calls_newer_helper s ≡ false
extern_kept file by_name r s carried = extern_kept_by s (symbol_index r) carried.resolution carried.carried

-- The slots of a function in the list.
slots_of : (u : Unlinked) (key : Key) (h : FunctionContent) → function_at u.functions key ≡ Some h → (table_of u).slots key ≡ h.instructions
unfolding table_of
slots_of u key h here = ap slots_in here

-- A slot that refers to no function is in each copy of its function.
copied : SlotsAreCopied → (u : Unlinked) (own : Key) (keys : List Key) (key : Key) (start place : ℕ) (h : FunctionContent) (s : bpf_insn) → IsCopy (table_of u) own keys key start → function_at u.functions key ≡ Some h → slice_get h.instructions place ≡ Some s → ref_at (table_of u) key place ≡ None → slice_get (linked (table_of u) own keys) (start + place) ≡ Some s
copied law u own keys key start place h s copy here at refers =
    law.each (table_of u) own keys key start place s copy (ap (λ (l : List bpf_insn). slice_get l place) (slots_of u key h here) ∙ at)
    ∙ ap (λ (r : Option Key). Some (placed (table_of u) own keys r (start + place) s)) refers

-- A list of the same length has an element at the index.
get_there : (l : List bpf_insn) (i : ℕ) (others : List bpf_insn) (s : bpf_insn) → slice_get l i ≡ Some s → length others ≡ length l → (x : bpf_insn) × (slice_get others i ≡ Some x)
get_there [] i others s here as_many = absurd (cc)
get_there (y ∷ ys) i [] s here as_many = absurd (cc)
get_there (y ∷ ys) zero (x ∷ xs) s here as_many = (x, refl)
get_there (y ∷ ys) (suc i) (x ∷ xs) s here as_many = let fewer : length xs ≡ length ys = cc in get_there ys i xs s here fewer

is_there : (l : List bpf_insn) (i : ℕ) (s : bpf_insn) → slice_get l i ≡ Some s → i < length l
is_there [] i s h = absurd (cc)
is_there (y ∷ ys) zero s h = omega arith
is_there (y ∷ ys) (suc i) s h = let k = is_there ys i s h in let l : suc i < suc (length ys) = omega (arith, k) in l

-- A function before these passes, between them, and after them.
record Stages (i : Inputs) (b : Before) (patched : State) (key : Key) (e f h k : FunctionContent) : Type 0 where
  first : function_at b.types.functions key ≡ Some e
  before : function_at b.numbers.functions key ≡ Some f
  between : function_at b.externs.functions key ≡ Some h
  after : function_at patched.functions key ≡ Some k
  types : types.HasTypes (types_of b.types i.kernel_types) (type_section_infos b.types) e f
  numbers : maps.HasNumbers (maps_given i.settings b.numbers) f h
  externs : externs.HasExterns b.externs.file b.externs.externs.by_name h k

same_some : (x y : bpf_insn) (o : Option bpf_insn) → o ≡ Some x → o ≡ Some y → x ≡ y
same_some x y o one other = cc

same_function : (f g : FunctionContent) (o : Option FunctionContent) → o ≡ Some f → o ≡ Some g → f ≡ g
same_function f g o one other = cc

module _ (i : Inputs) (u : Under) (b : Before) (patched : State) (whole : List MapContent) (key : Key) (place : ℕ) (e f h k : FunctionContent) (stages : Stages i b patched key e f h k) (s x : bpf_insn) (at : slice_get e.instructions place ≡ Some s) (now : slice_get k.instructions place ≡ Some x) where
  within_mapped : place < length h.instructions
  within_mapped = subst (λ n. place < n) stages.externs.as_many (is_there k.instructions place x now)

  within_typed : place < length f.instructions
  within_typed = subst (λ n. place < n) stages.numbers.as_many within_mapped

  -- A slot that no later pass writes is unchanged at the end.
  past_externs : (WritesExtern b key place → ⊥) → slice_get k.instructions place ≡ slice_get h.instructions place
  past_externs no_extern = stages.externs.others place (λ w. no_extern (h, stages.between, w))

  past_numbers : (WritesNumber i b key place → ⊥) → (WritesExtern b key place → ⊥) → slice_get k.instructions place ≡ slice_get f.instructions place
  past_numbers no_map no_extern = past_externs no_extern ∙ stages.numbers.others place (λ w. no_map (f, stages.before, w))

  unwritten_of : (WritesType i b key place → ⊥) → (WritesNumber i b key place → ⊥) → (WritesExtern b key place → ⊥) → for_helpers (keeps_helpers u) x ≡ for_helpers (keeps_helpers u) s
  unwritten_of no_type no_map no_extern =
      ap (for_helpers (keeps_helpers u)) (same_some x s (slice_get k.instructions place) now
      (past_numbers no_map no_extern ∙ stages.types.others place (λ w. no_type (e, stages.first, w)) ∙ at))

  typed_of : (WritesNumber i b key place → ⊥) → (WritesExtern b key place → ⊥) → (y : bpf_insn) → PutsType i b key place y → (for_helpers (keeps_helpers u) x ≡ for_helpers (keeps_helpers u) y) × HasType i b key place y
  typed_of no_map no_extern y puts =
      let same = same_function puts.0 e (function_at b.types.functions key) puts.1 stages.first in
      let p = subst (λ (z : FunctionContent). types.PutsAt (types_of b.types i.kernel_types) (type_section_infos b.types) z place y) same puts.2 in (
        ap (for_helpers (keeps_helpers u)) (same_some x y (slice_get k.instructions place) now
            (past_numbers no_map no_extern ∙ stages.types.alone place y p (is_there e.instructions place s at))),
        (e, stages.first, stages.types.carried place y p),
      )

  numbers_alone : (WritesExtern b key place → ⊥) → (y : bpf_insn) → PutsNumber i b key place y → for_helpers (keeps_helpers u) x ≡ for_helpers (keeps_helpers u) y
  numbers_alone no_extern y puts =
      let same = same_function puts.0 f (function_at b.numbers.functions key) puts.1 stages.before in
      let p = subst (λ (z : FunctionContent). maps.PutsAt (maps_given i.settings b.numbers) z place y) same puts.2 in
      ap (for_helpers (keeps_helpers u)) (same_some x y (slice_get k.instructions place) now
      (past_externs no_extern ∙ stages.numbers.alone place y p within_typed))

  externs_alone : (y : bpf_insn) → PutsExtern b key place y → for_helpers (keeps_helpers u) x ≡ for_helpers (keeps_helpers u) y
  externs_alone y puts =
      let same = same_function puts.0 h (function_at b.externs.functions key) puts.1 stages.between in
      let p = subst (λ (z : FunctionContent). externs.PutsAt b.externs.file b.externs.externs.by_name z place y) same puts.2 in
      ap (for_helpers (keeps_helpers u)) (same_some x y (slice_get k.instructions place) now (stages.externs.alone place y p within_mapped))

  numbers_of : ((r : Relocation) (m : NumberedMap) → map_of (maps_given i.settings b.numbers) r ≡ Some m → HasMap whole m) → (WritesExtern b key place → ⊥) → (r : ℕ × Relocation) (w : Write) → place ≡ index_of_slot f r.0 → maps.Writes (maps_given i.settings b.numbers) f r w → NumbersMap (maps_given i.settings b.numbers) whole r.1 (for_helpers (keeps_helpers u) x)
  numbers_of among no_extern r w stands writes =
      let slot = stages.numbers.numbers r w writes in
      let same = same_some x slot.0 (slice_get k.instructions place) now (past_externs no_extern ∙ ap (slice_get h.instructions) stands ∙ slot.1) in
      let kept = kept_slot (keeps_helpers u) slot.0 (number_kept (maps_given i.settings b.numbers) r.1 slot.0 slot.2) in
      record {
        carried = subst (λ y. CarriesNumber (maps_given i.settings b.numbers) r.1 y) (sym (ap (for_helpers (keeps_helpers u)) same ∙ kept)) slot.2;
        among = among r.1;
      }

  externs_of : (r : ℕ × Relocation) (w : Write) → place ≡ index_of_slot h r.0 → externs.Writes b.externs.file b.externs.externs.by_name h r w → externs.CarriesExtern b.externs.file b.externs.externs.by_name r.1 (for_helpers (keeps_helpers u) x)
  externs_of r w stands writes =
      let slot = stages.externs.carry r w writes in
      let same = same_some x slot.0 (slice_get k.instructions place) now (ap (slice_get k.instructions) stands ∙ slot.1) in
      let kept = kept_slot (keeps_helpers u) slot.0 (extern_kept b.externs.file b.externs.externs.by_name r.1 slot.0 slot.2) in
      subst (λ y. externs.CarriesExtern b.externs.file b.externs.externs.by_name r.1 y) (sym (ap (for_helpers (keeps_helpers u)) same ∙ kept)) slot.2

  becomes : ((r : Relocation) (m : NumberedMap) → map_of (maps_given i.settings b.numbers) r ≡ Some m → HasMap whole m) → HasBecome i u b whole key place s (for_helpers (keeps_helpers u) x)
  becomes among = record {
    unwritten = unwritten_of;
    typed = typed_of;
    number = λ no_extern g r w here stands writes.
        let same = same_function g f (function_at b.numbers.functions key) here stages.before in
        numbers_of among no_extern r w (stands ∙ ap (λ z. index_of_slot z r.0) same) (subst (λ z. maps.Writes (maps_given i.settings b.numbers) z r w) same writes);
    numbered = numbers_alone;
    extern = λ g r w here stands writes.
        let same = same_function g h (function_at b.externs.functions key) here stages.between in
        externs_of r w (stands ∙ ap (λ z. index_of_slot z r.0) same) (subst (λ z. externs.Writes b.externs.file b.externs.externs.by_name z r w) same writes);
    resolved = externs_alone;
  }

-- The laws of the passes, for all functions.
pub record Stands (i : Inputs) (object : State) (b : Before) (patched : State) : Type 0 where
  pub same : b.types.functions ≡ object.functions
  pub types : types.HaveTypes (types_of b.types i.kernel_types) (type_section_infos b.types) b.numbers.functions
  pub numbers : maps.HaveNumbers (maps_given i.settings b.numbers) b.numbers.functions b.externs.functions
  pub externs : externs.HaveExterns b.externs.file b.externs.externs.by_name b.externs.functions patched.functions

-- The maps that relocations name are among these.
abbrev pub AreAmong : Inputs → Before → List MapContent → Type 0
AreAmong i b whole = (r : Relocation) (m : NumberedMap) → map_of (maps_given i.settings b.numbers) r ≡ Some m → HasMap whole m

slot_carried : SlotsAreCopied → (i : Inputs) (u : Under) (object patched : State) (b : Before) (whole : List MapContent) → Stands i object b patched → AreAmong i b whole → (own : Key) (keys : List Key) (key : Key) (start place : ℕ) (s : bpf_insn)
    → IsCopied object.functions (table_of (unlinked_of patched)) own keys key start place s
    → (x : bpf_insn) × (slice_get (kernel_slots (keeps_helpers u) (linked (table_of (unlinked_of patched)) own keys)) (start + place) ≡ Some x) × HasBecome i u b whole key place s x
slot_carried law i u object patched b whole stands among own keys key start place s is =
    let first = ap (λ (fs : Keyed). function_at fs key) stands.same ∙ is.here in
    let zero = stands.types key is.function first in
    let one = stands.numbers key zero.0 zero.1 in
    let two = stands.externs key one.0 one.1 in
    let there = get_there is.function.instructions place two.0.instructions s is.slot (two.2.as_many ∙ one.2.as_many ∙ zero.2.as_many) in
    let stages : Stages i b patched key is.function zero.0 one.0 two.0 = record { first = first; before = zero.1; between = one.1; after = two.1; types = zero.2; numbers = one.2; externs = two.2 } in (
      for_helpers (keeps_helpers u) there.0,
      get_kernel (keeps_helpers u) (linked (table_of (unlinked_of patched)) own keys) (start + place) there.0
          (copied law (unlinked_of patched) own keys key start place two.0 there.0 is.copy two.1 there.1 is.refers),
      becomes i u b patched whole key place is.function zero.0 one.0 two.0 stages s there.0 is.slot there.1 among,
    )

pub slots_carried : SlotsAreCopied → (i : Inputs) (u : Under) (object patched : State) (b : Before) (whole : List MapContent) → Stands i object b patched → AreAmong i b whole → (own : Key) (keys : List Key) (slots : List bpf_insn) → slots ≡ kernel_slots (keeps_helpers u) (linked (table_of (unlinked_of patched)) own keys) → AreSlotsOf i u object patched b whole own keys slots
slots_carried law i u object patched b whole stands among own keys slots is =
    subst (λ (l : List bpf_insn). AreSlotsOf i u object patched b whole own keys l) (sym is)
    (record { each = slot_carried law i u object patched b whole stands among own keys })
