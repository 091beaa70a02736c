-- The programs of a plan, each by itself.
use Rattle.std.specs.Prelude.{◌≡◌, ◌⊎◌, ◌||◌, not, ℕ, ◌+◌, pos, Bool, true, false, is_some, if◌then◌else◌, List, [], ◌∷◌, None, Some, slice_get}
use Rattle.btf_ext.specs.declared.record.bpf_func_info.{bpf_func_info}
use Rattle.btf_ext.specs.declared.record.bpf_line_info.{bpf_line_info}
use Rattle.btf_sanitize.specs.Answers.{Answers}
use Rattle.ebpf_items.specs.Instruction.{with_older_helper}
use Rattle.ebpf_items.specs.declared.instruction.bpf_insn.{bpf_insn}
use Rattle.ebpf_object.specs.TypeRelocations.{type_section_infos, types_of}
use Rattle.elf64.specs.Relocations.{Relocation}
use Rattle.linker.specs.Copies.{IsCopy}
use Rattle.linker.specs.Layout.{IsLayout, Key, Table, linked, ref_at}
use Rattle.linker.specs.Machines.{VisitsSame}
use Rattle.linker.specs.Reached.{AreReached}
use Rattle.linker.specs.Renamed.{renamed_table}
use Rattle.load_plan.specs.RewrittenFunctions.{is_denied}
use Rattle.linker.specs.Records.{functions_of, lines_of, tables_of}
use Rattle.linker.specs.Unlinked.{Unlinked, table_of}
use Rattle.object_parts.specs.Content.{FunctionContent, ProgramContent, function_at}
use Rattle.load_plan.specs.Plans.{AllName}
use Rattle.plan_text.specs.Content as plan
use Rattle.plan_text.specs.Content.{MapContent, PlanContent}
use Rattle.slot_relocation.specs.ExternLaws as externs
use Rattle.slot_relocation.specs.Laws as maps
use Rattle.slot_relocation.specs.Laws.{CarriesNumber, map_of}
use Rattle.slot_relocation.specs.Maps.{MapsGiven, NumberedMap}
use Rattle.slot_relocation.specs.Writes.{index_of_slot}
use Rattle.slot_relocation.specs.declared.outcome.Write.{Write}
use Rattle.core_relocation.specs.Carried.{CarriesType}
use Rattle.core_relocation.specs.Laws as types
use Rattle.load_plan.specs.Inputs.{Inputs, State, Under, keeps_helpers}
use Rattle.load_plan.specs.Passes.{Made, maps_given, patching, unlinked_of}
use Rattle.load_plan.specs.declared.order.Order.{Order}
use Rattle.load_plan.specs.declared.order.Order.TheVariants.{RelocateFirst, RewriteFirst}

-- The functions that a program's slots are copies of, for a kernel that has the newer helpers or
-- lacks them.
abbrev pub source_for : Bool → Unlinked → Table
source_for true u = table_of u
source_for false u = renamed_table (table_of u)

-- An object's functions after the passes that write their slots.
abbrev pub source : Under → State → Table
source u patched = source_for (keeps_helpers u) (unlinked_of patched)

-- The key of a program's own function.
abbrev pub own_key : ProgramContent → Key
own_key p = (p.section_index, p.address)

-- The records of a program. There are none if functions are denied, and no line records if the
-- kernel gets no types.
abbrev pub func_records_of : Answers → Unlinked → Key → List Key → List bpf_func_info
func_records_of answers u own keys = if is_denied answers then [] else functions_of u own keys

abbrev pub line_records_of : Answers → Bool → Unlinked → Key → List Key → List bpf_line_info
line_records_of answers has_types u own keys =
    if is_denied answers || not has_types then [] else lines_of u own keys

-- Some map of a plan has this name and this number.
abbrev pub HasMap : List MapContent → NumberedMap → Type 0
HasMap [] m = ⊥
HasMap (p ∷ ps) m = ((p.name ≡ m.name) × (pos p.number ≡ m.number)) ⊎ HasMap ps m

-- A slot for a kernel that has the newer helpers or lacks them.
abbrev pub for_helpers : Bool → bpf_insn → bpf_insn
for_helpers true s = s
for_helpers false s = with_older_helper s

-- A slot carries the number of the map that a relocation names, and a plan has the map with this
-- number.
pub record NumbersMap (g : MapsGiven) (maps : List MapContent) (r : Relocation) (s : bpf_insn)
    : Type 0 where
  pub carried : CarriesNumber g r s
  pub among : (m : NumberedMap) → map_of g r ≡ Some m → HasMap maps m

-- An object has a function with this key, and the function satisfies `Holds`.
abbrev pub OfFunction : State → Key → (FunctionContent → Type 0) → Type 0
OfFunction s key Holds = (f : FunctionContent) × (function_at s.functions key ≡ Some f) × Holds f

-- An object before each pass that writes slots of its functions.
pub record Before : Type 0 where
  pub types : State
  pub numbers : State
  pub externs : State

-- The object before type relocations: before or after its types are rewritten.
abbrev pub relocating_in : Order → State → State → State
relocating_in RelocateFirst first second = first
relocating_in RewriteFirst first second = second

-- These objects, where the passes are made: after externs are resolved, or after types are
-- rewritten; after both passes over types; and after the numbers of maps are written.
abbrev pub before_slots : (i : Inputs) (u : Under) (object patched : State)
    → Made (patching i.order) i u object patched
    → Before
before_slots i u object patched made = record {
  types = relocating_in i.order made.2.2.2.2.0 made.2.2.2.2.2.0;
  numbers = made.2.2.2.2.2.2.0;
  externs = made.2.2.2.2.2.2.2.0;
}

-- A type relocation writes the slot at an index of a function (`Writes..`). Exactly one does so,
-- and writes `y` (`Puts..`). Relocations by maps and by externs are alike.
abbrev pub WritesType : Inputs → Before → Key → ℕ → Type 0
WritesType i before key place =
    OfFunction before.types key (λ f.
    types.WritesAt (types_of before.types i.kernel_types) (type_section_infos before.types) f place)

abbrev pub PutsType : Inputs → Before → Key → ℕ → bpf_insn → Type 0
PutsType i before key place y =
    OfFunction before.types key (λ f.
    types.PutsAt (types_of before.types i.kernel_types) (type_section_infos before.types) f place y)

abbrev pub WritesNumber : Inputs → Before → Key → ℕ → Type 0
WritesNumber i before key place =
    OfFunction before.numbers key (λ f.
    maps.WritesAt (maps_given i.settings before.numbers) f place)

abbrev pub PutsNumber : Inputs → Before → Key → ℕ → bpf_insn → Type 0
PutsNumber i before key place y =
    OfFunction before.numbers key (λ f.
    maps.PutsAt (maps_given i.settings before.numbers) f place y)

abbrev pub WritesExtern : Before → Key → ℕ → Type 0
WritesExtern before key place =
    OfFunction before.externs key (λ f.
    externs.WritesAt before.externs.file before.externs.externs.by_name f place)

abbrev pub PutsExtern : Before → Key → ℕ → bpf_insn → Type 0
PutsExtern before key place y =
    OfFunction before.externs key (λ f.
    externs.PutsAt before.externs.file before.externs.externs.by_name f place y)

-- A slot carries the outcome of a type relocation.
abbrev pub HasType : Inputs → Before → Key → ℕ → bpf_insn → Type 0
HasType i before key place y =
    OfFunction before.types key (λ f.
    CarriesType (types_of before.types i.kernel_types) (type_section_infos before.types) f place y)

-- A slot with a relocation by a map carries the map's number in the plan, whatever other
-- relocations by maps write.
abbrev pub HasNumber : Inputs → Before → List MapContent → Key → ℕ → bpf_insn → Type 0
HasNumber i before whole key place x = (f : FunctionContent) (r : ℕ × Relocation) (w : Write)
    → function_at before.numbers.functions key ≡ Some f
    → place ≡ index_of_slot f r.0
    → maps.Writes (maps_given i.settings before.numbers) f r w
    → NumbersMap (maps_given i.settings before.numbers) whole r.1 x

-- A slot with a relocation by an extern carries what is known about the extern, whatever other
-- relocations by externs write.
abbrev pub HasExtern : Before → Key → ℕ → bpf_insn → Type 0
HasExtern before key place x = (f : FunctionContent) (r : ℕ × Relocation) (w : Write)
    → function_at before.externs.functions key ≡ Some f
    → place ≡ index_of_slot f r.0
    → externs.Writes before.externs.file before.externs.externs.by_name f r w
    → externs.CarriesExtern before.externs.file before.externs.externs.by_name r.1 x

-- The slot `x` of a plan that an object's slot `s` becomes, by the last pass that writes it. Calls
-- of newer helpers are renamed where the kernel lacks these.
pub record HasBecome (i : Inputs) (u : Under) (before : Before) (whole : List MapContent)
    (key : Key) (place : ℕ) (s x : bpf_insn) : Type 0 where
  -- A slot that no relocation writes is the object's.
  pub unwritten : (WritesType i before key place → ⊥)
      → (WritesNumber i before key place → ⊥)
      → (WritesExtern before key place → ⊥)
      → x ≡ for_helpers (keeps_helpers u) s
  -- A slot that exactly one type relocation and no later pass writes carries the relocation's
  -- outcome, before calls of newer helpers are renamed.
  pub typed : (WritesNumber i before key place → ⊥)
      → (WritesExtern before key place → ⊥)
      → (y : bpf_insn)
      → PutsType i before key place y
      → (x ≡ for_helpers (keeps_helpers u) y) × HasType i before key place y
  -- A slot with a relocation by a map, which no extern writes, carries the map's number. If exactly
  -- one such relocation writes the slot, the slot is as that one writes it.
  pub number : (WritesExtern before key place → ⊥) → HasNumber i before whole key place x
  pub numbered : (WritesExtern before key place → ⊥)
      → (y : bpf_insn)
      → PutsNumber i before key place y
      → x ≡ for_helpers (keeps_helpers u) y
  -- A slot with a relocation by an extern carries what is known about the extern. If exactly one
  -- such relocation writes the slot, the slot is as that one writes it.
  pub extern : HasExtern before key place x
  pub resolved : (y : bpf_insn)
      → PutsExtern before key place y
      → x ≡ for_helpers (keeps_helpers u) y

-- The slot at an index of a function that is copied to a program refers to no function.
pub record IsCopied (functions : List (Key × FunctionContent)) (t : Table) (own : Key)
    (keys : List Key) (key : Key) (start place : ℕ) (s : bpf_insn) : Type 0 where
  pub copy : IsCopy t own keys key start
  pub function : FunctionContent
  pub here : function_at functions key ≡ Some function
  pub slot : slice_get function.instructions place ≡ Some s
  pub refers : ref_at t key place ≡ None

-- The slots of a program, by the slots of the object's functions that are copied and that refer to
-- no function.
pub record AreSlotsOf (i : Inputs) (u : Under) (object patched : State) (before : Before)
    (whole : List MapContent) (own : Key) (keys : List Key) (slots : List bpf_insn)
    : Type 0 where
  pub each : (key : Key) (start place : ℕ) (s : bpf_insn)
      → IsCopied object.functions (table_of (unlinked_of patched)) own keys key start place s
      → (x : bpf_insn)
      × (slice_get slots (start + place) ≡ Some x)
      × HasBecome i u before whole key place s x

-- A program of a plan, determined by the object, by the object after its functions' slots were
-- written, and by the answers about the kernel. One layout is used throughout: the keys of the
-- functions whose copies are appended to the program's own function.
pub record IsPlanProgram (i : Inputs) (u : Under) (object patched : State) (before : Before)
    (whole : PlanContent) (e : List ℕ × ProgramContent) (p : plan.ProgramContent)
    : Type 0 where
  -- The name and the kind are the program's.
  pub name : p.name ≡ e.0
  pub section : p.section ≡ e.1.section
  -- Each function that references reach from the program's own function is appended once, in the
  -- order of first mention.
  pub keys : List Key
  pub layout : IsLayout (source u patched) (own_key e.1) keys
  pub reached : AreReached (source u patched) (own_key e.1) keys
  -- The slots are those of the copies. They are the object's, apart from the slots that relocations
  -- write.
  pub slots : p.slots ≡ linked (source u patched) (own_key e.1) keys
  pub carried : AreSlotsOf i u object patched before whole.maps (own_key e.1) keys p.slots
  -- For each list of decisions the slots are visited as the functions' slots are in a run with a
  -- stack of calls.
  pub visits : VisitsSame (source u patched) (own_key e.1) keys p.slots
  -- The records are those of the copies, moved with them.
  pub func_records : p.func_records
      ≡ func_records_of u.answers (unlinked_of patched) (own_key e.1) keys
  pub line_records : p.line_records
      ≡ line_records_of u.answers (is_some whole.type_bytes) (unlinked_of patched) (own_key e.1)
      keys
  -- The kernel tables are those that the type relocations of the copied functions matched.
  pub tables : p.tables ≡ Some (tables_of (unlinked_of patched) (own_key e.1) keys)
  -- Each function record names the same function in the plan's types as in the object's types.
  pub names : AllName object.types whole.type_bytes p.func_records

-- The programs of a plan are those of an object, each as above.
abbrev pub ArePlanPrograms : (i : Inputs) (u : Under) (object patched : State)
    → Before
    → PlanContent
    → List (List ℕ × ProgramContent)
    → List plan.ProgramContent
    → Type 0
ArePlanPrograms i u object patched before whole [] [] = Unit {0}
ArePlanPrograms i u object patched before whole (e ∷ es) (p ∷ ps) =
    IsPlanProgram i u object patched before whole e p
    × ArePlanPrograms i u object patched before whole es ps
ArePlanPrograms i u object patched before whole _ _ = ⊥
