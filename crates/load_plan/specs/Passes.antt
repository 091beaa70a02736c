-- The passes over an object, in order: the result of each pass, and the faults for which it
-- refuses.
use Rattle.std.specs.Prelude.{◌≡◌, ◌⊎◌, ◌==◌, ◌&&◌, not, length, List, [], ◌∷◌, ◌++◌, map, Bool, true, false, Option, None, is_some, slice_get}
use Rattle.std.specs.Option.{IsSomeAnd, MatchOption, option_map, option_map_or}
use Rattle.std.specs.String.{string_bytes}
use Rattle.btf_ext.specs.Extensions.{Extension}
use Rattle.btf_records.specs.declared.error.BtfError.{BtfError}
use Rattle.btf_sanitize.specs.Answers.{Answers}
use Rattle.btf_tables.specs.Tables.{Table}
use Rattle.ebpf_items.specs.declared.error.ParseError.{ParseError}
use Rattle.ebpf_object.specs.TextSections.{text_sections}
use Rattle.ebpf_object.specs.Helpers.{for_kernel}
use Rattle.ebpf_object.specs.Rewriting.{CannotRewrite, IsRewritten}
use Rattle.ebpf_object.specs.TypeRelocations.{type_section_infos, types_of}
use Rattle.slot_relocation.specs.Externs.{extern_rule}
use Rattle.extern_resolution.specs.Resolution.{AreResolved}
use Rattle.extern_resolution.specs.Resolution as resolution
use Rattle.extern_resolution.specs.declared.error.KsymsError.{KsymsError}
use Rattle.load_plan.specs.NamedFunctions.{IsNameless, all_named}
use Rattle.global_data.specs.GlobalData.{Says, first_fault, patched}
use Rattle.linker.specs.Linked.{AllCanBeLinked, AreLinked, HasFaultOf, program_keys, unlinked}
use Rattle.linker.specs.Unlinked.{Unlinked}
use Rattle.object_parts.specs.Content.{has_newer_helper}
use Rattle.load_plan.specs.Numbers.{are_numbered, lacks_number, numbered}
use Rattle.relocation_errors.specs.declared.error.EbpfRelocationError.{EbpfRelocationError}
use Rattle.settings.specs.Content.{SettingsContent}
use Rattle.slot_relocation.specs.Maps.{MapsGiven, given, map_rule}
use Rattle.slot_relocation.specs.Writes.{AreRelocated, CanBeRelocated, HasErrorIn, Rule}
use Rattle.load_plan.specs.Inputs.{Inputs, State, Symbols, Under, keeps_helpers}
use Rattle.plan_errors.specs.declared.error.PrepareError.{PrepareError}
use Rattle.plan_errors.specs.declared.error.PrepareError.TheVariants as error
use Rattle.load_plan.specs.declared.order.Order.{Order}
use Rattle.load_plan.specs.declared.order.Order.TheVariants.{RelocateFirst, RewriteFirst}
use Rattle.core_relocation.specs.Faults as faults
use Rattle.core_relocation.specs.Writes as types
use Rattle.relocation_errors.specs.declared.type_relocations.BtfRelocationCause.{BtfRelocationCause}

-- The names of the passes.
pub data Pass : Type 0 where
  -- Each function record that is kept names a function.
  FunctionRecords : Pass
  -- Each map has a number.
  MapNumbers : Pass
  -- The values of global variables are put into maps.
  GlobalValues : Pass
  -- If there are type relocations, kernel types are given.
  KernelTypes : Pass
  -- Externs are resolved by the kernel's types and symbols.
  Externs : Pass
  -- Slots get the results of type relocations in the kernel's types.
  TypeSlots : Pass
  -- Types are rewritten to the features that the kernel grants.
  Types : Pass
  -- Slots get the numbers of maps.
  MapSlots : Pass
  -- Slots get what is known about externs.
  ExternSlots : Pass
  -- Programs are linked to the functions that they reach.
  Links : Pass
  -- Older helpers are called if the kernel lacks newer ones.
  Helpers : Pass

-- The maps that a loader gives for an object's slots, with their numbers.
abbrev pub maps_given : SettingsContent → State → MapsGiven
maps_given settings s = given s.file (text_sections s.functions) (map (numbered settings) s.maps)

-- The rule of the relocations by externs.
abbrev pub rule_of_externs : State → Rule
rule_of_externs s = extern_rule s.file s.externs.by_name

-- The kernel's types that externs are resolved by, which are its first table.
abbrev pub first_table : Inputs → Option Table
first_table i = slice_get i.kernel_types 0

-- The object that an object's programs are linked from.
abbrev pub unlinked_of : State → Unlinked
unlinked_of s = unlinked s.file (text_sections s.functions) s.functions

-- The results of the passes. A pass is made if none of its faults occurs, and `t` is the object
-- after it.

abbrev pub KeepsNamed : State → State → Type 0
KeepsNamed s t = (all_named s.types s.functions ≡ true) × (t ≡ s)

-- Whether there is a section info of type relocations, even if it has no records.
abbrev pub has_type_relocations : Option Extension → Bool
has_type_relocations extension =
    option_map_or (λ x. not (length x.relocations == 0)) extension false

-- Whether an object has type relocations and no kernel types are given.
abbrev pub lacks_kernel_types : List Table → State → Bool
lacks_kernel_types kernel s = has_type_relocations s.extension && (length kernel == 0)

abbrev pub HasKernelTypes : List Table → State → State → Type 0
HasKernelTypes kernel s t = (lacks_kernel_types kernel s ≡ false) × (t ≡ s)

abbrev pub IsNumbered : SettingsContent → State → State → Type 0
IsNumbered settings s t = (are_numbered settings s.maps ≡ true) × (t ≡ s)

pub record PutsValues (settings : SettingsContent) (s t : State) : Type 0 where
  pub sound : first_fault s.file s.maps settings.globals ≡ None
  pub maps : t ≡ record s { maps = patched s.file s.maps settings.globals }

-- An object without types keeps its externs.
pub record ResolvesExterns (kernel : Option Table) (symbols : Symbols) (s t : State) : Type 0 where
  pub externs : MatchOption s.types (t.externs ≡ s.externs) (λ table.
      AreResolved table kernel symbols.bytes symbols.failed s.externs t.externs)
  pub others : t ≡ record s { externs = t.externs }

pub record RelocatesTypes (kernel : List Table) (s t : State) : Type 0 where
  pub functions : types.AreRelocated (types_of s kernel) (type_section_infos s) t.functions
  pub sound : faults.CanBeRelocated (types_of s kernel) (type_section_infos s)
  pub others : t ≡ record s { functions = t.functions }

pub record RewritesTypes (answers : Answers) (s t : State) : Type 0 where
  pub types : IsRewritten answers s.file s.externs.ksyms s.types t.types
  pub others : t ≡ record s { types = t.types }

pub record WritesNumbers (settings : SettingsContent) (s t : State) : Type 0 where
  pub functions : AreRelocated (map_rule (maps_given settings s)) s.file s.functions t.functions
  pub sound : CanBeRelocated (map_rule (maps_given settings s)) s.file s.functions
  pub others : t ≡ record s { functions = t.functions }

pub record WritesExterns (s t : State) : Type 0 where
  pub functions : AreRelocated (rule_of_externs s) s.file s.functions t.functions
  pub sound : CanBeRelocated (rule_of_externs s) s.file s.functions
  pub others : t ≡ record s { functions = t.functions }

pub record LinksPrograms (s t : State) : Type 0 where
  pub programs : AreLinked (unlinked_of s) (program_keys s.programs) t.functions
  pub sound : AllCanBeLinked (unlinked_of s) (program_keys s.programs)
  pub others : t ≡ record s { functions = t.functions }

-- The kernel is asked about helpers iff some slot calls a newer one.
pub record RenamesHelpers (u : Under) (s t : State) : Type 0 where
  pub asked : is_some u.has_helpers ≡ has_newer_helper s.functions
  pub functions : t ≡ record s { functions = for_kernel (keeps_helpers u) s.functions }

abbrev pub Makes : Pass → Inputs → Under → State → State → Type 0
Makes FunctionRecords i u s t = KeepsNamed s t
Makes MapNumbers i u s t = IsNumbered i.settings s t
Makes GlobalValues i u s t = PutsValues i.settings s t
Makes KernelTypes i u s t = HasKernelTypes i.kernel_types s t
Makes Externs i u s t = ResolvesExterns (first_table i) i.symbols s t
Makes TypeSlots i u s t = RelocatesTypes i.kernel_types s t
Makes Types i u s t = RewritesTypes u.answers s t
Makes MapSlots i u s t = WritesNumbers i.settings s t
Makes ExternSlots i u s t = WritesExterns s t
Makes Links i u s t = LinksPrograms s t
Makes Helpers i u s t = RenamesHelpers u s t

-- The faults of each pass that an object has.

abbrev pub HasNamelessRecord : State → PrepareError → Type 0
HasNamelessRecord s (error.FunctionRecordType function id) =
    IsNameless s.types s.functions (string_bytes function) id
HasNamelessRecord s _ = ⊥

abbrev pub LacksNumber : SettingsContent → State → PrepareError → Type 0
LacksNumber settings s (error.MapNumberMissing name) =
    lacks_number settings s.maps (string_bytes name) ≡ true
LacksNumber settings s _ = ⊥

abbrev pub LacksKernelTypes : List Table → State → PrepareError → Type 0
LacksKernelTypes kernel s error.KernelTypesRequired = lacks_kernel_types kernel s ≡ true
LacksKernelTypes kernel s _ = ⊥

abbrev pub OfParse : (ParseError → Type 0) → PrepareError → Type 0
OfParse Stands (error.Parse e) = Stands e
OfParse Stands _ = ⊥

abbrev pub OfKsyms : (KsymsError → Type 0) → PrepareError → Type 0
OfKsyms Stands (error.Ksyms e) = Stands e
OfKsyms Stands _ = ⊥

abbrev pub OfTypeRelocation : (BtfRelocationCause → Type 0) → PrepareError → Type 0
OfTypeRelocation Stands (error.BtfRelocation e) = Stands e.error
OfTypeRelocation Stands _ = ⊥

abbrev pub OfTypes : (BtfError → Type 0) → PrepareError → Type 0
OfTypes Stands (error.Types e) = Stands e
OfTypes Stands _ = ⊥

abbrev pub OfRelocation : (EbpfRelocationError → Type 0) → PrepareError → Type 0
OfRelocation Stands (error.Relocation e) = Stands e
OfRelocation Stands _ = ⊥

abbrev pub CannotPutValues : SettingsContent → State → ParseError → Type 0
CannotPutValues settings s e = Says (first_fault s.file s.maps settings.globals) e

abbrev pub CannotResolve : Option Table → Symbols → State → KsymsError → Type 0
CannotResolve kernel symbols s e =
    IsSomeAnd s.types (λ table.
    resolution.CannotResolve table kernel symbols.bytes symbols.failed s.externs e)

abbrev pub CannotRelocateTypes : List Table → State → BtfRelocationCause → Type 0
CannotRelocateTypes kernel s c = faults.HasTypesFault (types_of s kernel) (type_section_infos s) c

abbrev pub CannotWriteNumbers : SettingsContent → State → EbpfRelocationError → Type 0
CannotWriteNumbers settings s e =
    HasErrorIn (map_rule (maps_given settings s)) s.file s.functions
    (option_map string_bytes e.function) e.error

abbrev pub CannotWriteExterns : State → EbpfRelocationError → Type 0
CannotWriteExterns s e =
    HasErrorIn (rule_of_externs s) s.file s.functions (option_map string_bytes e.function) e.error

abbrev pub CannotLink : State → EbpfRelocationError → Type 0
CannotLink s e = HasFaultOf (unlinked_of s) s.programs (option_map string_bytes e.function) e.error

abbrev pub Refuses : Pass → Inputs → Under → State → PrepareError → Type 0
Refuses FunctionRecords i u s e = HasNamelessRecord s e
Refuses MapNumbers i u s e = LacksNumber i.settings s e
Refuses GlobalValues i u s e = OfParse (CannotPutValues i.settings s) e
Refuses KernelTypes i u s e = LacksKernelTypes i.kernel_types s e
Refuses Externs i u s e = OfKsyms (CannotResolve (first_table i) i.symbols s) e
Refuses TypeSlots i u s e = OfTypeRelocation (CannotRelocateTypes i.kernel_types s) e
Refuses Types i u s e = OfTypes (CannotRewrite u.answers s.file s.externs.ksyms s.types) e
Refuses MapSlots i u s e = OfRelocation (CannotWriteNumbers i.settings s) e
Refuses ExternSlots i u s e = OfRelocation (CannotWriteExterns s) e
Refuses Links i u s e = OfRelocation (CannotLink s) e
Refuses Helpers i u s e = ⊥

-- The passes in order.

-- The two passes whose order is chosen.
abbrev pub first_of : Order → Pass
first_of RelocateFirst = TypeSlots
first_of RewriteFirst = Types

abbrev pub second_of : Order → Pass
second_of RelocateFirst = Types
second_of RewriteFirst = TypeSlots

-- The passes that check an object, and change its maps, its externs, its types and the slots of its
-- functions.
abbrev pub patching : Order → List Pass
patching order =
    FunctionRecords
    ∷ MapNumbers
    ∷ GlobalValues
    ∷ KernelTypes
    ∷ Externs
    ∷ first_of order
    ∷ second_of order
    ∷ MapSlots
    ∷ ExternSlots
    ∷ []

-- The passes that link its programs and rename their helpers.
abbrev pub linking : List Pass
linking = Links ∷ Helpers ∷ []

abbrev pub passes : Order → List Pass
passes order = patching order ++ linking

-- Some passes are made, one after another.
abbrev pub Made : List Pass → Inputs → Under → State → State → Type 0
Made [] i u s t = t ≡ s
Made (p ∷ ps) i u s t = (m : State) × Makes p i u s m × Made ps i u m t

-- One of some passes refuses, after the passes before it were made.
abbrev pub Refused : List Pass → Inputs → Under → State → PrepareError → Type 0
Refused [] i u s e = ⊥
Refused (p ∷ ps) i u s e = Refuses p i u s e ⊎ ((m : State) × Makes p i u s m × Refused ps i u m e)
