-- What a call gives a caller in C, by what it is given.
use Rattle.std.specs.Prelude.{◌≡◌, ◌≢◌, ◌≤◌, ◌<◌, ◌⊎◌, ◌^◌, ℕ, ℤ, pos, Bool, true, false, List, [], ◌∷◌, ◌++◌, length, drop, slice_get, None, Some}
use Rattle.std.specs.Str.{IsUtf8}
use Rattle.btf_records.specs.declared.error.BtfError.{BtfError}
use Rattle.btf_records.specs.declared.words.Endianness.{Endianness}
use Rattle.btf_records.specs.declared.words.Endianness.TheVariants.{Big, Little}
use Rattle.btf_tables.specs.Sections.{HoldsTable}
use Rattle.btf_tables.specs.Tables.{Table, TableFault}
use Rattle.ebpf_items.specs.declared.error.ParseError.{ParseError}
use Rattle.ebpf_object.specs.ParsedObject.{IsParsed, ObjectContent}
use Rattle.load_plan.specs.Inputs as plan
use Rattle.load_plan.specs.Known.{IsRefusalFor}
use Rattle.load_plan.specs.Numbering as numbering
use Rattle.load_plan.specs.Run.{HoldsOfText, inputs_of}
use Rattle.load_plan.specs.declared.order.Order.{Order}
use Rattle.load_plan.specs.declared.order.Order.TheVariants.{RelocateFirst, RewriteFirst}
use Rattle.object_contents.specs.Faults.{HasFault}
use Rattle.plan_errors.specs.declared.error.PrepareError.{PrepareError}
use Rattle.plan_errors.specs.declared.error.PrepareError.TheVariants as prepare
use Rattle.run_settings.specs.Documents.{RunContent, settings_of}
use Rattle.run_settings.specs.Features.{grants}
use Rattle.settings.specs.Content.{SettingsContent}
use Rattle.morvezin.specs.Kinds.{kind_of}
use Rattle.morvezin.specs.declared.failure.Failure.{Failure}
use Rattle.morvezin.specs.declared.failure.Failure.TheVariants as failure
use Rattle.morvezin.specs.declared.inputs.Inputs.{Inputs}
use Rattle.morvezin.specs.declared.inputs.Types.{Types}

abbrev pub order_in : Bool → Endianness
order_in true = Big
order_in false = Little

abbrev pub order_of : Bool → Order
order_of true = RewriteFirst
order_of false = RelocateFirst

-- The bytes that are given hold a table.
abbrev pub HoldsGiven : Types → Table → Type 0
HoldsGiven given table = HoldsTable (order_in given.is_big_endian) given.table.now table

-- The tables that the bytes hold, one by one.
abbrev pub AreTables : List Types → List Table → Type 0
AreTables [] [] = Unit {0}
AreTables (given ∷ others) (table ∷ tables) = HoldsGiven given table × AreTables others tables
AreTables _ _ = ⊥

-- The bytes that are given have a fault.
pub record IsFaulty (given : Types) : Type 0 where
  pub error : BtfError
  pub fault : TableFault (order_in given.is_big_endian) given.table.now error

-- A table that is given has a fault.
pub record HasFaulty (all : List Types) : Type 0 where
  pub index : ℕ
  pub given : Types
  pub at : slice_get all index ≡ Some given
  pub error : BtfError
  pub fault : TableFault (order_in given.is_big_endian) given.table.now error

-- Some table has a fault, or there are too many.
abbrev pub AreInvalid : List Types → Type 0
AreInvalid all = HasFaulty all ⊎ (2 ^ 32 < length all)

-- The settings are no text, or no settings.
abbrev pub IsFaultOfSettings : List ℕ → Type 0
IsFaultOfSettings bytes = (¬ IsUtf8 bytes) ⊎ (settings_of bytes ≡ None)

-- The object of a file has these maps' numbers: each map without one got the least that no map has.
pub record HasNumbers (file : List ℕ) (before after : SettingsContent) : Type 0 where
  pub object : ObjectContent
  pub parsed : IsParsed file object
  pub numbered : numbering.AreNumbered (numbering.names_of object.maps) (numbering.names_of object.maps) before after

-- The file is no object, and the numbers are as before.
pub record HasNoNumbers (file : List ℕ) (before after : SettingsContent) : Type 0 where
  pub error : ParseError
  pub fault : HasFault file error
  pub kept : after ≡ before

-- The numbers of maps after those of an object without one got one.
abbrev pub HasAllNumbers : List ℕ → SettingsContent → SettingsContent → Type 0
HasAllNumbers file before after = HasNumbers file before after ⊎ HasNoNumbers file before after

-- The same where that is wanted.
abbrev pub AreNumbersFor : Bool → List ℕ → SettingsContent → SettingsContent → Type 0
AreNumbersFor true file before after = HasAllNumbers file before after
AreNumbersFor false file before after = after ≡ before

-- The settings of the document that is given, with the numbers of maps that are wanted.
pub record IsSet (given : Inputs) (set : RunContent) : Type 0 where
  pub read : RunContent
  pub is_read : settings_of given.settings.now ≡ Some read
  pub numbers : AreNumbersFor given.number_maps given.object.now read.settings set.settings
  pub features : set.features ≡ read.features
  pub probe : set.probe ≡ read.probe

-- Something holds for the settings and inputs of a call, which are valid. All of the symbols is read.
pub record ForInputs (given : Inputs) (Holds : RunContent → plan.Inputs → Type 0) : Type 0 where
  pub set : RunContent
  pub is_set : IsSet given set
  pub tables : List Table
  pub are_tables : AreTables given.types.now tables
  pub holds : Holds set
      (inputs_of given.object.now tables given.symbols.now false set (order_of given.rewrite_first))

-- A plan of these settings and inputs has this text.
abbrev pub IsTextFor : List ℕ → RunContent → plan.Inputs → Type 0
IsTextFor text set i = HoldsOfText set i (λ written. text ≡ written)

-- A fault of this kind refuses the object.
pub record IsRefusedFor (kind : ℤ) (set : RunContent) (i : plan.Inputs) : Type 0 where
  pub error : PrepareError
  pub kept : error ≢ prepare.OutOfMemory
  pub is_kind : kind ≡ pos (kind_of error)
  pub refused : IsRefusalFor (grants set.features) i error

-- A plan for what is given has this text.
abbrev pub HasText : Inputs → List ℕ → Type 0
HasText given text = ForInputs given (IsTextFor text)

-- A fault of this kind refuses the object that is given.
abbrev pub IsRefused : Inputs → ℤ → Type 0
IsRefused given kind = ForInputs given (IsRefusedFor kind)

-- What a failure says: a fault of this kind refuses the object, or the settings or the types are
-- invalid.
abbrev pub Says : (ℤ → Type 0) → Type 0 → Type 0 → Failure → Type 0
Says NoPlan NoSettings NoTypes (failure.Refused kind text) = NoPlan kind
Says NoPlan NoSettings NoTypes (failure.Settings text) = NoSettings
Says NoPlan NoSettings NoTypes (failure.Types text) = NoTypes
Says NoPlan NoSettings NoTypes failure.OutOfMemory = Unit {0}

-- Nothing is refused.
abbrev pub NoKind : ℤ → Type 0
NoKind kind = ⊥

-- A text that `Holds` is put at the front of a buffer where it fits, and `needed` is its length.
pub record Gives (old new : List ℕ) (needed : ℕ) (Holds : List ℕ → Type 0) : Type 0 where
  pub text : List ℕ
  pub holds : Holds text
  pub length_is : needed ≡ length text
  pub fits : needed ≤ length old → new ≡ text ++ drop needed old
  pub lacks : length old < needed → new ≡ old
