-- The inputs of a plan.
use Rattle.std.specs.Prelude.{◌≡◌, ℕ, List, [], ◌∷◌, Bool, Option, None, Some, unwrap_or, true}
use Rattle.std.specs.Fn.{Mut}
pub use Rattle.btf_records.specs.declared.feature.BtfFeature.{BtfFeature}
pub use Rattle.btf_sanitize.specs.Answers.{Answers}
pub use Rattle.btf_tables.specs.Tables.{Table}
pub use Rattle.extern_resolution.specs.Resolution.{ForText}
use Rattle.ebpf_object.specs.ParsedObject.{ObjectContent}
pub use Rattle.ebpf_object.specs.Rewriting.{AreAnswered}
pub use Rattle.settings.specs.Content.{SettingsContent}
use Rattle.load_plan.specs.declared.order.Order.{Order}

-- A closure that answers questions about features.
abbrev pub Predicate : Type 0 → Type 1
Predicate F = Mut F (BtfFeature × Unit {0}) Bool

-- The text of the kernel's symbols that their reader gives, and whether reading it failed.
pub record Symbols : Type 0 where
  pub bytes : List ℕ
  pub failed : Bool

abbrev pub symbols_given : List ℕ → Bool → Symbols
symbols_given bytes failed = record { bytes = bytes; failed = failed }

-- The object's file, the kernel's tables of types and its symbols, the settings of maps and global
-- variables, and the order of two passes.
pub record Inputs : Type 0 where
  pub file : List ℕ
  pub kernel_types : List Table
  pub symbols : Symbols
  pub settings : SettingsContent
  pub order : Order

abbrev pub inputs : List ℕ → List Table → Symbols → SettingsContent → Order → Inputs
inputs file kernel_types symbols settings order =
    record { file = file; kernel_types = kernel_types; symbols = symbols; settings = settings; order = order }

-- The answers about the kernel: whether it grants each feature that was asked about, and whether it
-- has the newer helpers that read memory, if that was asked.
pub record Under : Type 0 where
  pub answers : Answers
  pub has_helpers : Option Bool

-- Whether the helpers are kept: the kernel has the newer helpers, or wasn't asked about them.
abbrev pub keeps_helpers : Under → Bool
keeps_helpers u = unwrap_or u.has_helpers true

-- Each answer about a feature is the one that `grants` gives.
abbrev pub GoByFeature : (BtfFeature → Bool) → Answers → Type 0
GoByFeature grants [] = Unit {0}
GoByFeature grants (a ∷ others) = (a.1 ≡ grants a.0) × GoByFeature grants others

-- The answer, if there is one, was given.
abbrev pub IsSaid : (Bool → Type 0) → Option Bool → Type 0
IsSaid Says (Some answer) = Says answer
IsSaid Says None = Unit {0}

-- The predicate and the probe gave these answers.
pub record AreSaid {F : Type 0} (predicate : Predicate F) (before : F) (Says : Bool → Type 0)
    (u : Under) : Type 0 where
  pub features : AreAnswered predicate before u.answers
  pub helpers : IsSaid Says u.has_helpers

-- The same inputs with an order of the passes over types.
abbrev pub in_order : Order → Inputs → Inputs
in_order order i = record i { order = order }

-- An object between two passes.
abbrev pub State : Type 0
State = ObjectContent
