-- The settings of a loader: numbers of maps and values of global variables, by name. The names are
-- strictly increasing by bytes.
use Rattle.std.specs.Prelude.{ℕ, ◌<◌, ◌^◌, List, String}
use Rattle.std.specs.List.{All}
use Rattle.std.specs.Map.{values_of}
use Rattle.settings.specs.ValuesContent.{GlobalContent}

pub record SettingsContent : Type 0 where
  pub maps : List (List ℕ × ℕ)
  pub globals : List (List ℕ × GlobalContent)

-- The numbers of maps are file descriptors. A program holds them in 32 signed bits.
abbrev pub AreMapNumbers : {Y : Type 0} → List (String Y × ℕ) → Type 0
AreMapNumbers maps = All (λ number. number < 2 ^ 31) (values_of maps)
