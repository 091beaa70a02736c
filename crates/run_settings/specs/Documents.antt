-- The settings in the table of a TOML document (https://toml.io/en/v1.0.0).
use Rattle.std.specs.Prelude.{ℕ, ◌^◌, ℤ, pos, negsuc, nat_lt, Bool, true, false, if◌then◌else◌, List, [], codes, Option, Some, None, option_and_then, Result, Ok, Err}
use Rattle.std.specs.BTreeMap.{insert_entry}
use Rattle.std.specs.Cmp.Lexicographic.{slice_cmp}
use Rattle.std.specs.Option.{option_map}
use Rattle.std.specs.Ordering.{nat_cmp}
use Rattle.std.specs.Str.{bytes_eq}
use Rattle.settings.specs.ValuesContent.{GlobalContent}
use Rattle.hex.specs.Hex.{decode_of}
use Rattle.hex.specs.declared.error.FromHexError.{FromHexError}
use Rattle.settings.specs.Content.{SettingsContent}
use Rattle.toml.specs.Data.{Data, Members, as_bool, as_integer, as_str, as_table, member, no_members}
use Rattle.toml.specs.Parse.{parse_document}
use Rattle.run_settings.specs.Features.{all_granted, feature_named, with_answer}
use Rattle.run_settings.specs.declared.features.GrantedFeatures.{GrantedFeatures}

-- The settings, the features that a kernel grants, and whether it has the newer helpers that read
-- memory.
pub record RunContent : Type 0 where
  pub settings : SettingsContent
  pub features : GrantedFeatures
  pub probe : Bool

abbrev pub nothing_set : RunContent
nothing_set =
    record { settings = record { maps = []; globals = [] }; features = all_granted; probe = true }

-- Numbers of maps.

-- A number from 0 to 2^31 - 1.
abbrev pub small : ℤ → Option ℕ
small (pos n) = if nat_lt n (2 ^ 31) then Some n else None
small (negsuc n) = None

abbrev pub number_of : Data → Option ℕ
number_of d = option_and_then small (as_integer d)

-- Each member is the number of the map with its name.
abbrev pub with_numbers : List (List ℕ × ℕ) → Members → Option (List (List ℕ × ℕ))
with_numbers maps no_members = Some maps
with_numbers maps (member name d ms) =
    option_and_then (λ n. with_numbers (insert_entry (slice_cmp nat_cmp) maps name n) ms)
    (number_of d)

-- Values of global variables.

abbrev pub if_decoded : Result (List ℕ) FromHexError → Option (List ℕ)
if_decoded (Ok bytes) = Some bytes
if_decoded (Err e) = None

-- The bytes of a text with two hexadecimal digits of either case for each byte.
abbrev pub bytes_of : Data → Option (List ℕ)
bytes_of d = option_and_then (λ text. if_decoded (decode_of text)) (as_str d)

-- A variable's bytes, once they are given, and whether the object must have the variable.
pub record GlobalParts : Type 0 where
  pub bytes : Option (List ℕ)
  pub required : Bool

abbrev pub with_part : GlobalParts → List ℕ → Data → Option GlobalParts
with_part g key d =
    if bytes_eq key (codes "value")
    then option_map (λ bytes. record g { bytes = Some bytes }) (bytes_of d)
    else
    if bytes_eq key (codes "required") then option_map (λ b. record g { required = b }) (as_bool d)
    else None

abbrev pub with_parts : GlobalParts → Members → Option GlobalParts
with_parts g no_members = Some g
with_parts g (member key d ms) = option_and_then (λ h. with_parts h ms) (with_part g key d)

abbrev pub global_of_parts : GlobalParts → Option GlobalContent
global_of_parts g = option_map (λ bytes. record { bytes = bytes; must_exist = g.required }) g.bytes

abbrev pub global_of : Data → Option GlobalContent
global_of d =
    option_and_then
    (λ ms.
    option_and_then global_of_parts (with_parts (record { bytes = None; required = false }) ms))
    (as_table d)

-- Each member is the value of the variable with its name.
abbrev pub with_globals : List (List ℕ × GlobalContent)
    → Members
    → Option (List (List ℕ × GlobalContent))
with_globals globals no_members = Some globals
with_globals globals (member name d ms) =
    option_and_then (λ g. with_globals (insert_entry (slice_cmp nat_cmp) globals name g) ms)
    (global_of d)

-- Features.

abbrev pub with_feature : GrantedFeatures → List ℕ → Data → Option GrantedFeatures
with_feature g name d =
    option_and_then (λ feature. option_map (λ answer. with_answer g feature answer) (as_bool d))
    (feature_named name)

-- Each member gives whether the feature with its name is granted.
abbrev pub with_features : GrantedFeatures → Members → Option GrantedFeatures
with_features g no_members = Some g
with_features g (member name d ms) =
    option_and_then (λ h. with_features h ms) (with_feature g name d)

-- The whole document.

abbrev pub set_maps : RunContent → Members → Option RunContent
set_maps s ms =
    option_map (λ maps. record s { settings = record s.settings { maps = maps } })
    (with_numbers s.settings.maps ms)

abbrev pub set_globals : RunContent → Members → Option RunContent
set_globals s ms =
    option_map (λ globals. record s { settings = record s.settings { globals = globals } })
    (with_globals s.settings.globals ms)

abbrev pub set_features : RunContent → Members → Option RunContent
set_features s ms =
    option_map (λ features. record s { features = features }) (with_features s.features ms)

-- A member of the document's table. Other members are refused.
abbrev pub with_member : RunContent → List ℕ → Data → Option RunContent
with_member s key d =
    if bytes_eq key (codes "maps") then option_and_then (set_maps s) (as_table d)
    else if bytes_eq key (codes "globals") then option_and_then (set_globals s) (as_table d)
    else if bytes_eq key (codes "features") then option_and_then (set_features s) (as_table d)
    else if bytes_eq key (codes "probe") then option_map (λ b. record s { probe = b }) (as_bool d)
    else None

abbrev pub with_members : RunContent → Members → Option RunContent
with_members s no_members = Some s
with_members s (member key d ms) = option_and_then (λ t. with_members t ms) (with_member s key d)

-- The settings of a text.
abbrev pub settings_of : List ℕ → Option RunContent
settings_of text = option_and_then (with_members nothing_set) (parse_document text)
