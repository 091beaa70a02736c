-- The license of an object.
use Rattle.std.specs.Prelude.{◌≡◌, ◌≢◌, ℕ, ◌-◌, ◌≤◌, ◌<◌, ◌⊎◌, List, length, take, codes, slice_index, ◌==◌, true, false, Option}
use Rattle.std.specs.List.{list_any}
use Rattle.std.specs.Option.{option_map_or}
use Rattle.ebpf_items.specs.declared.error.ParseError.{ParseError}
use Rattle.ebpf_items.specs.declared.error.ParseError.TheVariants as error
use Rattle.object_file.specs.Reading.{contents_named}

-- The bytes of the first section that is named `license`.
abbrev pub license_bytes : List ℕ → Option (List ℕ)
license_bytes file = contents_named file (codes "license")

abbrev pub without_last : List ℕ → List ℕ
without_last bytes = take (length bytes - 1) bytes

abbrev pub HasNoNul : List ℕ → Type 0
HasNoNul bytes = list_any (λ b. b == 0) bytes ≡ false

-- The bytes are fewer than two, or have a NUL before the last byte.
abbrev pub IsInvalidLicense : List ℕ → Type 0
IsInvalidLicense bytes = (length bytes < 2) ⊎ (list_any (λ b. b == 0) (without_last bytes) ≡ true)

-- The bytes are at least two, have no NUL before the last byte, and the last byte isn't a NUL.
abbrev pub LacksNul : List ℕ → Type 0
LacksNul bytes =
    (2 ≤ length bytes) × HasNoNul (without_last bytes) × (slice_index bytes (length bytes - 1) ≢ 0)

-- The error for the bytes of a license.
abbrev pub IsLicenseFault : List ℕ → ParseError → Type 0
IsLicenseFault bytes (error.InvalidLicense kept) = (kept.items ≡ bytes) × IsInvalidLicense bytes
IsLicenseFault bytes (error.MissingLicenseNullTerminator kept) =
    (kept.items ≡ bytes) × LacksNul bytes
IsLicenseFault bytes _ = ⊥

-- A text of at least one byte, followed by a NUL.
pub record IsLicense (bytes : List ℕ) : Type 0 where
  pub len : 2 ≤ length bytes
  pub text : HasNoNul (without_last bytes)
  pub end : slice_index bytes (length bytes - 1) ≡ 0

-- The license of an object, without its NUL. It is `GPL` where the object names none.
abbrev pub license_of : List ℕ → List ℕ
license_of file = option_map_or without_last (license_bytes file) (codes "GPL")
