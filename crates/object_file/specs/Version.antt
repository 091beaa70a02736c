-- The kernel version that an object was made for.
use Rattle.std.specs.Prelude.{◌≡◌, ◌≢◌, ℕ, List, length, codes, ◌==◌, if◌then◌else◌, Option, IfSome, Some, None, option_and_then}
use Rattle.btf_records.specs.declared.words.Endianness.{Endianness}
use Rattle.btf_records.specs.Words.{word_at}
use Rattle.ebpf_items.specs.declared.error.ParseError.{ParseError}
use Rattle.ebpf_items.specs.declared.error.ParseError.TheVariants.{InvalidKernelVersion}
use Rattle.object_file.specs.ByteOrders.{file_endianness}
use Rattle.object_file.specs.Reading.{contents_named}

-- The number that means any version.
abbrev pub any_version : ℕ
any_version = 0xffff_fffe

-- The bytes of the first section that is named `version`.
abbrev pub version_bytes : List ℕ → Option (List ℕ)
version_bytes file = contents_named file (codes "version")

-- The version that four bytes encode. None means any version.
abbrev pub version_in : Endianness → List ℕ → Option ℕ
version_in order bytes =
    if word_at order bytes 0 == any_version then None else Some (word_at order bytes 0)

-- The version of an object. None means any version.
abbrev pub version_of : List ℕ → Option ℕ
version_of file = option_and_then (version_in (file_endianness file)) (version_bytes file)

-- The error for the bytes of a version.
abbrev pub IsVersionFault : List ℕ → ParseError → Type 0
IsVersionFault bytes (InvalidKernelVersion kept) = (kept.items ≡ bytes) × (length bytes ≢ 4)
IsVersionFault bytes _ = ⊥

-- The version, if there is one, isn't the number that means any version.
abbrev pub IsKnownVersion : Option ℕ → Type 0
IsKnownVersion version = IfSome version (λ v. v ≢ any_version)
