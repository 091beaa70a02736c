-- What a file is by its first bytes.
use Rattle.std.specs.Prelude.{ℕ, nat_eq, nat_le, nat_lt, Bool, ◌&&◌, ◌||◌, List, [], ◌∷◌, length, Option, None, Some, drop, take, if◌then◌else◌}
use Rattle.std.specs.List.{list_all, starts_with}
use Rattle.btf_records.specs.declared.words.Endianness.{Endianness}
use Rattle.btf_records.specs.declared.words.Endianness.TheVariants.{Big, Little}
use Rattle.type_files.specs.declared.formats.FileFormat.{FileFormat}
use Rattle.type_files.specs.declared.formats.FileFormat.TheVariants.{Bzip2, Gzip, KernelImage, Lz4, Text, Xz, Zstandard}
use Rattle.type_files.specs.declared.starts.FileStart.{FileStart}
use Rattle.type_files.specs.declared.starts.FileStart.TheVariants.{Elf, Format, Types, Unknown}

abbrev pub begins : List ℕ → List ℕ → Bool
begins bytes wanted = starts_with nat_eq bytes wanted

abbrev pub has_at : List ℕ → ℕ → List ℕ → Bool
has_at bytes at wanted = begins (drop at bytes) wanted

-- A frame of lz4's format, or of its older one, in which kernels are compressed.
abbrev pub is_lz4 : List ℕ → Bool
is_lz4 bytes =
    begins bytes (0x04 ∷ 0x22 ∷ 0x4d ∷ 0x18 ∷ []) || begins bytes (0x02 ∷ 0x21 ∷ 0x4c ∷ 0x18 ∷ [])

-- The header of an image for x86 has "HdrS" at 0x202 (Documentation/arch/x86/boot.rst), that of an
-- image for arm64 "ARM\x64" at 56 (Documentation/arch/arm64/booting.rst), that of one for RISC-V
-- "RSC\x05" there (Documentation/arch/riscv/boot-image-header.rst). An image that unpacks itself under
-- EFI begins with "MZ" and has "zimg" at 4 (drivers/firmware/efi/libstub/zboot-header.S).
abbrev pub is_x86_image : List ℕ → Bool
is_x86_image bytes = has_at bytes 0x202 (0x48 ∷ 0x64 ∷ 0x72 ∷ 0x53 ∷ [])

abbrev pub is_arm_image : List ℕ → Bool
is_arm_image bytes = has_at bytes 56 (0x41 ∷ 0x52 ∷ 0x4d ∷ 0x64 ∷ [])

abbrev pub is_riscv_image : List ℕ → Bool
is_riscv_image bytes = has_at bytes 56 (0x52 ∷ 0x53 ∷ 0x43 ∷ 0x05 ∷ [])

abbrev pub is_packed_image : List ℕ → Bool
is_packed_image bytes =
    begins bytes (0x4d ∷ 0x5a ∷ []) && has_at bytes 4 (0x7a ∷ 0x69 ∷ 0x6d ∷ 0x67 ∷ [])

abbrev pub is_kernel_image : List ℕ → Bool
is_kernel_image bytes =
    is_x86_image bytes
    || (is_arm_image bytes || (is_riscv_image bytes || is_packed_image bytes))

-- The printed characters and the white space of ASCII.
abbrev pub is_text_byte : ℕ → Bool
is_text_byte byte = (nat_le 0x20 byte && nat_le byte 0x7e) || (nat_le 0x09 byte && nat_le byte 0x0d)

-- The first eight bytes, or all of fewer, are of a text. The header of types has a byte 0 there,
-- unless its length is above 150 MB.
abbrev pub is_text : List ℕ → Bool
is_text bytes = nat_lt 0 (length bytes) && list_all is_text_byte (take 8 bytes)

-- The format of a file that holds no types as it is.
abbrev pub format_of : List ℕ → Option FileFormat
format_of bytes =
    if begins bytes (0x1f ∷ 0x8b ∷ []) then Some Gzip
    else (if begins bytes (0x42 ∷ 0x5a ∷ 0x68 ∷ []) then Some Bzip2
    else (if begins bytes (0xfd ∷ 0x37 ∷ 0x7a ∷ 0x58 ∷ 0x5a ∷ 0x00 ∷ []) then Some Xz
    else (if begins bytes (0x28 ∷ 0xb5 ∷ 0x2f ∷ 0xfd ∷ []) then Some Zstandard
    else (if is_lz4 bytes then Some Lz4
    else (if is_kernel_image bytes then Some KernelImage
    else (if is_text bytes then Some Text
    else None))))))

-- The magic of types, 0xeB9F, in a byte order.
abbrev pub magic : Endianness → List ℕ
magic Little = 0x9f ∷ 0xeb ∷ []
magic Big = 0xeb ∷ 0x9f ∷ []

abbrev pub begins_as_types : Endianness → List ℕ → Bool
begins_as_types order bytes = begins bytes (magic order)

abbrev pub start_by : Option FileFormat → FileStart
start_by None = Unknown
start_by (Some format) = Format format

abbrev pub start_of : List ℕ → FileStart
start_of bytes =
    if begins bytes (0x7f ∷ 0x45 ∷ 0x4c ∷ 0x46 ∷ []) then Elf
    else (if begins_as_types Little bytes then Types Little
    else (if begins_as_types Big bytes then Types Big
    else start_by (format_of bytes)))
