-- Values of variants of enums ("BTF_KIND_ENUM", "BTF_KIND_ENUM64"), in 64 bits.
use Rattle.std.specs.Prelude.{ℕ, ◌+◌, ◌-◌, ◌^◌, slice_get, Option, None, if◌then◌else◌, nat_lt}
use Rattle.std.specs.Option.{option_map, option_and_then}
use Rattle.btf_records.specs.Items.{value_of}
use Rattle.btf_records.specs.declared.types.BtfType.{BtfType}
use Rattle.btf_records.specs.declared.types.BtfType.TheVariants as types

-- A word of 32 bits, sign-extended to 64 bits.
abbrev pub sign_extended : ℕ → ℕ
sign_extended value = if nat_lt value (2 ^ 31) then value else value + (2 ^ 64 - 2 ^ 32)

abbrev pub variant_value : BtfType → ℕ → Option ℕ
variant_value (types.Enum t) index =
    option_map (λ v. if t.info.flag then sign_extended v.value else v.value)
    (slice_get t.variants index)
variant_value (types.Enum64 t) index = option_map value_of (slice_get t.variants index)
variant_value (types.Union t) index =
    option_and_then (λ e. option_map value_of (slice_get e.variants index)) t.fallback
variant_value _ index = None
