-- Names that a rewriting changes or makes.
use Rattle.std.specs.Prelude.{ℕ, ◌+◌, ◌==◌, ◌&&◌, ◌||◌, Bool, not, if◌then◌else◌, List, [], ◌∷◌, ◌++◌, codes, length, map, nat_eq}
use Rattle.std.specs.Cmp.Lexicographic.{pointwise}
use Rattle.std.specs.Fmt.{decimal}
use Rattle.std.specs.List.{list_any}
use Rattle.btf_records.specs.declared.item.BtfParam.{BtfParam}

-- Whether a name has this byte.
abbrev pub has_byte : ℕ → List ℕ → Bool
has_byte from name = list_any (λ b. b == from) name

-- A name with each byte `from` replaced by `to`.
abbrev pub replaced : ℕ → ℕ → List ℕ → List ℕ
replaced from to = map (λ b. if b == from then to else b)

-- The functions that compilers call implicitly. They are made static, because kernels verify a
-- global function apart from its callers, and these functions need the bounds of their callers.
abbrev pub is_memory_function : List ℕ → Bool
is_memory_function name =
    pointwise nat_eq name (codes "memset")
    || pointwise nat_eq name (codes "memcpy")
    || pointwise nat_eq name (codes "memmove")
    || pointwise nat_eq name (codes "memcmp")

-- The name for a parameter without a name, by its index from 0.
abbrev pub param_name : ℕ → List ℕ
param_name index = codes "param" ++ decimal index

-- Whether a parameter has a type and no name.
abbrev pub is_nameless : BtfParam → Bool
is_nameless p = (p.name_offset == 0) && not (p.btf_type == 0)

-- The parameters from an index on. Those without a name are named by texts that begin at this
-- offset, one after the other.
abbrev pub named_params : ℕ → ℕ → List BtfParam → List BtfParam
named_params index offset [] = []
named_params index offset (p ∷ ps) =
    if is_nameless p
    then record p { name_offset = offset }
    ∷ named_params (index + 1) (offset + length (param_name index) + 1) ps
    else p ∷ named_params (index + 1) offset ps

-- The texts that name the parameters without a name.
abbrev pub param_texts : ℕ → List BtfParam → List ℕ
param_texts index [] = []
param_texts index (p ∷ ps) =
    if is_nameless p
    then param_name index ++ 0 ∷ param_texts (index + 1) ps
    else param_texts (index + 1) ps

-- The names of the appended types.
abbrev pub placeholder_name : List ℕ
placeholder_name = codes "enum64_placeholder"

abbrev pub filler_int_name : List ℕ
filler_int_name = codes "datasec_filler_int"

abbrev pub filler_name : List ℕ
filler_name = codes "datasec_filler"
