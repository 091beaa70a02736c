-- The number of bytes of the rewritten names of sections.
use Rattle.std.specs.Prelude.{ℕ, ◌+◌, List, [], ◌∷◌, if◌then◌else◌, length}
use Rattle.btf_records.specs.declared.types.BtfType.{BtfType}
use Rattle.btf_records.specs.declared.types.BtfType.TheVariants as types
use Rattle.btf_sanitize.specs.Facts.{Facts, name_at}
use Rattle.btf_sanitize.specs.SectionNames.{sought}
use Rattle.btf_sanitize.specs.Names.{has_byte}

-- The number of bytes of a rewritten name, with its NUL. It is 0 if the name stays.
abbrev pub own_text_of : Facts → List ℕ → ℕ
own_text_of known name = if has_byte (sought known) name then length name + 1 else 0

-- The number of bytes of the rewritten name of a record.
abbrev pub own_text : Facts → BtfType → ℕ
own_text known (types.DataSec t) = own_text_of known (name_at known t.name_offset)
own_text known _ = 0

-- The sum of these numbers for some records.
abbrev pub own_texts : Facts → List BtfType → ℕ
own_texts known [] = 0
own_texts known (t ∷ ts) = own_text known t + own_texts known ts
