-- The bytes of a `ByteList`.
use Rattle.std.specs.Prelude.{ℕ, List}
use Rattle.btf_storage.specs.declared.byte_list.Body.{Body}
use Rattle.btf_storage.specs.declared.byte_list.Body.TheVariants.{Borrowed, Own}

abbrev pub body_bytes : Body → List ℕ
body_bytes (Borrowed bytes) = bytes.now
body_bytes (Own bytes) = bytes.items
