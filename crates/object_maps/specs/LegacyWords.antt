-- The maps of a section `maps`. The words of a `struct bpf_map_def` have the layout of the kernel's
-- samples and of libbpf before its version 1.0, followed by the id and the pinning.
use Rattle.std.specs.Prelude.{ℕ, ◌+◌, ◌*◌, List, [], ◌∷◌, length, get_or, nat_lt, Option, Some, None, if◌then◌else◌}
use Rattle.std.specs.Int.{w32, from_le_bytes}
use Rattle.ebpf_items.specs.Maps.{MapWords, pinning_or_none}

-- The least size of a definition in bytes: the type, the sizes of keys and values, the number of
-- entries and the flags.
abbrev pub least_size : ℕ
least_size = 20

-- The little-endian word of an index. Missing bytes count as 0.
abbrev pub word_in : List ℕ → ℕ → ℕ
word_in bytes index =
    from_le_bytes w32
    (get_or bytes (4 * index) 0
    ∷ get_or bytes (4 * index + 1) 0
    ∷ get_or bytes (4 * index + 2) 0
    ∷ get_or bytes (4 * index + 3) 0
    ∷ [])

-- The words of the map that bytes define. There are none if the bytes are too few.
abbrev pub legacy_map_words : List ℕ → Option MapWords
legacy_map_words bytes =
    if nat_lt (length bytes) least_size then None
    else Some (record {
      map_type = word_in bytes 0;
      key_size = word_in bytes 1;
      value_size = word_in bytes 2;
      max_entries = word_in bytes 3;
      map_flags = word_in bytes 4;
      map_extra = 0;
      pinning = pinning_or_none (word_in bytes 6);
      id = word_in bytes 5;
      btf_key_type_id = 0;
      btf_value_type_id = 0;
    })
