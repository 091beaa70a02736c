-- The code of a plan's programs, as the verifier of a kernel sees it.
use Rattle.std.specs.Prelude.{ℕ, ℤ, pos, ◌==◌, ◌&&◌, Bool, true, false, not, List, [], Option, None, Some, bit_and, codes, filter, filter_map, length, map, nat_lt, if◌then◌else◌}
use Rattle.std.specs.Option.{option_map_or}
use Rattle.btf_encoding.specs.Records.{count_of}
use Rattle.btf_ext.specs.declared.record.bpf_func_info.{bpf_func_info}
use Rattle.btf_records.specs.Fields.{kind_of_type}
use Rattle.btf_records.specs.Kinds.{number_of}
use Rattle.btf_records.specs.declared.kind.BtfKind.TheVariants as kinds
use Rattle.btf_records.specs.declared.types.BtfType.{BtfType}
use Rattle.btf_tables.specs.Tables.{Table, type_by_id}
use Rattle.plan_values.specs.Functions.{functions_of}
use Rattle.plan_values.specs.Programs.{Code}
use Rattle.plan_values.specs.declared.program.Verifier.{Verifier}
use Rattle.plan_text.specs.Content.{MapContent, ProgramContent}
use Rattle.report_needs.specs.Enums.{func_ids, helper_presence}
use Rattle.report_needs.specs.Members.{has_member}
use Rattle.report_needs.specs.declared.enums.Presence.{Presence}
use Rattle.report_needs.specs.declared.enums.Presence.TheVariants.{Found, Missing, Unknown}

abbrev pub is_found : Presence → Bool
is_found Found = true
is_found Missing = false
is_found Unknown = false

-- Whether a kernel, if its types are given, is known to have a helper.
abbrev pub has_helper : Option Table → ℤ → Bool
has_helper None helper = false
has_helper (Some kernel) helper = is_found (helper_presence kernel (func_ids kernel) helper)

abbrev pub is_missing : Presence → Bool
is_missing Missing = true
is_missing Found = false
is_missing Unknown = false

-- Whether a kernel, if its types are given, is known not to have a helper.
abbrev pub lacks_helper : Option Table → ℤ → Bool
lacks_helper None helper = false
lacks_helper (Some kernel) helper = is_missing (helper_presence kernel (func_ids kernel) helper)

-- Whether a kernel, if its types are given, notes which global functions are called (member `called`
-- of `struct bpf_func_info_aux`).
abbrev pub notes_calls : Option Table → Bool
notes_calls None = false
notes_calls (Some kernel) = has_member kernel (codes "bpf_func_info_aux") (codes "called")

-- What the verifier of a kernel keeps track of. Since Linux 4.14, which brought helper 51
-- (`bpf_redirect_map`), it compares a register with a number that it is equal to, and since Linux
-- 4.16, which brought helper 58 (`bpf_override_return`), with any number: types that list no helpers
-- are taken for those of such a kernel. Since Linux 5.0, which
-- brought helper 92 (`bpf_rc_pointer_rel`), it decides comparisons other than by `==` and `!=`. Since
-- Linux 5.3, which brought helper 109 (`bpf_send_signal`), it compares two registers. Since Linux 5.11,
-- which brought helper 161 (`bpf_ima_inode_hash`), a number isn't greater than itself as a signed
-- number. Bytes in the frame that are 0 are known since Linux 4.16, other numbers of eight bytes since
-- Linux 5.3, and those of fewer bytes since Linux 5.16, which brought helper 179
-- (`bpf_kallsyms_lookup_name`). Immediates there count from the notes of Linux 6.8 on, since Linux 6.3
-- to 6.6 kept an immediate without its sign. What a move of the low 32 bits of a register leaves is
-- known since Linux 5.0, an arithmetic shift to the right since Linux 4.18, which brought helper 67
-- (`bpf_get_stack`), and one of 32 bits since Linux 5.5, which brought helper 113
-- (`bpf_probe_read_kernel`). A sum or a difference that wraps both without and with a sign is known
-- since Linux 5.7, and counts from Linux 5.8 on, which brought helper 130 (`bpf_ringbuf_output`). The
-- exclusive or of two numbers is known since Linux 5.10, which brought helper 153
-- (`bpf_per_cpu_ptr`). The address of a map's value isn't 0 since Linux 5.8. The address of a kernel's
-- function isn't 0 since Linux 6.4, which no helper tells. Since Linux 6.8, which notes the calls,
-- global functions are visited only if called.
abbrev pub verifier_of : Option Table → Verifier
verifier_of kernel =
    record {
      comparisons = not (lacks_helper kernel (pos 51));
      unequal_numbers = not (lacks_helper kernel (pos 58));
      orders = has_helper kernel (pos 92);
      two_registers = has_helper kernel (pos 109);
      signed_equals = has_helper kernel (pos 161);
      stored_zeros = has_helper kernel (pos 58);
      stored_numbers = has_helper kernel (pos 109);
      stored_parts = has_helper kernel (pos 179);
      stored_immediates = notes_calls kernel;
      low_moves = has_helper kernel (pos 92);
      signed_shifts = has_helper kernel (pos 67);
      low_signed_shifts = has_helper kernel (pos 113);
      wrapped_sums = has_helper kernel (pos 130);
      exclusive_or = has_helper kernel (pos 153);
      map_values = has_helper kernel (pos 130);
      functions = false;
      called_globals = notes_calls kernel;
    }

-- Whether loaders freeze a map. Programs can't write it (BPF_F_RDONLY_PROG), and it has bytes.
abbrev pub is_frozen : MapContent → Bool
is_frozen m = not (bit_and m.words.map_flags 128 == 0) && nat_lt 0 (length m.contents)

abbrev pub numbered_bytes : MapContent → ℕ × List ℕ
numbered_bytes m = (m.number, m.contents)

-- The maps that loaders freeze: their numbers and their bytes.
abbrev pub frozen_maps : List MapContent → List (ℕ × List ℕ)
frozen_maps maps = map numbered_bytes (filter is_frozen maps)

-- The maps whose bytes the verifier knows. It reads frozen maps since Linux 5.5, which brought
-- helper 113 (`bpf_probe_read_kernel`).
abbrev pub known_maps : Option Table → List MapContent → List (ℕ × List ℕ)
known_maps kernel maps = if has_helper kernel (pos 113) then frozen_maps maps else []

-- Whether a record is a function of global linkage (BTF_FUNC_GLOBAL).
abbrev pub is_global_function : BtfType → Bool
is_global_function t = (number_of (kind_of_type t) == number_of kinds.Func) && (count_of t == 1)

abbrev pub is_global : Table → ℕ → Bool
is_global types id = option_map_or is_global_function (type_by_id types id) false

-- The slot of a function's record, if the function is global.
abbrev pub global_slot : Table → bpf_func_info → Option ℕ
global_slot types r = if is_global types r.type_id then Some r.insn_off else None

abbrev pub global_slots : Option Table → List bpf_func_info → List ℕ
global_slots None records = []
global_slots (Some types) records = filter_map (global_slot types) records

-- What the verifier of a kernel knows of the code of a plan's programs: what it keeps track of, the
-- bytes of maps, and the types that describe the programs' functions.
pub record KnownCode : Type 0 where
  pub verifier : Verifier
  pub maps : List (ℕ × List ℕ)
  pub types : Option Table

abbrev pub plan_code : Option Table → List MapContent → Option Table → KnownCode
plan_code kernel maps types =
    record { verifier = verifier_of kernel; maps = known_maps kernel maps; types = types }

-- The code of a program.
abbrev pub code_of : KnownCode → ProgramContent → Code
code_of known p =
    record {
      slots = p.slots;
      verifier = known.verifier;
      maps = known.maps;
      globals = global_slots known.types p.func_records;
      functions = functions_of p.slots;
    }
