-- The words of reports, as docs/FORMATS.md lists them.
use Rattle.std.specs.Prelude.{ℕ, ℤ, pos, int_le, ◌&&◌, not, nat_le, Bool, List, [], Option, None, Some, codes, if◌then◌else◌}
use Rattle.std.specs.Option.{option_map_or}
use Rattle.std.specs.Ordering.{int_eq}
use Rattle.btf_records.specs.Kinds.{number_of}
use Rattle.btf_records.specs.declared.kind.BtfKind.{BtfKind}
use Rattle.btf_records.specs.declared.kind.BtfKind.TheVariants as kinds
use Rattle.kernel_reports.specs.declared.answers.RelocationAnswer.{RelocationAnswer}
use Rattle.kernel_reports.specs.declared.reach.Reach.{Reach}
use Rattle.kernel_reports.specs.declared.reach.Reach.TheVariants.{CutOff, Reached}
use Rattle.report_checks.specs.declared.attachments.Attachment.{Attachment}
use Rattle.report_checks.specs.declared.attachments.Attachment.TheVariants as attachments
use Rattle.report_checks.specs.declared.calls.CallCause.{CallCause}
use Rattle.report_checks.specs.declared.calls.CallCause.TheVariants.{MissingFunction, MissingHelper, Poison}
use Rattle.report_needs.specs.declared.enums.Presence.{Presence}
use Rattle.report_needs.specs.declared.enums.Presence.TheVariants as presences
use Rattle.report_texts.specs.Answers.{is_poison}
use Rattle.report_texts.specs.declared.rows.ExternKind.{ExternKind}
use Rattle.report_texts.specs.declared.rows.ExternKind.TheVariants as externs

-- Whether a kernel has something.
abbrev pub need_word : Presence → List ℕ
need_word presences.Found = codes "yes"
need_word presences.Missing = codes "missing"
need_word presences.Unknown = codes "unknown"

-- The same of something that a program may not need.
abbrev pub optional_word : Option Presence → List ℕ
optional_word presence = option_map_or need_word presence (codes "-")

-- Whether a kernel has what a program is attached to once it is loaded.
abbrev pub attach_word : Attachment → List ℕ
attach_word attachments.NotNamed = codes "-"
attach_word attachments.Found = codes "yes"
attach_word attachments.Variant = codes "variant"
attach_word attachments.Missing = codes "missing"
attach_word attachments.Unknown = codes "unknown"

-- Whether the number in a call is a helper's: the poison 0xbad2310 isn't one, nor are the numbers
-- of missing functions, from 2002000000 on.
abbrev pub is_helper : ℤ → Bool
is_helper number = not (int_eq number (pos 0xbad2310)) && not (int_le (pos 2002000000) number)

-- Why a kernel doesn't take a call.
abbrev pub cause_word : CallCause → List ℕ
cause_word Poison = codes "poison"
cause_word MissingFunction = codes "missing-function"
cause_word (MissingHelper number) = codes "missing-helper"

-- Whether a run can reach a slot.
abbrev pub reached_word : Bool → List ℕ
reached_word is_reached = if is_reached then codes "reached" else codes "cut-off"

abbrev pub reach_word : Reach → List ℕ
reach_word Reached = codes "reached"
reach_word CutOff = codes "cut-off"

-- Whether the first version of BTF lacks a kind of records: those from FUNC on, by number.
abbrev pub is_later_kind : BtfKind → Bool
is_later_kind kind = nat_le 12 (number_of kind)

-- The kernel's name of a kind of records, after `BTF_KIND_`.
abbrev pub kind_word : BtfKind → List ℕ
kind_word kinds.Unknown = codes "UNKN"
kind_word kinds.Int = codes "INT"
kind_word kinds.Ptr = codes "PTR"
kind_word kinds.Array = codes "ARRAY"
kind_word kinds.Struct = codes "STRUCT"
kind_word kinds.Union = codes "UNION"
kind_word kinds.Enum = codes "ENUM"
kind_word kinds.Fwd = codes "FWD"
kind_word kinds.Typedef = codes "TYPEDEF"
kind_word kinds.Volatile = codes "VOLATILE"
kind_word kinds.Const = codes "CONST"
kind_word kinds.Restrict = codes "RESTRICT"
kind_word kinds.Func = codes "FUNC"
kind_word kinds.FuncProto = codes "FUNC_PROTO"
kind_word kinds.Var = codes "VAR"
kind_word kinds.DataSec = codes "DATASEC"
kind_word kinds.Float = codes "FLOAT"
kind_word kinds.DeclTag = codes "DECL_TAG"
kind_word kinds.TypeTag = codes "TYPE_TAG"
kind_word kinds.Enum64 = codes "ENUM64"

-- Whether a kernel has an extern.
abbrev pub presence_word : Presence → List ℕ
presence_word presences.Found = codes "found"
presence_word presences.Missing = codes "missing"
presence_word presences.Unknown = codes "unknown"

-- What an extern is.
abbrev pub extern_kind_word : ExternKind → List ℕ
extern_kind_word externs.Function = codes "function"
extern_kind_word externs.Variable = codes "variable"
extern_kind_word externs.Symbol = codes "symbol"

-- The end of a line on poison, by whether a run can reach it.
abbrev pub poison_end : Option Reach → List ℕ
poison_end (Some Reached) = codes " reached"
poison_end (Some CutOff) = codes " cut-off"
poison_end None = codes " -"

-- The end of a cell with poison.
abbrev pub poison_cell_end : Option Reach → List ℕ
poison_cell_end (Some Reached) = codes ", reached"
poison_cell_end (Some CutOff) = codes ", cut off"
poison_cell_end None = []

-- Nothing stands behind any other answer.
abbrev pub poison_suffix : RelocationAnswer → Option Reach → List ℕ
poison_suffix answer reach = if is_poison answer then poison_end reach else []

abbrev pub poison_cell_suffix : RelocationAnswer → Option Reach → List ℕ
poison_cell_suffix answer reach = if is_poison answer then poison_cell_end reach else []
