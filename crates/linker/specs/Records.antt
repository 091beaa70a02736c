-- The records of a linked program, which are those of its copies, moved with them, and the kernel
-- tables that the relocations of its copies matched.
use Rattle.std.specs.Prelude.{ℕ, ◌+◌, ◌-◌, ◌==◌, ◌||◌, not, nat_lt, Bool, false, if◌then◌else◌, List, [], ◌∷◌, ◌++◌, length, map, Option, Some, None}
use Rattle.std.specs.List.{list_any}
use Rattle.btf_ext.specs.declared.record.bpf_func_info.{bpf_func_info}
use Rattle.btf_ext.specs.declared.record.bpf_line_info.{bpf_line_info}
use Rattle.object_parts.specs.Content.{FunctionContent, function_at}
use Rattle.object_parts.specs.MatchedTables.{with_tables}
use Rattle.linker.specs.Layout.{Key, end_of}
use Rattle.linker.specs.Unlinked.{Unlinked, table_of}

-- A function record moved to the slot where its copy begins. Its type is unchanged.
abbrev pub moved_function : ℕ → bpf_func_info → bpf_func_info
moved_function start r = record { insn_off = start; type_id = r.type_id }

-- A line record moved to a copy. It keeps its distance from the function's first line record.
abbrev pub moved_line : ℕ → ℕ → bpf_line_info → bpf_line_info
moved_line start first r = record r { insn_off = start + (r.insn_off - first) }

abbrev pub moved_lines : ℕ → List bpf_line_info → List bpf_line_info
moved_lines start [] = []
moved_lines start (r ∷ rs) = map (moved_line start r.insn_off) (r ∷ rs)

abbrev pub functions_in : Option FunctionContent → List bpf_func_info
functions_in None = []
functions_in (Some f) = f.func_info

abbrev pub lines_in : Option FunctionContent → List bpf_line_info
lines_in None = []
lines_in (Some f) = f.line_info

-- The function records of a program's copies, each at the slot where its copy begins.
abbrev pub functions_of : Unlinked → Key → List Key → List bpf_func_info
functions_of u own [] = map (moved_function 0) (functions_in (function_at u.functions own))
functions_of u own (k ∷ ks) =
    functions_of u own ks
    ++ map (moved_function (end_of (table_of u) own ks)) (functions_in (function_at u.functions k))

-- The line records of a program: those of its own function unchanged, and those of the appended
-- copies moved.
abbrev pub lines_of : Unlinked → Key → List Key → List bpf_line_info
lines_of u own [] = lines_in (function_at u.functions own)
lines_of u own (k ∷ ks) =
    lines_of u own ks
    ++ moved_lines (end_of (table_of u) own ks) (lines_in (function_at u.functions k))

abbrev pub tables_in : Option FunctionContent → List ℕ
tables_in None = []
tables_in (Some f) = f.matched_tables

-- The kernel tables that the relocations of these functions matched, entered from the program's own
-- function on.
abbrev pub with_matched : Unlinked → List ℕ → Key → List ℕ
with_matched u tables key = with_tables tables (tables_in (function_at u.functions key))

abbrev pub tables_of : Unlinked → Key → List Key → List ℕ
tables_of u own [] = with_matched u [] own
tables_of u own (k ∷ ks) = with_matched u (tables_of u own ks) k

-- Whether some line record has a lower offset than the first one.
abbrev pub goes_back : List bpf_line_info → Bool
goes_back [] = false
goes_back (first ∷ rest) = list_any (λ r. nat_lt r.insn_off first.insn_off) rest

abbrev pub is_empty : List bpf_func_info → Bool
is_empty records = length records == 0

-- Whether exactly one of two functions has function records.
abbrev pub one_sided : FunctionContent → FunctionContent → Bool
one_sided a b = if is_empty a.func_info then not (is_empty b.func_info) else is_empty b.func_info

-- Whether the records of a function can't be appended to those of a program's own function.
abbrev pub mismatches : FunctionContent → FunctionContent → Bool
mismatches own callee = one_sided own callee || goes_back callee.line_info
