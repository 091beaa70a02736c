-- Linkages and integer encodings, by number ("BTF_KIND_INT", "BTF_KIND_FUNC", "BTF_KIND_VAR").
use Rattle.std.specs.Prelude.{ℕ, ◌==◌, if◌then◌else◌}
use Rattle.btf_records.specs.declared.encoding.IntEncoding.{IntEncoding}
use Rattle.btf_records.specs.declared.encoding.IntEncoding.TheVariants as encodings
use Rattle.btf_records.specs.declared.encoding.FuncLinkage.{FuncLinkage}
use Rattle.btf_records.specs.declared.encoding.FuncLinkage.TheVariants as functions
use Rattle.btf_records.specs.declared.encoding.VarLinkage.{VarLinkage}
use Rattle.btf_records.specs.declared.encoding.VarLinkage.TheVariants as variables

abbrev pub encoding_of : ℕ → IntEncoding
encoding_of n =
    if n == 0
    then encodings.None
    else if n == 1
    then encodings.Signed
    else if n == 2 then encodings.Char else if n == 4 then encodings.Bool else encodings.Unknown

abbrev pub number_of_encoding : IntEncoding → ℕ
number_of_encoding encodings.None = 0
number_of_encoding encodings.Signed = 1
number_of_encoding encodings.Char = 2
number_of_encoding encodings.Bool = 4
number_of_encoding encodings.Unknown = 5

abbrev pub func_linkage_of : ℕ → FuncLinkage
func_linkage_of n =
    if n == 0
    then functions.Static
    else if n == 1 then functions.Global else if n == 2 then functions.Extern else functions.Unknown

abbrev pub number_of_func_linkage : FuncLinkage → ℕ
number_of_func_linkage functions.Static = 0
number_of_func_linkage functions.Global = 1
number_of_func_linkage functions.Extern = 2
number_of_func_linkage functions.Unknown = 3

abbrev pub var_linkage_of : ℕ → VarLinkage
var_linkage_of n =
    if n == 0
    then variables.Static
    else if n == 1 then variables.Global else if n == 2 then variables.Extern else variables.Unknown

abbrev pub number_of_var_linkage : VarLinkage → ℕ
number_of_var_linkage variables.Static = 0
number_of_var_linkage variables.Global = 1
number_of_var_linkage variables.Extern = 2
number_of_var_linkage variables.Unknown = 3
