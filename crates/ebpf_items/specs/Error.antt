-- The conversion of errors of other crates to a ParseError.
use Rattle.btf_records.specs.declared.error.BtfError.{BtfError}
use Rattle.btf_records.specs.declared.error.BtfError.TheVariants as btf
use Rattle.ebpf_items.specs.declared.error.ParseError.{ParseError}
use Rattle.ebpf_items.specs.declared.error.ParseError.TheVariants as parse

-- The error for a BTF error. Out of memory maps to out of memory.
abbrev pub parse_error_of : BtfError → ParseError
parse_error_of btf.OutOfMemory = parse.OutOfMemory
parse_error_of error = parse.BtfError error
