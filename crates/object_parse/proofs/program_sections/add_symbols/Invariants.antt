use Rattle.std.proofs.Common.{◌≡◌, take, false}
use Rattle.std.specs.Prelude.{fold}
use Rattle.std.specs.List.{list_any}
use Rattle.object_file.specs.License.{license_of}
use Rattle.object_file.specs.Version.{version_of}
use Rattle.object_parse.specs.Programs.{with_program, with_function, has_no_code}
use Rattle.object_parse.proofs.program_sections.add_symbols.Given as goal

abbrev pub invariant-loop-symbol : goal.invariant-loop-symbol
invariant-loop-symbol l = record {
  programs : l.code.programs ≡ fold (with_program (license_of l.file) (version_of l.file) l.section l.kind) l.fn.code.programs (take l.symbol-index l.symbols);
  functions : l.code.functions ≡ fold (with_function l.info l.section) l.fn.code.functions (take l.symbol-index l.symbols);
  accepted : list_any (has_no_code l.section) (take l.symbol-index l.symbols) ≡ false;
}
