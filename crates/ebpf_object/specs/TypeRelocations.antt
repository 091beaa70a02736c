-- The type relocations of an object.
use Rattle.std.specs.Prelude.{List, [], Option, Some, unwrap_or}
use Rattle.btf_ext.specs.Extensions.{Extension}
use Rattle.btf_tables.specs.Tables.{Table, new_table}
use Rattle.core_relocation.specs.Relocations.{SectionInfos, TypesGiven, types_given}
use Rattle.ebpf_object.specs.ParsedObject.{ObjectContent}

-- The section infos with type relocations of an object. Without types there are none.
abbrev pub section_infos_beside : Option Table → Option Extension → SectionInfos
section_infos_beside (Some table) (Some extension) = extension.relocations
section_infos_beside _ _ = []

abbrev pub type_section_infos : ObjectContent → SectionInfos
type_section_infos o = section_infos_beside o.types o.extension

-- The inputs of the type relocations: the object's types and functions, and the tables of a kernel.
abbrev pub types_of : ObjectContent → List Table → TypesGiven
types_of o targets = types_given o.file o.functions (unwrap_or o.types new_table) targets
