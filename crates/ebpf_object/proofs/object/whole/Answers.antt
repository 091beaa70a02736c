use Rattle.std.proofs.Common.{◌≡◌, Option, [], subst}
use Rattle.btf_tables.specs.Tables.{Table}
use Rattle.object_maps.specs.Maps.{found_maps, maps_faults}
use Rattle.object_maps.proofs.Entered.{entered_last}
use Rattle.object_contents.proofs.Faultless.{faultless, sound}
use Rattle.ebpf_object.proofs.object.whole.Goals as goal

pub invariant_of-result : goal.invariant_of-result
invariant_of-result c = c.requires.contents.complete

pub returns-clause-value : goal.returns-clause-value
returns-clause-value c =
    let types = c.requires.types in
    let contents = c.requires.contents in
    record {
      table = types.table;
      holds = types.holds;
      same_file = c.new.ensures.value;
      types = types.completed;
      extension = types.records;
      maps = contents.maps;
      programs = contents.programs;
      functions = contents.functions;
      externs = types.declared;
    }

pub returns-clause-last : goal.returns-clause-last
returns-clause-last c = entered_last c.args.contents.maps (found_maps c.args.file c.args.types.table) c.requires.contents.maps

pub returns-clause-faultless : goal.returns-clause-faultless
returns-clause-faultless c =
    let types = c.requires.types in
    let contents = c.requires.contents in
    faultless c.args.file c.new.ensures.faultless
    (sound c.args.file types.table c.args.types.extension types.holds types.records contents.sound
    (subst (λ (t : Option Table). maps_faults c.args.file t ≡ []) types.completed contents.faultless) types.sound)
