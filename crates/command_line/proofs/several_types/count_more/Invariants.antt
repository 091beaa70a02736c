use Rattle.std.proofs.Common.{◌≡◌, ◌≤◌, ◌+◌, drop, map}
use Rattle.std.specs.String.{string_bytes}
use Rattle.command_line.specs.SpreadWords.{count_more}
use Rattle.command_line.specs.declared.several_types.WordPlace.TheVariants.{Free}
use Rattle.command_line.proofs.several_types.count_more.Given as goal

abbrev pub invariant-loop-word : goal.invariant-loop-word
invariant-loop-word l = record {
  few : l.count ≤ l.word-index;
  counted : l.count + count_more l.place (map string_bytes (drop l.word-index l.words)) ≡ count_more Free (map string_bytes l.words);
}
