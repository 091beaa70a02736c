use Rattle.std.proofs.Common.{◌≡◌, drop, map}
use Rattle.std.specs.String.{string_bytes}
use Rattle.command_line.specs.SpreadWords.{has_object}
use Rattle.command_line.specs.declared.several_types.WordPlace.TheVariants.{Free}
use Rattle.command_line.proofs.several_types.has_object.Given as goal

abbrev pub invariant-loop-word : goal.invariant-loop-word
invariant-loop-word l = has_object l.place (map string_bytes (drop l.word-index l.words)) ≡ has_object Free (map string_bytes l.words)
