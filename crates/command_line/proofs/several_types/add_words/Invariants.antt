use Rattle.std.proofs.Common.{◌≡◌, ◌++◌, drop, false, map}
use Rattle.std.specs.String.{string_bytes}
use Rattle.command_line.specs.SpreadWords.{with_options}
use Rattle.command_line.specs.declared.several_types.WordPlace.TheVariants.{Free}
use Rattle.command_line.proofs.several_types.add_words.Given as goal

abbrev pub invariant-loop-word : goal.invariant-loop-word
invariant-loop-word l =
    map string_bytes l.spread.items ++ with_options l.left l.has_object l.place (map string_bytes (drop l.word-index l.words))
    ≡ map string_bytes l.initial.spread.items ++ with_options l.count false Free (map string_bytes l.words)
