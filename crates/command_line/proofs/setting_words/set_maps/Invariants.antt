use Rattle.std.proofs.Common.{◌≡◌, drop, map}
use Rattle.command_line.specs.SettingWords.{unset_map, with_maps}
use Rattle.command_line.proofs.setting_words.set_maps.Given as goal

abbrev pub invariant-loop-word : goal.invariant-loop-word
invariant-loop-word l =
    (with_maps l.settings (map (λ word. word.now) (drop l.word-index l.words)) ≡ with_maps l.fn.settings (map (λ word. word.now) l.words))
    × (unset_map (map (λ word. word.now) (drop l.word-index l.words)) ≡ unset_map (map (λ word. word.now) l.words))
