use Rattle.std.proofs.Common.{◌≡◌, drop, map}
use Rattle.command_line.specs.SettingWords.{unset_global, with_globals}
use Rattle.command_line.proofs.setting_words.set_globals.Given as goal

abbrev pub invariant-loop-word : goal.invariant-loop-word
invariant-loop-word l =
    (with_globals l.settings (map (λ word. word.now) (drop l.word-index l.words)) ≡ with_globals l.fn.settings (map (λ word. word.now) l.words))
    × (unset_global (map (λ word. word.now) (drop l.word-index l.words)) ≡ unset_global (map (λ word. word.now) l.words))
