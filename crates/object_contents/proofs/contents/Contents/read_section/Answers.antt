use Rattle.std.proofs.Common.{◌≡◌, ◌∷◌, ◌++◌, [], ℕ, List, false, ap, subst, sym, ◌∙◌}
use Rattle.std.specs.Option.{option_copied}
use Rattle.elf64.specs.Sections.{Section}
use Rattle.elf64.specs.Symbols.{Symbol, symbols_of}
use Rattle.object_file.specs.Reading.{is_unreadable}
use Rattle.object_file.specs.Relocations.{has_relocation_without_symbol}
use Rattle.object_file.specs.Symbols.{symbols_in}
use Rattle.object_maps.specs.Found.{entered}
use Rattle.object_maps.specs.Maps.{section_faults, section_maps}
use Rattle.object_contents.proofs.Sections.{one_read}
use Rattle.object_contents.specs.Contents.{AreContentsOf}
use Rattle.object_contents.specs.declared.contents.Contents.{Contents}
use Rattle.object_contents.proofs.contents.Contents.read_section.Goals as goal

pub returns-clause-read : goal.returns-clause-read
returns-clause-read c = λ sections are.
    let file = c.args.file.now in
    let table = option_copied c.args.table in
    let extension = option_copied c.args.extension in
    let section = c.in_ok-section.section in
    let same : section ≡ c.args.view = c.in_ok-section.ensures.value in
    let given : c.symbols_in-symbols.result.now ≡ symbols_in (symbols_of file) section.index =
    c.symbols_in-symbols.ensures ∙ ap (λ (i : ℕ). symbols_in (symbols_of file) i) c.index.ensures in
    let read : Contents = record { sections = c.push.new.self; code = c.read_code.new.code; maps = c.read_section-2.new.self } in
    subst (λ (s : Section). AreContentsOf file table extension (sections ++ s ∷ []) read) same
    (one_read file table extension sections section c.args.self.now read are
    c.in_ok-push.ensures.items
    (subst (λ (s : Section). is_unreadable s ≡ false) (sym same) c.in_ok-section.ensures.readable)
    (subst (λ (s : Section). has_relocation_without_symbol file s ≡ false) (sym same) c.in_ok-section.ensures.related)
    c.in_ok-read_code.ensures.programs
    c.in_ok-read_code.ensures.functions
    (c.in_ok-read_code.ensures.complete are.complete)
    c.in_ok-read_code.ensures.accepted
    (c.in_ok-read_section.ensures.value ∙ ap (λ (ss : List Symbol). entered c.args.self.now.maps (section_maps table ss section)) given)
    (ap (λ (ss : List Symbol). section_faults table ss section) (sym given) ∙ c.in_ok-read_section.ensures.accepted))
