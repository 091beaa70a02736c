use Rattle.std.proofs.Common.{◌≡◌, length, rules}
use Rattle.std.proofs.lemmas.Str.{is_utf8-from_IsUtf8}
use Rattle.btf_tables.proofs.Texts.{added_text}
use Rattle.btf_tables.proofs.table.Btf.add_string.Goals as goal

pub returns-clause-found : goal.returns-clause-found
returns-clause-found c =
    let offset : c.len-len.result ≡ length c.self.inside.strings = search rules in
    rw (c.in_ok-push.ensures.ok, offset) (added_text c.self.inside.strings c.args.text.now c.requires (is_utf8-from_IsUtf8 _ c.utf8.text))
