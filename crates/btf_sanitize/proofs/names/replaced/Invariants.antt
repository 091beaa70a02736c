use Rattle.std.proofs.Common.{◌≡◌, ◌++◌, drop}
use Rattle.btf_sanitize.specs.Names.{replaced}
use Rattle.btf_sanitize.proofs.names.replaced.Given as goal

abbrev pub invariant-loop-byte : goal.invariant-loop-byte
invariant-loop-byte l = l.text.items ++ replaced l.from l.to (drop l.byte-index l.name) ≡ replaced l.from l.to l.name
