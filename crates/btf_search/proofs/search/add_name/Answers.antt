use Rattle.btf_search.proofs.Wanted.{more_beginnings}
use Rattle.btf_search.proofs.search.add_name.Goals as goal

pub returns : goal.returns
returns c = record {
  prefixes = more_beginnings c.args.names.now.keys c.insert.new.self.keys c.args.name.now c.args.prefixes.now _ c.requires.prefixes c.mark.ensures (λ other. c.in_ok-insert.ensures.updates.0 (record { ref_ptr = (0, 0); now = other }));
  len = c.mark.ensures.len;
}
