use Rattle.ebpf_object.proofs.object.Object.resolve_externs.Goals as goal

pub returns-clause-refused : goal.returns-clause-refused
returns-clause-refused g c = rw (← c.self.view_is, ← c.as_ref.ensures.value) c.resolve_externs.ensures.refused
