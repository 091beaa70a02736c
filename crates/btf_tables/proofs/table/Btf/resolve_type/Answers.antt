use Rattle.btf_tables.proofs.Held.{chains_are_held}
use Rattle.btf_tables.proofs.Rests.{end_reached, resolved_rests}
use Rattle.btf_tables.proofs.Walks.{no_end, resolved_again, resolved_chain}
use Rattle.btf_tables.proofs.table.Btf.resolve_type.Goals as goal

pub returns-clause-chain : goal.returns-clause-chain
returns-clause-chain c = resolved_chain c.args.self.now c.args.type_id c.chain_end.result c.chain_end.ensures

pub returns-clause-no_chain : goal.returns-clause-no_chain
returns-clause-no_chain c = no_end c.args.self.now c.args.type_id c.chain_end.result c.chain_end.ensures

pub returns-clause-again : goal.returns-clause-again
returns-clause-again c = resolved_again c.args.self.now c.args.type_id c.chain_end.result c.chain_end.ensures

pub returns-clause-reached : goal.returns-clause-reached
returns-clause-reached c = end_reached c.args.self.now c.args.type_id c.chain_end.result (resolved_chain c.args.self.now c.args.type_id c.chain_end.result c.chain_end.ensures)

pub returns-clause-rests : goal.returns-clause-rests
returns-clause-rests c = resolved_rests c.args.self.now c.args.type_id

pub returns-clause-held : goal.returns-clause-held
returns-clause-held c = chains_are_held
