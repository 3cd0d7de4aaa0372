-- A new table knows no number.
use Rattle.exp_to_lk.proofs.building.build.Goals as goal

pub export_proof-requires-clause-numbers : goal.export_proof-requires-clause-numbers
export_proof-requires-clause-numbers g c = c.new-numbers.ensures c.args.graph.now c.build_in.new.arena
