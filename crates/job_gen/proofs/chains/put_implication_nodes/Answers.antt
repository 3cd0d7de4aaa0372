use Rattle.json_text.proofs.Adding.{adds_then}
use Rattle.job_gen.proofs.chains.put_implication_nodes.Goals as goal

pub returns : goal.returns
returns c = adds_then c.put_leaf.ensures (adds_then c.put_leaf-2.ensures c.put_imp.ensures)
