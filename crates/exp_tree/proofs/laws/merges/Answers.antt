-- By the lemmas on merged trees.
use Rattle.exp_tree.proofs.Merged.{shallow-merged, stands-merged, formed-merged, built-merged}
use Rattle.exp_tree.proofs.laws.merges.Goals as goal

pub returns : goal.returns
returns c = record {
  formula = λ d e h. shallow-merged d e h.formulas;
  stands = λ s d e h. stands-merged s d e;
  proper = λ d e h p q. record { built = built-merged d e h.variables h.formulas p.built q.built; formed = formed-merged d e p.formed q.formed };
}
