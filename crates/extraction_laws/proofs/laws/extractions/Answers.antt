-- By the lemmas on what isn't refused.
use Rattle.std.proofs.Common.{sym, subst}
use Rattle.proof_trees.specs.Trees.{concl}
use Rattle.expansion_laws.specs.Dependency.{Expansion}
use Rattle.expansion_laws.specs.Proofs.{IsExpansionProof}
use Rattle.extraction_laws.proofs.Extracted.{expansion_proof}
use Rattle.extraction_laws.proofs.ExtractionOrder.{expansion, cut_free, bodies, budget}
use Rattle.extraction_laws.proofs.laws.extractions.Goals as goal

pub returns : goal.returns
returns c = record {
  expansion = expansion;
  proof = λ t n x valid e. subst (λ (y : Expansion). IsExpansionProof y (concl t)) (sym (expansion t n x e)) (expansion_proof t valid (cut_free t n x e) (bodies t n x e));
  cut_free = cut_free;
  bodies = bodies;
  budget = budget;
}
