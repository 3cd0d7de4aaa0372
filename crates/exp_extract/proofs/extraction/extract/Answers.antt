-- What is extracted is an expansion proof of the conclusion.
use Rattle.std.proofs.Common.{sym, ap, subst, ◌∙◌}
use Rattle.proof_trees.specs.Trees.{concl}
use Rattle.expansion_laws.specs.Dependency.{Expansion}
use Rattle.expansion_laws.specs.Proofs.{IsExpansionProof}
use Rattle.extraction_laws.specs.Extraction.{extracted}
use Rattle.exp_tree.specs.Reads.{expansion_of}
use Rattle.exp_extract.proofs.Whole.{own_sequent}
use Rattle.exp_extract.proofs.extraction.extract.Goals as goal

pub new-requires : goal.new-requires
new-requires c =
    let t = c.args.proof.now.tree in
    let proved = c.extractions.ensures.proof t c.args.budget (extracted t) c.known.ensures.valid c.in_ok-check.ensures.ok in
    own_sequent (expansion_of c.in_ok-trees.trees) (concl t) (subst (λ (x : Expansion). IsExpansionProof x (concl t)) (sym c.in_ok-trees.ensures) proved)

pub returns-clause-proof : goal.returns-clause-proof
returns-clause-proof c =
    let t = c.args.proof.now.tree in
    let proved = c.extractions.ensures.proof t c.args.budget (extracted t) c.known.ensures.valid c.in_ok-check.ensures.ok in
    subst (λ (x : Expansion). IsExpansionProof x (concl t)) (sym (ap expansion_of c.new.ensures ∙ c.in_ok-trees.ensures)) proved

pub returns-clause-sequent : goal.returns-clause-sequent
returns-clause-sequent c = (returns-clause-proof c).formulas
