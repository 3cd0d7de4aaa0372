-- The end sequent has the closures, which are well formed.
use Rattle.std.proofs.Common.{sym, subst}
use Rattle.lk_rules.specs.declared.sequent.Sequent.{Sequent}
use Rattle.proof_trees.specs.Conclusions.{IsFormedSequent}
use Rattle.arena_refutations.proofs.Closings.{closures_formed}
use Rattle.resolution_import.proofs.importing.import.Goals as goal

pub proof_at-requires-clause-formed : goal.proof_at-requires-clause-formed
proof_at-requires-clause-formed g c =
    subst (λ (s : Sequent). IsFormedSequent s) (sym (c.refutations.ensures.end c.args.clauses.now c.args.steps.now _ c.requires.clauses c.requires.steps c.in_ok-last.ensures.tree))
    (closures_formed c.args.clauses.now c.in_ok-last.ensures.formed)
