-- The arena of the pass only gets larger, and so the pass stays right.
use Rattle.std.proofs.Common.{subst}
use Rattle.arena_cells.specs.Standing.{Extends}
use Rattle.proof_subst.proofs.Passes.{pass_stays}
use Rattle.proof_flat.proofs.flattening.flat_number.Goals as goal

pub returns-in_err-copied-clause-arena : goal.returns-in_err-copied-clause-arena
returns-in_err-copied-clause-arena c = subst (λ a. Extends a c.copy_tree.new.to) c.arena-arena.ensures.value c.copy_tree.ensures.grown

pub returns-in_err-copied-clause-pass_stays : goal.returns-in_err-copied-clause-pass_stays
returns-in_err-copied-clause-pass_stays c =
    pass_stays c.args.bench.now c.args.pass.now c.copy_tree.new.to c.requires.pass_of (subst (λ a. Extends a c.copy_tree.new.to) c.arena-arena.ensures.value c.copy_tree.ensures.grown)

pub returns-clause-arena : goal.returns-clause-arena
returns-clause-arena c = subst (λ a. Extends a c.copy_tree.new.to) c.arena-arena.ensures.value c.copy_tree.ensures.grown

pub returns-clause-pass_stays : goal.returns-clause-pass_stays
returns-clause-pass_stays c =
    pass_stays c.args.bench.now c.args.pass.now c.copy_tree.new.to c.requires.pass_of (subst (λ a. Extends a c.copy_tree.new.to) c.arena-arena.ensures.value c.copy_tree.ensures.grown)
