-- The pass stays right, since its arena only gets larger.
use Rattle.std.proofs.Common.{subst}
use Rattle.arena_cells.specs.Standing.{Extends}
use Rattle.proof_subst.proofs.Passes.{pass_stays}
use Rattle.resolution_import.proofs.importing.find_proof.Goals as goal

pub returns-clause-pass_stays : goal.returns-clause-pass_stays
returns-clause-pass_stays c =
    pass_stays c.args.bench.now c.args.pass.now c.prove_last.new.arena c.requires.pass_of
    (subst (λ a. Extends a c.prove_last.new.arena) c.arena.ensures.value c.prove_last.ensures.grown)
