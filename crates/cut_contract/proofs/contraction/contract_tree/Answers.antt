-- The pass stays right, since its arena only gets larger.
use Rattle.std.proofs.Common.{subst}
use Rattle.arena_cells.specs.Standing.{Extends}
use Rattle.proof_subst.proofs.Passes.{pass_stays}
use Rattle.cut_contract.proofs.contraction.contract_tree.Goals as goal

pub returns-clause-pass_stays : goal.returns-clause-pass_stays
returns-clause-pass_stays g c =
    pass_stays c.args.bench.now c.number_of.new.pass c.contract_number.new.arena c.number_of.ensures.pass_stays
    (subst (λ a. Extends a c.contract_number.new.arena) c.arena.ensures.value c.contract_number.ensures.grown)
