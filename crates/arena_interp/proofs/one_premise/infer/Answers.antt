-- The rule stands over the proof of its part.
use Rattle.std.proofs.Common.{ℕ, sym, subst}
use Rattle.interp_laws.specs.Interpolation.{inferred}
use Rattle.arena_cells.specs.declared.key.Parts.TheVariants.{One}
use Rattle.arena_cells.specs.Standing.{HasTree, formula_at, sequent_at, IsSequentAt, IsTreeAt}
use Rattle.arena_cells.specs.Meaning.{rule_at}
use Rattle.arena_interp.specs.declared.interpolated.Interpolated.{Interpolated}
use Rattle.arena_interp.specs.Endings.{ended}
use Rattle.arena_interp.specs.Partitions.{interpolation_at, HasInterpolation}
use Rattle.arena_interp.proofs.LastInferences.{proof_there, inferred_there}
use Rattle.arena_interp.proofs.Quantified.{part_there}
use Rattle.arena_interp.proofs.one_premise.infer.Goals as goal

pub infer_with-requires-clause-sequent : goal.infer_with-requires-clause-sequent
infer_with-requires-clause-sequent c = subst (λ (n : ℕ). IsSequentAt c.args.arena.now n) (sym c.part_at-part.ensures) (part_there c.args.arena.now c.args.side c.args.one c.args.two c.requires.one c.requires.two)

pub infer_with-requires-clause-ending : goal.infer_with-requires-clause-ending
infer_with-requires-clause-ending c = record {
  rule = c.requires.rule;
  premises = subst (λ (n : ℕ). IsTreeAt c.args.arena.now n) (sym c.proof.ensures) (proof_there c.args.arena.now c.args.made c.args.side c.requires.made);
}

pub returns-clause-made : goal.returns-clause-made
returns-clause-made c =
    let a = c.args.arena.now in
    let b = c.infer_with.new.arena in
    let tree =
    subst (λ (P : Type 0). P) (λ i. HasTree b c.in_ok-proof.proof (ended a (record { rule = c.args.rule; premises = One (c.proof.ensures i) }) (sequent_at a (c.part_at-part.ensures i)) c.args.side (formula_at a c.args.made.formula)))
    c.in_ok-proof.ensures.tree in
    subst (λ (n : Interpolated). HasInterpolation b (inferred c.args.side (rule_at a c.args.rule) (sequent_at a c.args.one) (sequent_at a c.args.two) (interpolation_at a c.args.made)) n) (sym c.with_proof.ensures)
    (inferred_there a b c.infer_with.ensures.grown c.args.side c.args.rule c.args.one c.args.two c.in_ok-proof.proof c.args.made c.requires.made tree)
