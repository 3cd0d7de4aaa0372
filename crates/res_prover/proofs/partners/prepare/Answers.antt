-- The sides of the images have atoms alone.
use Rattle.std.proofs.Common.{false, true, sym, subst, ◌∙◌}
use Rattle.clause_laws.specs.Subsumption.{IsClause}
use Rattle.clause_laws.proofs.Atomic.{clause_image}
use Rattle.res_prover.specs.Lists.{lists_of}
use Rattle.res_prover.specs.GroundAtoms.{AreGroundMarksOf}
use Rattle.res_prover.specs.Choosing.{AreUnifiedChoices}
use Rattle.res_prover.specs.Resolved.{IsAtomFormed}
use Rattle.res_prover.specs.Reached.{apart_by}
use Rattle.std.specs.List.{All}
use Rattle.res_prover.proofs.ClauseAtoms.{left_atoms, right_atoms}
use Rattle.res_prover.proofs.partners.prepare.Goals as goal

pub choices-requires : goal.choices-requires
choices-requires c =
    let clause = subst IsClause (sym (c.in_ok-clause.ensures ∙ c.clause.ensures)) c.requires in
    right_atoms c.in_ok-first.first (subst IsClause (sym c.in_ok-first.ensures) (clause_image (apart_by false) c.in_ok-clause.clause clause)) c.right-right.result.now c.right-right.ensures.listing c.right-right.ensures.formed

pub choices-requires-2 : goal.choices-requires-2
choices-requires-2 c =
    let clause = subst IsClause (sym (c.in_ok-clause.ensures ∙ c.clause.ensures)) c.requires in
    left_atoms c.in_ok-second.second (subst IsClause (sym c.in_ok-second.ensures) (clause_image (apart_by true) c.in_ok-clause.clause clause)) c.left-left.result.now c.left-left.ensures.listing c.left-left.ensures.formed

pub returns-clause-partner : goal.returns-clause-partner
returns-clause-partner c =
    let clause = subst IsClause (sym (c.in_ok-clause.ensures ∙ c.clause.ensures)) c.requires in
    let first_is = subst IsClause (sym c.in_ok-first.ensures) (clause_image (apart_by false) c.in_ok-clause.clause clause) in
    let second_is = subst IsClause (sym c.in_ok-second.ensures) (clause_image (apart_by true) c.in_ok-clause.clause clause) in
    record {
      clause = clause;
      first = c.in_ok-first.ensures;
      second = c.in_ok-second.ensures;
      right_atoms = subst (All IsAtomFormed) c.right-right.ensures.listing (right_atoms c.in_ok-first.first first_is c.right-right.result.now c.right-right.ensures.listing c.right-right.ensures.formed);
      left_atoms = subst (All IsAtomFormed) c.left-left.ensures.listing (left_atoms c.in_ok-second.second second_is c.left-left.result.now c.left-left.ensures.listing c.left-left.ensures.formed);
      right_marks = subst (λ fs. AreGroundMarksOf fs c.ground_marks-right_marks.result) c.right-right.ensures.listing c.ground_marks-right_marks.ensures;
      left_marks = subst (λ fs. AreGroundMarksOf fs c.ground_marks-left_marks.result) c.left-left.ensures.listing c.ground_marks-left_marks.ensures;
      rights = subst (λ fs. AreUnifiedChoices fs (lists_of c.in_ok-rights.rights.items)) c.right-right.ensures.listing c.in_ok-rights.ensures;
      lefts = subst (λ fs. AreUnifiedChoices fs (lists_of c.in_ok-lefts.lefts.items)) c.left-left.ensures.listing c.in_ok-lefts.ensures;
    }
