-- What a round prepares of each clause.
--     partner_clauses      the clauses alone
--     Aged, kept_aged, partner_aged      clauses, each with whether it is new
--     IsPartner      a clause with its two images that are apart, and the marks and choices of their atoms
use Rattle.std.specs.Prelude.{◌≡◌, Bool, List, map}
use Rattle.std.specs.List.{All}
use Rattle.finite.specs.Finite as set
use Rattle.lk_rules.specs.declared.sequent.Sequent.{Sequent}
use Rattle.lk_rules.specs.Sequents.{image_sequent}
use Rattle.clause_laws.specs.Apart.{first_apart, second_apart}
use Rattle.clause_laws.specs.Subsumption.{IsClause}
use Rattle.res_prover.specs.declared.kept.Kept.{Kept}
use Rattle.res_prover.specs.declared.partners.Partner.{Partner}
use Rattle.res_prover.specs.Lists.{lists_of}
use Rattle.res_prover.specs.Resolved.{IsAtomFormed}
use Rattle.res_prover.specs.GroundAtoms.{AreGroundMarksOf}
use Rattle.res_prover.specs.Choosing.{AreUnifiedChoices}

abbrev pub partner_clauses : List Partner → List Sequent
partner_clauses ps = map (λ (p : Partner). p.clause) ps

-- a clause, and whether it is new
abbrev pub Aged : Type 0
Aged = Sequent × Bool

abbrev pub kept_aged : List Kept → List Aged
kept_aged ks = map (λ (k : Kept). (k.clause, k.is_new)) ks

abbrev pub partner_aged : List Partner → List Aged
partner_aged ps = map (λ (p : Partner). (p.clause, p.is_new)) ps

-- a clause, renamed for either place of a resolution, with the marks of the atoms that a resolution there may take, and the choices of these
pub record IsPartner (p : Partner) : Type 0 where
  pub clause : IsClause p.clause
  pub first : p.first ≡ image_sequent first_apart p.clause
  pub second : p.second ≡ image_sequent second_apart p.clause
  pub right_atoms : All IsAtomFormed (set.listing p.first.right)
  pub left_atoms : All IsAtomFormed (set.listing p.second.left)
  pub right_marks : AreGroundMarksOf (set.listing p.first.right) p.right_marks
  pub left_marks : AreGroundMarksOf (set.listing p.second.left) p.left_marks
  pub rights : AreUnifiedChoices (set.listing p.first.right) (lists_of p.rights.items)
  pub lefts : AreUnifiedChoices (set.listing p.second.left) (lists_of p.lefts.items)
