-- The Herbrand sequent of instances.
use Rattle.std.proofs.Common.{◌≡◌, true, List, sym, subst}
use Rattle.fol.specs.Syntax.{Formula}
use Rattle.finite.specs.Finite as set
use Rattle.lk_rules.specs.declared.sequent.Sequent.{Sequent}
use Rattle.lk_rules.specs.declared.sequent.Side.{Side}
use Rattle.lk_rules.specs.Sequents.{side_of}
use Rattle.search_laws.specs.Truth.{IsPropositional, IsTautology}
use Rattle.herbrand_laws.specs.Herbrand.{Item, herbrand_sequent, IsMatrixInstance}
use Rattle.herbrand_laws.proofs.Herbrand.{herbrand_tautology, herbrand_plain, herbrand_instance}
use Rattle.cut_intro.specs.Instancing.{AreInstancesFor}

module _ (s : Sequent) (items : List Item) (h : AreInstancesFor s items) where
  pub tautology : IsTautology (herbrand_sequent items)
  tautology = subst (λ is. IsTautology (herbrand_sequent is)) (sym h.of_trees) (herbrand_tautology h.expansion s h.proof.proof h.proof.prenex)

  pub propositional : IsPropositional (herbrand_sequent items)
  propositional = subst (λ is. IsPropositional (herbrand_sequent is)) (sym h.of_trees) (herbrand_plain h.expansion s h.proof.proof h.proof.prenex)

  pub instances : (side : Side) (f : Formula) → set.has (side_of (herbrand_sequent items) side) f ≡ true → IsMatrixInstance s side f
  instances = subst (λ is. (side : Side) (f : Formula) → set.has (side_of (herbrand_sequent is) side) f ≡ true → IsMatrixInstance s side f) (sym h.of_trees) (herbrand_instance h.expansion s h.proof.proof h.proof.prenex)
