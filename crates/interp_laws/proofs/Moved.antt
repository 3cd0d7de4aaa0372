-- A premise whose eigenvariable is renamed at a new conclusion.
use Rattle.std.proofs.Common.{◌≡◌, true, false, if◌then◌else◌, Option, Some, None, refl, subst}
use Rattle.fol.specs.declared.symbols.Var.{Var}
use Rattle.fol.specs.Syntax.{free}
use Rattle.substitution.specs.Maps.{only}
use Rattle.lk_rules.specs.declared.sequent.Sequent.{Sequent}
use Rattle.lk_rules.specs.declared.rule.Rule.{Rule}
use Rattle.lk_rules.specs.declared.rule.Rule.TheVariants.{AllR, ExL}
use Rattle.lk_rules.specs.RuleOrder.{variable_of}
use Rattle.lk_rules.specs.Sequents.{is_free_in_sequent}
use Rattle.lk_rules.specs.Rules.{is_unfolding_rule}
use Rattle.proof_trees.specs.Trees.{Tree, Trees, none, more, count, first_end, second_end, IsInference, IsValid, is_cut, cut_free}
use Rattle.proof_trees.specs.Shapes.{height}
use Rattle.proof_trees.specs.Substitution.{renamed, sub, sub_all}
use Rattle.proof_trees.proofs.Shapes.{height-sub}
use Rattle.proof_trees.proofs.Substituted.{cut_free-sub}
use Rattle.proof_trees.proofs.Verdicts.{row_of_verdict}
use Rattle.cut_laws.specs.Contraction.{moved_rule, renamed_trees, moved_trees}
use Rattle.cut_laws.proofs.Cuts.{Premises, premises_of}
use Rattle.cut_laws.proofs.Moved.{moved_premises}
use Rattle.interp_laws.specs.Interpolation.{moved_tree}

-- it is as high
pub moved_height : (s : Sequent) (o : Option Var) (p : Tree) → height (moved_tree s o p) ≡ height p
moved_height s None p = refl
moved_height s (Some y) p =
    elim (is_free_in_sequent y s) as (λ b. height (if b then sub p (only y (free (renamed y s))) else p) ≡ height p) [
      | true ↦ height-sub p (only y (free (renamed y s)))
      | false ↦ refl
    ]

-- and has as many cuts
pub moved_free : (s : Sequent) (o : Option Var) (p : Tree) → cut_free (moved_tree s o p) ≡ cut_free p
moved_free s None p = refl
moved_free s (Some y) p =
    elim (is_free_in_sequent y s) as (λ b. cut_free (if b then sub p (only y (free (renamed y s))) else p) ≡ cut_free p) [
      | true ↦ cut_free-sub p (only y (free (renamed y s)))
      | false ↦ refl
    ]

pub moved_cut : (s : Sequent) (r : Rule) → is_cut (moved_rule s r) ≡ is_cut r
moved_cut s (AllR a y) = refl
moved_cut s (ExL a y) = refl
moved_cut s r = refl

pub moved_unfolding : (s : Sequent) (r : Rule) → is_unfolding_rule (moved_rule s r) ≡ is_unfolding_rule r
moved_unfolding s (AllR a y) = refl
moved_unfolding s (ExL a y) = refl
moved_unfolding s r = refl

one_renamed : (s : Sequent) (y : Var) (p : Tree) → renamed_trees s y (more p none) ≡ more (moved_tree s (Some y) p) none
one_renamed s y p =
    elim (is_free_in_sequent y s) as (λ b. (if b then sub_all (more p none) (only y (free (renamed y s))) else more p none) ≡ more (if b then sub p (only y (free (renamed y s))) else p) none) [
      | true ↦ refl
      | false ↦ refl
    ]

-- one tree is moved by itself
pub one_moved : (s : Sequent) (r : Rule) (p : Tree) → moved_trees s r (more p none) ≡ more (moved_tree s (variable_of r) p) none
one_moved s (AllR a y) p = one_renamed s y p
one_moved s (ExL a y) p = one_renamed s y p
one_moved s r p = refl

-- the moved premise is one of the moved rule at the old conclusion
pub moved_premise : (end s : Sequent) (r : Rule) (p : Tree) → IsInference r s (more p none) → IsValid p → Premises (moved_rule end r) s (more (moved_tree end (variable_of r) p) none)
moved_premise end s r p h valid =
    let ts : Trees = more p none in
    let row = row_of_verdict r s (count ts) (first_end ts) (second_end ts) h.right in
    subst (Premises (moved_rule end r) s) (one_moved end r p) (moved_premises r end s ts row h.formed (premises_of r s ts row (valid, tt)))
