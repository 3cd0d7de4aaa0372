-- The inferences of which the proofs of refutations consist.
use Rattle.std.proofs.Common.{◌≡◌, true, [], ◌∷◌, refl, ◌∙◌, arith}
use Rattle.std.specs.Prelude.{Some, None}
use Rattle.std.specs.List.{All}
use Rattle.std.proofs.lemmas.List.Elements.{All-cons}
use Rattle.fol.specs.Syntax.{Term, Formula, bot, not, or, all}
use Rattle.finite.specs.Finite as set
use Rattle.substitution.specs.Instance.{inst}
use Rattle.lk_rules.specs.declared.sequent.Sequent.{Sequent}
use Rattle.lk_rules.specs.declared.sequent.Side.{Side}
use Rattle.lk_rules.specs.declared.sequent.Side.TheVariants.{Left, Right}
use Rattle.lk_rules.specs.declared.rule.Rule.{Rule}
use Rattle.lk_rules.specs.declared.rule.Rule.TheVariants.{Ax, BotL, NegL, OrL, AllL, Cut}
use Rattle.lk_rules.specs.Formulas.{FormulaSet}
use Rattle.lk_rules.specs.Sequents.{side_of, adds_to}
use Rattle.lk_rules.specs.Rules.{IsFormedRule, main, verdict_of, IsWithin, Row}
use Rattle.proof_trees.specs.Trees.{Tree, none, more, concl, IsInference}
use Rattle.proof_trees.proofs.Verdicts.{verdict_of_row}

-- an inference with no premise, with one and with two
module _ (r : Rule) (s : Sequent) (formed : IsFormedRule r) where
  no_premise : Row r s 0 None None → IsInference r s none
  no_premise row = record { right = verdict_of_row r s 0 None None row; formed = formed }

  one_premise : (t : Tree) (e : Sequent) → concl t ≡ e → Row r s 1 (Some e) None → IsInference r s (more t none)
  one_premise t e end row = record {
    right = (λ i. verdict_of r s 1 (Some (end i)) None) ∙ verdict_of_row r s 1 (Some e) None row;
    formed = formed;
  }

  two_premises : (t u : Tree) (d e : Sequent) → concl t ≡ d → concl u ≡ e → Row r s 2 (Some d) (Some e) → IsInference r s (more t (more u none))
  two_premises t u d e first second row = record {
    right = (λ i. verdict_of r s 2 (Some (first i)) (Some (second i))) ∙ verdict_of_row r s 2 (Some d) (Some e) row;
    formed = formed;
  }

none_stand : (s : FormulaSet) → All (λ f. set.has s f ≡ true) []
none_stand s k d l = absurd (omega arith)

one_stands : (s : FormulaSet) (f : Formula) → set.has s f ≡ true → All (λ g. set.has s g ≡ true) (f ∷ [])
one_stands s f h = All-cons (λ g. set.has s g ≡ true) f [] h (none_stand s)

-- the axiom, and falsity on the left
pub initial : (s : Sequent) (f : Formula) → IsFormedRule (Ax f) → set.has s.left f ≡ true → set.has s.right f ≡ true → IsInference (Ax f) s none
initial s f formed left right = no_premise (Ax f) s formed (record {
  premises = refl;
  shape = refl;
  main_formula = stands;
  eigenvariable = refl;
  first_premise = tt;
  second_premise = tt;
})
  where
    stands : (side : Side) → All (λ g. set.has (side_of s side) g ≡ true) (main (Ax f) side)
    stands Left = one_stands s.left f left
    stands Right = one_stands s.right f right

pub falsity : (s : Sequent) → set.has s.left bot ≡ true → IsInference BotL s none
falsity s left = no_premise BotL s refl (record {
  premises = refl;
  shape = refl;
  main_formula = stands;
  eigenvariable = refl;
  first_premise = tt;
  second_premise = tt;
})
  where
    stands : (side : Side) → All (λ g. set.has (side_of s side) g ≡ true) (main BotL side)
    stands Left = one_stands s.left bot left
    stands Right = none_stand s.right

-- a negation on the left
pub negation : (s : Sequent) (f : Formula) (t : Tree) → IsFormedRule (NegL (not f)) → set.has s.left (not f) ≡ true → concl t ≡ adds_to s Right f → IsInference (NegL (not f)) s (more t none)
negation s f t formed left end = one_premise (NegL (not f)) s formed t (adds_to s Right f) end (record {
  premises = refl;
  shape = refl;
  main_formula = stands;
  eigenvariable = refl;
  first_premise = record { left = λ q e. e; right = λ q e. e };
  second_premise = tt;
})
  where
    stands : (side : Side) → All (λ g. set.has (side_of s side) g ≡ true) (main (NegL (not f)) side)
    stands Left = one_stands s.left (not f) left
    stands Right = none_stand s.right

-- a disjunction on the left
pub disjunction : (s : Sequent) (f g : Formula) (t u : Tree) → IsFormedRule (OrL (or f g)) → set.has s.left (or f g) ≡ true → concl t ≡ adds_to s Left f → concl u ≡ adds_to s Left g
    → IsInference (OrL (or f g)) s (more t (more u none))
disjunction s f g t u formed left first second = two_premises (OrL (or f g)) s formed t u (adds_to s Left f) (adds_to s Left g) first second (record {
  premises = refl;
  shape = refl;
  main_formula = stands;
  eigenvariable = refl;
  first_premise = record { left = λ q e. e; right = λ q e. e };
  second_premise = record { left = λ q e. e; right = λ q e. e };
})
  where
    stands : (side : Side) → All (λ g. set.has (side_of s side) g ≡ true) (main (OrL (or f g)) side)
    stands Left = one_stands s.left (or f g) left
    stands Right = none_stand s.right

-- a universal formula on the left
pub instance : (s : Sequent) (b : Formula) (u : Term) (t : Tree) → IsFormedRule (AllL (all b) u) → set.has s.left (all b) ≡ true → concl t ≡ adds_to s Left (inst b u) → IsInference (AllL (all b) u) s (more t none)
instance s b u t formed left end = one_premise (AllL (all b) u) s formed t (adds_to s Left (inst b u)) end (record {
  premises = refl;
  shape = refl;
  main_formula = stands;
  eigenvariable = refl;
  first_premise = record { left = λ q e. e; right = λ q e. e };
  second_premise = tt;
})
  where
    stands : (side : Side) → All (λ g. set.has (side_of s side) g ≡ true) (main (AllL (all b) u) side)
    stands Left = one_stands s.left (all b) left
    stands Right = none_stand s.right

-- a cut
pub cut : (s : Sequent) (a : Formula) (t u : Tree) (d e : Sequent) → IsFormedRule (Cut a) → concl t ≡ d → concl u ≡ e → IsWithin (Cut a) s 0 d → IsWithin (Cut a) s 1 e → IsInference (Cut a) s (more t (more u none))
cut s a t u d e formed first second left right = two_premises (Cut a) s formed t u d e first second (record {
  premises = refl;
  shape = refl;
  main_formula = stands;
  eigenvariable = refl;
  first_premise = left;
  second_premise = right;
})
  where
    stands : (side : Side) → All (λ g. set.has (side_of s side) g ≡ true) (main (Cut a) side)
    stands Left = none_stand s.left
    stands Right = none_stand s.right
