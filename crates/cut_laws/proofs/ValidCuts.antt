-- What a valid cut says of its premises, where neither end is a subsequent of the conclusion: the cut formula doesn't stand in the
-- conclusion, and a rule that introduces it isn't an axiom.
use Rattle.std.proofs.Common.{◌≡◌, suc, true, false, List, [], ◌∷◌, sym, ap, subst, ◌∙◌, arith}
use Rattle.std.specs.List.{All, list_any}
use Rattle.std.specs.Ordering.{eq_by_cmp}
use Rattle.fol.specs.Syntax.{Formula}
use Rattle.fol.specs.Order.{formula_cmp}
use Rattle.finite.specs.Finite as set
use Rattle.lk_rules.specs.declared.sequent.Sequent.{Sequent}
use Rattle.lk_rules.specs.declared.sequent.Side.{Side}
use Rattle.lk_rules.specs.declared.sequent.Side.TheVariants.{Left, Right}
use Rattle.lk_rules.specs.Formulas.{FormulaSet}
use Rattle.lk_rules.specs.Sequents.{side_of, adds_to, is_subsequent, IsSubsequent}
use Rattle.lk_rules.specs.Rules.{main}
use Rattle.lk_rules.proofs.Subsequents.{is_subsequent_of}
use Rattle.proof_trees.specs.Trees.{Tree, concl, rule_of, IsValid}
use Rattle.proof_trees.proofs.Booleans.{either}
use Rattle.proof_trees.proofs.WithoutBodies.{stays_false}
use Rattle.cut_laws.specs.Contraction.{introduces, opposite, cut_on}
use Rattle.cut_laws.proofs.Sides.{equal, through, absorbed}
use Rattle.cut_laws.proofs.Cuts.{row_of, ValidCut, turned, valid_cut, cut_valid}
use Rattle.cut_laws.proofs.Introduced.{IsIntroduction, is_introduction}

-- a formula of a list that a set has
member : (s : FormulaSet) (a : Formula) (fs : List Formula) → All (λ f. set.has s f ≡ true) fs → list_any (eq_by_cmp formula_cmp a) fs ≡ true → set.has s a ≡ true
member s a [] there m = cc
member s a (f ∷ fs) there m =
    either (eq_by_cmp formula_cmp a f) (list_any (eq_by_cmp formula_cmp a) fs)
    (λ same. ap (set.has s) (equal a f same) ∙ there 0 f (omega arith))
    (member s a fs (λ k d less. there (suc k) d (omega arith)))
    m

-- a main formula stands in the conclusion
introduced_in_end : (side : Side) (t : Tree) (a : Formula) → IsValid t → introduces side a t ≡ true → set.has (side_of (concl t) side) a ≡ true
introduced_in_end side t a h = member (side_of (concl t) side) a (main (rule_of t) side) ((row_of t h).main_formula side)

-- on the other side the conclusion of the cut has what the premise has
beside : (side : Side) (e s : Sequent) (a : Formula) → IsSubsequent e (adds_to s side a) → set.IsSubset (side_of e (opposite side)) (side_of s (opposite side))
beside Left e s a h = h.right
beside Right e s a h = h.left

module _ (side : Side) (s : Sequent) (a : Formula) (t u : Tree) (h : ValidCut side s a t u) where
  pub out_of_conclusion : is_subsequent (concl t) s ≡ false → set.has (side_of s side) a ≡ false
  out_of_conclusion =
      stays_false (set.has (side_of s side) a) (is_subsequent (concl t) s)
      (λ there. is_subsequent_of (concl t) s (through (concl t) (adds_to s side a) s h.within (absorbed side s a there)))

pub introduction : (side : Side) (s : Sequent) (a : Formula) (t u : Tree) → ValidCut side s a t u → is_subsequent (concl u) s ≡ false → introduces side a t ≡ true → IsIntroduction side (rule_of t) a
introduction side s a t u h open_end intro =
    is_introduction side (rule_of t) a (row_of t h.valid).shape intro
    (stays_false (introduces (opposite side) a t) (set.has (side_of s (opposite side)) a)
    (λ m. beside side (concl t) s a h.within a (introduced_in_end (opposite side) t a h.valid m))
    (out_of_conclusion (opposite side) s a u t (turned side s a t u h) open_end))

-- another premise with the same conclusion

pub cut_valid_with : (side : Side) (s : Sequent) (a : Formula) (t u v : Tree) → IsValid (cut_on side s a t u) → concl v ≡ concl t → IsValid v → IsValid (cut_on side s a v u)
cut_valid_with side s a t u v h same valid =
    let c : ValidCut side s a t u = valid_cut side s a t u h in
    cut_valid side s a v u (record {
      formed = c.formed;
      within = subst (λ e. IsSubsequent e (adds_to s side a)) (sym same) c.within;
      other = c.other;
      valid = valid;
      other_valid = c.other_valid;
    })
