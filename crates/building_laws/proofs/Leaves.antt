-- The leaves of a list, and the rule without premises that they allow.
use Rattle.std.proofs.Common.{◌≡◌, Bool, true, false, List, [], ◌∷◌, map, Some, None, refl, sym, ap, subst, ◌∙◌}
use Rattle.std.specs.Prelude.{find}
use Rattle.std.specs.List.{AllByRecursion, list_any}
use Rattle.std.specs.Ordering.{eq_by_cmp}
use Rattle.fol.specs.Syntax.{Formula, top, bot}
use Rattle.fol.specs.Order.{formula_cmp}
use Rattle.fol.specs.Formed.{is_formed}
use Rattle.finite.specs.Finite as set
use Rattle.finite.proofs.Finite.{has-listing}
use Rattle.lk_rules.specs.declared.sequent.Sequent.{Sequent}
use Rattle.lk_rules.specs.declared.sequent.Side.{Side}
use Rattle.lk_rules.specs.declared.sequent.Side.TheVariants.{Left, Right}
use Rattle.lk_rules.specs.declared.rule.Rule.{Rule}
use Rattle.lk_rules.specs.declared.rule.Rule.TheVariants.{Ax, TopR, BotL}
use Rattle.lk_rules.specs.Sequents.{side_of}
use Rattle.lk_rules.specs.Rules.{IsFormedRule, needs, has_shape, eigen_free, main_stands}
use Rattle.lk_rules.proofs.Subsequents.{and_right, and_both}
use Rattle.proof_trees.specs.Trees.{is_cut}
use Rattle.proof_trees.proofs.Booleans.{or_more}
use Rattle.proof_trees.proofs.FormulaSets.{equal}
use Rattle.search_laws.proofs.Listed.{among, among_first, among_later}
use Rattle.search_laws.proofs.Taken.{found_passes, found_among, none_found}
use Rattle.expansion_laws.specs.Expansions.{Exp, wk, leaf, neg, conj, disj, impl, weak, strong, shallow}
use Rattle.building_laws.specs.Lists.{Placed, on, with_tree, trees_on, leaf_formulas, leaf_sequent, conclusion}
use Rattle.building_laws.specs.Building.{axiom_or, closing_rule}
use Rattle.building_laws.proofs.Inside.{In, at_front, behind, all_in, from_any}
use Rattle.building_laws.proofs.Conclusions.{same_side, set_of, among_trees, is_formula, has-conclusion}
use Rattle.building_laws.proofs.Right.{IsRight}
use Rattle.building_laws.proofs.Taking.{some_same}

-- a leaf's formula is the formula of a tree
leaf_shallow : (f : Formula) (es : List Exp) → among (leaf_formulas es) f ≡ true → among (map shallow es) f ≡ true
leaf_shallow f [] m = m
leaf_shallow f (wk g ∷ es) m = among_later f g (map shallow es) (leaf_shallow f es m)
leaf_shallow f (leaf g ∷ es) m = or_more (eq_by_cmp formula_cmp f g) (among (leaf_formulas es) f) (eq_by_cmp formula_cmp f g) (among (map shallow es) f) (λ e. e) (leaf_shallow f es) m
leaf_shallow f (neg e ∷ es) m = among_later f (shallow (neg e)) (map shallow es) (leaf_shallow f es m)
leaf_shallow f (conj d e ∷ es) m = among_later f (shallow (conj d e)) (map shallow es) (leaf_shallow f es m)
leaf_shallow f (disj d e ∷ es) m = among_later f (shallow (disj d e)) (map shallow es) (leaf_shallow f es m)
leaf_shallow f (impl d e ∷ es) m = among_later f (shallow (impl d e)) (map shallow es) (leaf_shallow f es m)
leaf_shallow f (weak g is ∷ es) m = among_later f g (map shallow es) (leaf_shallow f es m)
leaf_shallow f (strong g y e ∷ es) m = among_later f g (map shallow es) (leaf_shallow f es m)

-- the leaves after a tree are still there
leaf_later : (f : Formula) (e : Exp) (es : List Exp) → among (leaf_formulas es) f ≡ true → among (leaf_formulas (e ∷ es)) f ≡ true
leaf_later f (wk g) es m = m
leaf_later f (leaf g) es m = among_later f g (leaf_formulas es) m
leaf_later f (neg e) es m = m
leaf_later f (conj d e) es m = m
leaf_later f (disj d e) es m = m
leaf_later f (impl d e) es m = m
leaf_later f (weak g is) es m = m
leaf_later f (strong g y e) es m = m

leaf_with : (f : Formula) (side s : Side) (e : Exp) (es : List Exp) → among (leaf_formulas es) f ≡ true → among (leaf_formulas (with_tree side s e es)) f ≡ true
leaf_with f Left Left e es m = leaf_later f e es m
leaf_with f Left Right e es m = m
leaf_with f Right Left e es m = m
leaf_with f Right Right e es m = leaf_later f e es m

own_leaf : (s : Side) (f : Formula) (es : List Exp) → among (leaf_formulas (with_tree s s (leaf f) es)) f ≡ true
own_leaf Left f es = among_first f (leaf_formulas es)
own_leaf Right f es = among_first f (leaf_formulas es)

among_leaves : (s : Side) (f : Formula) (l : List Placed) → In (on s (leaf f)) l → among (leaf_formulas (trees_on s l)) f ≡ true
among_leaves s f _ (at_front l) = own_leaf s f (trees_on s l)
among_leaves s f _ (behind q l i) = leaf_with f s q.side q.tree (trees_on s l) (among_leaves s f l i)

-- the formulas of the leaves

pub has-leaves : (l : List Placed) (side : Side) (f : Formula) → set.has (side_of (leaf_sequent l) side) f ≡ among (leaf_formulas (trees_on side l)) f
has-leaves l Left f = set_of (leaf_formulas (trees_on Left l)) f
has-leaves l Right f = set_of (leaf_formulas (trees_on Right l)) f

-- a leaf of the list is one of them
pub leaf_there : (l : List Placed) (s : Side) (f : Formula) → In (on s (leaf f)) l → set.has (side_of (leaf_sequent l) s) f ≡ true
leaf_there l s f i = has-leaves l s f ∙ among_leaves s f l i

leaf_formula : (l : List Placed) (side : Side) (f : Formula) → set.has (side_of (leaf_sequent l) side) f ≡ true → list_any (is_formula side f) l ≡ true
leaf_formula l side f m = sym (among_trees side f l) ∙ leaf_shallow f (trees_on side l) (sym (has-leaves l side f) ∙ m)

-- they stand in the conclusion
leaf_stands : (l : List Placed) (side : Side) (f : Formula) → set.has (side_of (leaf_sequent l) side) f ≡ true → set.has (side_of (conclusion l) side) f ≡ true
leaf_stands l side f m = has-conclusion l side f ∙ leaf_formula l side f m

-- and are well formed
leaf_formed : (l : List Placed) (side : Side) (f : Formula) → AllByRecursion IsRight l → set.has (side_of (leaf_sequent l) side) f ≡ true → is_formed f ≡ true
leaf_formed l side f right m =
    from_any (is_formula side f) l
    (λ p inside is. ap is_formed (equal f (shallow p.tree) (and_right (same_side side p.side) _ is)) ∙ (all_in IsRight p l inside right).formed)
    (leaf_formula l side f m)

-- a rule without premises whose main formula stands in the sequent
pub record Closes (r : Rule) (e : Sequent) : Type 0 where
  pub number : 0 ≡ needs r
  pub shape : has_shape r ≡ true
  pub uncut : is_cut r ≡ false
  pub formed : IsFormedRule r
  pub stand : main_stands r e ≡ true
  pub eigenvariable : eigen_free r e ≡ false

module _ (l : List Placed) (right : AllByRecursion IsRight l) where
  axiom_closes : (f : Formula) → set.has (leaf_sequent l).left f ≡ true → set.has (leaf_sequent l).right f ≡ true → Closes (Ax f) (conclusion l)
  axiom_closes f on_left on_right = record {
    number = refl;
    shape = refl;
    uncut = refl;
    formed = leaf_formed l Left f right on_left;
    stand = and_both _ _ (and_both _ _ (leaf_stands l Left f on_left) refl) (and_both _ _ (leaf_stands l Right f on_right) refl);
    eigenvariable = refl;
  }

  truth_closes : set.has (leaf_sequent l).right top ≡ true → Closes TopR (conclusion l)
  truth_closes m = record { number = refl; shape = refl; uncut = refl; formed = refl; stand = and_both _ _ (leaf_stands l Right top m) refl; eigenvariable = refl }

  falsity_closes : set.has (leaf_sequent l).left bot ≡ true → Closes BotL (conclusion l)
  falsity_closes m = record { number = refl; shape = refl; uncut = refl; formed = refl; stand = and_both _ _ (and_both _ _ (leaf_stands l Left bot m) refl) refl; eigenvariable = refl }

  without_axiom : (r : Rule) (truth falsity : Bool) → set.has (leaf_sequent l).right top ≡ truth → set.has (leaf_sequent l).left bot ≡ falsity → axiom_or None truth falsity ≡ Some r → Closes r (conclusion l)
  without_axiom r true falsity m n e = subst (λ q. Closes q (conclusion l)) (some_same TopR r e) (truth_closes m)
  without_axiom r false true m n e = subst (λ q. Closes q (conclusion l)) (some_same BotL r e) (falsity_closes n)
  without_axiom r false false m n e = cc

  -- the rule that the leaves allow
  pub leaves_close : (r : Rule) → closing_rule (leaf_sequent l) ≡ Some r → Closes r (conclusion l)
  leaves_close r e =
      let s : Sequent = leaf_sequent l in
      elim (find (set.has s.right) (set.listing s.left)) as (λ o. find (set.has s.right) (set.listing s.left) ≡ o → axiom_or o (set.has s.right top) (set.has s.left bot) ≡ Some r → Closes r (conclusion l)) [
        | Some f ↦ λ found is. subst (λ q. Closes q (conclusion l)) (some_same (Ax f) r is)
            (axiom_closes f (has-listing s.left f ∙ found_among (set.has s.right) (set.listing s.left) f found) (found_passes (set.has s.right) (set.listing s.left) f found))
        | None ↦ λ _ is. without_axiom r (set.has s.right top) (set.has s.left bot) refl refl is
      ] refl e

-- where they allow none, no formula is one of both sides, truth isn't on the right nor falsity on the left
pub record IsOpen (s : Sequent) : Type 0 where
  pub apart : (f : Formula) → set.has s.left f ≡ true → set.has s.right f ≡ false
  pub no_truth : set.has s.right top ≡ false
  pub no_falsity : set.has s.left bot ≡ false

neither_there : (truth falsity : Bool) → axiom_or None truth falsity ≡ None → (truth ≡ false) × (falsity ≡ false)
neither_there true falsity e = cc
neither_there false true e = cc
neither_there false false e = (refl, refl)

pub leaves_open : (s : Sequent) → closing_rule s ≡ None → IsOpen s
leaves_open s e =
    elim (find (set.has s.right) (set.listing s.left)) as (λ o. find (set.has s.right) (set.listing s.left) ≡ o → axiom_or o (set.has s.right top) (set.has s.left bot) ≡ None → IsOpen s) [
      | Some f ↦ λ _ is. cc
      | None ↦ λ none is.
          let absent = neither_there (set.has s.right top) (set.has s.left bot) is in
          record {
            apart = λ f m. none_found (set.has s.right) (set.listing s.left) none f (sym (has-listing s.left f) ∙ m);
            no_truth = absent.0;
            no_falsity = absent.1;
          }
    ] refl e
