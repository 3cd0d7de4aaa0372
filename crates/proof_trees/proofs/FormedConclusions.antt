-- The premises of a right inference have well-formed formulas alone, where its conclusion has.
use Rattle.std.proofs.Common.{◌≡◌, ℕ, zero, suc, ◌≤◌, true, ◌||◌, List, [], ◌∷◌, ◌++◌, Option, Some, None, IfSome, option_to_list, refl, sym, ap, subst, ◌∙◌, arith}
use Rattle.std.specs.List.{list_all, list_any}
use Rattle.std.specs.Ordering.{eq_by_cmp}
use Rattle.std.proofs.lemmas.List.Folds.{list_all-append, list_any-append}
use Rattle.fol.specs.Syntax.{pred, defined, Formula, atom, free, not, and, or, imp, all, ex}
use Rattle.fol.specs.Order.{formula_cmp}
use Rattle.fol.specs.OrderLaws.{formula_total}
use Rattle.fol.specs.Formed.{is_formed, IsFormed}
use Rattle.finite.specs.Finite as set
use Rattle.finite.proofs.Finite.{has-listing, has-adds_each, all_among}
use Rattle.substitution.specs.Instance.{inst}
use Rattle.substitution.proofs.Booleans.{and_left, and_right, and_both}
use Rattle.substitution.specs.Unfolding.{unf}
use Rattle.substitution.proofs.InstanceFormed.{formed-inst}
use Rattle.substitution.proofs.Unfoldings.{formed-unf}
use Rattle.lk_rules.specs.declared.sequent.Sequent.{Sequent}
use Rattle.lk_rules.specs.declared.sequent.Side.{Side}
use Rattle.lk_rules.specs.declared.sequent.Side.TheVariants.{Left, Right}
use Rattle.lk_rules.specs.declared.rule.Rule.{Rule}
use Rattle.lk_rules.specs.declared.rule.Rule.TheVariants.{NegL, NegR, AndL, AndR, OrL, OrR, ImpL, ImpR, AllL, AllR, ExL, ExR, DefL, DefR, Cut, Weak}
use Rattle.lk_rules.specs.Formulas.{FormulaSet}
use Rattle.lk_rules.specs.Rules.{IsFormedRule, aux, IsWithin}
use Rattle.lk_rules.proofs.Listings.{alike}
use Rattle.proof_trees.specs.Trees.{Tree, node, Trees, none, more, below, count, first_end, second_end, ArePremises, IsValid, AllValid}
use Rattle.proof_trees.proofs.Premises.{on_premises}
use Rattle.proof_trees.proofs.Shapes.{few_premises}
use Rattle.proof_trees.proofs.Verdicts.{row_of_verdict}
use Rattle.proof_trees.specs.Conclusions.{EachNode, EachNodeOf, IsFormedSequent, HasFormedEnd, HaveFormedEnds}

alone : (f : Formula) → IsFormed f → list_all is_formed (f ∷ []) ≡ true
alone f h = and_both _ _ h refl

pair : (f g : Formula) → IsFormed f → IsFormed g → list_all is_formed (f ∷ g ∷ []) ≡ true
pair f g h k = and_both _ _ h (alone g k)

unfolded : (o : Option Formula) → IfSome o IsFormed → list_all is_formed (option_to_list o) ≡ true
unfolded None h = refl
unfolded (Some g) h = alone g h

-- auxiliary formulas are well formed
formed_aux : (q : Rule) (i : ℕ) (side : Side) → IsFormedRule q → list_all is_formed (aux q i side) ≡ true
formed_aux (NegL (not a)) zero Right h = alone a h
formed_aux (NegR (not a)) zero Left h = alone a h
formed_aux (AndL (and a b)) zero Left h = pair a b (and_left _ _ h) (and_right (is_formed a) _ h)
formed_aux (AndR (and a b)) zero Right h = alone a (and_left _ _ h)
formed_aux (AndR (and a b)) (suc zero) Right h = alone b (and_right (is_formed a) _ h)
formed_aux (OrL (or a b)) zero Left h = alone a (and_left _ _ h)
formed_aux (OrL (or a b)) (suc zero) Left h = alone b (and_right (is_formed a) _ h)
formed_aux (OrR (or a b)) zero Right h = pair a b (and_left _ _ h) (and_right (is_formed a) _ h)
formed_aux (ImpL (imp a b)) zero Right h = alone a (and_left _ _ h)
formed_aux (ImpL (imp a b)) (suc zero) Left h = alone b (and_right (is_formed a) _ h)
formed_aux (ImpR (imp a b)) zero Left h = alone a (and_left _ _ h)
formed_aux (ImpR (imp a b)) zero Right h = alone b (and_right (is_formed a) _ h)
formed_aux (AllL (all b) t) zero Left h = alone (inst b t) (formed-inst b t (and_left _ _ h) (and_right (is_formed (all b)) _ h))
formed_aux (AllR (all b) y) zero Right h = alone (inst b (free y)) (formed-inst b (free y) (and_left _ _ h) (and_right (is_formed (all b)) _ h))
formed_aux (ExL (ex b) y) zero Left h = alone (inst b (free y)) (formed-inst b (free y) (and_left _ _ h) (and_right (is_formed (ex b)) _ h))
formed_aux (ExR (ex b) t) zero Right h = alone (inst b t) (formed-inst b t (and_left _ _ h) (and_right (is_formed (ex b)) _ h))
formed_aux (DefL (atom (pred s (defined b)) ts)) zero Left h = unfolded (unf (atom (pred s (defined b)) ts)) (formed-unf (atom (pred s (defined b)) ts) h)
formed_aux (DefR (atom (pred s (defined b)) ts)) zero Right h = unfolded (unf (atom (pred s (defined b)) ts)) (formed-unf (atom (pred s (defined b)) ts) h)
formed_aux (Cut a) zero Right h = alone a h
formed_aux (Cut a) (suc zero) Left h = alone a h
formed_aux Weak zero Left h = refl
formed_aux q i side h = refl

-- a premise's side, within the conclusion's and the auxiliary formulas
formed_side : (x s : FormulaSet) (fs : List Formula) → list_all is_formed (set.listing s) ≡ true → list_all is_formed fs ≡ true → set.IsSubset x (set.adds_each s fs) → list_all is_formed (set.listing x) ≡ true
formed_side x s fs h formed within =
    all_among formula_total is_formed (alike is_formed) (set.listing s ++ fs) (set.listing x) (list_all-append is_formed (set.listing s) fs ∙ and_both _ _ h formed)
    (λ q one.
    list_any-append (eq_by_cmp formula_cmp q) (set.listing s) fs
    ∙ ap (λ b. b || list_any (eq_by_cmp formula_cmp q) fs) (sym (has-listing s q))
    ∙ sym (has-adds_each formula_total s fs q)
    ∙ within q (has-listing x q ∙ one))

formed_premise : (q : Rule) (s : Sequent) → IsFormedRule q → IsFormedSequent s → (i : ℕ) (x : Sequent) → IsWithin q s i x → IsFormedSequent x
formed_premise q s formed h i x within = record {
  left = formed_side x.left s.left (aux q i Left) h.left (formed_aux q i Left formed) within.left;
  right = formed_side x.right s.right (aux q i Right) h.right (formed_aux q i Right formed) within.right;
}

each_end : (ts : Trees) → count ts ≤ 2 → ArePremises (first_end ts) (second_end ts) IsFormedSequent → HaveFormedEnds ts
each_end none few h = tt
each_end (more t none) few h = (h.0, tt)
each_end (more t (more u none)) few h = (h.0, (h.1, tt))
each_end (more t (more u (more v ts))) few h = absurd (omega (arith, few))

-- the trees below a valid tree
pub formed_premises : (t : Tree) (ts : Trees) → below t ≡ ts → IsValid t → HasFormedEnd t → HaveFormedEnds ts
formed_premises (node q s us) ts is valid h =
    subst (λ (vs : Trees). HaveFormedEnds vs) is (
    each_end us (few_premises (node q s us) valid)
    (on_premises IsFormedSequent q s (count us) (first_end us) (second_end us) (row_of_verdict q s (count us) (first_end us) (second_end us) valid.0.right) (formed_premise q s valid.0.formed h)))

-- all conclusions of a valid tree are well formed where its end sequent is
mutual
  pub formed_conclusions : (t : Tree) → IsValid t → HasFormedEnd t → EachNode (λ r s. IsFormedSequent s) t
  formed_conclusions (node r s ts) valid h = (h, formed_below ts valid.1 (formed_premises (node r s ts) ts refl valid h))

  formed_below : (ts : Trees) → AllValid ts → HaveFormedEnds ts → EachNodeOf (λ r s. IsFormedSequent s) ts
  formed_below none valid h = tt
  formed_below (more t ts) valid h = (formed_conclusions t valid.0 h.0, formed_below ts valid.1 h.1)
