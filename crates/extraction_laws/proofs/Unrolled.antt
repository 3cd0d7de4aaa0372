-- An axiom's formulas and the tree at an address, by the parts and the instances of the formula. Terms for bound variables do not change
-- the shape of a formula.
use Rattle.std.proofs.Common.{◌≡◌, ℕ, ◌+◌, true, List, refl, sym, ap, ◌∙◌}
use Rattle.fol.specs.declared.symbols.Var.{Var}
use Rattle.fol.specs.Syntax.{Term, free, Formula, atom, top, bot, not, and, or, imp, all, ex}
use Rattle.substitution.specs.Instance.{inst, inst_at}
use Rattle.expansion_laws.specs.Expansions.{Exp, leaf, neg, conj, disj, impl}
use Rattle.expansion_laws.specs.Building.{is_flat}
use Rattle.extraction_laws.specs.Addresses.{Address, part, via, formula_at, side_at}
use Rattle.extraction_laws.specs.States.{State, opened, instantiated, named, variable_at, if_opened, by_side, weak_at, strong_at, tree_by, tree_at}
use Rattle.extraction_laws.specs.Extraction.{paired_by, paired}
use Rattle.extraction_laws.proofs.Grades.{Share, part_is, instance_is}

module _ (vs : List Var) where
  paired-inst : (u : Term) (f : Formula) (k : ℕ) (l r : Address) (st : State) → paired_by vs (inst_at u k f) l r st ≡ paired_by vs f l r st
  paired-inst u (atom s ts) k l r st = refl
  paired-inst u top k l r st = refl
  paired-inst u bot k l r st = refl
  paired-inst u (not f) k l r st = paired-inst u f k (part r 0) (part l 0) _
  paired-inst u (and f g) k l r st = paired-inst u g k (part l 1) (part r 1) _ ∙ ap (paired_by vs g (part l 1) (part r 1)) (paired-inst u f k (part l 0) (part r 0) _)
  paired-inst u (or f g) k l r st = paired-inst u g k (part l 1) (part r 1) _ ∙ ap (paired_by vs g (part l 1) (part r 1)) (paired-inst u f k (part l 0) (part r 0) _)
  paired-inst u (imp f g) k l r st = paired-inst u g k (part l 1) (part r 1) _ ∙ ap (paired_by vs g (part l 1) (part r 1)) (paired-inst u f k (part r 0) (part l 0) _)
  paired-inst u (all f) k l r st = paired-inst u f (k + 1) _ _ _
  paired-inst u (ex f) k l r st = paired-inst u f (k + 1) _ _ _

  -- both addresses are opened first
  abbrev pub both : Address → Address → State → State
  both l r st = opened r (opened l st)

  -- at a part and at an instance of the first address's formula

  on_part : (f : Formula) (a b : Address) (st : State) → formula_at a ≡ f → paired_by vs f a b st ≡ paired vs a b st
  on_part f a b st e = ap (λ h. paired_by vs h a b st) (sym e)

  on_instance : (f : Formula) (t : Term) (a b : Address) (st : State) → formula_at a ≡ inst f t → paired_by vs f a b st ≡ paired vs a b st
  on_instance f t a b st e = sym (paired-inst t f 0 a b st) ∙ ap (λ h. paired_by vs h a b st) (sym e)

  pub paired-flat : (f : Formula) (l r : Address) (st : State) → Share l r f → is_flat f ≡ true → paired vs l r st ≡ both l r st
  paired-flat (atom s ts) l r st e h = ap (λ x. paired_by vs x l r st) e.left
  paired-flat top l r st e h = ap (λ x. paired_by vs x l r st) e.left
  paired-flat bot l r st e h = ap (λ x. paired_by vs x l r st) e.left
  paired-flat (not f) l r st e h = cc
  paired-flat (and f g) l r st e h = cc
  paired-flat (or f g) l r st e h = cc
  paired-flat (imp f g) l r st e h = cc
  paired-flat (all f) l r st e h = cc
  paired-flat (ex f) l r st e h = cc

  pub paired-not : (f : Formula) (l r : Address) (st : State) → Share l r (not f) → paired vs l r st ≡ paired vs (part r 0) (part l 0) (both l r st)
  paired-not f l r st e = ap (λ x. paired_by vs x l r st) e.left ∙ on_part f (part r 0) (part l 0) _ (part_is r 0 (not f) f e.right refl)

  pub paired-and : (f g : Formula) (l r : Address) (st : State) → Share l r (and f g) → paired vs l r st ≡ paired vs (part l 1) (part r 1) (paired vs (part l 0) (part r 0) (both l r st))
  paired-and f g l r st e =
      ap (λ x. paired_by vs x l r st) e.left
      ∙ (on_part g (part l 1) (part r 1) _ (part_is l 1 (and f g) g e.left refl)
      ∙ ap (paired vs (part l 1) (part r 1)) (on_part f (part l 0) (part r 0) _ (part_is l 0 (and f g) f e.left refl)))

  pub paired-or : (f g : Formula) (l r : Address) (st : State) → Share l r (or f g) → paired vs l r st ≡ paired vs (part l 1) (part r 1) (paired vs (part l 0) (part r 0) (both l r st))
  paired-or f g l r st e =
      ap (λ x. paired_by vs x l r st) e.left
      ∙ (on_part g (part l 1) (part r 1) _ (part_is l 1 (or f g) g e.left refl)
      ∙ ap (paired vs (part l 1) (part r 1)) (on_part f (part l 0) (part r 0) _ (part_is l 0 (or f g) f e.left refl)))

  pub paired-imp : (f g : Formula) (l r : Address) (st : State) → Share l r (imp f g) → paired vs l r st ≡ paired vs (part l 1) (part r 1) (paired vs (part r 0) (part l 0) (both l r st))
  paired-imp f g l r st e =
      ap (λ x. paired_by vs x l r st) e.left
      ∙ (on_part g (part l 1) (part r 1) _ (part_is l 1 (imp f g) g e.left refl)
      ∙ ap (paired vs (part l 1) (part r 1)) (on_part f (part r 0) (part l 0) _ (part_is r 0 (imp f g) f e.right refl)))

  -- the state before a quantifier's instance by a variable: the strong address s has that, and the weak one w the instance
  abbrev pub by_variable : Address → Address → Var → State → State
  by_variable s w v st = instantiated w (free v) (named s st)

  pub paired-all : (f : Formula) (l r : Address) (st : State) → Share l r (all f)
      → let v : Var = variable_at vs st r in paired vs l r st ≡ paired vs (via l (free v)) (via r (free v)) (by_variable r l v (both l r st))
  paired-all f l r st e =
      let v : Var = variable_at vs st r in
      ap (λ x. paired_by vs x l r st) e.left
      ∙ on_instance f (free v) (via l (free v)) (via r (free v)) _ (instance_is l (free v) (all f) f e.left refl)

  pub paired-ex : (f : Formula) (l r : Address) (st : State) → Share l r (ex f)
      → let v : Var = variable_at vs st l in paired vs l r st ≡ paired vs (via l (free v)) (via r (free v)) (by_variable l r v (both l r st))
  paired-ex f l r st e =
      let v : Var = variable_at vs st l in
      ap (λ x. paired_by vs x l r st) e.left
      ∙ on_instance f (free v) (via l (free v)) (via r (free v)) _ (instance_is l (free v) (ex f) f e.left refl)

  module _ (st : State) where
    tree-inst : (u : Term) (f : Formula) (k : ℕ) (a : Address) → tree_by vs st (inst_at u k f) a ≡ tree_by vs st f a
    tree-inst u (atom s ts) k a = refl
    tree-inst u top k a = refl
    tree-inst u bot k a = refl
    tree-inst u (not f) k a = λ i. if_opened st a (neg (tree-inst u f k (part a 0) i))
    tree-inst u (and f g) k a = λ i. if_opened st a (conj (tree-inst u f k (part a 0) i) (tree-inst u g k (part a 1) i))
    tree-inst u (or f g) k a = λ i. if_opened st a (disj (tree-inst u f k (part a 0) i) (tree-inst u g k (part a 1) i))
    tree-inst u (imp f g) k a = λ i. if_opened st a (impl (tree-inst u f k (part a 0) i) (tree-inst u g k (part a 1) i))
    tree-inst u (all f) k a = λ i. if_opened st a (by_side (side_at a) (weak_at st a (λ t. tree-inst u f (k + 1) (via a t) i)) (strong_at vs st a (λ t. tree-inst u f (k + 1) (via a t) i)))
    tree-inst u (ex f) k a = λ i. if_opened st a (by_side (side_at a) (strong_at vs st a (λ t. tree-inst u f (k + 1) (via a t) i)) (weak_at st a (λ t. tree-inst u f (k + 1) (via a t) i)))

    -- the trees of the parts, and those of the instances
    abbrev pub of_part : Address → ℕ → Exp
    of_part a i = tree_at vs st (part a i)

    abbrev pub of_instance : Address → Term → Exp
    of_instance a t = tree_at vs st (via a t)

    part_tree : (a : Address) (i : ℕ) (f : Formula) → formula_at (part a i) ≡ f → tree_by vs st f (part a i) ≡ of_part a i
    part_tree a i f e = ap (λ h. tree_by vs st h (part a i)) (sym e)

    instance_tree : (a : Address) (f : Formula) (t : Term) → formula_at (via a t) ≡ inst f t → tree_by vs st f (via a t) ≡ of_instance a t
    instance_tree a f t e = sym (tree-inst t f 0 (via a t)) ∙ ap (λ h. tree_by vs st h (via a t)) (sym e)

    pub tree-flat : (f : Formula) (a : Address) → formula_at a ≡ f → is_flat f ≡ true → tree_at vs st a ≡ if_opened st a (leaf (formula_at a))
    tree-flat (atom s ts) a e h = ap (λ x. tree_by vs st x a) e
    tree-flat top a e h = ap (λ x. tree_by vs st x a) e
    tree-flat bot a e h = ap (λ x. tree_by vs st x a) e
    tree-flat (not f) a e h = cc
    tree-flat (and f g) a e h = cc
    tree-flat (or f g) a e h = cc
    tree-flat (imp f g) a e h = cc
    tree-flat (all f) a e h = cc
    tree-flat (ex f) a e h = cc

    pub tree-not : (f : Formula) (a : Address) → formula_at a ≡ not f → tree_at vs st a ≡ if_opened st a (neg (of_part a 0))
    tree-not f a e = ap (λ x. tree_by vs st x a) e ∙ λ i. if_opened st a (neg (part_tree a 0 f (part_is a 0 (not f) f e refl) i))

    pub tree-and : (f g : Formula) (a : Address) → formula_at a ≡ and f g → tree_at vs st a ≡ if_opened st a (conj (of_part a 0) (of_part a 1))
    tree-and f g a e = ap (λ x. tree_by vs st x a) e ∙ λ i. if_opened st a (conj (part_tree a 0 f (part_is a 0 (and f g) f e refl) i) (part_tree a 1 g (part_is a 1 (and f g) g e refl) i))

    pub tree-or : (f g : Formula) (a : Address) → formula_at a ≡ or f g → tree_at vs st a ≡ if_opened st a (disj (of_part a 0) (of_part a 1))
    tree-or f g a e = ap (λ x. tree_by vs st x a) e ∙ λ i. if_opened st a (disj (part_tree a 0 f (part_is a 0 (or f g) f e refl) i) (part_tree a 1 g (part_is a 1 (or f g) g e refl) i))

    pub tree-imp : (f g : Formula) (a : Address) → formula_at a ≡ imp f g → tree_at vs st a ≡ if_opened st a (impl (of_part a 0) (of_part a 1))
    tree-imp f g a e = ap (λ x. tree_by vs st x a) e ∙ λ i. if_opened st a (impl (part_tree a 0 f (part_is a 0 (imp f g) f e refl) i) (part_tree a 1 g (part_is a 1 (imp f g) g e refl) i))

    pub tree-all : (f : Formula) (a : Address) → formula_at a ≡ all f
        → tree_at vs st a ≡ if_opened st a (by_side (side_at a) (weak_at st a (of_instance a)) (strong_at vs st a (of_instance a)))
    tree-all f a e =
        ap (λ x. tree_by vs st x a) e
        ∙ λ i. if_opened st a (by_side (side_at a)
        (weak_at st a (λ t. instance_tree a f t (instance_is a t (all f) f e refl) i))
        (strong_at vs st a (λ t. instance_tree a f t (instance_is a t (all f) f e refl) i)))

    pub tree-ex : (f : Formula) (a : Address) → formula_at a ≡ ex f
        → tree_at vs st a ≡ if_opened st a (by_side (side_at a) (strong_at vs st a (of_instance a)) (weak_at st a (of_instance a)))
    tree-ex f a e =
        ap (λ x. tree_by vs st x a) e
        ∙ λ i. if_opened st a (by_side (side_at a)
        (strong_at vs st a (λ t. instance_tree a f t (instance_is a t (ex f) f e refl) i))
        (weak_at st a (λ t. instance_tree a f t (instance_is a t (ex f) f e refl) i)))
