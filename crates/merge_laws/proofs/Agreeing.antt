-- The trees that are read off two states can be merged, if the strong quantifiers have the same variables.
use Rattle.std.proofs.Common.{◌≡◌, Bool, true, false, if◌then◌else◌, List, [], ◌∷◌, refl, sym, subst, ◌∙◌}
use Rattle.fol.specs.declared.symbols.Var.{Var}
use Rattle.fol.specs.Syntax.{Term, free, Formula}
use Rattle.finite.specs.Finite as set
use Rattle.lk_rules.specs.declared.sequent.Side.{Side}
use Rattle.lk_rules.specs.declared.sequent.Side.TheVariants.{Left, Right}
use Rattle.expansion_laws.specs.Expansions.{Exp, wk, leaf, neg, conj, disj, impl, weak, strong}
use Rattle.extraction_laws.specs.Addresses.{Address, via, formula_at, side_at}
use Rattle.extraction_laws.specs.States.{State, variable_at, terms_at, instances_by, if_opened, by_side, weak_at, strong_at, tree_at}
use Rattle.extraction_laws.proofs.Built.{shallow-tree, stands-tree}
use Rattle.extraction_laws.proofs.Grades.{Rises, at_each}
use Rattle.extraction_laws.proofs.Unrolled.{of_instance, tree-flat, tree-not, tree-and, tree-or, tree-imp, tree-all, tree-ex}
use Rattle.exp_tree.specs.Merging.{AtTerm, Agree, AgreeIn, CanMerge}
use Rattle.merge_laws.specs.United.{HaveSameVariables}

-- a formula that isn't used agrees with each tree
agree_unused : (d : Exp) (f : Formula) → Agree d (wk f)
agree_unused (wk g) f = tt
agree_unused (leaf g) f = tt
agree_unused (neg d) f = tt
agree_unused (conj d e) f = tt
agree_unused (disj d e) f = tt
agree_unused (impl d e) f = tt
agree_unused (weak g is) f = tt
agree_unused (strong g y d) f = tt

agree_if : (p q : Bool) (f : Formula) (d e : Exp) → (q ≡ true → Agree d e) → Agree (if p then d else wk f) (if q then e else wk f)
agree_if true true f d e h = h refl
agree_if true false f d e h = agree_unused d f
agree_if false true f d e h = tt
agree_if false false f d e h = tt

-- the instances by the terms of two lists

agree_at : (d e : Term → Exp) (t : Term) (us : List Term) → Agree (d t) (e t) → AtTerm t (Agree (d t)) (instances_by e us)
agree_at d e t [] h = tt
agree_at d e t (u ∷ us) h = ((λ same. subst (λ w. Agree (d t) (e w)) same h), agree_at d e t us h)

agree_each : (d e : Term → Exp) (ts us : List Term) → ((t : Term) → Agree (d t) (e t)) → AgreeIn (instances_by d ts) (instances_by e us)
agree_each d e [] us h = tt
agree_each d e (t ∷ ts) us h = (agree_at d e t us (h t), agree_each d e ts us h)

module _ (vs : List Var) (x y : State) (same : HaveSameVariables vs x y) where
  abbrev Agrees : Address → Type 0
  Agrees a = Agree (tree_at vs x a) (tree_at vs y a)

  agree_there : (a : Address) (d e : Exp) → tree_at vs x a ≡ if_opened x a d → tree_at vs y a ≡ if_opened y a e → (set.has y.opened a ≡ true → Agree d e) → Agrees a
  agree_there a d e l r h =
      subst (λ c. Agree c (tree_at vs y a)) (sym l)
      (subst (λ c. Agree (if_opened x a d) c) (sym r)
      (agree_if (set.has x.opened a) (set.has y.opened a) (formula_at a) d e h))

  agree_on_side : (s : Side) (a : Address) (d e d' e' : Exp) → tree_at vs x a ≡ if_opened x a (by_side s d d') → tree_at vs y a ≡ if_opened y a (by_side s e e')
      → (set.has y.opened a ≡ true → Agree d e) → (set.has y.opened a ≡ true → Agree d' e') → Agrees a
  agree_on_side Left a d e d' e' l r f g = agree_there a d e l r f
  agree_on_side Right a d e d' e' l r f g = agree_there a d' e' l r g

  agree_weak : (a : Address) → ((t : Term) → Agrees (via a t)) → Agree (weak_at x a (of_instance vs x a)) (weak_at y a (of_instance vs y a))
  agree_weak a each = agree_each (of_instance vs x a) (of_instance vs y a) (terms_at x a) (terms_at y a) each

  agree_strong : (a : Address) → ((t : Term) → Agrees (via a t)) → set.has y.opened a ≡ true → Agree (strong_at vs x a (of_instance vs x a)) (strong_at vs y a (of_instance vs y a))
  agree_strong a each there =
      let v : Var = variable_at vs x a in
      (same a there, subst (λ w. Agree (of_instance vs x a (free v)) (of_instance vs y a (free w))) (same a there) (each (free v)))

  agreeing : Rises Agrees
  agreeing = record {
    flat = λ a flat. agree_there a _ _ (tree-flat vs x (formula_at a) a refl flat) (tree-flat vs y (formula_at a) a refl flat) (λ _. tt);
    negation = λ a f e h. agree_there a _ _ (tree-not vs x f a e) (tree-not vs y f a e) (λ _. h);
    conjunction = λ a f g e h k. agree_there a _ _ (tree-and vs x f g a e) (tree-and vs y f g a e) (λ _. (h, k));
    disjunction = λ a f g e h k. agree_there a _ _ (tree-or vs x f g a e) (tree-or vs y f g a e) (λ _. (h, k));
    implication = λ a f g e h k. agree_there a _ _ (tree-imp vs x f g a e) (tree-imp vs y f g a e) (λ _. (h, k));
    universal = λ a f e each. agree_on_side (side_at a) a _ _ _ _ (tree-all vs x f a e) (tree-all vs y f a e) (λ _. agree_weak a each) (agree_strong a each);
    existential = λ a f e each. agree_on_side (side_at a) a _ _ _ _ (tree-ex vs x f a e) (tree-ex vs y f a e) (agree_strong a each) (λ _. agree_weak a each);
  }

  pub can_merge : (a : Address) → CanMerge (tree_at vs x a) (tree_at vs y a)
  can_merge a = record {
    formulas = shallow-tree vs x a ∙ sym (shallow-tree vs y a);
    side = side_at a;
    first = stands-tree vs x a;
    second = stands-tree vs y a;
    variables = at_each Agrees agreeing a;
  }
