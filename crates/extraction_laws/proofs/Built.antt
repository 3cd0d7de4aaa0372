-- The tree at an address is of the formula there, rightly built, and stands on the side there.
use Rattle.std.proofs.Common.{◌≡◌, ℕ, true, false, if◌then◌else◌, List, [], ◌∷◌, refl, sym, ap, subst, ◌∙◌}
use Rattle.std.specs.Ordering.{is_lt}
use Rattle.std.specs.FinMap.Entries.{below_all}
use Rattle.fol.specs.declared.symbols.Var.{Var}
use Rattle.fol.specs.Syntax.{Term, free, Formula, not, and, or, imp, all, ex}
use Rattle.fol.specs.Order.{term_cmp}
use Rattle.finite.specs.Finite as set
use Rattle.finite.proofs.Rising.{first, less, head_below, tail_rises}
use Rattle.finite.proofs.Finite.{listing_rises}
use Rattle.lk_rules.specs.declared.sequent.Side.{Side}
use Rattle.lk_rules.specs.declared.sequent.Side.TheVariants.{Left, Right}
use Rattle.lk_rules.proofs.Subsequents.{and_both}
use Rattle.proof_trees.proofs.FormulaSets.{tied}
use Rattle.expansion_laws.specs.Expansions.{Exp, wk, leaf, shallow}
use Rattle.expansion_laws.specs.Building.{is_instance, is_less, is_below, is_quantified, is_built, are_built}
use Rattle.expansion_laws.specs.Proofs.{is_weak_on, is_strong_on, stands, stand_in}
use Rattle.extraction_laws.specs.Addresses.{Address, part, via, part_side, formula_at, side_at}
use Rattle.extraction_laws.specs.States.{State, terms_of, terms_at, instances_by, if_opened, by_side, weak_at, strong_at, variable_at, tree_at}
use Rattle.extraction_laws.proofs.Grades.{Rises, part_is, instance_is, at_each}
use Rattle.extraction_laws.proofs.Unrolled.{of_part, of_instance, tree-flat, tree-not, tree-and, tree-or, tree-imp, tree-all, tree-ex}

-- what holds in both cases

opened_or_not : (Q : Exp → Type 0) (st : State) (a : Address) (e : Exp) → Q (wk (formula_at a)) → (set.has st.opened a ≡ true → Q e) → Q (if_opened st a e)
opened_or_not Q st a e out here =
    elim (set.has st.opened a) as (λ b. set.has st.opened a ≡ b → Q (if b then e else wk (formula_at a))) [
      | true ↦ here
      | false ↦ λ _. out
    ] refl

pub on_each_side : (Q : Exp → Type 0) (s : Side) (d e : Exp) → (s ≡ Left → Q d) → (s ≡ Right → Q e) → Q (by_side s d e)
on_each_side Q Left d e f g = f refl
on_each_side Q Right d e f g = g refl

module _ (vs : List Var) (st : State) where
  -- what holds of both trees that may be at an address holds of the tree there
  pub of_tree : (Q : Exp → Type 0) (a : Address) (e : Exp) → tree_at vs st a ≡ if_opened st a e → Q (wk (formula_at a)) → (set.has st.opened a ≡ true → Q e) → Q (tree_at vs st a)
  of_tree Q a e is out here = subst Q (sym is) (opened_or_not Q st a e out here)

  -- the tree's formula

  abbrev Matches : Address → Type 0
  Matches a = shallow (tree_at vs st a) ≡ formula_at a

  matches_at : (a : Address) (e : Exp) → tree_at vs st a ≡ if_opened st a e → shallow e ≡ formula_at a → Matches a
  matches_at a e is here = of_tree (λ x. shallow x ≡ formula_at a) a e is refl (λ _. here)

  matching : Rises Matches
  matching = record {
    flat = λ a h. matches_at a (leaf (formula_at a)) (tree-flat vs st (formula_at a) a refl h) refl;
    negation = λ a f e h. matches_at a _ (tree-not vs st f a e) (ap not (h ∙ part_is a 0 (not f) f e refl) ∙ sym e);
    conjunction = λ a f g e h k. matches_at a _ (tree-and vs st f g a e) ((λ i. and ((h ∙ part_is a 0 (and f g) f e refl) i) ((k ∙ part_is a 1 (and f g) g e refl) i)) ∙ sym e);
    disjunction = λ a f g e h k. matches_at a _ (tree-or vs st f g a e) ((λ i. or ((h ∙ part_is a 0 (or f g) f e refl) i) ((k ∙ part_is a 1 (or f g) g e refl) i)) ∙ sym e);
    implication = λ a f g e h k. matches_at a _ (tree-imp vs st f g a e) ((λ i. imp ((h ∙ part_is a 0 (imp f g) f e refl) i) ((k ∙ part_is a 1 (imp f g) g e refl) i)) ∙ sym e);
    universal = λ a f e h. matches_at a _ (tree-all vs st f a e) (on_each_side (λ x. shallow x ≡ formula_at a) (side_at a) _ _ (λ _. refl) (λ _. refl));
    existential = λ a f e h. matches_at a _ (tree-ex vs st f a e) (on_each_side (λ x. shallow x ≡ formula_at a) (side_at a) _ _ (λ _. refl) (λ _. refl));
  }

  pub shallow-tree : (a : Address) → shallow (tree_at vs st a) ≡ formula_at a
  shallow-tree = at_each Matches matching

  -- the tree of an instance is of the instance of the formula

  instance_of_all : (a : Address) (f : Formula) (t : Term) → formula_at a ≡ all f → is_instance (formula_at a) t (shallow (of_instance vs st a t)) ≡ true
  instance_of_all a f t e = ap (λ x. is_instance x t (shallow (of_instance vs st a t))) e ∙ tied _ _ (shallow-tree (via a t) ∙ instance_is a t (all f) f e refl)

  instance_of_ex : (a : Address) (f : Formula) (t : Term) → formula_at a ≡ ex f → is_instance (formula_at a) t (shallow (of_instance vs st a t)) ≡ true
  instance_of_ex a f t e = ap (λ x. is_instance x t (shallow (of_instance vs st a t))) e ∙ tied _ _ (shallow-tree (via a t) ∙ instance_is a t (ex f) f e refl)

  -- instances by rising terms

  below_first : (t : Term) (e : Term → Exp) (ts : List Term) → set.IsRising term_cmp (t ∷ ts) → is_below t (instances_by e ts) ≡ true
  below_first t e [] h = refl
  below_first t e (u ∷ us) h = ap is_less (less (term_cmp t u) (first (is_lt (term_cmp t u)) (below_all term_cmp t (set.marked us)) (head_below term_cmp t (u ∷ us) h)))

  built_instances : (f : Formula) (e : Term → Exp) (ts : List Term) → set.IsRising term_cmp ts → ((t : Term) → is_instance f t (shallow (e t)) ≡ true) → ((t : Term) → is_built (e t) ≡ true)
      → are_built f (instances_by e ts) ≡ true
  built_instances f e [] h right built = refl
  built_instances f e (t ∷ ts) h right built =
      and_both _ _ (and_both _ _ (right t) (built t)) (and_both _ _ (below_first t e ts h) (built_instances f e ts (tail_rises term_cmp t ts h) right built))

  terms_rise : (a : Address) → set.IsRising term_cmp (terms_at st a)
  terms_rise a = listing_rises (set.of_list (terms_of a (set.listing st.instances)))

  built_weak : (a : Address) (f : Formula) → formula_at a ≡ f → is_quantified f ≡ true → ((t : Term) → is_instance (formula_at a) t (shallow (of_instance vs st a t)) ≡ true)
      → ((t : Term) → is_built (of_instance vs st a t) ≡ true) → is_built (weak_at st a (of_instance vs st a)) ≡ true
  built_weak a f e quantified right built = and_both _ _ (ap is_quantified e ∙ quantified) (built_instances (formula_at a) (of_instance vs st a) (terms_at st a) (terms_rise a) right built)

  -- the tree is rightly built

  abbrev Built : Address → Type 0
  Built a = is_built (tree_at vs st a) ≡ true

  built_at : (a : Address) (e : Exp) → tree_at vs st a ≡ if_opened st a e → is_built e ≡ true → Built a
  built_at a e is here = of_tree (λ x. is_built x ≡ true) a e is refl (λ _. here)

  building : Rises Built
  building = record {
    flat = λ a h. built_at a (leaf (formula_at a)) (tree-flat vs st (formula_at a) a refl h) h;
    negation = λ a f e h. built_at a _ (tree-not vs st f a e) h;
    conjunction = λ a f g e h k. built_at a _ (tree-and vs st f g a e) (and_both _ _ h k);
    disjunction = λ a f g e h k. built_at a _ (tree-or vs st f g a e) (and_both _ _ h k);
    implication = λ a f g e h k. built_at a _ (tree-imp vs st f g a e) (and_both _ _ h k);
    universal = λ a f e h. built_at a _ (tree-all vs st f a e) (on_each_side (λ x. is_built x ≡ true) (side_at a) _ _
        (λ _. built_weak a (all f) e refl (λ t. instance_of_all a f t e) h)
        (λ _. and_both _ _ (instance_of_all a f (free (variable_at vs st a)) e) (h (free (variable_at vs st a)))));
    existential = λ a f e h. built_at a _ (tree-ex vs st f a e) (on_each_side (λ x. is_built x ≡ true) (side_at a) _ _
        (λ _. and_both _ _ (instance_of_ex a f (free (variable_at vs st a)) e) (h (free (variable_at vs st a))))
        (λ _. built_weak a (ex f) e refl (λ t. instance_of_ex a f t e) h));
  }

  pub built-tree : (a : Address) → is_built (tree_at vs st a) ≡ true
  built-tree = at_each Built building

  -- the tree stands on its side

  abbrev Stands : Address → Type 0
  Stands a = stands (side_at a) (tree_at vs st a) ≡ true

  stands_at : (a : Address) (e : Exp) → tree_at vs st a ≡ if_opened st a e → stands (side_at a) e ≡ true → Stands a
  stands_at a e is here = of_tree (λ x. stands (side_at a) x ≡ true) a e is refl (λ _. here)

  part_stands : (a : Address) (i : ℕ) (f : Formula) (s : Side) → formula_at a ≡ f → part_side f i (side_at a) ≡ s → Stands (part a i) → stands s (of_part vs st a i) ≡ true
  part_stands a i f s e side h = ap (λ x. stands x (of_part vs st a i)) (sym (ap (λ x. part_side x i (side_at a)) e ∙ side)) ∙ h

  stand_each : (s : Side) (e : Term → Exp) (ts : List Term) → ((t : Term) → stands s (e t) ≡ true) → stand_in s (instances_by e ts) ≡ true
  stand_each s e [] h = refl
  stand_each s e (t ∷ ts) h = and_both _ _ (h t) (stand_each s e ts h)

  weak_stands : (a : Address) (f : Formula) (s : Side) → formula_at a ≡ f → side_at a ≡ s → is_weak_on s f ≡ true → ((t : Term) → Stands (via a t)) → stands (side_at a) (weak_at st a (of_instance vs st a)) ≡ true
  weak_stands a f s e side h each = and_both _ _ ((λ i. is_weak_on (side i) (e i)) ∙ h) (stand_each (side_at a) (of_instance vs st a) (terms_at st a) each)

  strong_stands : (a : Address) (f : Formula) (s : Side) → formula_at a ≡ f → side_at a ≡ s → is_strong_on s f ≡ true → ((t : Term) → Stands (via a t)) → stands (side_at a) (strong_at vs st a (of_instance vs st a)) ≡ true
  strong_stands a f s e side h each = and_both _ _ ((λ i. is_strong_on (side i) (e i)) ∙ h) (each (free (variable_at vs st a)))

  standing : Rises Stands
  standing = record {
    flat = λ a h. stands_at a (leaf (formula_at a)) (tree-flat vs st (formula_at a) a refl h) refl;
    negation = λ a f e h. stands_at a _ (tree-not vs st f a e) (part_stands a 0 (not f) _ e refl h);
    conjunction = λ a f g e h k. stands_at a _ (tree-and vs st f g a e) (and_both _ _ (part_stands a 0 (and f g) _ e refl h) (part_stands a 1 (and f g) _ e refl k));
    disjunction = λ a f g e h k. stands_at a _ (tree-or vs st f g a e) (and_both _ _ (part_stands a 0 (or f g) _ e refl h) (part_stands a 1 (or f g) _ e refl k));
    implication = λ a f g e h k. stands_at a _ (tree-imp vs st f g a e) (and_both _ _ (part_stands a 0 (imp f g) _ e refl h) (part_stands a 1 (imp f g) _ e refl k));
    universal = λ a f e h. stands_at a _ (tree-all vs st f a e) (on_each_side (λ x. stands (side_at a) x ≡ true) (side_at a) _ _
        (λ s. weak_stands a (all f) Left e s refl h)
        (λ s. strong_stands a (all f) Right e s refl h));
    existential = λ a f e h. stands_at a _ (tree-ex vs st f a e) (on_each_side (λ x. stands (side_at a) x ≡ true) (side_at a) _ _
        (λ s. strong_stands a (ex f) Left e s refl h)
        (λ s. weak_stands a (ex f) Right e s refl h));
  }

  pub stands-tree : (a : Address) → stands (side_at a) (tree_at vs st a) ≡ true
  stands-tree = at_each Stands standing
