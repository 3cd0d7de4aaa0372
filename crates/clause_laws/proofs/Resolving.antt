-- What a unifier of some right atoms of one clause and some left atoms of another one gives is a resolvent of them.
use Rattle.std.proofs.Common.{◌≡◌, true, List, ◌++◌, refl, sym, subst, ◌∙◌}
use Rattle.std.specs.FinMap as fin
use Rattle.std.specs.Ordering.{eq_by_cmp}
use Rattle.std.proofs.lemmas.List.Folds.{list_any-append}
use Rattle.fol.specs.Syntax.{Formula, atom, top, bot, not, and, or, imp, all, ex}
use Rattle.fol.specs.Order.{formula_cmp}
use Rattle.finite.specs.Finite as set
use Rattle.free_variables.specs.Union.{union_of}
use Rattle.substitution.specs.Image.{image}
use Rattle.substitution.specs.Maps.{Map}
use Rattle.lk_rules.specs.declared.sequent.Sequent.{Sequent}
use Rattle.lk_rules.specs.Formulas.{FormulaSet}
use Rattle.lk_rules.specs.Sequents.{image_sequent}
use Rattle.proof_trees.specs.FormulaSets.{is_atom}
use Rattle.proof_trees.proofs.Booleans.{or_first, or_second, either}
use Rattle.proof_trees.proofs.FormulaSets.{same_sets, in_first, in_second, in_either}
use Rattle.refutations.specs.Refutations.{resolvent}
use Rattle.clause_laws.specs.Unifiers.{set_of, IsMostGeneral}
use Rattle.clause_laws.specs.Resolvents.{AreSome, IsResolvent, resolved_by}
use Rattle.clause_laws.proofs.Sets.{Replacing, is_in, has-each}
use Rattle.clause_laws.proofs.Unified.{IsUnifierOf}

-- images of atoms are atoms, and of nothing else
pub atom-image : (m : Replacing) (f : Formula) → is_atom (image m f) ≡ is_atom f
atom-image m (atom p ts) = refl
atom-image m top = refl
atom-image m bot = refl
atom-image m (not f) = refl
atom-image m (and f g) = refl
atom-image m (or f g) = refl
atom-image m (imp f g) = refl
atom-image m (all f) = refl
atom-image m (ex f) = refl

module _ (fs gs : List Formula) where
  pub in_front : (f : Formula) → is_in fs f ≡ true → is_in (fs ++ gs) f ≡ true
  in_front f e = list_any-append (eq_by_cmp formula_cmp f) fs gs ∙ or_first (is_in fs f) (is_in gs f) e

  pub in_back : (f : Formula) → is_in gs f ≡ true → is_in (fs ++ gs) f ≡ true
  in_back f e = list_any-append (eq_by_cmp formula_cmp f) fs gs ∙ or_second (is_in fs f) (is_in gs f) e

  pub in_parts : {P : Type 0} (f : Formula) → (is_in fs f ≡ true → P) → (is_in gs f ≡ true → P) → is_in (fs ++ gs) f ≡ true → P
  in_parts f one two e = either (is_in fs f) (is_in gs f) one two (sym (list_any-append (eq_by_cmp formula_cmp f) fs gs) ∙ e)

  -- the set of both is the union of their sets
  set-append : set_of (fs ++ gs) ≡ union_of (set_of fs) (set_of gs)
  set-append =
      same_sets (set_of (fs ++ gs)) (union_of (set_of fs) (set_of gs))
      (λ f e. in_parts f (λ d. in_first (set_of fs) (set_of gs) f (has-each fs f ∙ d)) (λ d. in_second (set_of fs) (set_of gs) f (has-each gs f ∙ d)) (sym (has-each (fs ++ gs) f) ∙ e))
      (λ f. in_either (set_of fs) (set_of gs) f (λ e. has-each (fs ++ gs) f ∙ in_front f (sym (has-each fs f) ∙ e)) (λ e. has-each (fs ++ gs) f ∙ in_back f (sym (has-each gs f) ∙ e)))

-- one or more members of a set
pub some_listed : (fs : List Formula) (s : FormulaSet) (f : Formula) → is_in fs f ≡ true → ((q : Formula) → is_in fs q ≡ true → set.has s q ≡ true) → AreSome (set_of fs) s
some_listed fs s f e within = record { one = f; is_one = has-each fs f ∙ e; within = λ q member. within q (sym (has-each fs q) ∙ member) }

pub listed_unifier : (fs : List Formula) (f : Formula) → is_in fs f ≡ true → (m : Map) → IsUnifierOf fs m → IsMostGeneral (fin.get m) (set_of fs) (image (fin.get m) f)
listed_unifier fs f e m right = record {
  makes = λ q member. right.one q f (sym (has-each fs q) ∙ member) e;
  general = λ h b each. record { rest = h; is = right.general h b (λ q d. each q (has-each fs q ∙ d)) };
}

-- a resolvent by any most general unifier of some listed atoms
pub resolves_by : (c d : Sequent) (fs gs : List Formula) (f g : Formula) → is_in fs f ≡ true → is_in gs g ≡ true
    → ((q : Formula) → is_in fs q ≡ true → set.has c.right q ≡ true) → ((q : Formula) → is_in gs q ≡ true → set.has d.left q ≡ true)
    → (m : Replacing) (b : Formula) → is_atom b ≡ true → IsMostGeneral m (set_of (fs ++ gs)) b → IsResolvent c d (resolvent (image_sequent m c) (image_sequent m d) b)
resolves_by c d fs gs f g at on right_atoms left_atoms m b is general = record {
  positive = set_of fs;
  negative = set_of gs;
  some_positive = some_listed fs c.right f at right_atoms;
  some_negative = some_listed gs d.left g on left_atoms;
  unifier = m;
  atom = b;
  of_atoms = is;
  most_general = subst (λ (s : FormulaSet). IsMostGeneral m s b) (set-append fs gs) general;
  is = refl;
}

pub resolves : (c d : Sequent) (fs gs : List Formula) (f g : Formula) → is_in fs f ≡ true → is_in gs g ≡ true
    → ((q : Formula) → is_in fs q ≡ true → set.has c.right q ≡ true) → ((q : Formula) → is_in gs q ≡ true → set.has d.left q ≡ true)
    → is_atom f ≡ true → (m : Map) → IsUnifierOf (fs ++ gs) m → IsResolvent c d (resolved_by c d f m)
resolves c d fs gs f g at on right_atoms left_atoms is m right =
    resolves_by c d fs gs f g at on right_atoms left_atoms (fin.get m) (image (fin.get m) f) (atom-image (fin.get m) f ∙ is) (listed_unifier (fs ++ gs) f (in_front fs gs f at) m right)
