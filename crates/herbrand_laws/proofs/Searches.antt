-- The two searches of an introduction succeed: what is searched are tautologies of well-formed formulas.
use Rattle.std.proofs.Common.{◌≡◌, ℕ, Bool, true, false, not as negated, ◌&&◌, ◌==◌, if◌then◌else◌, List, [], ◌∷◌, map, get_or, refl, sym, ap, subst, ◌∙◌}
use Rattle.std.specs.List.{All, list_all, list_any}
use Rattle.std.specs.Ordering.{eq_by_cmp}
use Rattle.std.proofs.lemmas.List.Elements.{All-nil, All-cons, All-head, All-tail}
use Rattle.std.proofs.lemmas.List.Folds.{list_any-append}
use Rattle.std.proofs.lemmas.List.Sums.{AllPass-from_list_all}
use borrow.Author.Tests.{eqb-true}
use Rattle.fol.specs.declared.symbols.Var.{Var}
use Rattle.fol.specs.Syntax.{Term, free, Terms, Formula, all}
use Rattle.fol.specs.Order.{terms_cmp}
use Rattle.fol.specs.Formed.{is_formed, is_formed_term, is_formed_var}
use Rattle.fol.proofs.OrderTies.{terms_equality_same}
use Rattle.finite.specs.Finite as set
use Rattle.finite.proofs.Finite.{has-listing}
use Rattle.free_variables.specs.Occurrence.{is_free_in}
use Rattle.substitution.specs.Instance.{inst, bind}
use Rattle.lk_rules.specs.declared.sequent.Sequent.{Sequent}
use Rattle.lk_rules.specs.declared.sequent.Side.TheVariants.{Left, Right}
use Rattle.lk_rules.specs.declared.rule.Rule.{Rule}
use Rattle.lk_rules.specs.declared.rule.Rule.TheVariants.{AllL, AllR}
use Rattle.lk_rules.specs.Formulas.{FormulaSet}
use Rattle.lk_rules.specs.Sequents.{adds_to, extended, is_free_in_sequent, IsSubsequent}
use Rattle.lk_rules.specs.Rules.{aux}
use Rattle.lk_rules.proofs.Subsequents.{and_left, and_right, and_both}
use Rattle.proof_trees.proofs.Booleans.{or_first, or_second, either}
use Rattle.proof_trees.proofs.Members.{from_some, some_passes}
use Rattle.cut_laws.proofs.Sides.{within_added, within_extended, neither_first, neither_second, alone}
use Rattle.proof_trees.proofs.FormulaSets.{equal}
use Rattle.search_laws.specs.Truth.{Assignment, falsifies, IsTautology}
use Rattle.search_laws.proofs.Found.{are_formed}
use Rattle.search_laws.proofs.Listed.{among_first, added, old_or_added, all-adds_each}
use Rattle.search_laws.proofs.Tests.{split, clash, fails, neither, not_false}
use Rattle.expansion_laws.specs.Helping.{helps}
use Rattle.herbrand_laws.specs.Herbrand.{Item, quantifiers}
use Rattle.herbrand_laws.specs.Patterns.{put, TermSet}
use Rattle.herbrand_laws.specs.Candidates.{patterns, is_covered, uncovered, rest}
use Rattle.herbrand_laws.specs.Introduction.{Instance, by_tuple, instances_by, matrix_of, instances_at, matrix_at, cut_variable, cut_matrix, cut_formula, rules_for, left_rules, right_rules, end_after, left_search, right_search}
use Rattle.herbrand_laws.proofs.Lists.{any-map, any_more, from_any, any_swapped, any_divided}
use Rattle.herbrand_laws.proofs.Matrices.{plain_without, own_instance}
use Rattle.herbrand_laws.proofs.Reached.{some_tuple_helps}
use Rattle.herbrand_laws.proofs.Herbrand.{helped_member}
use Rattle.herbrand_laws.proofs.Rows.{Fits}
use Rattle.herbrand_laws.proofs.RulesOver.{Stands, member, through, IsStep, AreSteps, after_formed, after_larger, after-append, steps_append}
use Rattle.herbrand_laws.proofs.Instances.{IsInstance, AllStand, weak_step, instances_steps}
use Rattle.herbrand_laws.proofs.CutMatrix.{instance_helps, value-matrix, instance_plain, IsItem, instances_at_are, rest_are}
use Rattle.herbrand_laws.proofs.CutVariable.{variable_formed, variable_out}
use Rattle.herbrand_laws.proofs.CutFormula.{matrix_plain_at, cut_formed, cut_without, cut_opened, cut_instance}
use Rattle.herbrand_laws.proofs.PlainPart.{plain_stands, plain_formed}

-- a variable that isn't free in a set and a formula isn't free in both
free_added : (y : Var) (s : FormulaSet) (f : Formula) → list_any (is_free_in y) (set.listing s) ≡ false → is_free_in y f ≡ false → list_any (is_free_in y) (set.listing (set.adds_each s (f ∷ []))) ≡ false
free_added y s f out other =
    fails _ (λ e.
    from_some (is_free_in y) (set.listing (set.adds_each s (f ∷ []))) (λ g m free_in.
    old_or_added s (f ∷ []) g
    (λ old. clash (list_any (is_free_in y) (set.listing s)) (some_passes (is_free_in y) (set.listing s) g (sym (has-listing s g) ∙ old) free_in) out)
    (λ new. clash (is_free_in y g) free_in (ap (is_free_in y) (equal g f (alone _ new)) ∙ other))
    (has-listing (set.adds_each s (f ∷ [])) g ∙ m))
    e)

-- the rules for the values give an instance of the cut's formula for each
values_steps : (b : Formula) → is_formed (all b) ≡ true → (ts : List Term) → All (λ t. is_formed_term t ≡ true) ts → (e : Sequent) → Stands e Left (all b)
    → AreSteps (map (AllL (all b)) ts) e × All (λ t. Stands (end_after (map (AllL (all b)) ts) e) Left (inst b t)) ts
values_steps b f [] h e m = (tt, All-nil _)
values_steps b f (t ∷ ts) h e m =
    let e2 = extended e (aux (AllL (all b) t) 0) in
    let one = weak_step Left (all b) t e refl m f (All-head (λ u. is_formed_term u ≡ true) t ts h) in
    let later = values_steps b f ts (All-tail (λ u. is_formed_term u ≡ true) t ts h) e2 (member e e2 (within_extended e (aux (AllL (all b) t) 0)) Left (all b) m) in (
      (one.0, later.0),
      All-cons (λ u. Stands (end_after (map (AllL (all b)) ts) e2) Left (inst b u)) t ts (member e2 _ (after_larger (map (AllL (all b)) ts) e2) Left (inst b t) one.1) later.1,
    )

module _ (s : Sequent) (formed : are_formed s ≡ true) (items : List Item) (are : All (IsItem (cut_variable s items) s) items) (width : ℕ) (w : TermSet) where
  abbrev y : Var
  y = cut_variable s items

  abbrev formed_y : is_formed_var y ≡ true
  formed_y = variable_formed s items

  abbrev out : is_free_in_sequent y s ≡ false
  out = variable_out s items

  -- the left premise

  abbrev left_end : Sequent
  left_end = adds_to s Right (cut_formula width s items w)

  abbrev left_above : Sequent
  left_above = extended left_end (aux (AllR (cut_formula width s items w) y) 0)

  abbrev left_instances : List Instance
  left_instances = instances_at width items w (free y)

  abbrev are_left : All (IsInstance s) left_instances
  are_left = instances_at_are y s formed_y width items are w (free y) formed_y

  variable_step : IsStep (AllR (cut_formula width s items w) y) left_end
  variable_step = record {
    quantifier = refl;
    shape = refl;
    stands = and_both _ true (added s.right (cut_formula width s items w ∷ []) (cut_formula width s items w) (among_first (cut_formula width s items w) [])) refl;
    eigenvariable = neither _ _ (neither_first _ _ out) (free_added y s.right (cut_formula width s items w) (neither_second (list_any (is_free_in y) (set.listing s.left)) _ out) (cut_without y s formed_y out items are width w));
    formed = and_both _ _ (cut_formed y s formed_y out items are width w) formed_y;
  }

  within_left : IsSubsequent s left_above
  within_left = through s left_end left_above (within_added Right s (cut_formula width s items w)) (within_extended left_end (aux (AllR (cut_formula width s items w) y) 0))

  above_left : AreSteps (rules_for left_instances) left_above × AllStand (end_after (rules_for left_instances) left_above) left_instances
  above_left = instances_steps s left_instances are_left left_above within_left

  pub left_steps : AreSteps (left_rules width s items w) left_end
  left_steps = (variable_step, above_left.0)

  pub left_end_formed : are_formed left_end ≡ true
  left_end_formed =
      and_both _ _ (and_left _ _ formed)
      (all-adds_each is_formed s.right (cut_formula width s items w ∷ []) ∙ and_both _ _ (and_right (list_all is_formed (set.listing s.left)) _ formed) (and_both _ true (cut_formed y s formed_y out items are width w) refl))

  pub left_formed : are_formed (left_search width s items w) ≡ true
  left_formed = plain_formed (end_after (left_rules width s items w) left_end) (after_formed (left_rules width s items w) left_end left_steps left_end_formed)

  -- the matrix stands on the right
  matrix_stands : Stands (left_search width s items w) Right (cut_matrix width s items w)
  matrix_stands =
      let opened = cut_opened y s formed_y out items are width w in
      let there = added left_end.right (inst (bind (cut_matrix width s items w) y) (free y) ∷ []) (inst (bind (cut_matrix width s items w) y) (free y)) (among_first (inst (bind (cut_matrix width s items w) y) (free y)) []) in
      plain_stands (end_after (left_rules width s items w) left_end) Right (cut_matrix width s items w)
      (member left_above (end_after (rules_for left_instances) left_above) (after_larger (rules_for left_instances) left_above) Right (cut_matrix width s items w) (subst (λ f. Stands left_above Right f) opened there))
      (matrix_plain_at y s formed_y out items are width w (free y) formed_y)

  -- where no instance helps, the matrix is true
  pub left_tautology : IsTautology (left_search width s items w)
  left_tautology a =
      split (list_any (instance_helps a) left_instances)
      (from_any (λ j. Stands (left_search width s items w) j.side (matrix_of j)) (instance_helps a) left_instances
      (λ k d l. plain_stands (end_after (left_rules width s items w) left_end) _ _ (above_left.1 k d l) (instance_plain s _ (are_left k d l)))
      (λ j m h. helped_member a (left_search width s items w) j.side (matrix_of j) m h))
      (λ none. helped_member a (left_search width s items w) Right (cut_matrix width s items w) matrix_stands (value-matrix a width items w (free y) ∙ not_false _ none))

  -- the right premise

  module _ (values : list_all is_formed_term (set.listing w) ≡ true) where
    abbrev right_end : Sequent
    right_end = adds_to s Left (cut_formula width s items w)

    abbrev value_rules : List Rule
    value_rules = map (AllL (cut_formula width s items w)) (set.listing w)

    abbrev right_above : Sequent
    right_above = end_after value_rules right_end

    abbrev right_instances : List Instance
    right_instances = instances_by (rest width w) items

    abbrev all_formed : All (λ t. is_formed_term t ≡ true) (set.listing w)
    all_formed = AllPass-from_list_all is_formed_term (set.listing w) values

    above_values : AreSteps value_rules right_end × All (λ t. Stands right_above Left (inst (bind (cut_matrix width s items w) y) t)) (set.listing w)
    above_values =
        values_steps (bind (cut_matrix width s items w) y) (cut_formed y s formed_y out items are width w) (set.listing w) all_formed right_end
        (added s.left (cut_formula width s items w ∷ []) (cut_formula width s items w) (among_first (cut_formula width s items w) []))

    above_right : AreSteps (rules_for right_instances) right_above × AllStand (end_after (rules_for right_instances) right_above) right_instances
    above_right =
        instances_steps s right_instances (rest_are y s formed_y width items are w) right_above
        (through s right_end right_above (within_added Left s (cut_formula width s items w)) (after_larger value_rules right_end))

    pub right_steps : AreSteps (right_rules width s items w) right_end
    right_steps = steps_append value_rules (rules_for right_instances) right_end above_values.0 above_right.0

    abbrev right_top : Sequent
    right_top = end_after (right_rules width s items w) right_end

    same_top : end_after (rules_for right_instances) right_above ≡ right_top
    same_top = sym (after-append value_rules (rules_for right_instances) right_end)

    pub right_end_formed : are_formed right_end ≡ true
    right_end_formed =
        and_both _ _
        (all-adds_each is_formed s.left (cut_formula width s items w ∷ []) ∙ and_both _ _ (and_left _ _ formed) (and_both _ true (cut_formed y s formed_y out items are width w) refl))
        (and_right (list_all is_formed (set.listing s.left)) _ formed)

    pub right_formed : are_formed (right_search width s items w) ≡ true
    right_formed = plain_formed right_top (after_formed (right_rules width s items w) right_end right_steps right_end_formed)

    -- the matrix with each value stands on the left
    matrices_stand : All (λ t. Stands (right_search width s items w) Left (matrix_at width items w t)) (set.listing w)
    matrices_stand k d l =
        let t = get_or (set.listing w) k d in
        let f = all_formed k d l in
        plain_stands right_top Left (matrix_at width items w t)
        (subst (λ q. Stands q Left (matrix_at width items w t)) same_top
        (member right_above (end_after (rules_for right_instances) right_above) (after_larger (rules_for right_instances) right_above) Left (matrix_at width items w t)
        (subst (λ g. Stands right_above Left g) (cut_instance y s formed_y out items are width w t f) (above_values.1 k d l))))
        (matrix_plain_at y s formed_y out items are width w t f)

    -- so does the instance by each tuple of the rest
    rest_stand : All (λ j. Stands (right_search width s items w) j.side (matrix_of j)) right_instances
    rest_stand k d l =
        let j = get_or right_instances k d in
        plain_stands right_top j.side (matrix_of j) (subst (λ q. Stands q j.side (matrix_of j)) same_top (above_right.1 k d l)) (instance_plain s j (rest_are y s formed_y width items are w k d l))

    -- and so does each formula without quantifiers
    plain_stand : (i : Item) → IsItem y s i → quantifiers i ≡ 0 → Stands (right_search width s items w) i.side i.formula
    plain_stand i item none =
        plain_stands right_top i.side i.formula
        (member s right_top (through s right_end right_top (within_added Left s (cut_formula width s items w)) (after_larger (right_rules width s items w) right_end)) i.side i.formula item.stands)
        (plain_without i.side i.formula (sym none) item.prenex)

-- the tuples of an item, and what covers them

module _ (q : Terms → Bool) (w : TermSet) (ps : List Terms) where
  -- where a covered tuple helps, a pattern with some value does
  covered_by : (us : Terms) → (is_covered ps w us && q us) ≡ true → list_any (λ t. list_any q (map (λ p. put p t) ps)) (set.listing w) ≡ true
  covered_by us h =
      any_more (λ t. list_any (λ p. q (put p t)) ps) (λ t. list_any q (map (λ p. put p t) ps)) (set.listing w) (λ t e. any-map q (λ p. put p t) ps ∙ e)
      (any_swapped (λ p t. q (put p t)) ps (set.listing w)
      (any_more (λ p. list_any (λ t. eq_by_cmp terms_cmp (put p t) us) (set.listing w)) (λ p. list_any (λ t. q (put p t)) (set.listing w)) ps
      (λ p. any_more (λ t. eq_by_cmp terms_cmp (put p t) us) (λ t. q (put p t)) (set.listing w) (λ t e. ap q ((terms_equality_same (put p t) us _ refl).0 e) ∙ and_right (is_covered ps w us) (q us) h))
      (and_left (is_covered ps w us) (q us) h)))

  some_covered : (uss : List Terms) → list_any (λ us. is_covered ps w us && q us) uss ≡ true → list_any (λ t. list_any q (map (λ p. put p t) ps)) (set.listing w) ≡ true
  some_covered uss = from_any (λ us. Unit {0}) (λ us. is_covered ps w us && q us) uss (λ k d l. tt) (λ us _. covered_by us)

-- where an instance of one item helps, some instance does
each_helps : (q : Instance → Bool) (pick : Item → List Terms) (items : List Item) → All (λ i. list_any (λ us. q (by_tuple i us)) (pick i) ≡ true → list_any q (instances_by pick items) ≡ true) items
each_helps q pick [] = All-nil _
each_helps q pick (i ∷ items) =
    let whole = list_any-append q (map (by_tuple i) (pick i)) (instances_by pick items) in
    All-cons (λ j. list_any (λ us. q (by_tuple j us)) (pick j) ≡ true → list_any q (instances_by pick (i ∷ items)) ≡ true) i items
    (λ e. whole ∙ or_first _ (list_any q (instances_by pick items)) (any-map q (by_tuple i) (pick i) ∙ e))
    (λ k d l e. whole ∙ or_second (list_any q (map (by_tuple i) (pick i))) _ (each_helps q pick items k d l e))

module _ (s : Sequent) (formed : are_formed s ≡ true) (items : List Item) (are : All (IsItem (cut_variable s items) s) items) (width : ℕ) (w : TermSet) (values : list_all is_formed_term (set.listing w) ≡ true) where
  -- where an instance of a formula without quantifiers helps, the formula does
  plain_helps : (a : Assignment) (i : Item) → IsItem (cut_variable s items) s i → quantifiers i ≡ 0 → some_tuple_helps a i.side i.formula i.tuples ≡ true → falsifies a (right_search width s items w) ≡ false
  plain_helps a i item none =
      from_any (Fits (cut_variable s items) (quantifiers i)) (λ us. instance_helps a (by_tuple i us)) i.tuples item.fits
      (λ us fits e.
      helped_member a (right_search width s items w) i.side i.formula (plain_stand s formed items are width w values i item none)
      (ap (helps a i.side) (sym (own_instance us i.formula (fits.counted ∙ none))) ∙ e))

  -- where one of a formula with quantifiers helps, so does one by a pattern with some value, or one of the rest
  quantified_helps : (a : Assignment) (i : Item)
      → ((t : Term) → list_any (λ us. instance_helps a (by_tuple i us)) (map (λ p. put p t) (patterns width w i)) ≡ true → list_any (instance_helps a) (instances_at width items w t) ≡ true)
      → (list_any (λ us. instance_helps a (by_tuple i us)) (uncovered width w i) ≡ true → list_any (instance_helps a) (instances_by (rest width w) items) ≡ true)
      → some_tuple_helps a i.side i.formula i.tuples ≡ true → falsifies a (right_search width s items w) ≡ false
  quantified_helps a i by_pattern by_rest h =
      let q = λ (us : Terms). instance_helps a (by_tuple i us) in
      let ps = patterns width w i in
      let right = right_search width s items w in
      either (list_any (λ us. is_covered ps w us && q us) i.tuples) (list_any q (uncovered width w i))
      (λ covered.
      from_any (λ t. Stands right Left (matrix_at width items w t)) (λ t. list_any q (map (λ p. put p t) ps)) (set.listing w) (matrices_stand s formed items are width w values)
      (λ t m e. helped_member a right Left (matrix_at width items w t) m (ap negated (value-matrix a width items w t ∙ ap negated (by_pattern t e))))
      (some_covered q w ps i.tuples covered))
      (λ other.
      from_any (λ j. Stands right j.side (matrix_of j)) (instance_helps a) (instances_by (rest width w) items) (rest_stand s formed items are width w values)
      (λ j m e. helped_member a right j.side (matrix_of j) m e)
      (by_rest other))
      (any_divided (is_covered ps w) q i.tuples h)

  -- where an instance of an item helps, so does a formula of the right premise
  item_helps : (a : Assignment) (i : Item) → IsItem (cut_variable s items) s i
      → ((t : Term) → list_any (λ us. instance_helps a (by_tuple i us)) (map (λ p. put p t) (patterns width w i)) ≡ true → list_any (instance_helps a) (instances_at width items w t) ≡ true)
      → (list_any (λ us. instance_helps a (by_tuple i us)) (rest width w i) ≡ true → list_any (instance_helps a) (instances_by (rest width w) items) ≡ true)
      → some_tuple_helps a i.side i.formula i.tuples ≡ true → falsifies a (right_search width s items w) ≡ false
  item_helps a i item by_pattern by_rest h = go (quantifiers i == 0) refl by_rest
    where
      go : (b : Bool) → (quantifiers i == 0) ≡ b
          → (list_any (λ us. instance_helps a (by_tuple i us)) (if b then [] else uncovered width w i) ≡ true → list_any (instance_helps a) (instances_by (rest width w) items) ≡ true)
          → falsifies a (right_search width s items w) ≡ false
      go true e _ = plain_helps a i item (eqb-true (quantifiers i) 0 e) h
      go false e others = quantified_helps a i by_pattern others h

  -- where under each assignment an instance by a tuple helps, so does a formula of the right premise
  pub right_tautology : ((a : Assignment) → list_any (λ i. some_tuple_helps a i.side i.formula i.tuples) items ≡ true) → IsTautology (right_search width s items w)
  right_tautology help a =
      let q = instance_helps a in
      from_any
      (λ i. IsItem (cut_variable s items) s i
      × ((t : Term) → list_any (λ us. q (by_tuple i us)) (map (λ p. put p t) (patterns width w i)) ≡ true → list_any q (instances_at width items w t) ≡ true)
      × (list_any (λ us. q (by_tuple i us)) (rest width w i) ≡ true → list_any q (instances_by (rest width w) items) ≡ true))
      (λ i. some_tuple_helps a i.side i.formula i.tuples) items
      (λ k d l. (are k d l, (λ t. each_helps q (λ i. map (λ p. put p t) (patterns width w i)) items k d l), each_helps q (rest width w) items k d l))
      (λ i each. item_helps a i each.0 each.1 each.2)
      (help a)
