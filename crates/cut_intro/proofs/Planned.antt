-- The parts of a proof with a cut are those for the candidate.
use Rattle.std.proofs.Common.{◌≡◌, ℕ, List, [], ◌∷◌, ◌++◌, map, length, append-nil, append_assoc, true, not as negated, refl, sym, ap, subst, ◌∙◌, arith}
use Rattle.std.specs.List.{All}
use Rattle.std.proofs.lemmas.List.Elements.{All-map, All-weaker, All-same}
use Rattle.std.proofs.lemmas.List.Sums.{AllPass-from_list_all}
use Rattle.fol.specs.declared.symbols.Var.{Var}
use Rattle.fol.specs.Syntax.{Term, free, Terms, Formula, all}
use Rattle.fol.specs.Formed.{are_formed_terms_at, is_formed_var}
use Rattle.finite.specs.Finite as set
use Rattle.free_variables.specs.Occurrence.{is_free_in_terms}
use Rattle.substitution.specs.Instance.{bind}
use Rattle.lk_rules.proofs.Subsequents.{and_left}
use Rattle.lk_rules.specs.declared.sequent.Sequent.{Sequent}
use Rattle.lk_rules.specs.declared.sequent.Side.TheVariants.{Left, Right}
use Rattle.lk_rules.specs.declared.rule.Rule.{Rule}
use Rattle.lk_rules.specs.declared.rule.Rule.TheVariants.{AllL, AllR}
use Rattle.lk_rules.specs.Sequents.{adds_to}
use Rattle.expansion_laws.specs.Dependency.{Expansion}
use Rattle.herbrand_laws.specs.Herbrand.{Item, items_of, quantifiers}
use Rattle.herbrand_laws.specs.Patterns.{put, TermSet}
use Rattle.herbrand_laws.specs.Candidates.{patterns, rest}
use Rattle.herbrand_laws.specs.Introduction as introduction
use Rattle.herbrand_laws.specs.Introduction.{by_tuple, instances_by, matrix_of, assumed, conjunction, instances_at, cut_variable, cut_formula, rules_for, left_rules, right_rules, end_after, plain_part, left_search, right_search, IsFormedProof}
use Rattle.herbrand_laws.proofs.Rows.{fits_pattern, patterns_fit}
use Rattle.herbrand_laws.proofs.CutMatrix.{IsItem}
use Rattle.herbrand_laws.proofs.CutVariable.{variable_formed}
use Rattle.herbrand_laws.proofs.Expanded.{items_are}
use Rattle.cut_intro.specs.declared.instance.Instance.{Instance}
use Rattle.cut_intro.specs.declared.branch.Inference.{Inference}
use Rattle.cut_intro.specs.Branches.{inferences, AreUsable}
use Rattle.cut_intro.specs.Instances.{meant, claim, AreFormedTuples, instances_of_each}
use Rattle.cut_intro.specs.Instancing.{AreInstancesFor}
use Rattle.delta_table.specs.Chosen.{rest_item}
use Rattle.cut_intro.specs.Cuttings.{IsCandidateFor}
use Rattle.delta_table.specs.declared.candidates.Candidate.{Candidate}
use Rattle.cut_intro.proofs.Readiness.{usable_left, usable_right}

-- lists that are mapped twice
map-map : {A B C : Type 0} (f : B → C) (g : A → B) (xs : List A) → map f (map g xs) ≡ map (λ x. f (g x)) xs
map-map f g [] = refl
map-map f g (x ∷ xs) = ap (λ ys. f (g x) ∷ ys) (map-map f g xs)

-- the instances by lists of tuples that are picked for each item
each_picked : (pick : Item → List Terms) (items : List Item) → instances_of_each items (map pick items) ≡ instances_by pick items
each_picked pick [] = refl
each_picked pick (i ∷ items) = ap (λ js. map (by_tuple i) (pick i) ++ js) (each_picked pick items)

patterned : (width : ℕ) (items : List Item) (w : TermSet) (t : Term) (js : List Instance) (pss : List (List Terms)) → pss ≡ map (patterns width w) items
    → map meant js ≡ instances_of_each items (map (map (λ p. put p t)) pss) → map meant js ≡ instances_at width items w t
patterned width items w t js pss of is =
    is
    ∙ (ap (λ qss. instances_of_each items (map (map (λ p. put p t)) qss)) of
    ∙ (ap (instances_of_each items) (map-map (map (λ p. put p t)) (patterns width w) items)
    ∙ each_picked (λ i. map (λ p. put p t) (patterns width w i)) items))

-- those by the tuples of the rest
rest_by : (width : ℕ) (w : TermSet) (items : List Item) → instances_by (λ i. i.tuples) (map (rest_item width w) items) ≡ instances_by (rest width w) items
rest_by width w [] = refl
rest_by width w (i ∷ items) = ap (λ js. map (by_tuple i) (rest width w i) ++ js) (rest_by width w items)

-- what instances say
claims : (js : List Instance) → map claim js ≡ map (λ j. assumed j.side (matrix_of j)) (map meant js)
claims [] = refl
claims (j ∷ js) = ap (λ fs. claim j ∷ fs) (claims js)

-- the instances by the patterns with the variable are well formed
module _ (width : ℕ) (w : TermSet) (s : Sequent) where
  abbrev FormedAt : Var → Item → Type 0
  FormedAt y i = AreFormedTuples (map (λ p. put p (free y)) (patterns width w i))

  formed_item : (y : Var) → is_formed_var y ≡ true → (i : Item) → IsItem y s i → FormedAt y i
  formed_item y formed_y i item =
      All-map (λ us. are_formed_terms_at 0 us ≡ true) (λ p. put p (free y)) (patterns width w i)
      (All-weaker (λ p. fits_pattern y (quantifiers i) p ≡ true) (λ p. are_formed_terms_at 0 (put p (free y)) ≡ true)
      (λ p f. and_left _ _ (and_left _ (negated (is_free_in_terms y p)) f)) (patterns width w i)
      (AllPass-from_list_all (fits_pattern y (quantifiers i)) (patterns width w i) (patterns_fit y formed_y width (quantifiers i) w i item.fits)))

  formed_items : (x : Expansion) → IsFormedProof x s → All (FormedAt (cut_variable s (items_of x))) (items_of x)
  formed_items x h =
      let y = cut_variable s (items_of x) in
      All-weaker (IsItem y s) (FormedAt y) (λ i item. formed_item y (variable_formed s (items_of x)) i item) (items_of x) (items_are x s h)

  pub patterns_formed : (items : List Item) → AreInstancesFor s items → (pss : List (List Terms)) → pss ≡ map (patterns width w) items → (t : Term) → t ≡ free (cut_variable s items) → All (λ ps. AreFormedTuples (map (λ p. put p t) ps)) pss
  patterns_formed items h pss of t is =
      let P = λ (u : Term) (ps : List Terms). AreFormedTuples (map (λ p. put p u) ps) in
      let these : All (FormedAt (cut_variable s items)) items = subst (λ is. All (FormedAt (cut_variable s is)) is) (sym h.of_trees) (formed_items h.expansion h.proof) in
      subst (λ (u : Term). All (P u) pss) (sym is)
      (All-same (P (free (cut_variable s items))) pss (map (patterns width w) items) of (All-map (P (free (cut_variable s items))) (patterns width w) items these))

-- the parts in turn
module _ (s : Sequent) (items : List Item) (h : AreInstancesFor s items) (width : ℕ) (c : Candidate) (k : IsCandidateFor width items c)
    (y : Var) (is_y : y ≡ cut_variable s items) (t : Term) (is_t : t ≡ free y)
    (js : List Instance) (is_js : map meant js ≡ instances_of_each items (map (map (λ p. put p t)) c.patterns))
    (f : Formula) (is_f : f ≡ all (bind (conjunction (map claim js)) y)) where
  abbrev w : TermSet
  w = c.values

  by_patterns : map meant js ≡ instances_at width items w (free (cut_variable s items))
  by_patterns = patterned width items w t js c.patterns k.of_patterns is_js ∙ ap (instances_at width items w) (is_t ∙ ap free is_y)

  pub formula_is : f ≡ cut_formula width s items w
  formula_is =
      is_f
      ∙ (λ i. all (bind (conjunction ((claims js ∙ ap (map (λ j. assumed j.side (matrix_of j))) by_patterns) i)) (is_y i)))

  module _ (rules : List Rule) (is_rules : rules ≡ AllR f y ∷ rules_for (map meant js)) where
    pub left_is : rules ≡ left_rules width s items w
    left_is = is_rules ∙ (λ i. AllR (formula_is i) (is_y i) ∷ rules_for (by_patterns i))

    pub left_usable : AreUsable rules (adds_to s Right f)
    left_usable = subst (λ (P : Type 0). P) (λ i. AreUsable (sym left_is i) (adds_to s Right (sym formula_is i))) (usable_left s items h width w)

    pub left_inferences : (is : List Inference) → is ≡ inferences rules (adds_to s Right f) → is ≡ inferences (left_rules width s items w) (adds_to s Right (cut_formula width s items w))
    left_inferences is e = e ∙ λ i. inferences (left_is i) (adds_to s Right (formula_is i))

    pub left_searched : (top : Sequent) → top ≡ plain_part (end_after rules (adds_to s Right f)) → top ≡ left_search width s items w
    left_searched top e = e ∙ λ i. plain_part (end_after (left_is i) (adds_to s Right (formula_is i)))

  module _ (others : List Instance) (is_others : map meant others ≡ instances_by (λ i. i.tuples) c.rest) (rules : List Rule) (is_rules : rules ≡ map (AllL f) (set.listing w) ++ rules_for (map meant others)) where
    pub right_is : rules ≡ right_rules width s items w
    right_is =
        is_rules
        ∙ (λ i. map (AllL (formula_is i)) (set.listing w) ++ rules_for ((is_others ∙ (ap (instances_by (λ j. j.tuples)) k.of_rest ∙ rest_by width w items)) i))

    pub right_usable : AreUsable rules (adds_to s Left f)
    right_usable = subst (λ (P : Type 0). P) (λ i. AreUsable (sym right_is i) (adds_to s Left (sym formula_is i))) (usable_right s items h width w k.occurs)

    pub right_inferences : (is : List Inference) → is ≡ inferences rules (adds_to s Left f) → is ≡ inferences (right_rules width s items w) (adds_to s Left (cut_formula width s items w))
    right_inferences is e = e ∙ λ i. inferences (right_is i) (adds_to s Left (formula_is i))

    pub right_searched : (top : Sequent) → top ≡ plain_part (end_after rules (adds_to s Left f)) → top ≡ right_search width s items w
    right_searched top e = e ∙ λ i. plain_part (end_after (right_is i) (adds_to s Left (formula_is i)))
