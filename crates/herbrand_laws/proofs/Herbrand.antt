-- The Herbrand sequent of an expansion proof is a tautology without quantifiers, of matrix instances of the formulas. No predicate symbol of
-- those has a body.
use Rattle.std.proofs.Common.{◌≡◌, ℕ, zero, suc, ◌+◌, true, false, not as negated, ◌||◌, List, [], ◌∷◌, ◌++◌, map, get_or, refl, sym, ap, subst, ◌∙◌, arith}
use Rattle.std.specs.List.{All, list_all, list_any}
use Rattle.std.specs.Ordering.{eq_by_cmp}
use Rattle.std.proofs.lemmas.List.{append-nil}
use Rattle.std.proofs.lemmas.Grind.{flat_map-append}
use Rattle.std.proofs.lemmas.List.Elements.{All-nil, All-cons, All-head, All-tail, All-append, All-map, All-weaker}
use Rattle.std.proofs.lemmas.List.Folds.{list_any-append, list_all-append, list_all-map}
use Rattle.std.proofs.lemmas.List.Sums.{list_all-from_AllPass}
use Rattle.fol.specs.Syntax.{Terms, nil, cons, Formula}
use Rattle.fol.specs.Facts.{has_body}
use Rattle.fol.specs.Order.{formula_cmp}
use Rattle.fol.specs.Formed.{count_terms}
use Rattle.finite.specs.Finite as set
use Rattle.finite.proofs.Finite.{has-empty, has-listing}
use Rattle.lk_rules.specs.declared.sequent.Sequent.{Sequent}
use Rattle.lk_rules.specs.declared.sequent.Side.{Side}
use Rattle.lk_rules.specs.declared.sequent.Side.TheVariants.{Left, Right}
use Rattle.lk_rules.specs.Sequents.{side_of}
use Rattle.lk_rules.proofs.Subsequents.{and_left, and_right, and_both}
use Rattle.proof_trees.specs.Occurrence.{has_body_in_sequent}
use Rattle.proof_trees.proofs.Booleans.{or_first, or_second, either, or_more}
use Rattle.proof_trees.proofs.Members.{from_some}
use Rattle.proof_trees.proofs.FormulaSets.{equal}
use Rattle.search_laws.specs.Truth.{Assignment, value, has_quantifier, IsPropositional, falsifies, IsTautology}
use Rattle.search_laws.proofs.Listed.{among, member_passes, among_first, among_later, added, old_or_added}
use Rattle.search_laws.proofs.Tests.{clash, fails, not_true, not_false}
use Rattle.expansion_laws.specs.Expansions.{Exp, wk, weak, Insts, none, more, shallow}
use Rattle.expansion_laws.specs.Building.{is_built}
use Rattle.expansion_laws.specs.Dependency.{Expansion}
use Rattle.expansion_laws.specs.Helping.{helps, helped}
use Rattle.expansion_laws.specs.Proofs.{stands, IsExpansionProof}
use Rattle.expansion_laws.proofs.Lists.{all-set_of, not-any}
use Rattle.expansion_laws.proofs.Falsified.{tautology_helped}
use Rattle.herbrand_laws.specs.Herbrand.{is_prenex, prefix, matrix_instance, tuples, tuples_in, tuples_on, item_of, items_of, matrix_instances, IsPrenex, herbrand_sequent, IsMatrixInstance}
use Rattle.herbrand_laws.proofs.Lists.{any-map}
use Rattle.herbrand_laws.proofs.Matrices.{matrix_plain, prenex_no_body}
use Rattle.herbrand_laws.proofs.Reached.{some_tuple_helps, tuple_helps}

-- the sequent with the formulas of two lists
abbrev pub sequent_with : List Formula → List Formula → Sequent
sequent_with ls rs = record { left = set.of_list ls; right = set.of_list rs }

-- an assignment under which a formula of it helps doesn't make a sequent false
pub helped_member : (a : Assignment) (s : Sequent) (side : Side) (f : Formula) → set.has (side_of s side) f ≡ true → helps a side f ≡ true → falsifies a s ≡ false
helped_member a s Left f m h =
    fails (falsifies a s) (λ e. clash (value a f) (member_passes (value a) s.left f (and_left _ (list_all (λ g. negated (value a g)) (set.listing s.right)) e) m) (not_true (value a f) h))
helped_member a s Right f m h =
    fails (falsifies a s) (λ e. clash (value a f) h (not_true (value a f) (member_passes (λ g. negated (value a g)) s.right f (and_right (list_all (value a) (set.listing s.left)) _ e) m)))

-- the sequent with the formulas of lists is a tautology where under each assignment one of them helps
pub listed_tautology : (ls rs : List Formula) → ((a : Assignment) → (list_any (helps a Left) ls || list_any (helps a Right) rs) ≡ true) → IsTautology (sequent_with ls rs)
listed_tautology ls rs h a =
    either (list_any (helps a Left) ls) (list_any (helps a Right) rs)
    (from_some (helps a Left) ls (λ f m. helped_member a (sequent_with ls rs) Left f (added set.empty ls f m)))
    (from_some (helps a Right) rs (λ f m. helped_member a (sequent_with ls rs) Right f (added set.empty rs f m)))
    (h a)

-- it has no quantifier where none of them has
pub listed_plain : (fs : List Formula) → list_all (λ f. negated (has_quantifier f)) fs ≡ true → list_any has_quantifier (set.listing (set.adds_each (set.empty {R = formula_cmp}) fs)) ≡ false
listed_plain fs h = not_true _ (not-any has_quantifier (set.listing (set.adds_each (set.empty {R = formula_cmp}) fs)) ∙ (all-set_of (λ f. negated (has_quantifier f)) fs ∙ h))

mutual
  -- the tuples of n instances inside one another have n terms
  pub tuples_counted : (n : ℕ) (e : Exp) → All (λ us. count_terms us ≡ n) (tuples n e)
  tuples_counted n (wk f) = All-nil _
  tuples_counted zero e = All-cons (λ us. count_terms us ≡ 0) nil [] refl (All-nil _)
  tuples_counted (suc n) (weak f is) = insts_counted n is
  tuples_counted (suc n) e = All-nil _

  insts_counted : (n : ℕ) (is : Insts) → All (λ us. count_terms us ≡ suc n) (tuples_in n is)
  insts_counted n none = All-nil _
  insts_counted n (more t e is) =
      All-append (λ us. count_terms us ≡ suc n) (map (cons t) (tuples n e)) (tuples_in n is)
      (All-map (λ us. count_terms us ≡ suc n) (cons t) (tuples n e) (All-weaker (λ us. count_terms us ≡ n) (λ us. count_terms us + 1 ≡ suc n) (λ us h. omega arith) (tuples n e) (tuples_counted n e)))
      (insts_counted n is)

-- what holds of a tree for a formula of the sequent, on a side
pub record IsTreeFor (s : Sequent) (side : Side) (e : Exp) : Type 0 where
  pub built : is_built e ≡ true
  pub stands_there : stands side e ≡ true
  pub formula : set.has (side_of s side) (shallow e) ≡ true
  pub prenex : is_prenex side (shallow e) ≡ true

-- each tree of a list is one for a formula of the set that they make
formulas_among : (es : List Exp) → All (λ e. among (map shallow es) (shallow e) ≡ true) es
formulas_among [] = All-nil _
formulas_among (e ∷ es) =
    All-cons (λ d. among (map shallow (e ∷ es)) (shallow d) ≡ true) e es (among_first (shallow e) (map shallow es))
    (All-weaker (λ d. among (map shallow es) (shallow d) ≡ true) (λ d. among (map shallow (e ∷ es)) (shallow d) ≡ true) (λ d. among_later (shallow d) (shallow e) (map shallow es)) es (formulas_among es))

module _ (x : Expansion) (s : Sequent) (proof : IsExpansionProof x s) (prenex : IsPrenex s) where
  pub trees_left : All (IsTreeFor s Left) x.left
  trees_left k d l =
      let e = get_or x.left k d in
      let m = subst (λ q. set.has q.left (shallow e) ≡ true) proof.formulas (added set.empty (map shallow x.left) (shallow e) (formulas_among x.left k d l)) in
      record { built = proof.built_left k d l; stands_there = proof.stand_left k d l; formula = m; prenex = prenex Left (shallow e) m }

  pub trees_right : All (IsTreeFor s Right) x.right
  trees_right k d l =
      let e = get_or x.right k d in
      let m = subst (λ q. set.has q.right (shallow e) ≡ true) proof.formulas (added set.empty (map shallow x.right) (shallow e) (formulas_among x.right k d l)) in
      record { built = proof.built_right k d l; stands_there = proof.stand_right k d l; formula = m; prenex = prenex Right (shallow e) m }

-- on a side

-- the matrix instances by the tuples of a tree, and of trees
abbrev instances_on : Side → Exp → List Formula
instances_on s e = map (λ us. matrix_instance us (shallow e)) (tuples_on s e)

abbrev instances_each : Side → List Exp → List Formula
instances_each s [] = []
instances_each s (e ∷ es) = instances_on s e ++ instances_each s es

module _ (s : Sequent) (side : Side) where
  -- a matrix instance of the trees helps where one by some tree's tuple does
  any_instance : (a : Assignment) (es : List Exp) → list_any (helps a side) (instances_each side es) ≡ list_any (λ e. some_tuple_helps a side (shallow e) (tuples_on side e)) es
  any_instance a [] = refl
  any_instance a (e ∷ es) =
      list_any-append (helps a side) (instances_on side e) (instances_each side es)
      ∙ (λ i. any-map (helps a side) (λ us. matrix_instance us (shallow e)) (tuples_on side e) i || any_instance a es i)

  -- where a tree helps, so does a matrix instance by a tuple of one
  pub some_helps : (a : Assignment) (es : List Exp) → All (IsTreeFor s side) es → list_any (helped a side) es ≡ true → list_any (λ e. some_tuple_helps a side (shallow e) (tuples_on side e)) es ≡ true
  some_helps a [] h e = cc
  some_helps a (d ∷ ds) h e =
      let here = All-head (IsTreeFor s side) d ds h in
      either (helped a side d) (list_any (helped a side) ds)
      (λ p. or_first _ _ (tuple_helps a side d here.built here.stands_there here.prenex p))
      (λ p. or_second (some_tuple_helps a side (shallow d) (tuples_on side d)) _ (some_helps a ds (All-tail (IsTreeFor s side) d ds h) p))
      e

  -- no matrix instance has a quantifier
  plain_each : (es : List Exp) → All (IsTreeFor s side) es → list_all (λ f. negated (has_quantifier f)) (instances_each side es) ≡ true
  plain_each [] h = refl
  plain_each (e ∷ es) h =
      list_all-append _ (instances_on side e) (instances_each side es)
      ∙ and_both _ _
      (list_all-map _ (λ us. matrix_instance us (shallow e)) (tuples_on side e)
      ∙ list_all-from_AllPass _ (tuples_on side e) (λ k d l. not_false _ (matrix_plain side _ (shallow e) (tuples_counted (prefix side (shallow e)) e k d l) (All-head (IsTreeFor s side) e es h).prenex)))
      (plain_each es (All-tail (IsTreeFor s side) e es h))

  -- each is a matrix instance of a formula of the sequent
  instance_in : (g : Formula) → set.has (side_of s side) g ≡ true → (uss : List Terms) → All (λ us. count_terms us ≡ prefix side g) uss → (f : Formula) → among (map (λ us. matrix_instance us g) uss) f ≡ true
      → IsMatrixInstance s side f
  instance_in g m [] h f e = cc
  instance_in g m (us ∷ uss) h f e =
      either (eq_by_cmp formula_cmp f (matrix_instance us g)) (among (map (λ vs. matrix_instance vs g) uss) f)
      (λ here. record { formula = g; tuple = us; stands = m; counted = All-head (λ vs. count_terms vs ≡ prefix side g) us uss h; same = equal f _ here })
      (instance_in g m uss (All-tail (λ vs. count_terms vs ≡ prefix side g) us uss h) f)
      e

  each_instance : (es : List Exp) → All (IsTreeFor s side) es → (f : Formula) → among (instances_each side es) f ≡ true → IsMatrixInstance s side f
  each_instance [] h f e = cc
  each_instance (d ∷ ds) h f e =
      either (among (instances_on side d) f) (among (instances_each side ds) f)
      (instance_in (shallow d) (All-head (IsTreeFor s side) d ds h).formula (tuples_on side d) (tuples_counted (prefix side (shallow d)) d) f)
      (each_instance ds (All-tail (IsTreeFor s side) d ds h) f)
      (sym (list_any-append (eq_by_cmp formula_cmp f) (instances_on side d) (instances_each side ds)) ∙ e)

  pub instance_of_side : (es : List Exp) → All (IsTreeFor s side) es → (f : Formula) → set.has (set.adds_each (set.empty {R = formula_cmp}) (instances_each side es)) f ≡ true → IsMatrixInstance s side f
  instance_of_side es h f m = old_or_added set.empty (instances_each side es) f (λ old. clash (set.has (set.empty {R = formula_cmp}) f) old (has-empty formula_cmp f)) (each_instance es h f) m

-- those of the trees' items

of_their_side : (side : Side) (es : List Exp) → matrix_instances side (map (item_of side) es) ≡ instances_each side es
of_their_side Left [] = refl
of_their_side Right [] = refl
of_their_side Left (e ∷ es) = ap (λ fs. instances_on Left e ++ fs) (of_their_side Left es)
of_their_side Right (e ∷ es) = ap (λ fs. instances_on Right e ++ fs) (of_their_side Right es)

none_of_right : (es : List Exp) → matrix_instances Left (map (item_of Right) es) ≡ []
none_of_right [] = refl
none_of_right (e ∷ es) = none_of_right es

none_of_left : (es : List Exp) → matrix_instances Right (map (item_of Left) es) ≡ []
none_of_left [] = refl
none_of_left (e ∷ es) = none_of_left es

left_instances : (x : Expansion) → matrix_instances Left (items_of x) ≡ instances_each Left x.left
left_instances x =
    flat_map-append _ (map (item_of Left) x.left) (map (item_of Right) x.right)
    ∙ ((λ i. of_their_side Left x.left i ++ none_of_right x.right i) ∙ append-nil (instances_each Left x.left))

right_instances : (x : Expansion) → matrix_instances Right (items_of x) ≡ instances_each Right x.right
right_instances x =
    flat_map-append _ (map (item_of Left) x.left) (map (item_of Right) x.right)
    ∙ (λ i. none_of_left x.left i ++ of_their_side Right x.right i)

-- the Herbrand sequent of trees has these
as_listed : (x : Expansion) → sequent_with (instances_each Left x.left) (instances_each Right x.right) ≡ herbrand_sequent (items_of x)
as_listed x = λ i. sequent_with (sym (left_instances x) i) (sym (right_instances x) i)

module _ (x : Expansion) (s : Sequent) (proof : IsExpansionProof x s) (prenex : IsPrenex s) where
  -- under each assignment a matrix instance by a tuple of some tree helps
  pub instances_help : (a : Assignment) → (list_any (λ e. some_tuple_helps a Left (shallow e) (tuples_on Left e)) x.left || list_any (λ e. some_tuple_helps a Right (shallow e) (tuples_on Right e)) x.right) ≡ true
  instances_help a =
      or_more (list_any (helped a Left) x.left) (list_any (helped a Right) x.right) _ _
      (some_helps s Left a x.left (trees_left x s proof prenex))
      (some_helps s Right a x.right (trees_right x s proof prenex))
      ((tautology_helped x).0 proof.tautology a)

  pub herbrand_tautology : IsTautology (herbrand_sequent (items_of x))
  herbrand_tautology = subst IsTautology (as_listed x) (listed_tautology (instances_each Left x.left) (instances_each Right x.right) (λ a. (λ i. any_instance s Left a x.left i || any_instance s Right a x.right i) ∙ instances_help a))

  listed_without : IsPropositional (sequent_with (instances_each Left x.left) (instances_each Right x.right))
  listed_without = record {
    left = listed_plain (instances_each Left x.left) (plain_each s Left x.left (trees_left x s proof prenex));
    right = listed_plain (instances_each Right x.right) (plain_each s Right x.right (trees_right x s proof prenex));
  }

  pub herbrand_plain : IsPropositional (herbrand_sequent (items_of x))
  herbrand_plain = subst IsPropositional (as_listed x) listed_without

  listed_instance : (side : Side) (f : Formula) → set.has (side_of (sequent_with (instances_each Left x.left) (instances_each Right x.right)) side) f ≡ true → IsMatrixInstance s side f
  listed_instance Left f m = instance_of_side s Left x.left (trees_left x s proof prenex) f m
  listed_instance Right f m = instance_of_side s Right x.right (trees_right x s proof prenex) f m

  pub herbrand_instance : (side : Side) (f : Formula) → set.has (side_of (herbrand_sequent (items_of x)) side) f ≡ true → IsMatrixInstance s side f
  herbrand_instance = subst (λ q. (side : Side) (f : Formula) → set.has (side_of q side) f ≡ true → IsMatrixInstance s side f) (as_listed x) listed_instance

-- no predicate symbol of the sequent has a body

prenex_side : (s : Sequent) → IsPrenex s → (side : Side) → list_any has_body (set.listing (side_of s side)) ≡ false
prenex_side s h side =
    fails (list_any has_body (set.listing (side_of s side))) (from_some has_body (set.listing (side_of s side)) (λ f m e.
    clash (has_body f) e (prenex_no_body side f (h side f (has-listing (side_of s side) f ∙ m)))))

pub prenex_without_bodies : (s : Sequent) → IsPrenex s → has_body_in_sequent s ≡ false
prenex_without_bodies s h = λ i. prenex_side s h Left i || prenex_side s h Right i
