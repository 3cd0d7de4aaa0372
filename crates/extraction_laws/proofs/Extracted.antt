-- What is extracted from a valid proof without cuts, of a sequent in which no symbol has a body, is an expansion proof.
use Rattle.std.proofs.Common.{◌≡◌, ◌<◌, Bool, true, false, ◌||◌, List, [], ◌∷◌, ◌++◌, map, refl, sym, ap, ◌∙◌}
use Rattle.std.specs.List.{All, list_any, list_all}
use Rattle.std.specs.Ordering.{eq_by_cmp}
use Rattle.std.proofs.lemmas.List.Folds.{list_any-append}
use Rattle.std.proofs.lemmas.List.Sums.{AllPass-from_list_all}
use Rattle.fol.specs.declared.symbols.Var.{Var}
use Rattle.fol.specs.Syntax.{Formula}
use Rattle.fol.specs.Order.{var_cmp, formula_cmp}
use Rattle.fol.specs.OrderLaws.{formula_total}
use Rattle.finite.specs.Finite as set
use Rattle.finite.proofs.Finite.{has-listing, has-empty, has-adds_each, listing_rises, same_members}
use Rattle.fol.proofs.OrderTies.{formula_ties}
use Rattle.free_variables.specs.Fresh.{is_among}
use Rattle.substitution.proofs.ImageLaws.{itself}
use Rattle.lk_rules.specs.declared.sequent.Side.{Side}
use Rattle.lk_rules.specs.declared.sequent.Side.TheVariants.{Left, Right}
use Rattle.lk_rules.specs.Sequents.{vars_sequent, is_free_in_sequent}
use Rattle.lk_rules.proofs.SequentVariables.{sequent_var_members}
use Rattle.lk_rules.proofs.Subsequents.{and_left, and_right, and_both}
use Rattle.proof_trees.specs.Trees.{Tree, node, concl, IsValid, IsCutFree}
use Rattle.proof_trees.specs.Occurrence.{has_body_in_sequent}
use Rattle.proof_trees.proofs.Booleans.{or_first, or_second, either}
use Rattle.proof_trees.proofs.FormulaSets.{tied}
use Rattle.search_laws.proofs.Tests.{clash, fails}
use Rattle.expansion_laws.specs.Expansions.{Exp, shallow}
use Rattle.expansion_laws.specs.Building.{is_built}
use Rattle.expansion_laws.specs.Dependency.{strongs_each, strongs_of, is_above, is_before}
use Rattle.expansion_laws.specs.Proofs.{stands, shallow_sequent, are_distinct, IsExpansionProof}
use Rattle.expansion_laws.proofs.Lists.{some_passes}
use Rattle.expansion_laws.proofs.Ranks.{acyclic_ranked}
use Rattle.extraction_laws.specs.Addresses.{Address, root}
use Rattle.extraction_laws.specs.States.{State, place_of, number_of, tree_at}
use Rattle.extraction_laws.specs.Extraction.{vars_chosen, var_list_trees, vars_in, marks_of, extracted}
use Rattle.extraction_laws.proofs.Built.{shallow-tree, built-tree, stands-tree}
use Rattle.extraction_laws.proofs.Orders.{lower-tree}
use Rattle.extraction_laws.proofs.Proper.{Proper}
use Rattle.extraction_laws.proofs.ProperWalks.{among_vars, proper_marks}
use Rattle.extraction_laws.proofs.Strongs.{Member, Among, among_each, members, among_either, distinct-append, one_branch, distinct_each, distinct-tree}
use Rattle.extraction_laws.proofs.Truth.{any-trees, tautology_extracted}
use Rattle.extraction_laws.proofs.Variables.{nth_out}

-- the formulas

shallow_each : (vs : List Var) (st : State) (side : Side) (fs : List Formula) → map shallow (map (λ f. tree_at vs st (root side f)) fs) ≡ fs
shallow_each vs st side [] = refl
shallow_each vs st side (f ∷ fs) = λ i. shallow-tree vs st (root side f) i ∷ shallow_each vs st side fs i

pub formulas_left : (t : Tree) → map shallow (extracted t).left ≡ set.listing (concl t).left
formulas_left t = shallow_each (vars_in t) (marks_of t) Left (set.listing (concl t).left)

pub formulas_right : (t : Tree) → map shallow (extracted t).right ≡ set.listing (concl t).right
formulas_right t = shallow_each (vars_in t) (marks_of t) Right (set.listing (concl t).right)

-- a set is that of its list
set_of_listing : (s : set.Finite formula_cmp) → set.of_list (set.listing s) ≡ s
set_of_listing s =
    same_members formula_total formula_ties (set.of_list (set.listing s)) s (λ q.
    has-adds_each formula_total set.empty (set.listing s) q
    ∙ (ap (λ b. b || list_any (eq_by_cmp formula_cmp q) (set.listing s)) (has-empty formula_cmp q)
    ∙ sym (has-listing s q)))

pub shallow_extracted : (t : Tree) → shallow_sequent (extracted t) ≡ concl t
shallow_extracted t = λ i. record {
  left = (ap set.of_list (formulas_left t) ∙ set_of_listing (concl t).left) i;
  right = (ap set.of_list (formulas_right t) ∙ set_of_listing (concl t).right) i;
}

-- the trees

all_trees : (p : Exp → Bool) (e : Formula → Exp) (fs : List Formula) → ((f : Formula) → p (e f) ≡ true) → list_all p (map e fs) ≡ true
all_trees p e [] h = refl
all_trees p e (f ∷ fs) h = and_both _ _ (h f) (all_trees p e fs h)

module _ (t : Tree) where
  abbrev tree : Side → Formula → Exp
  tree side f = tree_at (vars_in t) (marks_of t) (root side f)

  all_built : (side : Side) (fs : List Formula) → All (λ e. is_built e ≡ true) (map (tree side) fs)
  all_built side fs = AllPass-from_list_all is_built (map (tree side) fs) (all_trees is_built (tree side) fs (λ f. built-tree (vars_in t) (marks_of t) (root side f)))

  all_stand : (side : Side) (fs : List Formula) → All (λ e. stands side e ≡ true) (map (tree side) fs)
  all_stand side fs = AllPass-from_list_all (stands side) (map (tree side) fs) (all_trees (stands side) (tree side) fs (λ f. stands-tree (vars_in t) (marks_of t) (root side f)))

-- the variables of a proof's conclusion are among its variables
conclusion_within : (t : Tree) (v : Var) → is_free_in_sequent v (concl t) ≡ true → is_among v (vars_in t) ≡ true
conclusion_within (node r s ts) v h =
    among_vars (node r s ts) v
    (list_any-append (eq_by_cmp var_cmp v) (set.listing (vars_sequent s)) (vars_chosen r ++ var_list_trees ts)
    ∙ or_first _ _ (sym (has-listing (vars_sequent s) v) ∙ (sequent_var_members s v ∙ h)))

-- what passes is a member
some_member : {P : Type 0} (p : Var → Bool) (us : List Var) → ((v : Var) → is_among v us ≡ true → p v ≡ true → P) → list_any p us ≡ true → P
some_member p [] f h = cc
some_member p (u ∷ us) f h =
    either (p u) (list_any p us)
    (f u (or_first (eq_by_cmp var_cmp u u) (is_among u us) (itself u)))
    (some_member p us (λ v m. f v (or_second (eq_by_cmp var_cmp v u) (is_among v us) m)))
    h

module _ (t : Tree) (valid : IsValid t) (free : IsCutFree t) (bodies : has_body_in_sequent (concl t) ≡ false) where
  abbrev vs : List Var
  vs = vars_in t

  abbrev st : State
  st = marks_of t

  abbrev lefts : List Formula
  lefts = set.listing (concl t).left

  abbrev rights : List Formula
  rights = set.listing (concl t).right

  proper : Proper (vars_in t) (marks_of t)
  proper = proper_marks t valid free bodies

  -- the variables of the trees on a side

  abbrev strongs_on : Side → List Formula → List Var
  strongs_on side fs = strongs_each (map (tree t side) fs)

  among_side : (side : Side) (fs : List Formula) (y : Var) → is_among y (strongs_on side fs) ≡ true → Among vs st proper (root side) fs y
  among_side side fs = among_each vs st proper (root side) fs (λ f. members vs st proper (root side f))

  -- none is one of the proof
  member_outside : (a : Address) (y : Var) → Member vs st proper a y → is_among y vs ≡ false
  member_outside a y m = ap (λ v. is_among v vs) m.variable ∙ nth_out vs (place_of m.at st.names)

  outside : (y : Var) → is_among y (strongs_of (extracted t)) ≡ true → is_among y vs ≡ false
  outside y =
      among_either y (strongs_on Left lefts) (strongs_on Right rights)
      (λ h. let m : Among vs st proper (root Left) lefts y = among_side Left lefts y h in member_outside (root Left m.key) y m.member)
      (λ h. let m : Among vs st proper (root Right) rights y = among_side Right rights y h in member_outside (root Right m.key) y m.member)

  -- they are different

  tied_roots : (side : Side) (f g : Formula) → root side f ≡ root side g → eq_by_cmp formula_cmp f g ≡ true
  tied_roots side f g e = tied f g cc

  distinct_on : (side : Side) (fs : List Formula) → set.IsRising formula_cmp fs → are_distinct (strongs_on side fs) ≡ true
  distinct_on side fs rises = distinct_each vs st proper formula_cmp (root side) (λ f g. refl) (tied_roots side) fs rises (λ f. distinct-tree vs st proper (root side f))

  sides_differ : (f g : Formula) → root Left f ≡ root Right g → ⊥
  sides_differ f g e = cc

  distinct : are_distinct (strongs_of (extracted t)) ≡ true
  distinct =
      distinct-append (strongs_on Left lefts) (strongs_on Right rights) (distinct_on Left lefts (listing_rises (concl t).left)) (distinct_on Right rights (listing_rises (concl t).right))
      (λ y here there.
      let m : Among vs st proper (root Left) lefts y = among_side Left lefts y here in
      let n : Among vs st proper (root Right) rights y = among_side Right rights y there in
      sides_differ m.key n.key (one_branch vs st proper (root Left m.key) (root Right n.key) y refl m.member n.member))

  fresh : list_any (λ v. is_free_in_sequent v (concl t)) (strongs_of (extracted t)) ≡ false
  fresh =
      fails _ (some_member (λ v. is_free_in_sequent v (concl t)) (strongs_of (extracted t)) (λ v m inside.
      clash (is_among v vs) (conclusion_within t v inside) (outside v m)))

  -- numbers rise from each to those that it comes before

  lower_on : (side : Side) (fs : List Formula) (y z : Var) → is_among y vs ≡ false → list_any (is_above y z false) (map (tree t side) fs) ≡ true → number_of y < number_of z
  lower_on side fs y z out h =
      some_passes (λ f. is_above y z false (tree t side f)) fs (λ f e. lower-tree vs st proper y z (root side f) e out)
      (sym (any-trees (is_above y z false) (tree t side) fs) ∙ h)

  lower : (y z : Var) → is_before (extracted t) y z ≡ true → number_of y < number_of z
  lower y z h =
      let out : is_among y vs ≡ false = outside y (and_left _ _ h) in
      either (list_any (is_above y z false) (extracted t).left) (list_any (is_above y z false) (extracted t).right)
      (lower_on Left lefts y z out)
      (lower_on Right rights y z out)
      (and_right (is_among y (strongs_of (extracted t))) _ h)

  pub expansion_proof : IsExpansionProof (extracted t) (concl t)
  expansion_proof = record {
    built_left = all_built t Left lefts;
    built_right = all_built t Right rights;
    stand_left = all_stand t Left lefts;
    stand_right = all_stand t Right rights;
    formulas = shallow_extracted t;
    distinct = distinct;
    fresh = fresh;
    acyclic = (acyclic_ranked (extracted t)).1 (number_of, lower);
    tautology = tautology_extracted t valid free bodies;
  }
