-- The variables of the strong quantifiers of the tree at an address are those of addresses that are reached from it, each once.
use Rattle.std.proofs.Common.{◌≡◌, ℕ, ◌≤◌, Bool, true, false, not as negated, List, [], ◌∷◌, ◌++◌, map, refl, sym, ap, subst, ◌∙◌, arith}
use Rattle.std.specs.List.{list_any, list_all}
use Rattle.std.specs.Ordering.{eq_by_cmp}
use Rattle.std.specs.declared.cmp.Ordering.{Ordering}
use Rattle.std.proofs.lemmas.List.Folds.{list_any-append, list_all-append}
use Rattle.fol.specs.declared.symbols.Var.{Var}
use Rattle.fol.specs.Syntax.{Term, free, Formula, all, ex}
use Rattle.fol.specs.Order.{var_cmp, term_cmp}
use Rattle.finite.specs.Finite as set
use Rattle.finite.proofs.Finite.{listing_rises}
use Rattle.finite.proofs.Rising.{head_below, tail_rises, below_none}
use Rattle.free_variables.specs.Fresh.{is_among}
use Rattle.substitution.proofs.ImageLaws.{itself, same_var}
use Rattle.lk_rules.specs.declared.sequent.Side.{Side}
use Rattle.lk_rules.specs.declared.sequent.Side.TheVariants.{Left, Right}
use Rattle.lk_rules.proofs.Subsequents.{and_left, and_right, and_both}
use Rattle.proof_trees.proofs.Booleans.{or_first, or_second, either}
use Rattle.search_laws.proofs.Tests.{clash, fails, not_false}
use Rattle.expansion_laws.specs.Expansions.{Exp}
use Rattle.expansion_laws.specs.Dependency.{strongs, strongs_in, strongs_each}
use Rattle.expansion_laws.specs.Proofs.{is_strong_on, are_distinct}
use Rattle.expansion_laws.proofs.Lists.{not-any}
use Rattle.extraction_laws.specs.Addresses.{Address, part, via, is_listed, formula_at, side_at}
use Rattle.extraction_laws.specs.States.{State, instances_by, terms_at, terms_of, if_opened, weak_at, strong_at, place_of, variable_at, tree_at}
use Rattle.extraction_laws.proofs.Built.{of_tree, on_each_side}
use Rattle.extraction_laws.proofs.Equal.{tied_terms}
use Rattle.extraction_laws.proofs.Grades.{Rises, at_each}
use Rattle.extraction_laws.proofs.Marks.{one_place}
use Rattle.extraction_laws.proofs.Paths.{From, length_of, from_itself, from_part, from_via, not_shorter, one_of_length}
use Rattle.extraction_laws.proofs.Proper.{Proper}
use Rattle.extraction_laws.proofs.Unrolled.{of_part, of_instance, tree-flat, tree-not, tree-and, tree-or, tree-imp, tree-all, tree-ex}
use Rattle.extraction_laws.proofs.Variables.{one_number}

-- lists of variables

strongs-instances : (e : Term → Exp) (ts : List Term) → strongs_in (instances_by e ts) ≡ strongs_each (map e ts)
strongs-instances e [] = refl
strongs-instances e (t ∷ ts) = ap (λ vs. strongs (e t) ++ vs) (strongs-instances e ts)

pub among_either : {P : Type 0} (y : Var) (us ws : List Var) → (is_among y us ≡ true → P) → (is_among y ws ≡ true → P) → is_among y (us ++ ws) ≡ true → P
among_either y us ws first second h = either (is_among y us) (is_among y ws) first second (sym (list_any-append (eq_by_cmp var_cmp y) us ws) ∙ h)

-- two lists without repeats that have nothing in common
pub distinct-append : (us ws : List Var) → are_distinct us ≡ true → are_distinct ws ≡ true → ((y : Var) → is_among y us ≡ true → is_among y ws ≡ true → ⊥) → are_distinct (us ++ ws) ≡ true
distinct-append [] ws first second apart = second
distinct-append (u ∷ us) ws first second apart =
    let out : list_all (λ w. negated (eq_by_cmp var_cmp u w)) ws ≡ true =
    sym (not-any (eq_by_cmp var_cmp u) ws) ∙ not_false (is_among u ws) (fails (is_among u ws) (λ h. absurd (apart u (or_first _ (is_among u us) (itself u)) h)))
    in and_both _ _
    (list_all-append (λ w. negated (eq_by_cmp var_cmp u w)) us ws ∙ and_both _ _ (and_left _ _ first) out)
    (distinct-append us ws (and_right (list_all (λ w. negated (eq_by_cmp var_cmp u w)) us) _ first) second (λ y h. apart y (or_second (eq_by_cmp var_cmp y u) (is_among y us) h)))

module _ (vs : List Var) (st : State) (proper : Proper vs st) where
  -- y is the variable of an address that is reached from a
  pub record Member (a : Address) (y : Var) : Type 0 where
    pub at : Address
    pub from : From a at
    pub given : is_listed at st.names ≡ true
    pub variable : y ≡ variable_at vs st at

  abbrev tree : Address → Exp
  tree = tree_at vs st

  of_part_member : (a : Address) (i : ℕ) (y : Var) → Member (part a i) y → Member a y
  of_part_member a i y m = record { at = m.at; from = from_part a i m.at m.from; given = m.given; variable = m.variable }

  of_instance_member : (a : Address) (t : Term) (y : Var) → Member (via a t) y → Member a y
  of_instance_member a t y m = record { at = m.at; from = from_via a t m.at m.from; given = m.given; variable = m.variable }

  -- the trees at several addresses

  module _ {K : Type 0} (branch : K → Address) where
    -- a variable of one of them
    pub record Among (ks : List K) (y : Var) : Type 0 where
      pub key : K
      pub member : Member (branch key) y
      pub listed : (p : K → Bool) → p key ≡ true → list_any p ks ≡ true

    pub among_each : (ks : List K) → ((k : K) (y : Var) → is_among y (strongs (tree (branch k))) ≡ true → Member (branch k) y) → (y : Var) → is_among y (strongs_each (map (λ k. tree (branch k)) ks)) ≡ true → Among ks y
    among_each [] each y h = cc
    among_each (k ∷ ks) each y h =
        among_either y (strongs (tree (branch k))) (strongs_each (map (λ j. tree (branch j)) ks))
        (λ e. record { key = k; member = each k y e; listed = λ p q. or_first (p k) (list_any p ks) q })
        (λ e. let m : Among ks y = among_each ks each y e in record { key = m.key; member = m.member; listed = λ p q. or_second (p k) (list_any p ks) (m.listed p q) })
        h

  -- the variables of a tree are so

  abbrev Members : Address → Type 0
  Members a = (y : Var) → is_among y (strongs (tree a)) ≡ true → Member a y

  members_at : (a : Address) (e : Exp) → tree a ≡ if_opened st a e → (set.has st.opened a ≡ true → (y : Var) → is_among y (strongs e) ≡ true → Member a y) → Members a
  members_at a e is here = of_tree vs st (λ x. (y : Var) → is_among y (strongs x) ≡ true → Member a y) a e is (λ y h. cc) here

  of_two : (a : Address) → Members (part a 0) → Members (part a 1) → (y : Var) → is_among y (strongs (of_part vs st a 0) ++ strongs (of_part vs st a 1)) ≡ true → Member a y
  of_two a first second y = among_either y (strongs (of_part vs st a 0)) (strongs (of_part vs st a 1)) (λ h. of_part_member a 0 y (first y h)) (λ h. of_part_member a 1 y (second y h))

  of_weak : (a : Address) → ((t : Term) → Members (via a t)) → (y : Var) → is_among y (strongs (weak_at st a (of_instance vs st a))) ≡ true → Member a y
  of_weak a each y h =
      let m : Among (via a) (terms_at st a) y = among_each (via a) (terms_at st a) each y (ap (is_among y) (sym (strongs-instances (of_instance vs st a) (terms_at st a))) ∙ h) in
      of_instance_member a m.key y m.member

  of_strong : (a : Address) → is_listed a st.names ≡ true → ((t : Term) → Members (via a t)) → (y : Var) → is_among y (strongs (strong_at vs st a (of_instance vs st a))) ≡ true → Member a y
  of_strong a there each y =
      let v : Var = variable_at vs st a in
      either (eq_by_cmp var_cmp y v) (is_among y (strongs (of_instance vs st a (free v))))
      (λ e. record { at = a; from = from_itself a; given = there; variable = same_var y v e })
      (λ e. of_instance_member a (free v) y (each (free v) y e))

  -- a strong quantifier that is used has its variable
  pub strong_given : (a : Address) (s : Side) (f : Formula) → formula_at a ≡ f → side_at a ≡ s → is_strong_on s f ≡ true → set.has st.opened a ≡ true → is_listed a st.names ≡ true
  strong_given a s f e side h used = proper.strong_named a used ((λ i. is_strong_on (side i) (e i)) ∙ h)

  membership : Rises Members
  membership = record {
    flat = λ a h. members_at a _ (tree-flat vs st (formula_at a) a refl h) (λ _ y e. cc);
    negation = λ a f e h. members_at a _ (tree-not vs st f a e) (λ _ y k. of_part_member a 0 y (h y k));
    conjunction = λ a f g e h k. members_at a _ (tree-and vs st f g a e) (λ _. of_two a h k);
    disjunction = λ a f g e h k. members_at a _ (tree-or vs st f g a e) (λ _. of_two a h k);
    implication = λ a f g e h k. members_at a _ (tree-imp vs st f g a e) (λ _. of_two a h k);
    universal = λ a f e h. members_at a _ (tree-all vs st f a e) (λ used. on_each_side (λ x. (y : Var) → is_among y (strongs x) ≡ true → Member a y) (side_at a) _ _
        (λ _. of_weak a h)
        (λ s. of_strong a (strong_given a Right (all f) e s refl used) h));
    existential = λ a f e h. members_at a _ (tree-ex vs st f a e) (λ used. on_each_side (λ x. (y : Var) → is_among y (strongs x) ≡ true → Member a y) (side_at a) _ _
        (λ s. of_strong a (strong_given a Left (ex f) e s refl used) h)
        (λ _. of_weak a h));
  }

  pub members : (a : Address) (y : Var) → is_among y (strongs (tree_at vs st a)) ≡ true → Member a y
  members = at_each Members membership

  -- one variable is that of one address
  one_address : (a b : Address) (y : Var) (m : Member a y) (n : Member b y) → m.at ≡ n.at
  one_address a b y m n = one_place m.at n.at st.names m.given (one_number vs (place_of m.at st.names) (place_of n.at st.names) (sym m.variable ∙ n.variable))

  -- so two addresses with paths of one length, from which it is reached, are equal
  pub one_branch : (a b : Address) (y : Var) → length_of a ≡ length_of b → Member a y → Member b y → a ≡ b
  one_branch a b y e m n = one_of_length a b n.at (subst (From a) (one_address a b y m n) m.from) n.from e

  -- the trees at different addresses with paths of one length have no variable in common

  module _ {K : Type 0} (R : K → K → Ordering) (branch : K → Address) (level : (j k : K) → length_of (branch j) ≡ length_of (branch k)) (tied : (j k : K) → branch j ≡ branch k → eq_by_cmp R j k ≡ true) where
    pub distinct_each : (ks : List K) → set.IsRising R ks → ((k : K) → are_distinct (strongs (tree (branch k))) ≡ true) → are_distinct (strongs_each (map (λ k. tree (branch k)) ks)) ≡ true
    distinct_each [] rises each = refl
    distinct_each (k ∷ ks) rises each =
        distinct-append (strongs (tree (branch k))) (strongs_each (map (λ j. tree (branch j)) ks)) (each k) (distinct_each ks (tail_rises R k ks rises) each)
        (λ y here later.
        let m : Among branch ks y = among_each branch ks (λ j. members (branch j)) y later in
        clash (list_any (eq_by_cmp R k) ks)
        (m.listed (eq_by_cmp R k) (tied k m.key (one_branch (branch k) (branch m.key) y (level k m.key) (members (branch k) y here) m.member)))
        (below_none R k ks (head_below R k ks rises)))

  -- the variables of a tree are different

  abbrev Distinct : Address → Type 0
  Distinct a = are_distinct (strongs (tree a)) ≡ true

  distinct_at : (a : Address) (e : Exp) → tree a ≡ if_opened st a e → (set.has st.opened a ≡ true → are_distinct (strongs e) ≡ true) → Distinct a
  distinct_at a e is here = of_tree vs st (λ x. are_distinct (strongs x) ≡ true) a e is refl here

  parts_differ : (a : Address) → part a 0 ≡ part a 1 → ⊥
  parts_differ a e = cc

  two_distinct : (a : Address) → Distinct (part a 0) → Distinct (part a 1) → are_distinct (strongs (of_part vs st a 0) ++ strongs (of_part vs st a 1)) ≡ true
  two_distinct a first second =
      distinct-append (strongs (of_part vs st a 0)) (strongs (of_part vs st a 1)) first second
      (λ y here there. parts_differ a (one_branch (part a 0) (part a 1) y refl (members (part a 0) y here) (members (part a 1) y there)))

  tied_instances : (a : Address) (t u : Term) → via a t ≡ via a u → eq_by_cmp term_cmp t u ≡ true
  tied_instances a t u e = tied_terms t u cc

  weak_distinct : (a : Address) → ((t : Term) → Distinct (via a t)) → are_distinct (strongs (weak_at st a (of_instance vs st a))) ≡ true
  weak_distinct a each =
      ap are_distinct (strongs-instances (of_instance vs st a) (terms_at st a))
      ∙ distinct_each term_cmp (via a) (λ t u. refl) (tied_instances a) (terms_at st a) (listing_rises (set.of_list (terms_of a (set.listing st.instances)))) each

  -- the variable of an address isn't that of one further on
  own_distinct : (a : Address) → is_listed a st.names ≡ true → (t : Term) → is_among (variable_at vs st a) (strongs (of_instance vs st a t)) ≡ false
  own_distinct a there t =
      let v : Var = variable_at vs st a in
      fails (is_among v (strongs (of_instance vs st a t))) (λ h.
      let m : Member (via a t) v = members (via a t) v h in
      let own : Member a v = record { at = a; from = from_itself a; given = there; variable = refl } in
      let long : length_of (via a t) ≤ length_of a = not_shorter (via a t) a (subst (From (via a t)) (one_address (via a t) a v m own) m.from) in
      absurd (omega arith))

  strong_distinct : (a : Address) → is_listed a st.names ≡ true → ((t : Term) → Distinct (via a t)) → are_distinct (strongs (strong_at vs st a (of_instance vs st a))) ≡ true
  strong_distinct a there each =
      let v : Var = variable_at vs st a in
      and_both _ _ (sym (not-any (eq_by_cmp var_cmp v) (strongs (of_instance vs st a (free v)))) ∙ not_false _ (own_distinct a there (free v))) (each (free v))

  distinctness : Rises Distinct
  distinctness = record {
    flat = λ a h. distinct_at a _ (tree-flat vs st (formula_at a) a refl h) (λ _. refl);
    negation = λ a f e h. distinct_at a _ (tree-not vs st f a e) (λ _. h);
    conjunction = λ a f g e h k. distinct_at a _ (tree-and vs st f g a e) (λ _. two_distinct a h k);
    disjunction = λ a f g e h k. distinct_at a _ (tree-or vs st f g a e) (λ _. two_distinct a h k);
    implication = λ a f g e h k. distinct_at a _ (tree-imp vs st f g a e) (λ _. two_distinct a h k);
    universal = λ a f e h. distinct_at a _ (tree-all vs st f a e) (λ used. on_each_side (λ x. are_distinct (strongs x) ≡ true) (side_at a) _ _
        (λ _. weak_distinct a h)
        (λ s. strong_distinct a (strong_given a Right (all f) e s refl used) h));
    existential = λ a f e h. distinct_at a _ (tree-ex vs st f a e) (λ used. on_each_side (λ x. are_distinct (strongs x) ≡ true) (side_at a) _ _
        (λ s. strong_distinct a (strong_given a Left (ex f) e s refl used) h)
        (λ _. weak_distinct a h));
  }

  pub distinct-tree : (a : Address) → are_distinct (strongs (tree_at vs st a)) ≡ true
  distinct-tree = at_each Distinct distinctness
