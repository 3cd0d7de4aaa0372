-- The items of an expansion proof.
use Rattle.std.proofs.Common.{◌≡◌, true, ◌||◌, List, map, get_or, ◌∙◌}
use Rattle.std.specs.List.{All, list_all, list_any}
use Rattle.std.proofs.lemmas.List.Elements.{All-nil, All-append, All-map, All-weaker}
use Rattle.std.proofs.lemmas.List.Sums.{list_all-from_AllPass}
use Rattle.std.proofs.lemmas.List.Folds.{list_any-append}
use Rattle.fol.specs.Syntax.{Formula}
use Rattle.fol.specs.Formed.{is_formed, are_formed_terms_at, count_terms}
use Rattle.finite.specs.Finite as set
use Rattle.lk_rules.specs.declared.sequent.Sequent.{Sequent}
use Rattle.lk_rules.specs.declared.sequent.Side.{Side}
use Rattle.lk_rules.specs.declared.sequent.Side.TheVariants.{Left, Right}
use Rattle.lk_rules.proofs.Subsequents.{and_left, and_right, and_both}
use Rattle.search_laws.specs.Truth.{Assignment}
use Rattle.search_laws.proofs.Found.{are_formed, formed_sequent}
use Rattle.search_laws.proofs.Listed.{member_passes}
use Rattle.expansion_laws.specs.Expansions.{Exp, shallow}
use Rattle.expansion_laws.specs.Dependency.{Expansion}
use Rattle.expansion_laws.proofs.Lists.{all-set_of}
use Rattle.herbrand_laws.specs.Herbrand.{is_prenex, prefix, Item, item_of, items_of, quantifiers, on_side, matrix_instances, matrix_instance, herbrand_sequent}
use Rattle.herbrand_laws.specs.Introduction.{cut_variable, IsFormedProof}
use Rattle.herbrand_laws.proofs.Lists.{any-map, all-flat_map}
use Rattle.herbrand_laws.proofs.Reached.{some_tuple_helps}
use Rattle.herbrand_laws.proofs.Herbrand.{IsTreeFor, trees_left, trees_right, tuples_counted, instances_help}
use Rattle.herbrand_laws.proofs.RulesOver.{Stands}
use Rattle.herbrand_laws.proofs.CutMatrix.{formed_matrix, IsItem}
use Rattle.herbrand_laws.proofs.CutVariable.{variable_in_none}

-- what holds of the item of a tree for a formula of the sequent
record IsOfTree (s : Sequent) (i : Item) : Type 0 where
  stands : Stands s i.side i.formula
  prenex : is_prenex i.side i.formula ≡ true
  counted : All (λ us. count_terms us ≡ quantifiers i) i.tuples

of_trees : (s : Sequent) (side : Side) (es : List Exp) → All (IsTreeFor s side) es → All (IsOfTree s) (map (item_of side) es)
of_trees s side es h =
    All-map (IsOfTree s) (item_of side) es
    (All-weaker (IsTreeFor s side) (λ e. IsOfTree s (item_of side e)) (λ e t. record { stands = t.formula; prenex = t.prenex; counted = tuples_counted (prefix side (shallow e)) e }) es h)

side_formed : (s : Sequent) → are_formed s ≡ true → (side : Side) (f : Formula) → Stands s side f → is_formed f ≡ true
side_formed s h Left f m = member_passes is_formed s.left f (and_left _ _ h) m
side_formed s h Right f m = member_passes is_formed s.right f (and_right (list_all is_formed (set.listing s.left)) _ h) m

module _ (x : Expansion) (s : Sequent) (h : IsFormedProof x s) where
  pub sequent_formed : are_formed s ≡ true
  sequent_formed = formed_sequent s h.formulas.left h.formulas.right

  trees_of : All (IsOfTree s) (items_of x)
  trees_of =
      All-append (IsOfTree s) (map (item_of Left) x.left) (map (item_of Right) x.right)
      (of_trees s Left x.left (trees_left x s h.proof h.prenex))
      (of_trees s Right x.right (trees_right x s h.proof h.prenex))

  -- each item is one of the sequent, without the variable of the cut
  pub items_are : All (IsItem (cut_variable s (items_of x)) s) (items_of x)
  items_are k d l =
      let i = get_or (items_of x) k d in
      let t = trees_of k d l in
      record {
        stands = t.stands;
        prenex = t.prenex;
        formed = side_formed s sequent_formed i.side i.formula t.stands;
        fits = λ j e m. record { formed = h.terms k d l j e m; counted = t.counted j e m; without = variable_in_none s (items_of x) k d l j e m };
      }

  -- under each assignment an instance by a tuple of an item helps
  pub items_help : (a : Assignment) → list_any (λ i. some_tuple_helps a i.side i.formula i.tuples) (items_of x) ≡ true
  items_help a =
      let p = λ (i : Item). some_tuple_helps a i.side i.formula i.tuples in
      list_any-append p (map (item_of Left) x.left) (map (item_of Right) x.right)
      ∙ ((λ k. any-map p (item_of Left) x.left k || any-map p (item_of Right) x.right k) ∙ instances_help x s h.proof h.prenex a)

-- what is on a side
on_side_all : (P : Formula → Type 0) (side other : Side) (fs : List Formula) → All P fs → All P (on_side side other fs)
on_side_all P Left Left fs h = h
on_side_all P Right Right fs h = h
on_side_all P Left Right fs h = All-nil P
on_side_all P Right Left fs h = All-nil P

module _ (x : Expansion) (s : Sequent) (h : IsFormedProof x s) where
  instances_formed : (side : Side) → list_all is_formed (matrix_instances side (items_of x)) ≡ true
  instances_formed side =
      list_all-from_AllPass is_formed (matrix_instances side (items_of x))
      (all-flat_map (λ f. is_formed f ≡ true) (λ i. on_side side i.side (map (λ us. matrix_instance us i.formula) i.tuples)) (items_of x)
      (λ k d l.
      let i = get_or (items_of x) k d in
      on_side_all (λ f. is_formed f ≡ true) side i.side (map (λ us. matrix_instance us i.formula) i.tuples)
      (All-map (λ f. is_formed f ≡ true) (λ us. matrix_instance us i.formula) i.tuples
      (All-weaker (λ us. are_formed_terms_at 0 us ≡ true) (λ us. is_formed (matrix_instance us i.formula) ≡ true) (λ us. formed_matrix us i.formula (items_are x s h k d l).formed) i.tuples (h.terms k d l)))))

  -- the Herbrand sequent's formulas are well formed
  pub herbrand_formed : are_formed (herbrand_sequent (items_of x)) ≡ true
  herbrand_formed =
      and_both _ _
      (all-set_of is_formed (matrix_instances Left (items_of x)) ∙ instances_formed Left)
      (all-set_of is_formed (matrix_instances Right (items_of x)) ∙ instances_formed Right)
