-- Trees under maps, by what stands in the arenas on the way.
use Rattle.std.proofs.Common.{◌≡◌, ℕ, List, refl, sym, ap, subst, ◌∙◌}
use Rattle.std.specs.Prelude.{Some, IfSome}
use Rattle.std.specs.FinMap as fin
use Rattle.substitution.specs.Image.{image, image_term}
use Rattle.substitution.specs.Maps.{Map}
use Rattle.substitution.specs.Restriction.{restricted}
use Rattle.lk_rules.specs.declared.rule.Rule.{Rule}
use Rattle.lk_rules.specs.declared.sequent.Sequent.{Sequent}
use Rattle.lk_rules.specs.RuleOrder.{formula_of, term_of, variable_of}
use Rattle.lk_rules.specs.Sequents.{image_sequent}
use Rattle.proof_trees.specs.Trees.{Tree, node, Trees, concl, rule_of, below, IsValid, AllValid}
use Rattle.proof_trees.specs.Substitution.{renamed, image_rule, premise_map, sub, sub_all}
use Rattle.arena_cells.specs.declared.key.RuleKey.{RuleKey}
use Rattle.arena_cells.specs.declared.key.Parts.{Parts}
use Rattle.arena_cells.specs.Items.{Item, sequent, tree}
use Rattle.arena_cells.specs.Standing.{Extends, HasTerm, HasVariable, HasFormula, HasVariables, HasMap, HasSequent, HasTree, variables_at, map_at, sequent_at, tree_at, IsMapAt, IsSequentAt, IsTreeAt}
use Rattle.arena_cells.specs.Meaning.{rule_at, trees_at, HasRuleParts}
use Rattle.arena_cells.proofs.Staying.{is_map, is_sequent, are_variables, rule_stays, sequent_stays, tree_stays}
use Rattle.arena.specs.TreeVariables.{vars_tree}
use Rattle.arena.proofs.Results.{map_stays}
use Rattle.arena_proofs.specs.RuleNumbers.{key_of}
use Rattle.arena_proofs.proofs.RuleParts.{mapped_there}
use Rattle.arena_subst.proofs.Needed.{needed_part, nothing_needed}

-- from the variables of a tree
module _ (a b : List Item) (p m vs : ℕ) (grown : Extends a b) (there : IsTreeAt a p) (map : IsMapAt a m) (vars : HasVariables b vs (vars_tree (tree_at a p))) where
  part_is : restricted (map_at b m) (variables_at b vs) ≡ restricted (map_at a m) (vars_tree (tree_at a p))
  part_is = λ i. restricted (map_stays a b grown m map i) (are_variables b vs _ vars i)

  pub tree_kept : IsValid (tree_at a p) → restricted (map_at b m) (variables_at b vs) ≡ fin.empty → HasTree b p (sub (tree_at a p) (map_at a m))
  tree_kept valid nothing = grown p _ there ∙ ap (λ (t : Tree). Some (tree t)) (nothing_needed (tree_at a p) (map_at a m) valid (sym part_is ∙ nothing))

  -- and from the part of the map that it needs
  pub tree_needed : (c : List Item) (n : ℕ) → Extends b c → HasMap c n (restricted (map_at b m) (variables_at b vs)) → sub (tree_at c p) (map_at c n) ≡ sub (tree_at a p) (map_at a m)
  tree_needed c n more needed =
      (λ i. sub ((tree_stays a c (λ k t h. more k t (grown k t h)) p there) i) ((is_map c n _ needed ∙ part_is) i)) ∙ needed_part (tree_at a p) (map_at a m)

root_image : (t : Tree) (m : Map) → let e = image_sequent (fin.get m) (concl t) in node (image_rule m (rule_of t) e) e (sub_all (below t) (premise_map m (rule_of t) e)) ≡ sub t m
root_image (node r s ts) m = refl

-- a tree under a map, from its root and the trees of the premises
pub image_made : (t : Tree) (m : Map) (r : Rule) (e : Sequent) (us : Trees) → e ≡ image_sequent (fin.get m) (concl t) → r ≡ image_rule m (rule_of t) (image_sequent (fin.get m) (concl t))
    → us ≡ sub_all (below t) (premise_map m (rule_of t) (image_sequent (fin.get m) (concl t))) → node r e us ≡ sub t m
image_made t m r e us end rule premises = (λ i. node (rule i) (end i) (premises i)) ∙ root_image t m

-- what stands when the conclusion and the premises have their images
module _ (a b c d : List Item) (p m e end n : ℕ) (r : RuleKey) (ps us : Parts) (first : Extends a b) (second : Extends b c) (third : Extends c d) (there : IsTreeAt a p) (map : IsMapAt a m)
    (conclusion : HasSequent a e (concl (tree_at a p))) (image : HasSequent b end (image_sequent (fin.get (map_at a m)) (sequent_at a e))) where
  grown : Extends a d
  grown k t h = third k t (second k t (first k t h))

  later : HasSequent d end (image_sequent (fin.get (map_at a m)) (sequent_at a e))
  later = third end _ (second end _ image)

  tree_later : (x : List Item) → Extends a x → tree_at x p ≡ tree_at d p
  tree_later x more = tree_stays a x more p there ∙ sym (tree_stays a d grown p there)

  map_later : (x : List Item) → Extends a x → map_at x m ≡ map_at d m
  map_later x more = map_stays a x more m map ∙ sym (map_stays a d grown m map)

  pub end_there : HasSequent d end (image_sequent (fin.get (map_at d m)) (concl (tree_at d p)))
  end_there =
      later ∙ λ i. Some (sequent (image_sequent (fin.get (map_later a (λ k t h. h) i)) ((is_sequent a e _ conclusion ∙ ap concl (tree_later a (λ k t h. h))) i)))

  pub images_there : rule_of (tree_at b p) ≡ rule_at b r → HasMap c n (premise_map (map_at b m) (rule_at b r) (sequent_at b end)) → below (tree_at c p) ≡ trees_at c ps → trees_at d us ≡ sub_all (trees_at c ps) (map_at c n)
      → trees_at d us ≡ sub_all (below (tree_at d p)) (premise_map (map_at d m) (rule_of (tree_at d p)) (sequent_at d end))
  images_there rule inner premises images =
      let ends : sequent_at b end ≡ sequent_at d end = is_sequent b end _ image ∙ sym (is_sequent d end _ later) in
      let rules : rule_at b r ≡ rule_of (tree_at d p) = sym rule ∙ ap rule_of (tree_later b first) in
      let maps : map_at c n ≡ premise_map (map_at d m) (rule_of (tree_at d p)) (sequent_at d end) = is_map c n _ inner ∙ λ i. premise_map (map_later b first i) (rules i) (ends i) in
      let trees : trees_at c ps ≡ below (tree_at d p) = sym premises ∙ ap below (tree_later c (λ k t h. second k t (first k t h))) in
      images ∙ λ i. sub_all (trees i) (maps i)

-- the trees below a valid tree are valid
pub premises_valid : (t : Tree) (ts : Trees) → below t ≡ ts → IsValid t → AllValid ts
premises_valid (node r s us) ts same h = subst (λ (x : Trees). AllValid x) same h.1

-- a rule under a map, by the numbers of the images: that of the formula came first, and then that of the term or of the eigenvariable
pub key_there : (a b d : List Item) (m : ℕ) (r : RuleKey) (e main witness : ℕ) (k : RuleKey) → Extends a b → Extends b d → IsMapAt a m → HasRuleParts a r → IsSequentAt a e → k ≡ key_of (rule_at a r) main witness
    → IfSome (formula_of (rule_at a r)) (λ x. HasFormula b main (image (fin.get (map_at a m)) x))
    → IfSome (term_of (rule_at b r)) (λ t. HasTerm d witness (image_term (fin.get (map_at b m)) t))
    → IfSome (variable_of (rule_at b r)) (λ y. HasVariable d witness (renamed y (sequent_at b e)))
    → HasRuleParts d k × (rule_at d k ≡ image_rule (map_at a m) (rule_at a r) (sequent_at a e))
key_there a b d m r e main witness k first second map parts end is formula term variable =
    let was : rule_at b r ≡ rule_at a r = rule_stays a b first r parts in
    mapped_there b d second main witness k (rule_at a r) is (image (fin.get (map_at a m))) (image_term (fin.get (map_at a m))) (λ y. renamed y (sequent_at a e)) formula
    (subst (λ (q : Rule). IfSome (term_of q) (λ t. HasTerm d witness (image_term (fin.get (map_at a m)) t))) was
    (subst (λ (s : Map). IfSome (term_of (rule_at b r)) (λ t. HasTerm d witness (image_term (fin.get s) t))) (map_stays a b first m map) term))
    (subst (λ (q : Rule). IfSome (variable_of q) (λ y. HasVariable d witness (renamed y (sequent_at a e)))) was
    (subst (λ (s : Sequent). IfSome (variable_of (rule_at b r)) (λ y. HasVariable d witness (renamed y s))) (sequent_stays a b first e end) variable))
