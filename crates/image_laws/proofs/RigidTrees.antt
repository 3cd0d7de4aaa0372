-- Trees without eigenvariables under maps: they stay such trees, two maps in a row are one, and what is free in an image comes from a free variable.
use Rattle.std.proofs.Common.{◌≡◌, Bool, true, false, ◌||◌, ◌&&◌, not, List, [], ◌∷◌, map, Option, Some, None, option_map, refl, sym, ap, ◌∙◌}
use Rattle.std.specs.FinMap as fin
use Rattle.std.specs.List.{list_any}
use Rattle.std.specs.Ordering.{eq_by_cmp}
use Rattle.fol.specs.declared.symbols.Var.{Var}
use Rattle.fol.specs.Syntax.{Term, free, bound, app, Terms, nil, cons, Formula}
use Rattle.fol.specs.Order.{formula_cmp}
use Rattle.fol.specs.OrderLaws.{formula_total}
use Rattle.finite.specs.Finite as set
use Rattle.finite.proofs.Finite.{has-listing, has-empty, has-adds_each}
use Rattle.free_variables.specs.Occurrence.{is_free_in, is_free_in_term, is_free_in_terms}
use Rattle.substitution.specs.Image.{image, image_term, image_terms, after}
use Rattle.substitution.specs.Maps.{Map}
use Rattle.substitution.proofs.Booleans.{and_right}
use Rattle.substitution.proofs.FreeLaws.{Origin, origin}
use Rattle.substitution.proofs.ImageLaws.{image-image, image-image_term, agree, agree_term, itself}
use Rattle.lk_rules.specs.declared.sequent.Sequent.{Sequent}
use Rattle.lk_rules.specs.declared.rule.Rule.{Rule}
use Rattle.lk_rules.specs.declared.rule.Rule.TheVariants.{Ax, TopR, BotL, NegL, NegR, AndL, AndR, OrL, OrR, ImpL, ImpR, AllL, AllR, ExL, ExR, DefL, DefR, Cut, Weak}
use Rattle.lk_rules.specs.Formulas.{FormulaSet, image_set}
use Rattle.lk_rules.specs.RuleOrder.{formula_of, term_of}
use Rattle.lk_rules.specs.Sequents.{is_free_in_sequent, image_sequent}
use Rattle.proof_trees.specs.Trees.{Tree, node, Trees, none, more}
use Rattle.proof_trees.specs.Occurrence.{passes}
use Rattle.proof_trees.specs.FreeVariables.{is_eigen, is_free_in_names, is_free_in_tree, is_free_in_trees}
use Rattle.proof_trees.specs.Substitution.{image_rule, premise_map, sub, sub_all}
use Rattle.proof_trees.proofs.Agreeing.{agree_sequent}
use Rattle.proof_trees.proofs.Booleans.{or_first, or_second, either}
use Rattle.proof_trees.proofs.Members.{from_some, some_passes, image_member}
use Rattle.proof_trees.proofs.FormulaSets.{equal, same_sets}
use Rattle.image_laws.specs.Rigid.{IsRigidRule, IsRigid, AreRigid}

abbrev Replacing : Type 0
Replacing = Var → Option Term

-- trees without eigenvariables stay such

rigid_rule-image : (m : Map) (r : Rule) (e : Sequent) → IsRigidRule r → IsRigidRule (image_rule m r e)
rigid_rule-image m (AllR a y) e h = h
rigid_rule-image m (ExL a y) e h = h
rigid_rule-image m r e h = tt

mutual
  pub rigid-sub : (t : Tree) (m : Map) → IsRigid t → IsRigid (sub t m)
  rigid-sub (node r s ts) m h =
      (rigid_rule-image m r (image_sequent (fin.get m) s) h.0, rigid-sub_all ts (premise_map m r (image_sequent (fin.get m) s)) h.1)

  rigid-sub_all : (ts : Trees) (m : Map) → AreRigid ts → AreRigid (sub_all ts m)
  rigid-sub_all none m h = tt
  rigid-sub_all (more t ts) m h = (rigid-sub t m h.0, rigid-sub_all ts m h.1)

-- the premises of a rule without an eigenvariable have the map of the conclusion
rigid_map : (m : Map) (r : Rule) (e : Sequent) → IsRigidRule r → premise_map m r e ≡ m
rigid_map m (AllR a y) e h = absurd h
rigid_map m (ExL a y) e h = absurd h
rigid_map m r e h = refl

no_eigenvariable : (v : Var) (r : Rule) → IsRigidRule r → is_eigen v r ≡ false
no_eigenvariable v (AllR a y) h = absurd h
no_eigenvariable v (ExL a y) h = absurd h
no_eigenvariable v r h = refl

-- what is free in a premise is free in the tree
free_below : (v : Var) (r : Rule) (s : Sequent) (ts : Trees) → IsRigidRule r → is_free_in_trees v ts ≡ true → is_free_in_tree v (node r s ts) ≡ true
free_below v r s ts rigid h =
    or_second (is_free_in_sequent v s || is_free_in_names v r) _ (ap (λ b. not b && is_free_in_trees v ts) (no_eigenvariable v r rigid) ∙ h)

-- members of images

any-map : (p : Formula → Bool) (h : Formula → Formula) (fs : List Formula) → list_any p (map h fs) ≡ list_any (λ f. p (h f)) fs
any-map p h [] = refl
any-map p h (f ∷ fs) = ap (λ b. p (h f) || b) (any-map p h fs)

-- a member of an image is the image of a member
from_image : {P : Type 0} (m : Replacing) (s : FormulaSet) (q : Formula) → ((f : Formula) → set.has s f ≡ true → q ≡ image m f → P) → set.has (image_set m s) q ≡ true → P
from_image m s q use_it h =
    from_some (λ f. eq_by_cmp formula_cmp q (image m f)) (set.listing s)
    (λ f member same. use_it f (has-listing s f ∙ member) (equal q (image m f) same))
    (sym (has-adds_each formula_total set.empty (map (image m) (set.listing s)) q
    ∙ ap (λ b. b || list_any (eq_by_cmp formula_cmp q) (map (image m) (set.listing s))) (has-empty formula_cmp q)
    ∙ any-map (eq_by_cmp formula_cmp q) (image m) (set.listing s)) ∙ h)

-- two maps in a row

module _ (g h : Replacing) where
  -- the image of an image of a set is its image under both maps in a row
  image-image_set : (s : FormulaSet) → image_set h (image_set g s) ≡ image_set (after g h) s
  image-image_set s =
      same_sets _ _
      (λ q. from_image h (image_set g s) q (λ f in_image is.
      from_image g s f (λ a in_set was.
      ap (set.has (image_set (after g h) s)) (is ∙ ap (image h) was ∙ image-image g h a) ∙ image_member (after g h) s a in_set)
      in_image))
      (λ q. from_image (after g h) s q (λ a in_set is.
      ap (set.has (image_set h (image_set g s))) (is ∙ sym (image-image g h a)) ∙ image_member h (image_set g s) (image g a) (image_member g s a in_set)))

  image-image_sequent : (s : Sequent) → image_sequent h (image_sequent g s) ≡ image_sequent (after g h) s
  image-image_sequent s = λ i. record { left = image-image_set s.left i; right = image-image_set s.right i }

-- both maps in a row do to v what the third does
abbrev Composes : Map → Map → Map → Var → Type 0
Composes g h k v = image_term (fin.get h) (image_term (fin.get g) (free v)) ≡ image_term (fin.get k) (free v)

module _ (g h k : Map) where
  composed_sequent : (s : Sequent) → ((v : Var) → is_free_in_sequent v s ≡ true → Composes g h k v) → image_sequent (fin.get h) (image_sequent (fin.get g) s) ≡ image_sequent (fin.get k) s
  composed_sequent s same = image-image_sequent (fin.get g) (fin.get h) s ∙ agree_sequent (after (fin.get g) (fin.get h)) (fin.get k) s same

  composed_named : (a : Formula) (more_names : Var → Bool) → ((v : Var) → (is_free_in v a || more_names v) ≡ true → Composes g h k v) → image (fin.get h) (image (fin.get g) a) ≡ image (fin.get k) a
  composed_named a names same = image-image (fin.get g) (fin.get h) a ∙ agree (after (fin.get g) (fin.get h)) (fin.get k) a (λ v e. same v (or_first _ _ e))

  composed_chosen : (a : Formula) (t : Term) → ((v : Var) → (is_free_in v a || is_free_in_term v t) ≡ true → Composes g h k v) → image_term (fin.get h) (image_term (fin.get g) t) ≡ image_term (fin.get k) t
  composed_chosen a t same =
      image-image_term (fin.get g) (fin.get h) t ∙ agree_term (after (fin.get g) (fin.get h)) (fin.get k) t (λ v e. same v (or_second (is_free_in v a) _ e))

  composed_rule : (r : Rule) (d e : Sequent) → IsRigidRule r → ((v : Var) → is_free_in_names v r ≡ true → Composes g h k v) → image_rule h (image_rule g r d) e ≡ image_rule k r e
  composed_rule (Ax a) d e rigid same = ap Ax (composed_named a (λ v. false) same)
  composed_rule TopR d e rigid same = refl
  composed_rule BotL d e rigid same = refl
  composed_rule (NegL a) d e rigid same = ap NegL (composed_named a (λ v. false) same)
  composed_rule (NegR a) d e rigid same = ap NegR (composed_named a (λ v. false) same)
  composed_rule (AndL a) d e rigid same = ap AndL (composed_named a (λ v. false) same)
  composed_rule (AndR a) d e rigid same = ap AndR (composed_named a (λ v. false) same)
  composed_rule (OrL a) d e rigid same = ap OrL (composed_named a (λ v. false) same)
  composed_rule (OrR a) d e rigid same = ap OrR (composed_named a (λ v. false) same)
  composed_rule (ImpL a) d e rigid same = ap ImpL (composed_named a (λ v. false) same)
  composed_rule (ImpR a) d e rigid same = ap ImpR (composed_named a (λ v. false) same)
  composed_rule (AllL a t) d e rigid same = λ i. AllL (composed_named a (λ v. is_free_in_term v t) same i) (composed_chosen a t same i)
  composed_rule (AllR a y) d e rigid same = absurd rigid
  composed_rule (ExL a y) d e rigid same = absurd rigid
  composed_rule (ExR a t) d e rigid same = λ i. ExR (composed_named a (λ v. is_free_in_term v t) same i) (composed_chosen a t same i)
  composed_rule (DefL a) d e rigid same = ap DefL (composed_named a (λ v. false) same)
  composed_rule (DefR a) d e rigid same = ap DefR (composed_named a (λ v. false) same)
  composed_rule (Cut a) d e rigid same = ap Cut (composed_named a (λ v. false) same)
  composed_rule Weak d e rigid same = refl

mutual
  -- the image of an image is the image under a map that does to each free variable what both do in a row
  pub composed-tree : (t : Tree) (g h k : Map) → IsRigid t → ((v : Var) → is_free_in_tree v t ≡ true → image_term (fin.get h) (image_term (fin.get g) (free v)) ≡ image_term (fin.get k) (free v))
      → sub (sub t g) h ≡ sub t k
  composed-tree (node r s ts) g h k rigid same =
      let d : Sequent = image_sequent (fin.get g) s in
      let e : Sequent = image_sequent (fin.get h) d in
      let ends : e ≡ image_sequent (fin.get k) s = composed_sequent g h k s (λ v f. same v (or_first _ _ (or_first _ _ f))) in
      let rules : image_rule h (image_rule g r d) e ≡ image_rule k r e = composed_rule g h k r d e rigid.0 (λ v f. same v (or_first _ _ (or_second (is_free_in_sequent v s) _ f))) in
      let premises : sub_all (sub_all ts (premise_map g r d)) (premise_map h (image_rule g r d) e) ≡ sub_all ts (premise_map k r e) =
      (λ i. sub_all (sub_all ts (rigid_map g r d rigid.0 i)) (rigid_map h (image_rule g r d) e (rigid_rule-image g r d rigid.0) i))
      ∙ composed-trees ts g h k rigid.1 (λ v f. same v (free_below v r s ts rigid.0 f))
      ∙ sym (ap (sub_all ts) (rigid_map k r e rigid.0)) in
      (λ i. node (rules i) e (premises i)) ∙ ap (λ x. node (image_rule k r x) x (sub_all ts (premise_map k r x))) ends

  composed-trees : (ts : Trees) (g h k : Map) → AreRigid ts → ((v : Var) → is_free_in_trees v ts ≡ true → image_term (fin.get h) (image_term (fin.get g) (free v)) ≡ image_term (fin.get k) (free v))
      → sub_all (sub_all ts g) h ≡ sub_all ts k
  composed-trees none g h k rigid same = refl
  composed-trees (more t ts) g h k rigid same =
      λ i. more (composed-tree t g h k rigid.0 (λ v f. same v (or_first _ _ f)) i) (composed-trees ts g h k rigid.1 (λ v f. same v (or_second (is_free_in_tree v t) _ f)) i)

-- free variables of an image come from free variables

module _ (v : Var) (m : Replacing) where
  -- where more variables stand
  wider : (p q : Var → Bool) → ((w : Var) → p w ≡ true → q w ≡ true) → Origin v m p → Origin v m q
  wider p q most o = (o.0, (most o.0 o.1.0, o.1.1))

  -- from the first or the second of two places
  of_either : (p q : Var → Bool) (a b : Bool) → (a ≡ true → Origin v m p) → (b ≡ true → Origin v m q) → (a || b) ≡ true → Origin v m (λ w. p w || q w)
  of_either p q a b first second =
      either a b
      (λ e. wider p (λ w. p w || q w) (λ w h. or_first (p w) (q w) h) (first e))
      (λ e. wider q (λ w. p w || q w) (λ w h. or_second (p w) (q w) h) (second e))

  mutual
    origin_term : (t : Term) → is_free_in_term v (image_term m t) ≡ true → Origin v m (λ w. is_free_in_term w t)
    origin_term (free w) h = (w, (itself w, h))
    origin_term (bound i) h = cc
    origin_term (app s ts) h = origin_terms ts h

    origin_terms : (ts : Terms) → is_free_in_terms v (image_terms m ts) ≡ true → Origin v m (λ w. is_free_in_terms w ts)
    origin_terms nil h = cc
    origin_terms (cons t ts) h =
        of_either (λ w. is_free_in_term w t) (λ w. is_free_in_terms w ts) (is_free_in_term v (image_term m t)) (is_free_in_terms v (image_terms m ts)) (origin_term t) (origin_terms ts) h

  origin_set : (s : FormulaSet) → list_any (is_free_in v) (set.listing (image_set m s)) ≡ true → Origin v m (λ w. list_any (is_free_in w) (set.listing s))
  origin_set s =
      from_some (is_free_in v) (set.listing (image_set m s)) (λ q listed in_q.
      from_image m s q (λ f in_set is.
      wider (λ w. is_free_in w f) (λ w. list_any (is_free_in w) (set.listing s)) (λ w h. some_passes (is_free_in w) (set.listing s) f (sym (has-listing s f) ∙ in_set) h)
      (origin v m f (ap (is_free_in v) (sym is) ∙ in_q)))
      (has-listing (image_set m s) q ∙ listed))

  origin_sequent : (s : Sequent) → is_free_in_sequent v (image_sequent m s) ≡ true → Origin v m (λ w. is_free_in_sequent w s)
  origin_sequent s =
      of_either (λ w. list_any (is_free_in w) (set.listing s.left)) (λ w. list_any (is_free_in w) (set.listing s.right)) _ _ (origin_set s.left) (origin_set s.right)

  origin_formula_of : (o : Option Formula) → passes (is_free_in v) (option_map (image m) o) ≡ true → Origin v m (λ w. passes (is_free_in w) o)
  origin_formula_of None h = cc
  origin_formula_of (Some a) h = origin v m a h

  origin_term_of : (o : Option Term) → passes (is_free_in_term v) (option_map (image_term m) o) ≡ true → Origin v m (λ w. passes (is_free_in_term w) o)
  origin_term_of None h = cc
  origin_term_of (Some t) h = origin_term t h

formula_of-image : (m : Map) (r : Rule) (e : Sequent) → formula_of (image_rule m r e) ≡ option_map (image (fin.get m)) (formula_of r)
formula_of-image m (Ax a) e = refl
formula_of-image m r e = refl

term_of-image : (m : Map) (r : Rule) (e : Sequent) → term_of (image_rule m r e) ≡ option_map (image_term (fin.get m)) (term_of r)
term_of-image m (AllL a t) e = refl
term_of-image m r e = refl

origin_names : (v : Var) (m : Map) (r : Rule) (e : Sequent) → is_free_in_names v (image_rule m r e) ≡ true → Origin v (fin.get m) (λ w. is_free_in_names w r)
origin_names v m r e h =
    of_either v (fin.get m) (λ w. passes (is_free_in w) (formula_of r)) (λ w. passes (is_free_in_term w) (term_of r))
    (passes (is_free_in v) (option_map (image (fin.get m)) (formula_of r))) (passes (is_free_in_term v) (option_map (image_term (fin.get m)) (term_of r)))
    (origin_formula_of v (fin.get m) (formula_of r)) (origin_term_of v (fin.get m) (term_of r))
    (sym (λ i. passes (is_free_in v) (formula_of-image m r e i) || passes (is_free_in_term v) (term_of-image m r e i)) ∙ h)

mutual
  -- a variable that is free in the image of a tree is free in the image of some free variable of the tree
  pub free_in-sub : (t : Tree) (m : Map) (v : Var) → IsRigid t → is_free_in_tree v (sub t m) ≡ true
      → (w : Var) × ((is_free_in_tree w t ≡ true) × (is_free_in_term v (image_term (fin.get m) (free w)) ≡ true))
  free_in-sub (node r s ts) m v rigid =
      let e : Sequent = image_sequent (fin.get m) s in
      let n : Map = premise_map m r e in
      either (is_free_in_sequent v e || is_free_in_names v (image_rule m r e)) (not (is_eigen v (image_rule m r e)) && is_free_in_trees v (sub_all ts n))
      (λ h. wider v (fin.get m) (λ w. is_free_in_sequent w s || is_free_in_names w r) (λ w. is_free_in_tree w (node r s ts)) (λ w f. or_first _ _ f) (
      of_either v (fin.get m) (λ w. is_free_in_sequent w s) (λ w. is_free_in_names w r) _ _ (origin_sequent v (fin.get m) s) (origin_names v m r e) h))
      (λ h. wider v (fin.get m) (λ w. is_free_in_trees w ts) (λ w. is_free_in_tree w (node r s ts)) (λ w f. free_below w r s ts rigid.0 f) (
      free_in-sub_all ts m v rigid.1 (sym (ap (λ k. is_free_in_trees v (sub_all ts k)) (rigid_map m r e rigid.0)) ∙ and_right _ _ h)))

  free_in-sub_all : (ts : Trees) (m : Map) (v : Var) → AreRigid ts → is_free_in_trees v (sub_all ts m) ≡ true
      → (w : Var) × ((is_free_in_trees w ts ≡ true) × (is_free_in_term v (image_term (fin.get m) (free w)) ≡ true))
  free_in-sub_all none m v rigid h = cc
  free_in-sub_all (more t ts) m v rigid h =
      of_either v (fin.get m) (λ w. is_free_in_tree w t) (λ w. is_free_in_trees w ts) _ _ (free_in-sub t m v rigid.0) (free_in-sub_all ts m v rigid.1) h
