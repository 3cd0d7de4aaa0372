-- Maps that agree on the free variables of a tree, and maps that change none of them.
use Rattle.std.proofs.Common.{◌≡◌, Bool, true, false, ◌||◌, not, cond, if◌then◌else◌, List, [], ◌∷◌, map, Option, Some, unwrap_or, refl, sym, ap, ◌∙◌}
use Rattle.std.specs.FinMap as fin
use Rattle.std.specs.List.{list_any}
use Rattle.std.specs.Ordering.{eq_by_cmp}
use Rattle.fol.specs.declared.symbols.Var.{Var}
use Rattle.fol.specs.Syntax.{Term, free, Formula}
use Rattle.fol.specs.Order.{var_cmp, formula_cmp}
use Rattle.fol.specs.OrderLaws.{var_total, formula_total}
use Rattle.fol.proofs.OrderTies.{formula_ties}
use Rattle.finite.specs.Finite as set
use Rattle.finite.proofs.Finite.{has-listing, has-empty, has-adds_each, same_members}
use Rattle.free_variables.specs.Occurrence.{is_free_in, is_free_in_term}
use Rattle.substitution.specs.Image.{image, image_term}
use Rattle.substitution.specs.Maps.{Map}
use Rattle.substitution.proofs.Booleans.{and_both}
use Rattle.substitution.proofs.ImageLaws.{agree, agree_term, image-empty, image-empty_term, same_var}
use Rattle.lk_rules.specs.declared.sequent.Sequent.{Sequent}
use Rattle.lk_rules.specs.declared.rule.Rule.{Rule}
use Rattle.lk_rules.specs.declared.rule.Rule.TheVariants.{Ax, TopR, BotL, NegL, NegR, AndL, AndR, OrL, OrR, ImpL, ImpR, AllL, AllR, ExL, ExR, DefL, DefR, Cut, Weak}
use Rattle.lk_rules.specs.Formulas.{FormulaSet, image_set}
use Rattle.lk_rules.specs.Sequents.{is_free_in_sequent, image_sequent}
use Rattle.lk_rules.specs.Rules.{eigen_free}
use Rattle.proof_trees.specs.Trees.{Tree, node, Trees, none, more, count, first_end, second_end, IsValid, AllValid}
use Rattle.proof_trees.specs.FreeVariables.{is_eigen, is_free_in_names, is_free_in_tree, is_free_in_trees}
use Rattle.proof_trees.specs.Substitution.{renamed, image_rule, premise_map, sub, sub_all}
use Rattle.proof_trees.proofs.Booleans.{or_first, or_second}
use Rattle.proof_trees.proofs.Verdicts.{row_of_verdict}

abbrev Replacing : Type 0
Replacing = Var → Option Term

-- maps that agree

agree_list : (g h : Replacing) (fs : List Formula) → ((v : Var) → list_any (is_free_in v) fs ≡ true → image_term g (free v) ≡ image_term h (free v)) → map (image g) fs ≡ map (image h) fs
agree_list g h [] same = refl
agree_list g h (f ∷ fs) same =
    λ i. agree g h f (λ v e. same v (or_first _ _ e)) i ∷ agree_list g h fs (λ v e. same v (or_second (is_free_in v f) _ e)) i

-- they have one image of a sequent
pub agree_sequent : (g h : Replacing) (s : Sequent) → ((v : Var) → is_free_in_sequent v s ≡ true → image_term g (free v) ≡ image_term h (free v)) → image_sequent g s ≡ image_sequent h s
agree_sequent g h s same = λ i. record {
  left = set.of_list (agree_list g h (set.listing s.left) (λ v e. same v (or_first _ _ e)) i);
  right = set.of_list (agree_list g h (set.listing s.right) (λ v e. same v (or_second (list_any (is_free_in v) (set.listing s.left)) _ e)) i);
}

module _ (m n : Map) (e : Sequent) where
  agree_named : (a : Formula) (more_names : Var → Bool) → ((v : Var) → (is_free_in v a || more_names v) ≡ true → image_term (fin.get m) (free v) ≡ image_term (fin.get n) (free v))
      → image (fin.get m) a ≡ image (fin.get n) a
  agree_named a names same = agree (fin.get m) (fin.get n) a (λ v h. same v (or_first _ _ h))

  agree_chosen : (a : Formula) (t : Term) → ((v : Var) → (is_free_in v a || is_free_in_term v t) ≡ true → image_term (fin.get m) (free v) ≡ image_term (fin.get n) (free v))
      → image_term (fin.get m) t ≡ image_term (fin.get n) t
  agree_chosen a t same = agree_term (fin.get m) (fin.get n) t (λ v h. same v (or_second (is_free_in v a) _ h))

  -- they have one image of a rule
  agree_rule : (r : Rule) → ((v : Var) → is_free_in_names v r ≡ true → image_term (fin.get m) (free v) ≡ image_term (fin.get n) (free v)) → image_rule m r e ≡ image_rule n r e
  agree_rule (Ax a) same = ap Ax (agree_named a (λ v. false) same)
  agree_rule TopR same = refl
  agree_rule BotL same = refl
  agree_rule (NegL a) same = ap NegL (agree_named a (λ v. false) same)
  agree_rule (NegR a) same = ap NegR (agree_named a (λ v. false) same)
  agree_rule (AndL a) same = ap AndL (agree_named a (λ v. false) same)
  agree_rule (AndR a) same = ap AndR (agree_named a (λ v. false) same)
  agree_rule (OrL a) same = ap OrL (agree_named a (λ v. false) same)
  agree_rule (OrR a) same = ap OrR (agree_named a (λ v. false) same)
  agree_rule (ImpL a) same = ap ImpL (agree_named a (λ v. false) same)
  agree_rule (ImpR a) same = ap ImpR (agree_named a (λ v. false) same)
  agree_rule (AllL a t) same = λ i. AllL (agree_named a (λ v. is_free_in_term v t) same i) (agree_chosen a t same i)
  agree_rule (AllR a y) same = λ i. AllR (agree_named a (λ v. false) same i) (renamed y e)
  agree_rule (ExL a y) same = λ i. ExL (agree_named a (λ v. false) same i) (renamed y e)
  agree_rule (ExR a t) same = λ i. ExR (agree_named a (λ v. is_free_in_term v t) same i) (agree_chosen a t same i)
  agree_rule (DefL a) same = ap DefL (agree_named a (λ v. false) same)
  agree_rule (DefR a) same = ap DefR (agree_named a (λ v. false) same)
  agree_rule (Cut a) same = ap Cut (agree_named a (λ v. false) same)
  agree_rule Weak same = refl

-- with one binding more

unwrap_or-cond : (b : Bool) (u d : Term) (o : Option Term) → unwrap_or (cond b (Some u) o) d ≡ (if b then u else unwrap_or o d)
unwrap_or-cond true u d o = refl
unwrap_or-cond false u d o = refl

inserted : (m : Map) (y v : Var) (u : Term) → image_term (fin.get (fin.insert m y u)) (free v) ≡ (if eq_by_cmp var_cmp v y then u else image_term (fin.get m) (free v))
inserted m y v u = ap (λ o. unwrap_or o (free v)) (fin.get-insert var_total m y u v) ∙ unwrap_or-cond (eq_by_cmp var_cmp v y) u (free v) (fin.get m v)

in_both_cases : (b : Bool) (u x z : Term) → (b ≡ true → u ≡ z) → (b ≡ false → x ≡ z) → (if b then u else x) ≡ z
in_both_cases true u x z f g = f refl
in_both_cases false u x z f g = g refl

agree_inserted : (m n : Map) (y v : Var) (u : Term) → (eq_by_cmp var_cmp v y ≡ false → image_term (fin.get m) (free v) ≡ image_term (fin.get n) (free v))
    → image_term (fin.get (fin.insert m y u)) (free v) ≡ image_term (fin.get (fin.insert n y u)) (free v)
agree_inserted m n y v u same =
    inserted m y v u
    ∙ in_both_cases (eq_by_cmp var_cmp v y) u (image_term (fin.get m) (free v)) (image_term (fin.get (fin.insert n y u)) (free v))
    (λ e. sym (inserted n y v u ∙ ap (λ b. if b then u else image_term (fin.get n) (free v)) e))
    (λ e. same e ∙ sym (inserted n y v u ∙ ap (λ b. if b then u else image_term (fin.get n) (free v)) e))

agree_below : (m n : Map) (r : Rule) (e : Sequent) (v : Var) → (is_eigen v r ≡ false → image_term (fin.get m) (free v) ≡ image_term (fin.get n) (free v))
    → image_term (fin.get (premise_map m r e)) (free v) ≡ image_term (fin.get (premise_map n r e)) (free v)
agree_below m n (AllR a y) e v same = agree_inserted m n y v (free (renamed y e)) same
agree_below m n (ExL a y) e v same = agree_inserted m n y v (free (renamed y e)) same
agree_below m n r e v same = same refl

-- what is free in a premise and isn't the eigenvariable is free in the tree
free_below : (v : Var) (r : Rule) (s : Sequent) (ts : Trees) → is_free_in_trees v ts ≡ true → is_eigen v r ≡ false → is_free_in_tree v (node r s ts) ≡ true
free_below v r s ts h apart = or_second (is_free_in_sequent v s || is_free_in_names v r) _ (and_both (not (is_eigen v r)) (is_free_in_trees v ts) (ap not apart) h)

mutual
  -- maps that agree on the free variables of a tree give one tree
  pub agree_tree : (t : Tree) (m n : Map) → ((v : Var) → is_free_in_tree v t ≡ true → image_term (fin.get m) (free v) ≡ image_term (fin.get n) (free v)) → sub t m ≡ sub t n
  agree_tree (node r s ts) m n same =
      let e : Sequent = image_sequent (fin.get m) s in
      let ends : e ≡ image_sequent (fin.get n) s = agree_sequent (fin.get m) (fin.get n) s (λ v h. same v (or_first _ _ (or_first _ _ h))) in
      let rules : image_rule m r e ≡ image_rule n r e = agree_rule m n e r (λ v h. same v (or_first _ _ (or_second (is_free_in_sequent v s) _ h))) in
      let premises : sub_all ts (premise_map m r e) ≡ sub_all ts (premise_map n r e) =
      agree_trees ts (premise_map m r e) (premise_map n r e) (λ v h. agree_below m n r e v (λ apart. same v (free_below v r s ts h apart))) in
      (λ i. node (rules i) e (premises i)) ∙ ap (λ x. node (image_rule n r x) x (sub_all ts (premise_map n r x))) ends

  agree_trees : (ts : Trees) (m n : Map) → ((v : Var) → is_free_in_trees v ts ≡ true → image_term (fin.get m) (free v) ≡ image_term (fin.get n) (free v)) → sub_all ts m ≡ sub_all ts n
  agree_trees none m n same = refl
  agree_trees (more t ts) m n same =
      λ i. more (agree_tree t m n (λ v h. same v (or_first _ _ h)) i) (agree_trees ts m n (λ v h. same v (or_second (is_free_in_tree v t) _ h)) i)

-- maps that change nothing

kept_formula : (g : Replacing) (f : Formula) → ((v : Var) → is_free_in v f ≡ true → image_term g (free v) ≡ free v) → image g f ≡ f
kept_formula g f same = agree g (fin.get fin.empty) f (λ v h. same v h ∙ sym (image-empty_term (free v))) ∙ image-empty f

kept_term : (g : Replacing) (t : Term) → ((v : Var) → is_free_in_term v t ≡ true → image_term g (free v) ≡ free v) → image_term g t ≡ t
kept_term g t same = agree_term g (fin.get fin.empty) t (λ v h. same v h ∙ sym (image-empty_term (free v))) ∙ image-empty_term t

kept_list : (g : Replacing) (fs : List Formula) → ((v : Var) → list_any (is_free_in v) fs ≡ true → image_term g (free v) ≡ free v) → map (image g) fs ≡ fs
kept_list g [] same = refl
kept_list g (f ∷ fs) same =
    λ i. kept_formula g f (λ v h. same v (or_first _ _ h)) i ∷ kept_list g fs (λ v h. same v (or_second (is_free_in v f) _ h)) i

set_of_listing : (s : FormulaSet) → set.of_list (set.listing s) ≡ s
set_of_listing s = same_members formula_total formula_ties (set.of_list (set.listing s)) s (λ q.
    has-adds_each formula_total set.empty (set.listing s) q
    ∙ ap (λ b. b || list_any (eq_by_cmp formula_cmp q) (set.listing s)) (has-empty formula_cmp q) ∙ sym (has-listing s q))

kept_set : (g : Replacing) (s : FormulaSet) → ((v : Var) → list_any (is_free_in v) (set.listing s) ≡ true → image_term g (free v) ≡ free v) → image_set g s ≡ s
kept_set g s same = ap set.of_list (kept_list g (set.listing s) same) ∙ set_of_listing s

pub kept_sequent : (g : Replacing) (s : Sequent) → ((v : Var) → is_free_in_sequent v s ≡ true → image_term g (free v) ≡ free v) → image_sequent g s ≡ s
kept_sequent g s same = λ i. record {
  left = kept_set g s.left (λ v h. same v (or_first _ _ h)) i;
  right = kept_set g s.right (λ v h. same v (or_second (list_any (is_free_in v) (set.listing s.left)) _ h)) i;
}

-- an eigenvariable that isn't free in the conclusion stays
kept_eigenvariable : (y : Var) (s : Sequent) → is_free_in_sequent y s ≡ false → renamed y s ≡ y
unfolding renamed
kept_eigenvariable y s h = rw h refl

module _ (m : Map) (s : Sequent) where
  kept_named : (a : Formula) (more_names : Var → Bool) → ((v : Var) → (is_free_in v a || more_names v) ≡ true → image_term (fin.get m) (free v) ≡ free v) → image (fin.get m) a ≡ a
  kept_named a names same = kept_formula (fin.get m) a (λ v h. same v (or_first _ _ h))

  kept_chosen : (a : Formula) (t : Term) → ((v : Var) → (is_free_in v a || is_free_in_term v t) ≡ true → image_term (fin.get m) (free v) ≡ free v) → image_term (fin.get m) t ≡ t
  kept_chosen a t same = kept_term (fin.get m) t (λ v h. same v (or_second (is_free_in v a) _ h))

  kept_rule : (r : Rule) → eigen_free r s ≡ false → ((v : Var) → is_free_in_names v r ≡ true → image_term (fin.get m) (free v) ≡ free v) → image_rule m r s ≡ r
  kept_rule (Ax a) out same = ap Ax (kept_named a (λ v. false) same)
  kept_rule TopR out same = refl
  kept_rule BotL out same = refl
  kept_rule (NegL a) out same = ap NegL (kept_named a (λ v. false) same)
  kept_rule (NegR a) out same = ap NegR (kept_named a (λ v. false) same)
  kept_rule (AndL a) out same = ap AndL (kept_named a (λ v. false) same)
  kept_rule (AndR a) out same = ap AndR (kept_named a (λ v. false) same)
  kept_rule (OrL a) out same = ap OrL (kept_named a (λ v. false) same)
  kept_rule (OrR a) out same = ap OrR (kept_named a (λ v. false) same)
  kept_rule (ImpL a) out same = ap ImpL (kept_named a (λ v. false) same)
  kept_rule (ImpR a) out same = ap ImpR (kept_named a (λ v. false) same)
  kept_rule (AllL a t) out same = λ i. AllL (kept_named a (λ v. is_free_in_term v t) same i) (kept_chosen a t same i)
  kept_rule (AllR a y) out same = λ i. AllR (kept_named a (λ v. false) same i) (kept_eigenvariable y s out i)
  kept_rule (ExL a y) out same = λ i. ExL (kept_named a (λ v. false) same i) (kept_eigenvariable y s out i)
  kept_rule (ExR a t) out same = λ i. ExR (kept_named a (λ v. is_free_in_term v t) same i) (kept_chosen a t same i)
  kept_rule (DefL a) out same = ap DefL (kept_named a (λ v. false) same)
  kept_rule (DefR a) out same = ap DefR (kept_named a (λ v. false) same)
  kept_rule (Cut a) out same = ap Cut (kept_named a (λ v. false) same)
  kept_rule Weak out same = refl

kept_inserted : (m : Map) (y v : Var) (s : Sequent) → is_free_in_sequent y s ≡ false → (eq_by_cmp var_cmp v y ≡ false → image_term (fin.get m) (free v) ≡ free v)
    → image_term (fin.get (fin.insert m y (free (renamed y s)))) (free v) ≡ free v
kept_inserted m y v s out same =
    inserted m y v (free (renamed y s))
    ∙ in_both_cases (eq_by_cmp var_cmp v y) (free (renamed y s)) (image_term (fin.get m) (free v)) (free v)
    (λ e. ap free (kept_eigenvariable y s out ∙ sym (same_var v y e)))
    same

kept_below : (m : Map) (r : Rule) (s : Sequent) (v : Var) → eigen_free r s ≡ false → (is_eigen v r ≡ false → image_term (fin.get m) (free v) ≡ free v)
    → image_term (fin.get (premise_map m r s)) (free v) ≡ free v
kept_below m (AllR a y) s v out same = kept_inserted m y v s out same
kept_below m (ExL a y) s v out same = kept_inserted m y v s out same
kept_below m r s v out same = same refl

mutual
  -- a valid tree stays under a map that changes none of its free variables
  pub kept_tree : (t : Tree) (m : Map) → IsValid t → ((v : Var) → is_free_in_tree v t ≡ true → image_term (fin.get m) (free v) ≡ free v) → sub t m ≡ t
  kept_tree (node r s ts) m valid same =
      let ends : image_sequent (fin.get m) s ≡ s = kept_sequent (fin.get m) s (λ v h. same v (or_first _ _ (or_first _ _ h))) in
      let out : eigen_free r s ≡ false = (row_of_verdict r s (count ts) (first_end ts) (second_end ts) valid.0.right).eigenvariable in
      let rules : image_rule m r s ≡ r = kept_rule m s r out (λ v h. same v (or_first _ _ (or_second (is_free_in_sequent v s) _ h))) in
      let premises : sub_all ts (premise_map m r s) ≡ ts =
      kept_trees ts (premise_map m r s) valid.1 (λ v h. kept_below m r s v out (λ apart. same v (free_below v r s ts h apart))) in
      ap (λ x. node (image_rule m r x) x (sub_all ts (premise_map m r x))) ends ∙ λ i. node (rules i) s (premises i)

  kept_trees : (ts : Trees) (m : Map) → AllValid ts → ((v : Var) → is_free_in_trees v ts ≡ true → image_term (fin.get m) (free v) ≡ free v) → sub_all ts m ≡ ts
  kept_trees none m valid same = refl
  kept_trees (more t ts) m valid same =
      λ i. more (kept_tree t m valid.0 (λ v h. same v (or_first _ _ h)) i) (kept_trees ts m valid.1 (λ v h. same v (or_second (is_free_in_tree v t) _ h)) i)

-- so it is under the empty map
pub empty_tree : (t : Tree) → IsValid t → sub t fin.empty ≡ t
empty_tree t valid = kept_tree t fin.empty valid (λ v h. image-empty_term (free v))
