-- Inferences of one premise each: one more rule, and the last one.
use Rattle.std.proofs.Common.{◌≡◌, ℕ, ◌+◌, ◌<◌, List, [], ◌∷◌, ◌++◌, length, get_or, take, drop, true, Some, None, refl, sym, ap, subst, ◌∙◌, arith}
use Rattle.lk_rules.specs.declared.sequent.Sequent.{Sequent}
use Rattle.lk_rules.specs.declared.rule.Rule.{Rule}
use Rattle.lk_rules.specs.declared.rule.Rule.TheVariants.{Weak}
use Rattle.lk_rules.specs.Sequents.{extended, IsSubsequent}
use Rattle.lk_rules.specs.Rules.{IsFormedRule, needs, has_shape, aux}
use Rattle.proof_trees.specs.Trees.{Tree, node, none, more, concl, IsInference}
use Rattle.proof_trees.proofs.Verdicts.{row_of_verdict}
use Rattle.cut_laws.proofs.Sides.{itself, within_extended}
use Rattle.herbrand_laws.specs.Introduction.{end_after, over}
use Rattle.cut_intro.specs.declared.branch.Inference.{Inference}
use Rattle.cut_intro.specs.Branches.{inferences, over_each, AreInferences, AreUsable}
use Rattle.cut_intro.proofs.Steps.{take_one, around_one}

-- one more rule
pub inferences-push : (rs : List Rule) (r : Rule) (e : Sequent) → inferences (rs ++ r ∷ []) e ≡ inferences rs e ++ record { rule = r; end = end_after rs e } ∷ []
inferences-push [] r e = refl
inferences-push (q ∷ rs) r e = ap (λ is. record { rule = q; end = e } ∷ is) (inferences-push rs r (extended e (aux q 0)))

pub end_after-push : (rs : List Rule) (r : Rule) (e : Sequent) → end_after (rs ++ r ∷ []) e ≡ extended (end_after rs e) (aux r 0)
end_after-push [] r e = refl
end_after-push (q ∷ rs) r e = end_after-push rs r (extended e (aux q 0))

-- what a rule that may be used is like
pub record IsUsable (r : Rule) : Type 0 where
  pub formed : IsFormedRule r
  pub shape : has_shape r ≡ true
  pub premise : 0 < needs r

pub usable_at : (rs : List Rule) (e : Sequent) → AreUsable rs e → (before after : List Rule) (r : Rule) → rs ≡ before ++ (r ∷ after) → IsUsable r
usable_at rs e h before after r is =
    let end = end_after before e in
    let one = h before after r (node Weak end none) is (within_extended end (aux r 0)) in
    let row = row_of_verdict r end 1 (Some end) None one.right in
    record { formed = one.formed; shape = row.shape; premise = omega (arith, row.premises) }

pub usable_in : (rs : List Rule) (e : Sequent) → AreUsable rs e → (i : ℕ) (r : Rule) → i < length rs → r ≡ get_or rs i r → IsUsable r
usable_in rs e h i r within is = usable_at rs e h (take i rs) (drop (i + 1) rs) r (around_one rs i r within is)

-- the inferences by one more rule
module _ (rs : List Rule) (e : Sequent) (i : ℕ) (r : Rule) (within : i < length rs) (is : r ≡ get_or rs i r) (top : Sequent) (is_top : top ≡ end_after (take i rs) e) where
  pub list_one : (list : List Inference) → list ≡ inferences (take i rs) e → (q : Rule) → q ≡ r → list ++ record { rule = q; end = top } ∷ [] ≡ inferences (take (i + 1) rs) e
  list_one list is_list q is_q =
      (λ j. is_list j ++ record { rule = is_q j; end = is_top j } ∷ [])
      ∙ (sym (inferences-push (take i rs) r e) ∙ ap (λ qs. inferences qs e) (sym (take_one rs i r within is)))

  pub top_one : (next : Sequent) → next ≡ extended top (aux r 0) → next ≡ end_after (take (i + 1) rs) e
  top_one next is_next =
      is_next ∙ (ap (λ t. extended t (aux r 0)) is_top ∙ (sym (end_after-push (take i rs) r e) ∙ ap (λ qs. end_after qs e) (sym (take_one rs i r within is))))

-- the last inference

over_each-push : (is : List Inference) (i : Inference) (t : Tree) → over_each (is ++ i ∷ []) t ≡ over_each is (node i.rule i.end (more t none))
over_each-push [] i t = refl
over_each-push (j ∷ is) i t = ap (λ u. node j.rule j.end (more u none)) (over_each-push is i t)

last_inference : (is : List Inference) (i : Inference) (t : Tree) → AreInferences (is ++ i ∷ []) t → IsInference i.rule i.end (more t none) × AreInferences is (node i.rule i.end (more t none))
last_inference [] i t h = (h.0, tt)
last_inference (j ∷ is) i t h =
    let later = last_inference is i t h.1 in
    (later.0, (subst (λ u. IsInference j.rule j.end (more u none)) (over_each-push is i t) h.0, later.1))

-- the same, of what `pop` leaves
module _ (all is : List Inference) (i : Inference) (t : Tree) (popped : all ≡ is ++ i ∷ []) where
  pub popped_whole : over_each is (node i.rule i.end (more t none)) ≡ over_each all t
  popped_whole = sym (over_each-push is i t) ∙ ap (λ js. over_each js t) (sym popped)

  pub popped_right : AreInferences all t → IsInference i.rule i.end (more t none)
  popped_right h = (last_inference is i t (subst (λ js. AreInferences js t) popped h)).0

  pub popped_rest : AreInferences all t → AreInferences is (node i.rule i.end (more t none))
  popped_rest h = (last_inference is i t (subst (λ js. AreInferences js t) popped h)).1

-- usable rules give right inferences

pub over_inferences : (rs : List Rule) (e : Sequent) (t : Tree) → over_each (inferences rs e) t ≡ over rs e t
over_inferences [] e t = refl
over_inferences (r ∷ rs) e t = ap (λ u. node r e (more u none)) (over_inferences rs (extended e (aux r 0)) t)

pub end_over : (rs : List Rule) (e : Sequent) (t : Tree) → IsSubsequent (concl t) (end_after rs e) → IsSubsequent (concl (over_each (inferences rs e) t)) e
end_over [] e t h = h
end_over (r ∷ rs) e t h = itself e

later_usable : (r : Rule) (rs : List Rule) (e : Sequent) → AreUsable (r ∷ rs) e → AreUsable rs (extended e (aux r 0))
later_usable r rs e h = λ before after q t is within. h (r ∷ before) after q t (ap (λ qs. r ∷ qs) is) within

pub right_inferences : (rs : List Rule) (e : Sequent) (t : Tree) → AreUsable rs e → IsSubsequent (concl t) (end_after rs e) → AreInferences (inferences rs e) t
right_inferences [] e t h within = tt
right_inferences (r ∷ rs) e t h within =
    let e2 = extended e (aux r 0) in
    let u = over_each (inferences rs e2) t in
    (h [] rs r u refl (end_over rs e2 t within), right_inferences rs e2 t (later_usable r rs e h) within)
