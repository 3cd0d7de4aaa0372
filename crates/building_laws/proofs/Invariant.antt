-- What holds of each list that is visited, and that each step keeps it.
use Rattle.std.proofs.Common.{◌≡◌, ◌⊎◌, inl, inr, ℕ, suc, ◌<◌, ◌≤◌, true, false, length, List, [], ◌∷◌, Option, Some, refl, sym, subst, ◌∙◌, arith}
use Rattle.std.specs.List.{AllByRecursion, list_any}
use Rattle.fol.specs.declared.symbols.Var.{Var}
use Rattle.fol.specs.Syntax.{Formula}
use Rattle.finite.specs.Finite as set
use Rattle.lk_rules.specs.declared.sequent.Sequent.{Sequent}
use Rattle.lk_rules.specs.declared.sequent.Side.{Side}
use Rattle.lk_rules.specs.declared.sequent.Side.TheVariants.{Left, Right}
use Rattle.lk_rules.specs.declared.rule.Rule.{Rule}
use Rattle.lk_rules.specs.Sequents.{side_of, is_free_in_sequent}
use Rattle.lk_rules.specs.Rules.{IsFormedRule, needs, has_shape, aux, eigen_free, main_stands, IsWithin}
use Rattle.proof_trees.specs.Trees.{is_cut}
use Rattle.proof_trees.proofs.Booleans.{either}
use Rattle.search_laws.specs.Truth.{Assignment}
use Rattle.search_laws.proofs.Listed.{among, larger, added}
use Rattle.search_laws.proofs.Tests.{clash, fails}
use Rattle.expansion_laws.specs.Dependency.{strongs}
use Rattle.expansion_laws.specs.Expansions.{shallow}
use Rattle.building_laws.specs.Lists.{Placed, strongs_in_list, conclusion}
use Rattle.building_laws.specs.Building.{Step, closing, parts, instance_at, step_at}
use Rattle.building_laws.proofs.Conclusions.{is_formula, own_formula, is_free_at, has-conclusion, free_in_trees}
use Rattle.building_laws.proofs.Counting.{count}
use Rattle.building_laws.proofs.Inside.{all_in, any_in, counted_in}
use Rattle.building_laws.proofs.Leaves.{Closes, leaves_close}
use Rattle.building_laws.proofs.Quantifiers.{parts_fit, instance_fits}
use Rattle.building_laws.proofs.Replaced.{Replaced, any_new, any_old, in_old, all_new, counted_new}
use Rattle.building_laws.proofs.Right.{IsRight, is_helping, is_over, RuleFits, IsPremise, ArePremises, StepFits}
use Rattle.building_laws.proofs.Taking.{AllReplaced, IsTaken, step_cases}

-- The trees are right where they stand. Different strong quantifiers have different variables, none of which is free in the trees'
-- formulas. The variables have ranks that rise from each to those that it comes before. Under each assignment some tree helps.
pub record IsProvable (rank : Var → ℕ) (l : List Placed) : Type 0 where
  pub right : AllByRecursion IsRight l
  pub once : (v : Var) → count v (strongs_in_list l) ≤ 1
  pub fresh : (v : Var) → 0 < count v (strongs_in_list l) → list_any (is_free_at v) l ≡ false
  pub ranked : (y z : Var) → 0 < count y (strongs_in_list l) → list_any (is_over y z) l ≡ true → rank y < rank z
  pub helps : (a : Assignment) → list_any (is_helping a) l ≡ true

module _ (rank : Var → ℕ) (p : Placed) (ps l m : List Placed) (r : Rule) (i : ℕ) (there : Replaced p ps l m) (h : IsProvable rank l) (k : IsPremise (strongs_in_list l) r i p ps) where
  -- a variable of the premise is one of the list
  still : (v : Var) → 0 < count v (strongs_in_list m) → 0 < count v (strongs_in_list l)
  still v inside =
      let sum = counted_new p ps v l m there in
      let part = k.counted v in
      omega arith

  new_free : (v : Var) → 0 < count v (strongs_in_list m) → (is_free_at v p ≡ true) ⊎ ((count v (strongs_in_list ps) < count v (strongs p.tree)) ⊎ (count v (strongs_in_list l) ≡ 0)) → list_any (is_free_at v) l ≡ true
  new_free v inside (inl old) = in_old p ps (is_free_at v) l m there old
  new_free v inside (inr (inl fewer)) =
      let sum = counted_new p ps v l m there in
      let one = h.once v in
      absurd (omega arith)
  new_free v inside (inr (inr none)) = let some = still v inside in absurd (omega arith)

  -- so is the list of a premise
  premise_provable : IsProvable rank m
  premise_provable = record {
    right = all_new p ps IsRight l m there k.right h.right;
    once = λ v. let sum = counted_new p ps v l m there in let part = k.counted v in let one = h.once v in omega arith;
    fresh = λ v inside. fails (list_any (is_free_at v) m) (λ e.
        clash (list_any (is_free_at v) l)
        (any_old p ps (is_free_at v) l m there (λ new. new_free v inside (k.free v new)) (λ old. old) e)
        (h.fresh v (still v inside)));
    ranked = λ y z inside e. h.ranked y z (still y inside) (any_old p ps (is_over y z) l m there (λ new. in_old p ps (is_over y z) l m there (k.over y z new)) (λ old. old) e);
    helps = λ a. any_new p ps (is_helping a) (k.helps a) l m there (h.helps a);
  }

  -- a formula of the premise is one of the conclusion or an auxiliary formula
  old_or_auxiliary : {P : Type 0} (side : Side) (f : Formula) → (set.has (side_of (conclusion l) side) f ≡ true → P) → (among (aux r i side) f ≡ true → P) → set.has (side_of (conclusion m) side) f ≡ true → P
  old_or_auxiliary side f old new e =
      any_old p ps (is_formula side f) l m there
      (λ x. either (is_formula side f p) (among (aux r i side) f) (λ was. old (has-conclusion l side f ∙ in_old p ps (is_formula side f) l m there was)) new (k.formulas side f x))
      (λ was. old (has-conclusion l side f ∙ was))
      (sym (has-conclusion m side f) ∙ e)

  premise_within : IsWithin r (conclusion l) i (conclusion m)
  premise_within = record {
    left = λ f. old_or_auxiliary Left f (larger (conclusion l).left (aux r i Left) f) (added (conclusion l).left (aux r i Left) f);
    right = λ f. old_or_auxiliary Right f (larger (conclusion l).right (aux r i Right) f) (added (conclusion l).right (aux r i Right) f);
  }

-- the premises from the i-th on follow the rule
abbrev pub AreWithin : Rule → Sequent → ℕ → List (List Placed) → Type 0
AreWithin r e i [] = Unit {0}
AreWithin r e i (m ∷ ms) = IsWithin r e i (conclusion m) × AreWithin r e (suc i) ms

-- the rule and its premises are right at a list
pub record IsStep (l : List Placed) (r : Rule) (ms : List (List Placed)) : Type 0 where
  pub number : length ms ≡ needs r
  pub shape : has_shape r ≡ true
  pub uncut : is_cut r ≡ false
  pub formed : IsFormedRule r
  pub stand : main_stands r (conclusion l) ≡ true
  pub eigenvariable : eigen_free r (conclusion l) ≡ false
  pub within : AreWithin r (conclusion l) 0 ms

pub record IsKept (rank : Var → ℕ) (l : List Placed) (t : Step) : Type 0 where
  pub step : IsStep l t.rule t.premises
  pub premises : AllByRecursion (IsProvable rank) t.premises

module _ (rank : Var → ℕ) (l : List Placed) (h : IsProvable rank l) (r : Rule) (p : Placed) where
  all_provable : (i : ℕ) (pss ms : List (List Placed)) → AllReplaced p l pss ms → ArePremises (strongs_in_list l) r p i pss → AllByRecursion (IsProvable rank) ms
  all_provable i [] [] there k = tt
  all_provable i [] (m ∷ ms) there k = absurd there
  all_provable i (ps ∷ pss) [] there k = absurd there
  all_provable i (ps ∷ pss) (m ∷ ms) there k = (premise_provable rank p ps l m r i there.0 h k.0, all_provable (suc i) pss ms there.1 k.1)

  all_within : (i : ℕ) (pss ms : List (List Placed)) → AllReplaced p l pss ms → ArePremises (strongs_in_list l) r p i pss → AreWithin r (conclusion l) i ms
  all_within i [] [] there k = tt
  all_within i [] (m ∷ ms) there k = absurd there
  all_within i (ps ∷ pss) [] there k = absurd there
  all_within i (ps ∷ pss) (m ∷ ms) there k = (premise_within rank p ps l m r i there.0 h k.0, all_within (suc i) pss ms there.1 k.1)

  as_many : (pss ms : List (List Placed)) → AllReplaced p l pss ms → length ms ≡ length pss
  as_many [] [] there = refl
  as_many [] (m ∷ ms) there = absurd there
  as_many (ps ∷ pss) [] there = absurd there
  as_many (ps ∷ pss) (m ∷ ms) there = let rest = as_many pss ms there.1 in omega arith

module _ (rank : Var → ℕ) (l : List Placed) (h : IsProvable rank l) where
  taken_kept : (at : Placed → Option Step) → ((p : Placed) → IsRight p → StepFits (strongs_in_list l) p (at p)) → (t : Step) → IsTaken at l t → IsKept rank l t
  taken_kept at fits t k =
      let p : Placed = k.tree in
      let fit : StepFits (strongs_in_list l) p (Some k.step) = subst (StepFits (strongs_in_list l) p) k.taken (fits p (all_in IsRight p l k.inside h.right)) in
      let rule : RuleFits p k.step.rule (length k.step.premises) = fit.0 in
      subst (λ r. IsKept rank l (record { rule = r; premises = t.premises })) (sym k.rule)
      (record {
        step = record {
          number = as_many rank l h k.step.rule p k.step.premises t.premises k.premises ∙ rule.number;
          shape = rule.shape;
          uncut = rule.uncut;
          formed = rule.formed;
          stand = rule.stand (conclusion l) (has-conclusion l p.side (shallow p.tree) ∙ any_in (is_formula p.side (shallow p.tree)) p l k.inside (own_formula p));
          eigenvariable = rule.eigenvariable (conclusion l) (λ v inside. not_free v (counted_in v p l k.inside inside));
          within = all_within rank l h k.step.rule p 0 k.step.premises t.premises k.premises fit.1;
        };
        premises = all_provable rank l h k.step.rule p 0 k.step.premises t.premises k.premises fit.1;
      })
    where
      not_free : (v : Var) → 0 < count v (strongs_in_list l) → is_free_in_sequent v (conclusion l) ≡ false
      not_free v inside = fails (is_free_in_sequent v (conclusion l)) (λ e. clash (list_any (is_free_at v) l) (free_in_trees v l e) (h.fresh v inside))

  -- a step that is taken is right, and its premises are as the list is
  pub step_kept : (t : Step) → step_at l ≡ Some t → IsKept rank l t
  step_kept t =
      step_cases l t
      (λ r e is. subst (IsKept rank l) is (closed_kept r (leaves_close l h.right r e)))
      (taken_kept parts (parts_fit (strongs_in_list l)) t)
      (taken_kept (instance_at (strongs_in_list l)) (instance_fits (strongs_in_list l)) t)
    where
      closed_kept : (r : Rule) → Closes r (conclusion l) → IsKept rank l (closing r)
      closed_kept r k = record {
        step = record { number = k.number; shape = k.shape; uncut = k.uncut; formed = k.formed; stand = k.stand; eigenvariable = k.eigenvariable; within = tt };
        premises = tt;
      }
