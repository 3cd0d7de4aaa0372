-- The work in the whole elimination of a valid tree, which ends by Gentzen's Hauptsatz. It falls at each part, as that within a budget does.
use Rattle.std.proofs.Common.{◌≡◌, ℕ, zero, suc, ◌+◌, ◌-◌, ◌<◌, ◌≤◌, max, true, false, if◌then◌else◌, Option, Some, None, refl, sym, ap, ◌∙◌, arith}
use Rattle.std.specs.Prelude.{IsSome}
use Rattle.fol.specs.Syntax.{Formula}
use Rattle.lk_rules.specs.declared.sequent.Sequent.{Sequent}
use Rattle.lk_rules.specs.declared.sequent.Side.TheVariants.{Left, Right}
use Rattle.lk_rules.specs.declared.rule.Rule.{Rule}
use Rattle.proof_trees.specs.Trees.{Tree, node, Trees, none, more, is_cut, cut_free, size, IsValid, AllValid}
use Rattle.cut_laws.specs.Contraction.{cut, con}
use Rattle.cut_laws.specs.Elimination.{next, elimination}
use Rattle.cut_laws.specs.Budgets.{given, counted, in_front, elimination_all, rooted, work, work_all}
use Rattle.cut_laws.proofs.Unrolled.{of_result}
use Rattle.cut_laws.proofs.LessBudget.{used_within}
use Rattle.cut_laws.proofs.BigSteps.{big_other}
use Rattle.cut_laws.proofs.Reached.{least_reached}
use Rattle.cut_laws.proofs.Kept.{result_end, result_valid}
use Rattle.cut_laws.proofs.Contracted.{con_valid}
use Rattle.cut_laws.proofs.ValidCuts.{cut_valid_with}
use Rattle.cut_laws.proofs.Falling.{work_left, work_right, work_root, work_other, work_first, work_rest}
use Rattle.cut_laws.proofs.TreesEnd.{all_end}
use Rattle.arena_cuts.specs.Whole.{ReducesTo}
use Rattle.arena_cuts.proofs.Validity.{validity, validity_found}
use Rattle.arena_cuts.proofs.WholeSteps.{within_each, cut_within}

abbrev work_where : (t : Tree) → Option (IsValid t) → ℕ
work_where t None = 0
work_where t (Some valid) = work (all_end t valid).0 t

-- the work within as many replacements as there are, or 0 where the tree isn't valid
pub whole_work : Tree → ℕ
whole_work t = work_where t (validity t)

-- the greatest of the work in several trees
abbrev pub greatest_work : Trees → ℕ
greatest_work none = 0
greatest_work (more t ts) = max (whole_work t) (greatest_work ts)

-- a budget that suffices

work_finished : (n : ℕ) (t : Tree) → cut_free t ≡ true → work n t ≡ size t
work_finished zero t e = refl
work_finished (suc n) t e = ap (λ b. if b then size t else size t + work n (next t)) e

work_stepped : (n : ℕ) (t : Tree) → cut_free t ≡ false → work (suc n) t ≡ size t + work n (next t)
work_stepped n t e = ap (λ b. if b then size t else size t + work n (next t)) e

-- the work is the same within each greater budget
abbrev IsEnough : Tree → ℕ → Tree → ℕ → Type 0
IsEnough t n u k = (m : ℕ) → k ≤ m → work m t ≡ work n t

later_enough : (t : Tree) (n : ℕ) (u : Tree) (k : ℕ) → cut_free t ≡ false → IsEnough (next t) n u k → IsEnough t (suc n) u (suc k)
later_enough t n u k e h zero less = absurd (omega arith)
later_enough t n u k e h (suc m) less = work_stepped m t e ∙ ap (λ w. size t + w) (h m (omega arith)) ∙ sym (work_stepped n t e)

enough : (t u : Tree) (k n : ℕ) → elimination t n ≡ Some (u, k) → IsEnough t n u k
enough = of_result IsEnough (λ t n e m less. work_finished m t e ∙ sym (work_finished n t e)) later_enough

-- so the work in a valid tree is that within any budget that suffices
module _ (t u : Tree) (k n : ℕ) (found : elimination t n ≡ Some (u, k)) where
  where_is : (o : Option (IsValid t)) → IsSome o → work_where t o ≡ work n t
  where_is None h = absurd cc
  where_is (Some valid) h =
      let x = all_end t valid in
      let ended : elimination t x.0 ≡ Some (x.1, x.0) = (least_reached t x.0 x.1 x.0).1 (x.2, omega arith) in
      let within : k ≤ n = used_within t u k n found in
      sym (enough t x.1 x.0 x.0 ended (n + x.0) (omega arith)) ∙ enough t u k n found (n + x.0) (omega arith)

  pub whole_is : IsValid t → whole_work t ≡ work n t
  unfolding whole_work
  whole_is valid = where_is (validity t) (validity_found t valid)

-- a valid tree comes to one
pub ended : (t : Tree) → IsValid t → (u : Tree) × ReducesTo t u
ended t valid = let x = all_end t valid in (x.1, record { reductions = x.0; reaches = x.2 })

-- cuts

module _ (s : Sequent) (a : Formula) (l r u v : Tree) (valid : IsValid (cut s a l r)) (x : ReducesTo l u) (y : ReducesTo r v) where
  -- the cut over what its premises come to
  pub lowest_valid : IsValid (cut s a u v)
  lowest_valid =
      let i = x.reductions in
      let j = y.reductions in
      let left : elimination l i ≡ Some (u, i) = within_each l u x i (omega arith) in
      let right : elimination r j ≡ Some (v, j) = within_each r v y j (omega arith) in
      cut_valid_with Left s a r u v
      (cut_valid_with Right s a l r u valid (result_end l u i i left) (result_valid l u i i valid.1.0 left))
      (result_end r v j j right) (result_valid r v j j valid.1.1.0 right)

  module _ (w : Tree) (z : ReducesTo (con s a u v) w) where
    abbrev budget : ℕ
    budget = x.reductions + y.reductions + suc z.reductions

    whole : whole_work (cut s a l r) ≡ work budget (cut s a l r)
    whole = whole_is (cut s a l r) w budget budget (cut_within s a l r u v w x y z) valid

    left_is : whole_work l ≡ work budget l
    left_is = whole_is l u x.reductions budget (within_each l u x budget (omega arith)) valid.1.0

    right_is : whole_work r ≡ work (budget - x.reductions) r
    right_is = whole_is r v y.reductions (budget - x.reductions) (within_each r v y (budget - x.reductions) (omega arith)) valid.1.1.0

    root_is : whole_work (con s a u v) ≡ work z.reductions (con s a u v)
    root_is = whole_is (con s a u v) w z.reductions z.reductions (within_each (con s a u v) w z z.reductions (omega arith)) (con_valid s a u v lowest_valid)

    left_falls : whole_work l < whole_work (cut s a l r)
    left_falls = let falls = work_left s a l r budget in omega (arith, whole, left_is)

    right_falls : whole_work r < whole_work (cut s a l r)
    right_falls =
        let falls = work_right s a l r u x.reductions budget (within_each l u x budget (omega arith)) in
        omega (arith, whole, right_is)

    root_falls : whole_work (con s a u v) < whole_work (cut s a l r)
    root_falls =
        let falls = work_root s a l r u v x.reductions y.reductions z.reductions budget (within_each l u x budget (omega arith)) (within_each r v y (budget - x.reductions) (omega arith)) (omega arith) in
        omega (arith, whole, root_is)

  pub falls_at_root : whole_work (con s a u v) < whole_work (cut s a l r)
  falls_at_root = let z = ended (con s a u v) (con_valid s a u v lowest_valid) in root_falls z.0 z.1

  falls_at_premises : max (whole_work l) (whole_work r) < whole_work (cut s a l r)
  falls_at_premises =
      let z = ended (con s a u v) (con_valid s a u v lowest_valid) in
      omega (arith, left_falls z.0 z.1, right_falls z.0 z.1)

pub falls_in_cut : (s : Sequent) (a : Formula) (l r : Tree) → IsValid (cut s a l r) → max (whole_work l) (whole_work r) < whole_work (cut s a l r)
falls_in_cut s a l r valid =
    let x = ended l valid.1.0 in
    let y = ended r valid.1.1.0 in
    falls_at_premises s a l r x.0 y.0 valid x.1 y.1

-- premises

no_result : {A : Type 0} (x : A) → None ≡ Some x → ⊥
no_result x e = cc

given_some : {A B : Type 0} (o : Option (A × ℕ)) (f : A → ℕ → Option (B × ℕ)) (q : B × ℕ) → given o f ≡ Some q → (p : A × ℕ) × (o ≡ Some p) × (f p.0 p.1 ≡ Some q)
given_some None f q e = absurd (no_result q e)
given_some (Some p) f q e = (p, refl, e)

counted_some : {A : Type 0} (i : ℕ) (o : Option (A × ℕ)) (q : A × ℕ) → counted i o ≡ Some q → (p : A × ℕ) × (o ≡ Some p)
counted_some i None q e = absurd (no_result q e)
counted_some i (Some p) q e = (p, refl)

in_front_some : (u : Tree) (o : Option (Trees × ℕ)) (q : Trees × ℕ) → in_front u o ≡ Some q → (p : Trees × ℕ) × (o ≡ Some p)
in_front_some u None q e = absurd (no_result q e)
in_front_some u (Some p) q e = (p, refl)

rooted_some : (q : Rule) (s : Sequent) (o : Option (Trees × ℕ)) (w : Tree × ℕ) → rooted q s o ≡ Some w → (p : Trees × ℕ) × (o ≡ Some p)
rooted_some q s None w e = absurd (no_result w e)
rooted_some q s (Some p) w e = (p, refl)

greatest_within : (ts : Trees) (n : ℕ) (q : Trees × ℕ) → AllValid ts → elimination_all ts n ≡ Some q → greatest_work ts ≤ work_all n ts
greatest_within none n q valid e = omega arith
greatest_within (more t ts) n q valid e =
    let first = given_some (elimination t n) (λ u i. counted i (in_front u (elimination_all ts (n - i)))) q e in
    let u = first.0.0 in
    let i = first.0.1 in
    let others = counted_some i (in_front u (elimination_all ts (n - i))) q first.2 in
    let rest = in_front_some u (elimination_all ts (n - i)) others.0 others.1 in
    let here : whole_work t ≡ work n t = whole_is t u i n first.1 valid.0 in
    let later : greatest_work ts ≤ work_all (n - i) ts = greatest_within ts (n - i) rest.0 valid.1 rest.1 in
    let less = work_first t ts n in
    let falls = work_rest t u ts i n first.1 in
    omega arith

pub falls_in_premises : (q : Rule) (s : Sequent) (ts : Trees) → is_cut q ≡ false → IsValid (node q s ts) → greatest_work ts < whole_work (node q s ts)
falls_in_premises q s ts other valid =
    let x = ended (node q s ts) valid in
    let n = x.1.reductions in
    let found : elimination (node q s ts) n ≡ Some (x.0, n) = within_each (node q s ts) x.0 x.1 n (omega arith) in
    let above = rooted_some q s (elimination_all ts n) (x.0, n) (sym (big_other q s ts n other) ∙ found) in
    let all : greatest_work ts ≤ work_all n ts = greatest_within ts n above.0 valid.1 above.1 in
    let whole : whole_work (node q s ts) ≡ work n (node q s ts) = whole_is (node q s ts) x.0 n n found valid in
    let falls = work_other q s ts n other in
    omega arith
