-- What a tree comes to, by what its parts come to.
use Rattle.std.proofs.Common.{◌≡◌, ℕ, suc, ◌+◌, ◌-◌, ◌<◌, ◌≤◌, true, false, nat_lt, Some, None, refl, sym, ap, ◌∙◌, arith}
use Rattle.std.proofs.lemmas.Bool.Decides.{nat_tests}
use Rattle.std.specs.Prelude.{Result, Ok, Err, IfOk}
use Rattle.fol.specs.Syntax.{Formula}
use Rattle.lk_rules.specs.declared.sequent.Sequent.{Sequent}
use Rattle.proof_trees.specs.Trees.{Tree, node, Trees, none, more, rule_of, concl, below, is_cut, cut_free, IsValid}
use Rattle.cut_laws.specs.Contraction.{cut, con}
use Rattle.cut_laws.specs.Elimination.{Reaches, elimination}
use Rattle.cut_laws.specs.Budgets.{given, counted, in_front, elimination_all}
use Rattle.cut_laws.proofs.BigSteps.{big_cut, big_other}
use Rattle.cut_laws.proofs.Unrolled.{split}
use Rattle.cut_laws.proofs.Reached.{least_reached}
use Rattle.cut_laws.proofs.Kept.{result_free, result_end, result_valid}
use Rattle.arena_cuts.specs.Whole.{ReducesTo, ReduceTo}
use Rattle.arena_cuts.proofs.CutSteps.{root_some}
use Rattle.arena_cuts.proofs.Rooted.{other_some}

pub within_each : (t u : Tree) (x : ReducesTo t u) (n : ℕ) → x.reductions ≤ n → elimination t n ≡ Some (u, x.reductions)
within_each t u x n h = (least_reached t n u x.reductions).1 (x.reaches, h)

pub reduces_by : (t u : Tree) (k n : ℕ) → elimination t n ≡ Some (u, k) → ReducesTo t u
reduces_by t u k n e = record { reductions = k; reaches = ((least_reached t n u k).0 e).0 }

-- what a tree comes to has no cut, the same conclusion, and is valid where the tree is

pub reduced_free : (t u : Tree) → ReducesTo t u → cut_free u ≡ true
reduced_free t u x = result_free t u x.reductions x.reductions (within_each t u x x.reductions (omega arith))

pub reduced_end : (t u : Tree) → ReducesTo t u → concl u ≡ concl t
reduced_end t u x = result_end t u x.reductions x.reductions (within_each t u x x.reductions (omega arith))

pub reduced_valid : (t u : Tree) → IsValid t → ReducesTo t u → IsValid u
reduced_valid t u valid x = result_valid t u x.reductions x.reductions valid (within_each t u x x.reductions (omega arith))

-- where a budget doesn't suffice, there are more replacements than it allows
pub beyond : (t u : Tree) (n k : ℕ) → elimination t n ≡ None → Reaches t k u → n < k
beyond t u n k short reaches = split (nat_lt n k)
    (λ e. grind (arith, nat_tests, e))
    (λ e. let enough : k ≤ n = grind (arith, nat_tests, e) in absurd (none_is_some (u, k) (sym short ∙ (least_reached t n u k).1 (reaches, enough))))
  where
    none_is_some : (p : Tree × ℕ) → None ≡ Some p → ⊥
    none_is_some p e = cc

-- what follows of what was made
pub made_then : {T E : Type 0} (r : Result T E) (P Q : T → Type 0) → ((x : T) → P x → Q x) → IfOk r P → IfOk r Q
made_then (Ok x) P Q f h = f x h
made_then (Err e) P Q f h = h

module _ (s : Sequent) (a : Formula) (l r u v w : Tree) (x : ReducesTo l u) (y : ReducesTo r v) (z : ReducesTo (con s a u v) w) where
  abbrev budget : ℕ
  budget = x.reductions + y.reductions + suc z.reductions

  pub cut_within : elimination (cut s a l r) budget ≡ Some (w, budget)
  cut_within =
      root_some s a l r budget (big_cut s a l r budget) u v x.reductions y.reductions
      (within_each l u x budget (omega arith)) (within_each r v y (budget - x.reductions) (omega arith))
      (suc z.reductions) (omega arith) w (suc z.reductions)
      (ap (counted 1) (within_each (con s a u v) w z z.reductions (omega arith)) ∙ ap (λ k. Some (w, k)) (omega arith))

  pub cut_reduces : ReducesTo (cut s a l r) w
  cut_reduces = reduces_by (cut s a l r) w budget budget cut_within

-- no tree, one and two

pub none_reduces : ReduceTo none none
none_reduces = record { reductions = 0; is = refl }

pub one_reduces : (t u : Tree) → ReducesTo t u → ReduceTo (more t none) (more u none)
one_reduces t u x = record {
  reductions = x.reductions;
  is = ap (λ o. given o (λ v i. counted i (in_front v (Some (none, 0))))) (within_each t u x x.reductions (omega arith)) ∙ ap (λ k. Some (more u none, k)) (omega arith);
}

pub two_reduce : (l r u v : Tree) → ReducesTo l u → ReducesTo r v → ReduceTo (more l (more r none)) (more u (more v none))
two_reduce l r u v x y =
    let n = x.reductions + y.reductions in
    let here : elimination l n ≡ Some (u, x.reductions) = within_each l u x n (omega arith) in
    let there : elimination r (n - x.reductions) ≡ Some (v, y.reductions) = within_each r v y (n - x.reductions) (omega arith) in
    record {
      reductions = n;
      is =
          ap (λ o. given o (λ t i. counted i (in_front t (elimination_all (more r none) (n - i))))) here
          ∙ ap (λ o. counted x.reductions (in_front u (given o (λ t i. counted i (in_front t (Some (none, 0))))))) there
          ∙ ap (λ k. Some (more u (more v none), x.reductions + k)) (omega arith);
    }

-- a last rule that is no cut
pub other_reduces : (t : Tree) (ts us : Trees) → is_cut (rule_of t) ≡ false → below t ≡ ts → ReduceTo ts us → ReducesTo t (node (rule_of t) (concl t) us)
other_reduces t ts us other above x =
    reduces_by t (node (rule_of t) (concl t) us) x.reductions x.reductions
    (other_some t x.reductions (big_other (rule_of t) (concl t) (below t) x.reductions other) ts us x.reductions above x.is)
