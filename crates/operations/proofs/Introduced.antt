-- What the introduction of a cut answers decides what the operation comes to.
use Rattle.std.proofs.Common.{◌≡◌, ℕ, ◌≤◌, Bool, true, false, cond, arith, Result, Ok, Err, sym, subst}
use Rattle.std.proofs.lemmas.Bool.Decides.{nat_tests}
use Rattle.lk_rules.proofs.Subsequents.{and_left, and_right}
use Rattle.std.specs.Prelude.{nat_le}
use Rattle.proof_trees.specs.Trees.{Tree}
use Rattle.proof_graph.specs.declared.graph.Graph.{Graph}
use Rattle.introduction_laws.specs.declared.fault.IntroFault.{IntroFault}
use Rattle.introduction_laws.specs.declared.fault.IntroFault.TheVariants as introduction
use Rattle.introduction_laws.specs.Introducing.{Answer as Introduction, shorter, same, has_formed_instances}
use Rattle.job_lang.specs.Widths.{is_width}
use Rattle.operations.specs.declared.answers.Ran.{Ran}
use Rattle.operations.specs.declared.answers.Ran.TheVariants as ran
use Rattle.operation_laws.specs.Answers.{introduced, lacking, product}
use Rattle.operation_laws.specs.Running.{shortened}
use Rattle.operations.specs.Means.{Comes}

-- a proof whose instances are well formed is made shorter
pub introduction_shortens : (g : Graph) (r : Ran) (t u : Tree) (wanted : Result Introduction IntroFault) → wanted ≡ Ok (shorter u) → has_formed_instances t ≡ true
    → Comes g r (product (introduced u true)) → Comes g r (shortened t wanted)
introduction_shortens g r t u wanted is formed comes =
    subst (λ (w : Result Introduction IntroFault). Comes g r (shortened t w)) (sym is)
    (subst (λ (b : Bool). Comes g r (cond b (product (introduced u true)) lacking)) (sym formed) comes)

pub introduction_keeps : (g : Graph) (r : Ran) (t : Tree) (wanted : Result Introduction IntroFault) → wanted ≡ Ok same → Comes g r (product (introduced t false))
    → Comes g r (shortened t wanted)
introduction_keeps g r t wanted is comes = subst (λ (w : Result Introduction IntroFault). Comes g r (shortened t w)) (sym is) comes

pub introduction_fails : (g : Graph) (r : Ran) (t : Tree) (fault : IntroFault) (wanted : Result Introduction IntroFault) → wanted ≡ Err fault
    → Comes g r (shortened t (Err fault)) → Comes g r (shortened t wanted)
introduction_fails g r t fault wanted is comes = subst (λ (w : Result Introduction IntroFault). Comes g r (shortened t w)) (sym is) comes

pub introduction_lacks : (g : Graph) (t : Tree) (wanted : Result Introduction IntroFault) → Comes g ran.Lacking (shortened t wanted)
introduction_lacks g t (Ok (shorter u)) =
    elim (has_formed_instances t) as (λ (b : Bool). Comes g ran.Lacking (cond b (product (introduced u true)) lacking)) [ true ↦ tt | false ↦ tt ]
introduction_lacks g t (Ok same) = tt
introduction_lacks g t (Err (introduction.Cut step)) = tt
introduction_lacks g t (Err (introduction.NotPrenex f side)) = tt
introduction_lacks g t (Err introduction.Budget) = tt
introduction_lacks g t (Err (introduction.TooMany k)) = tt
introduction_lacks g t (Err introduction.Memory) = tt

-- the limits of a width
least : (n : ℕ) → nat_le 2 n ≡ true → 2 ≤ n
least n h = grind (arith, nat_tests)

most : (n : ℕ) → nat_le n 4 ≡ true → n ≤ 4
most n h = grind (arith, nat_tests)

pub width_from : (n : ℕ) → is_width n ≡ true → 2 ≤ n
width_from n h = least n (and_left (nat_le 2 n) (nat_le n 4) h)

pub width_to : (n : ℕ) → is_width n ≡ true → n ≤ 4
width_to n h = most n (and_right (nat_le 2 n) (nat_le n 4) h)
