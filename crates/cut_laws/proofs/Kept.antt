-- What a replacement keeps: the conclusion, and validity.
use Rattle.std.proofs.Common.{◌≡◌, ℕ, suc, true, false, if◌then◌else◌, Some, refl, ap, ◌∙◌}
use Rattle.lk_rules.specs.declared.sequent.Sequent.{Sequent}
use Rattle.lk_rules.specs.declared.rule.Rule.{Rule}
use Rattle.lk_rules.specs.declared.rule.Rule.TheVariants.{Cut}
use Rattle.lk_rules.specs.Rules.{verdict_of}
use Rattle.proof_trees.specs.Trees.{Tree, node, Trees, none, more, concl, count, first_end, second_end, IsInference, IsValid, AllValid, cut_free, cut_free_all}
use Rattle.cut_laws.proofs.Contracted.{end_con, con_valid}
use Rattle.cut_laws.specs.Elimination.{contracted_root, next, next_in, elimination}
use Rattle.cut_laws.proofs.Unrolled.{of_result}
use Rattle.cut_laws.proofs.BigSteps.{elimination_free}

-- conclusions

concl-contracted_root : (q : Rule) (s : Sequent) (ts : Trees) → concl (contracted_root q s ts) ≡ s
concl-contracted_root (Cut a) s (more l (more r none)) = end_con s a l r
concl-contracted_root q s ts = refl

concl-next : (t : Tree) → concl (next t) ≡ concl t
concl-next (node q s ts) = elim (cut_free_all ts) as (λ b. concl (if b then contracted_root q s ts else node q s (next_in ts)) ≡ s) [
  | true ↦ concl-contracted_root q s ts
  | false ↦ refl
]

pub result_end : (t u : Tree) (k n : ℕ) → elimination t n ≡ Some (u, k) → concl u ≡ concl t
result_end = of_result (λ t n u k. concl u ≡ concl t) (λ t n e. refl) (λ t n u k e h. h ∙ concl-next t)

pub result_free : (t u : Tree) (k n : ℕ) → elimination t n ≡ Some (u, k) → cut_free u ≡ true
result_free t u k n e = rw e at (elimination_free t n)

-- validity

count-next_in : (ts : Trees) → count (next_in ts) ≡ count ts
count-next_in none = refl
count-next_in (more t ts) = elim (cut_free t) as (λ b. count (if b then more t (next_in ts) else more (next t) ts) ≡ suc (count ts)) [
  | true ↦ ap suc (count-next_in ts)
  | false ↦ refl
]

first_end-next_in : (ts : Trees) → first_end (next_in ts) ≡ first_end ts
first_end-next_in none = refl
first_end-next_in (more t ts) = elim (cut_free t) as (λ b. first_end (if b then more t (next_in ts) else more (next t) ts) ≡ Some (concl t)) [
  | true ↦ refl
  | false ↦ ap Some (concl-next t)
]

second_end-next_in : (ts : Trees) → second_end (next_in ts) ≡ second_end ts
second_end-next_in none = refl
second_end-next_in (more t ts) = elim (cut_free t) as (λ b. second_end (if b then more t (next_in ts) else more (next t) ts) ≡ first_end ts) [
  | true ↦ first_end-next_in ts
  | false ↦ refl
]

inference-next_in : (q : Rule) (s : Sequent) (ts : Trees) → IsInference q s ts → IsInference q s (next_in ts)
inference-next_in q s ts h = record {
  right = (λ i. verdict_of q s (count-next_in ts i) (first_end-next_in ts i) (second_end-next_in ts i)) ∙ h.right;
  formed = h.formed;
}

contracted_root_valid : (q : Rule) (s : Sequent) (ts : Trees) → IsInference q s ts → AllValid ts → IsValid (contracted_root q s ts)
contracted_root_valid (Cut a) s (more l (more r none)) h above = con_valid s a l r (h, above)
contracted_root_valid q s ts h above = (h, above)

mutual
  next_valid : (t : Tree) → IsValid t → IsValid (next t)
  next_valid (node q s ts) h = elim (cut_free_all ts) as (λ b. IsValid (if b then contracted_root q s ts else node q s (next_in ts))) [
    | true ↦ contracted_root_valid q s ts h.0 h.1
    | false ↦ (inference-next_in q s ts h.0, next_in_valid ts h.1)
  ]

  next_in_valid : (ts : Trees) → AllValid ts → AllValid (next_in ts)
  next_in_valid none h = tt
  next_in_valid (more t ts) h = elim (cut_free t) as (λ b. AllValid (if b then more t (next_in ts) else more (next t) ts)) [
    | true ↦ (h.0, next_in_valid ts h.1)
    | false ↦ (next_valid t h.0, h.1)
  ]

pub result_valid : (t u : Tree) (k n : ℕ) → IsValid t → elimination t n ≡ Some (u, k) → IsValid u
result_valid t u k n h e = of_result (λ t n u k. IsValid t → IsValid u) (λ t n _ v. v) (λ t n u k _ f v. f (next_valid t v)) t u k n e h
