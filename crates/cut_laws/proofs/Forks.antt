-- Two trees that are worked on apart, and an inference after the replacements in its premises.
use Rattle.std.proofs.Common.{◌≡◌, ℕ, ◌+◌, ◌-◌, ◌<◌, ◌≤◌, if◌then◌else◌, nat_lt, Option, Some, None, IfSome, refl, sym, ap, ◌∙◌, arith}
use Rattle.std.proofs.lemmas.Bool.Decides.{nat_tests}
use Rattle.lk_rules.specs.declared.sequent.Sequent.{Sequent}
use Rattle.lk_rules.specs.declared.rule.Rule.{Rule}
use Rattle.proof_trees.specs.Trees.{Tree, node, Trees, none, more}
use Rattle.cut_laws.specs.Elimination.{elimination}
use Rattle.cut_laws.specs.Budgets.{given, counted, within, in_front, elimination_all, forked}
use Rattle.cut_laws.proofs.Numbered.{within_enough, within_lacking}
use Rattle.cut_laws.proofs.Unrolled.{split, by_replacements}
use Rattle.cut_laws.proofs.BigSteps.{below_front}
use Rattle.cut_laws.proofs.LessBudget.{less_budget}

-- what is made of one tree as the only one of a list
abbrev as_only : Tree → ℕ → Option (Trees × ℕ)
as_only v j = counted j (in_front v (Some (none, 0)))

-- what is used is within the budget
used_of : (t : Tree) (n : ℕ) → IfSome (elimination t n) (λ p. p.1 ≤ n)
used_of = by_replacements (λ t n u k. k ≤ n) (λ t n e. omega arith) (λ t n u k e h. omega arith)

second_forked : (u : Tree) (i n : ℕ) → i ≤ n → (o : Option (Tree × ℕ)) → counted i (in_front u (given (within (n - i) o) as_only)) ≡ forked n (Some (u, i)) o
second_forked u i n h None = refl
second_forked u i n h (Some q) = split (nat_lt n (i + q.1))
    (λ e. let more_than : n < i + q.1 = grind (arith, nat_tests, e) in
    ap (λ x. counted i (in_front u (given x as_only))) (within_lacking (n - i) q.1 q.0 (omega arith)) ∙ sym (ap (λ b. if b then None else Some (more u (more q.0 none), i + q.1)) e))
    (λ e. let at_most : i + q.1 ≤ n = grind (arith, nat_tests, e) in
    ap (λ x. counted i (in_front u (given x as_only))) (within_enough (n - i) q.1 q.0 (omega arith))
    ∙ ap (λ k. Some (more u (more q.0 none), i + k)) (omega arith)
    ∙ sym (ap (λ b. if b then None else Some (more u (more q.0 none), i + q.1)) e))

first_forked : (r : Tree) (n : ℕ) (o : Option (Tree × ℕ)) → IfSome o (λ p. p.1 ≤ n)
    → given o (λ u i. counted i (in_front u (elimination_all (more r none) (n - i)))) ≡ forked n o (elimination r n)
first_forked r n None h = refl
first_forked r n (Some p) h =
    ap (λ x. counted p.1 (in_front p.0 (given x as_only))) (less_budget r (n - p.1) n (omega arith)) ∙ second_forked p.0 p.1 n h (elimination r n)

pub both_forked : (l r : Tree) (n : ℕ) → elimination_all (more l (more r none)) n ≡ forked n (elimination l n) (elimination r n)
both_forked l r n = first_forked r n (elimination l n) (used_of l n)

pub premises_first : (q : Rule) (s : Sequent) (ts : Trees) (n : ℕ) → elimination (node q s ts) n ≡ given (elimination_all ts n) (λ us k. counted k (elimination (node q s us) (n - k)))
premises_first q s ts n = below_front q s none ts n refl
