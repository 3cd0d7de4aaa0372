-- How the replacements in the premises and at the root of a tree make up those of the whole tree, within a budget.
use Rattle.std.specs.Prelude.{ℕ, zero, suc, ◌+◌, ◌-◌, nat_lt, if◌then◌else◌, Option, Some, None, option_map, unwrap_or}
use Rattle.fol.specs.Syntax.{Formula}
use Rattle.lk_rules.specs.declared.sequent.Sequent.{Sequent}
use Rattle.lk_rules.specs.declared.rule.Rule.{Rule}
use Rattle.proof_trees.specs.Trees.{Tree, node, Trees, none, more, cut_free, size}
use Rattle.cut_laws.specs.Contraction.{con}
use Rattle.cut_laws.specs.Elimination.{next, elimination}

-- what is made of a value and its number of replacements, where there are such
abbrev pub given : {A B : Type 0} → Option (A × ℕ) → (A → ℕ → Option (B × ℕ)) → Option (B × ℕ)
given None f = None
given (Some p) f = f p.0 p.1

-- i more replacements
abbrev pub counted : {A : Type 0} → ℕ → Option (A × ℕ) → Option (A × ℕ)
counted i None = None
counted i (Some p) = Some (p.0, i + p.1)

-- only what took at most n replacements
abbrev pub within : {A : Type 0} → ℕ → Option (A × ℕ) → Option (A × ℕ)
within n None = None
within n (Some p) = if nat_lt n p.1 then None else Some p

-- the contraction of a cut, and the replacements after it, within a budget
abbrev pub contracted : Sequent → Formula → Tree → Tree → ℕ → Option (Tree × ℕ)
contracted s a l r zero = None
contracted s a l r (suc n) = counted 1 (elimination (con s a l r) n)

-- a tree in front of others
abbrev pub in_front : Tree → Option (Trees × ℕ) → Option (Trees × ℕ)
in_front t None = None
in_front t (Some p) = Some (more t p.0, p.1)

-- the elimination in each of several trees, from left to right, within a budget for all
abbrev pub elimination_all : Trees → ℕ → Option (Trees × ℕ)
elimination_all none n = Some (none, 0)
elimination_all (more t ts) n = given (elimination t n) (λ u i. counted i (in_front u (elimination_all ts (n - i))))

-- what was made of two trees apart, each within the whole budget n, where the replacements in both are at most n together
abbrev pub forked : ℕ → Option (Tree × ℕ) → Option (Tree × ℕ) → Option (Trees × ℕ)
forked n None o = None
forked n (Some p) None = None
forked n (Some p) (Some q) = if nat_lt n (p.1 + q.1) then None else Some (more p.0 (more q.0 none), p.1 + q.1)

-- an inference over what was made of its premises
abbrev pub rooted : Rule → Sequent → Option (Trees × ℕ) → Option (Tree × ℕ)
rooted q s None = None
rooted q s (Some p) = Some (node q s p.0, p.1)

-- the nodes of all trees on the way, for n replacements
abbrev pub work : ℕ → Tree → ℕ
work zero t = size t
work (suc n) t = if cut_free t then size t else size t + work n (next t)

-- the work in several trees, from left to right: that in the first, and that in the others within what is left of the budget. Where the
-- budget doesn't suffice for the first, the others aren't reached
abbrev pub work_all : ℕ → Trees → ℕ
work_all n none = 0
work_all n (more t ts) = work n t + unwrap_or (option_map (λ p. work_all (n - p.1) ts) (elimination t n)) 0
