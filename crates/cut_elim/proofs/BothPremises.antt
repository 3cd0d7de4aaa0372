-- The elimination in a tree of two premises, after that in each of them within the whole budget.
use Rattle.std.proofs.Common.{◌≡◌, ℕ, ◌+◌, ◌-◌, ◌<◌, ◌≤◌, if◌then◌else◌, Option, Some, None, refl, sym, ap, subst, ◌∙◌}
use Rattle.lk_rules.specs.declared.sequent.Sequent.{Sequent}
use Rattle.lk_rules.specs.declared.rule.Rule.{Rule}
use Rattle.lk_rules.specs.Rules.{verdict_of}
use Rattle.std.specs.Prelude.{Ok}
use Rattle.proof_trees.specs.Trees.{Tree, node, Trees, none, more, rule_of, concl, below, IsValid}
use Rattle.cut_laws.specs.Elimination.{elimination}
use Rattle.cut_laws.specs.Budgets.{given, counted, elimination_all, forked}
use Rattle.cut_laws.proofs.Numbered.{enough, lacking}

-- two branches

pub left_none : (n : ℕ) (o x : Option (Tree × ℕ)) → o ≡ None → forked n o x ≡ None
left_none n o x e = ap (λ (y : Option (Tree × ℕ)). forked n y x) e

pub right_none : (n : ℕ) (o x : Option (Tree × ℕ)) → x ≡ None → forked n o x ≡ None
right_none n None x e = refl
right_none n (Some p) x e = ap (λ (y : Option (Tree × ℕ)). forked n (Some p) y) e

module _ (n : ℕ) (o x : Option (Tree × ℕ)) (u v : Tree) (i j : ℕ) (left : o ≡ Some (u, i)) (right : x ≡ Some (v, j)) where
  reached : forked n o x ≡ forked n (Some (u, i)) (Some (v, j))
  reached = λ k. forked n (left k) (right k)

  pub too_many : n < i + j → forked n o x ≡ None
  too_many h = reached ∙ ap (λ b. if b then None else Some (more u (more v none), i + j)) (lacking n (i + j) h)

  pub both_reached : i + j ≤ n → forked n o x ≡ Some (more u (more v none), i + j)
  both_reached h = reached ∙ ap (λ b. if b then None else Some (more u (more v none), i + j)) (enough n (i + j) h)

-- a tree by its parts

parts_of : (t : Tree) → t ≡ node (rule_of t) (concl t) (below t)
parts_of (node q s ts) = refl

pub tree_of_two : (t l r : Tree) → below t ≡ more l (more r none) → t ≡ node (rule_of t) (concl t) (more l (more r none))
tree_of_two t l r two = parts_of t ∙ ap (node (rule_of t) (concl t)) two

-- the last inference is right over other premises with the same conclusions
pub valid_over : (q : Rule) (s : Sequent) (l r u v : Tree) → IsValid (node q s (more l (more r none))) → concl u ≡ concl l → concl v ≡ concl r → IsValid u → IsValid v → IsValid (node q s (more u (more v none)))
valid_over q s l r u v valid left right valid_left valid_right = (
  record {
    right = subst (λ (x : Sequent × Sequent). verdict_of q s 2 (Some x.0) (Some x.1) ≡ Ok tt) (λ i. (sym left i, sym right i)) valid.0.right;
    formed = valid.0.formed;
  },
  (valid_left, (valid_right, tt)),
)

-- what is made of the inference once its premises have become us
abbrev after_premises : Rule → Sequent → ℕ → Trees → ℕ → Option (Tree × ℕ)
after_premises q s n us k = counted k (elimination (node q s us) (n - k))

module _ (q : Rule) (s : Sequent) (l r : Tree) (n : ℕ) (both : elimination_all (more l (more r none)) n ≡ forked n (elimination l n) (elimination r n))
    (first : elimination (node q s (more l (more r none))) n ≡ given (elimination_all (more l (more r none)) n) (λ us k. counted k (elimination (node q s us) (n - k)))) where
  over_branches : elimination (node q s (more l (more r none))) n ≡ given (forked n (elimination l n) (elimination r n)) (after_premises q s n)
  over_branches = first ∙ ap (λ (o : Option (Trees × ℕ)). given o (after_premises q s n)) both

  pub none_below : forked n (elimination l n) (elimination r n) ≡ None → elimination (node q s (more l (more r none))) n ≡ None
  none_below e = over_branches ∙ ap (λ (o : Option (Trees × ℕ)). given o (after_premises q s n)) e

  module _ (u v : Tree) (i j : ℕ) (left : elimination l n ≡ Some (u, i)) (right : elimination r n ≡ Some (v, j)) (within : i + j ≤ n) where
    rest : elimination (node q s (more l (more r none))) n ≡ counted (i + j) (elimination (node q s (more u (more v none))) (n - (i + j)))
    rest = over_branches ∙ ap (λ (o : Option (Trees × ℕ)). given o (after_premises q s n)) (both_reached n (elimination l n) (elimination r n) u v i j left right within)

    pub last_none : elimination (node q s (more u (more v none))) (n - (i + j)) ≡ None → elimination (node q s (more l (more r none))) n ≡ None
    last_none e = rest ∙ ap (counted (i + j)) e

    pub last_some : (w : Tree) (k : ℕ) → elimination (node q s (more u (more v none))) (n - (i + j)) ≡ Some (w, k)
        → elimination (node q s (more l (more r none))) n ≡ Some (w, i + j + k)
    last_some w k e = rest ∙ ap (counted (i + j)) e
