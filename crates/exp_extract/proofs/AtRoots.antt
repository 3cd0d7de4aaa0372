-- What the walk needs at the root of a tree, and what it comes to there.
use Rattle.std.proofs.Common.{◌≡◌, ℕ, ◌<◌, ◌≤◌, ◌+◌, List, [], ◌∷◌, length, get_or, Result, Ok, Err, OnOk, sym, ap, ◌∙◌, subst, arith}
use Rattle.std.specs.List.{All}
use Rattle.std.specs.FinMap as fin
use Rattle.fol.specs.declared.symbols.Var.{Var}
use Rattle.substitution.specs.Image.{IsFormedMap}
use Rattle.substitution.specs.Maps.{Map}
use Rattle.substitution.proofs.ClosedLaws.{closed_map_of}
use Rattle.lk_rules.specs.declared.sequent.Sequent.{Sequent}
use Rattle.lk_rules.specs.declared.rule.Rule.{Rule}
use Rattle.proof_trees.specs.Trees.{Tree, node, Trees, none, more, concl, rule_of, below}
use Rattle.boxcar.specs.Table.{Shelves}
use Rattle.proof_trees.specs.TreeLists.{nodes, nodes_all}
use Rattle.proof_graph.specs.References.{Reference, trees_of}
use Rattle.extraction_laws.specs.Extraction.{Context, inner_map, inner_context, inner_variable}
use Rattle.exp_extract.specs.declared.sides.Sides.{Sides}
use Rattle.exp_extract.specs.declared.inferences.Inner.{Inner}
use Rattle.exp_extract.specs.Marked.{Marked}
use Rattle.exp_extract.specs.MapList.{map_in}
use Rattle.exp_extract.specs.Sides.{context_in}
use Rattle.exp_extract.specs.Inferences.{IsMet}
use Rattle.exp_extract.specs.Walking.{IsPlainTree, IsReady, IsRight, IsPremise, IsInner, HasInner, IsAfter}
use Rattle.exp_extract.proofs.Walks.{right_at, first_premise, second_premise, inner_grown, met_inner, one_after, two_after}

-- the marks after a premise, whatever gives the addresses of the conclusion's formulas
abbrev pub AfterPremise : {E : Type 0} → Result (Unit {0}) E → List Map → List Map → Marked → Marked → Rule → Sequent → Sides → ℕ → Inner → ℕ → Tree → Type 0
AfterPremise res ns os n o r s x k inner i p =
    (c : Context) (v : Var) → IsInner ns n r s x k inner c v → OnOk res (IsAfter ns os n o p (inner_map r (map_in ns k) v) (inner_context r s (map_in ns k) c v i))

module _ (t : Tree) (r : Rule) (s : Sequent) (rule : r ≡ rule_of t) (end : s ≡ concl t) where
  by_root : (Q : Rule → Sequent → Type 0) → Q (rule_of t) (concl t) → Q r s
  by_root Q h = subst (λ (q : Rule). Q q s) (sym rule) (subst (λ (e : Sequent). Q (rule_of t) e) (sym end) h)

  pub root_right : IsPlainTree t → IsRight r s
  root_right h = by_root IsRight (right_at t h)

  pub root_first : (p : Tree) (ps : Trees) → more p ps ≡ below t → IsPlainTree t → IsPremise r s 0 p
  root_first p ps e h = by_root (λ q e. IsPremise q e 0 p) (first_premise t p ps e h)

  pub root_second : (p q : Tree) (ps : Trees) → more p (more q ps) ≡ below t → IsPlainTree t → IsPremise r s 1 q
  root_second p q ps e h = by_root (λ u e. IsPremise u e 1 q) (second_premise t p q ps e h)

  module _ (ms ns : List Map) (m n : Marked) (x : Sides) (k : ℕ) (inner : Inner) (ready : IsReady ms m t k x) (formed : IsFormedMap (fin.get (map_in ms k))) where
    abbrev c0 : Context
    c0 = context_in m.addresses (concl t) x

    abbrev v0 : Var
    v0 = inner_variable m.outside (rule_of t) (map_in ms k) c0 m.state

    own_inner : IsMet m n ms ns r s x k inner → IsInner ns n r s x k inner c0 v0
    own_inner = by_root (λ q e. IsMet m n ms ns q e x k inner → IsInner ns n q e x k inner c0 v0) (met_inner ms ns m n t x k inner ready (closed_map_of (fin.get (map_in ms k)) formed))

    pub root_inner : IsMet m n ms ns r s x k inner → HasInner ns n r s x k inner
    root_inner met = record { context = c0; variable = v0; is = own_inner met }

    pub root_one : {E : Type 0} (res : Result (Unit {0}) E) (p : Tree) (os : List Map) (o : Marked) → more p none ≡ below t → IsMet m n ms ns r s x k inner → AfterPremise res ns os n o r s x k inner 0 p → OnOk res (IsAfter ms os m o t (map_in ms k) c0)
    root_one (Ok u) p os o e met after =
        by_root (λ q w. IsMet m n ms ns q w x k inner → IsInner ns n q w x k inner c0 v0 → IsAfter ns os n o p (inner_map q (map_in ns k) v0) (inner_context q w (map_in ns k) c0 v0 0) → IsAfter ms os m o t (map_in ms k) c0)
        (λ h is last. one_after ms ns m n t x k inner ready h p os o e last) met (own_inner met) (after c0 v0 (own_inner met))
    root_one (Err u) p os o e met after = tt

    module _ (p : Tree) (os : List Map) (o : Marked) (met : IsMet m n ms ns r s x k inner) (first : IsAfter ns os n o p (inner_map r (map_in ns k) v0) (inner_context r s (map_in ns k) c0 v0 0)) where
      later_inner : IsInner os o r s x k inner c0 v0
      later_inner = inner_grown ns os n o r s x k inner c0 v0 first.grown first.kept (own_inner met)

      pub root_later : HasInner os o r s x k inner
      root_later = record { context = c0; variable = v0; is = later_inner }

      pub root_two : {E : Type 0} (res : Result (Unit {0}) E) (q : Tree) (us : List Map) (u : Marked) → more p (more q none) ≡ below t → AfterPremise res os us o u r s x k inner 1 q → OnOk res (IsAfter ms us m u t (map_in ms k) c0)
      root_two (Ok w) q us u e after =
          by_root (λ a b. IsMet m n ms ns a b x k inner → IsAfter ns os n o p (inner_map a (map_in ns k) v0) (inner_context a b (map_in ns k) c0 v0 0)
          → IsAfter os us o u q (inner_map a (map_in os k) v0) (inner_context a b (map_in os k) c0 v0 1) → IsAfter ms us m u t (map_in ms k) c0)
          (λ h one two. two_after ms ns m n t x k inner ready h p q os us o u e one two) met first (after c0 v0 later_inner)
      root_two (Err w) q us u e after = tt

    -- what the first premise comes to
    pub first_after : (p : Tree) (os : List Map) (o : Marked) → IsMet m n ms ns r s x k inner
        → ((c : Context) (v : Var) → IsInner ns n r s x k inner c v → IsAfter ns os n o p (inner_map r (map_in ns k) v) (inner_context r s (map_in ns k) c v 0))
        → IsAfter ns os n o p (inner_map r (map_in ns k) v0) (inner_context r s (map_in ns k) c0 v0 0)
    first_after p os o met after = after c0 v0 (own_inner met)

-- the references of one or two premises

pub one_tree : (ps : List Reference) (p : Reference) → length ps ≡ 1 → p ≡ get_or ps 0 p → more p.tree none ≡ trees_of ps
one_tree [] p e is = absurd (omega arith)
one_tree (x ∷ []) p e is = ap (λ (q : Reference). more q.tree none) is
one_tree (x ∷ y ∷ ps) p e is = absurd (omega arith)

pub two_trees : (ps : List Reference) (p q : Reference) → length ps ≡ 2 → p ≡ get_or ps 0 p → q ≡ get_or ps 1 q → more p.tree (more q.tree none) ≡ trees_of ps
two_trees [] p q e is also = absurd (omega arith)
two_trees (x ∷ []) p q e is also = absurd (omega arith)
two_trees (x ∷ y ∷ []) p q e is also = λ i. more (is i).tree (more (also i).tree none)
two_trees (x ∷ y ∷ z ∷ ps) p q e is also = absurd (omega arith)

pub home_at : (h : Shelves) (ps : List Reference) (p : Reference) (k : ℕ) → All (λ r. r.home ≡ h) ps → k < length ps → p ≡ get_or ps k p → p.home ≡ h
home_at h ps p k all l is = ap (λ (r : Reference). r.home) is ∙ all k p l

nodes_root : (t : Tree) → nodes t ≡ nodes_all (below t) + 1
nodes_root (node r s ts) = omega arith

-- a premise is smaller
pub first_smaller : (t p : Tree) (ps : Trees) → more p ps ≡ below t → nodes p + 1 ≤ nodes t
first_smaller t p ps e = let whole = nodes_root t in let parts : nodes p + nodes_all ps ≡ nodes_all (below t) = ap nodes_all e in omega arith

pub second_smaller : (t p q : Tree) (ps : Trees) → more p (more q ps) ≡ below t → nodes q + 1 ≤ nodes t
second_smaller t p q ps e = let whole = nodes_root t in let parts : nodes p + (nodes q + nodes_all ps) ≡ nodes_all (below t) = ap nodes_all e in omega arith
