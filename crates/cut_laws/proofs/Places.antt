-- Places in a tree that the first cut goes through: what stands before them has no cut. The elimination of the whole tree is that of the
-- part there first.
use Rattle.std.proofs.Common.{◌≡◌, ℕ, zero, suc, ◌-◌, true, false, ◌&&◌, not, if◌then◌else◌, Option, sym, ap, ◌∙◌}
use Rattle.std.proofs.Math.Bool.{and-false}
use Rattle.lk_rules.specs.declared.sequent.Sequent.{Sequent}
use Rattle.lk_rules.specs.declared.rule.Rule.{Rule}
use Rattle.lk_rules.proofs.Subsequents.{and_left, and_right}
use Rattle.proof_trees.specs.Trees.{Tree, node, Trees, none, more, is_cut, cut_free, cut_free_all}
use Rattle.cut_laws.specs.Elimination.{contracted_root, next, next_in, one_more, elimination}
use Rattle.cut_laws.specs.Budgets.{given, counted}
use Rattle.cut_laws.proofs.Numbered.{minus_zero, counted_zero, one_more-given}
use Rattle.cut_laws.proofs.Unrolled.{split, finished, stopped, stepped}

-- c puts a tree at such a place
pub record IsPlace (c : Tree → Tree) : Type 0 where
  pub dirty : (t : Tree) → cut_free t ≡ false → cut_free (c t) ≡ false
  pub step : (t : Tree) → cut_free t ≡ false → next (c t) ≡ c (next t)

-- what is made of the tree c t once t has become u
abbrev pub put_back : (Tree → Tree) → ℕ → Tree → ℕ → Option (Tree × ℕ)
put_back c n u i = counted i (elimination (c u) (n - i))

inside_finished : (c : Tree → Tree) (n : ℕ) (t : Tree) → cut_free t ≡ true → elimination (c t) n ≡ given (elimination t n) (put_back c n)
inside_finished c n t e =
    sym (ap (λ o. given o (put_back c n)) (finished t n e) ∙ counted_zero (elimination (c t) (n - 0)) ∙ ap (elimination (c t)) (minus_zero n))

pub inside : (c : Tree → Tree) → IsPlace c → (n : ℕ) (t : Tree) → elimination (c t) n ≡ given (elimination t n) (put_back c n)
inside c place zero t = split (cut_free t)
    (inside_finished c zero t)
    (λ e. stopped (c t) (place.dirty t e) ∙ sym (ap (λ o. given o (put_back c zero)) (stopped t e)))
inside c place (suc n) t = split (cut_free t)
    (inside_finished c (suc n) t)
    (λ e. stepped (c t) n (place.dirty t e)
    ∙ ap (λ u. one_more (elimination u n)) (place.step t e)
    ∙ ap one_more (inside c place n (next t))
    ∙ one_more-given (λ u m. elimination (c u) m) n (elimination (next t) n)
    ∙ sym (ap (λ o. given o (put_back c (suc n))) (stepped t n e)))

-- places below a node

-- the trees of one list and then those of another
abbrev pub joined : Trees → Trees → Trees
joined none ts = ts
joined (more u us) ts = more u (joined us ts)

unfree_all : (front : Trees) (t : Tree) (ts : Trees) → cut_free t ≡ false → cut_free_all (joined front (more t ts)) ≡ false
unfree_all none t ts e = ap (λ b. b && cut_free_all ts) e
unfree_all (more u us) t ts e = ap (λ b. cut_free u && b) (unfree_all us t ts e) ∙ and-false (cut_free u)

next_in_joined : (front : Trees) (t : Tree) (ts : Trees) → cut_free_all front ≡ true → cut_free t ≡ false
    → next_in (joined front (more t ts)) ≡ joined front (more (next t) ts)
next_in_joined none t ts clean e = ap (λ b. if b then more t (next_in ts) else more (next t) ts) e
next_in_joined (more u us) t ts clean e =
    ap (λ b. if b then more u (next_in (joined us (more t ts))) else more (next u) (joined us (more t ts))) (and_left (cut_free u) (cut_free_all us) clean)
    ∙ ap (more u) (next_in_joined us t ts (and_right (cut_free u) (cut_free_all us) clean) e)

pub place_at : (q : Rule) (s : Sequent) (front ts : Trees) → cut_free_all front ≡ true → IsPlace (λ t. node q s (joined front (more t ts)))
place_at q s front ts clean = record {
  dirty = λ t e. ap (λ b. not (is_cut q) && b) (unfree_all front t ts e) ∙ and-false (not (is_cut q));
  step = λ t e.
      ap (λ b. if b then contracted_root q s (joined front (more t ts)) else node q s (next_in (joined front (more t ts)))) (unfree_all front t ts e)
      ∙ ap (node q s) (next_in_joined front t ts clean e);
}
