-- The replacements in a tree are those in its premises, from left to right, and then those that begin at its root.
use Rattle.std.proofs.Common.{◌≡◌, ℕ, zero, suc, ◌+◌, ◌-◌, true, false, ◌&&◌, not, if◌then◌else◌, Option, Some, None, IfSome, refl, sym, ap, ◌∙◌, arith}
use Rattle.fol.specs.Syntax.{Formula}
use Rattle.lk_rules.specs.declared.sequent.Sequent.{Sequent}
use Rattle.lk_rules.specs.declared.rule.Rule.{Rule}
use Rattle.lk_rules.specs.declared.rule.Rule.TheVariants.{Cut}
use Rattle.lk_rules.proofs.Subsequents.{and_left, and_right}
use Rattle.proof_trees.specs.Trees.{Tree, node, Trees, none, more, is_cut, cut_free, cut_free_all}
use Rattle.cut_laws.specs.Contraction.{cut, con}
use Rattle.cut_laws.specs.Elimination.{next, next_in, one_more, elimination}
use Rattle.cut_laws.specs.Budgets.{given, counted, contracted, in_front, elimination_all, rooted}
use Rattle.cut_laws.proofs.Numbered.{minus_zero, minus_sum, counted_zero, counted_one, counted-counted}
use Rattle.cut_laws.proofs.Unrolled.{finished, stopped, stepped, by_replacements}
use Rattle.cut_laws.proofs.Places.{IsPlace, put_back, inside, joined, place_at}

-- what comes of an elimination has no cut

pub elimination_free : (t : Tree) (n : ℕ) → IfSome (elimination t n) (λ p. cut_free p.0 ≡ true)
elimination_free = by_replacements (λ t n u k. cut_free u ≡ true) (λ t n e. e) (λ t n u k e h. h)

in_front_free : (i : ℕ) (u : Tree) (o : Option (Trees × ℕ)) → cut_free u ≡ true → IfSome o (λ p. cut_free_all p.0 ≡ true)
    → IfSome (counted i (in_front u o)) (λ p. cut_free_all p.0 ≡ true)
in_front_free i u None e h = h
in_front_free i u (Some p) e h = λ j. e j && h j

rest_free : (ts : Trees) (n : ℕ) → ((m : ℕ) → IfSome (elimination_all ts m) (λ p. cut_free_all p.0 ≡ true))
    → (o : Option (Tree × ℕ)) → IfSome o (λ p. cut_free p.0 ≡ true)
    → IfSome (given o (λ u i. counted i (in_front u (elimination_all ts (n - i))))) (λ p. cut_free_all p.0 ≡ true)
rest_free ts n others None h = h
rest_free ts n others (Some p) h = in_front_free p.1 p.0 (elimination_all ts (n - p.1)) h (others (n - p.1))

elimination_all_free : (ts : Trees) (n : ℕ) → IfSome (elimination_all ts n) (λ p. cut_free_all p.0 ≡ true)
elimination_all_free none n = refl
elimination_all_free (more t ts) n = rest_free ts n (λ m. elimination_all_free ts m) (elimination t n) (elimination_free t n)

-- the premises of a node, where those in front have no cut

-- what is made of the node over front and ts once ts have become us
abbrev put_below : Rule → Sequent → Trees → ℕ → Trees → ℕ → Option (Tree × ℕ)
put_below q s front n us k = counted k (elimination (node q s (joined front us)) (n - k))

pub joined_first : (front : Trees) (u : Tree) (ts : Trees) → joined front (more u ts) ≡ joined (joined front (more u none)) ts
joined_first none u ts = refl
joined_first (more t front) u ts = ap (more t) (joined_first front u ts)

pub joined_free : (front : Trees) (u : Tree) → cut_free_all front ≡ true → cut_free u ≡ true → cut_free_all (joined front (more u none)) ≡ true
joined_free none u clean e = ap (λ b. b && true) e
joined_free (more t front) u clean e =
    λ i. and_left (cut_free t) (cut_free_all front) clean i && joined_free front u (and_right (cut_free t) (cut_free_all front) clean) e i

module _ (q : Rule) (s : Sequent) (front : Trees) (n : ℕ) where
  regrouped : (i : ℕ) (u : Tree) (o : Option (Trees × ℕ)) → counted i (given o (put_below q s (joined front (more u none)) (n - i))) ≡ given (counted i (in_front u o)) (put_below q s front n)
  regrouped i u None = refl
  regrouped i u (Some p) =
      counted-counted i p.1 (elimination (node q s (joined (joined front (more u none)) p.0)) (n - i - p.1))
      ∙ (λ j. counted (i + p.1) (elimination (node q s (sym (joined_first front u p.0) j)) (minus_sum n i p.1 j)))

  first_done : (ts : Trees) → cut_free_all front ≡ true
      → ((u : Tree) (m : ℕ) → cut_free_all (joined front (more u none)) ≡ true → elimination (node q s (joined (joined front (more u none)) ts)) m ≡ given (elimination_all ts m) (put_below q s (joined front (more u none)) m))
      → (o : Option (Tree × ℕ)) → IfSome o (λ p. cut_free p.0 ≡ true)
      → given o (put_back (λ u. node q s (joined front (more u ts))) n) ≡ given (given o (λ u i. counted i (in_front u (elimination_all ts (n - i))))) (put_below q s front n)
  first_done ts clean others None h = refl
  first_done ts clean others (Some p) h =
      ap (λ us. counted p.1 (elimination (node q s us) (n - p.1))) (joined_first front p.0 ts)
      ∙ ap (counted p.1) (others p.0 (n - p.1) (joined_free front p.0 clean h))
      ∙ regrouped p.1 p.0 (elimination_all ts (n - p.1))

pub below_front : (q : Rule) (s : Sequent) (front ts : Trees) (n : ℕ) → cut_free_all front ≡ true
    → elimination (node q s (joined front ts)) n ≡ given (elimination_all ts n) (put_below q s front n)
below_front q s front none n clean =
    sym (counted_zero (elimination (node q s (joined front none)) (n - 0)) ∙ ap (elimination (node q s (joined front none))) (minus_zero n))
below_front q s front (more t ts) n clean =
    inside (λ u. node q s (joined front (more u ts))) (place_at q s front ts clean) n t
    ∙ first_done q s front n ts clean (λ u m e. below_front q s (joined front (more u none)) ts m e) (elimination t n) (elimination_free t n)

-- a rule other than cut

root_done : (q : Rule) (s : Sequent) (n : ℕ) → is_cut q ≡ false → (o : Option (Trees × ℕ)) → IfSome o (λ p. cut_free_all p.0 ≡ true) → given o (put_below q s none n) ≡ rooted q s o
root_done q s n other None h = refl
root_done q s n other (Some p) h =
    ap (counted p.1) (finished (node q s p.0) (n - p.1) (λ i. not (other i) && h i)) ∙ ap (λ k. Some (node q s p.0, k)) (omega arith)

pub big_other : (q : Rule) (s : Sequent) (ts : Trees) (n : ℕ) → is_cut q ≡ false → elimination (node q s ts) n ≡ rooted q s (elimination_all ts n)
big_other q s ts n other = below_front q s none ts n refl ∙ root_done q s n other (elimination_all ts n) (elimination_all_free ts n)

-- a cut

pub next_cut : (s : Sequent) (a : Formula) (u v : Tree) → cut_free u ≡ true → cut_free v ≡ true → next (cut s a u v) ≡ con s a u v
next_cut s a u v e f = λ i. if (e i && (f i && true)) then con s a u v else node (Cut a) s (next_in (more u (more v none)))

root_cut : (s : Sequent) (a : Formula) (u v : Tree) (n : ℕ) → cut_free u ≡ true → cut_free v ≡ true → elimination (cut s a u v) n ≡ contracted s a u v n
root_cut s a u v zero e f = stopped (cut s a u v) refl
root_cut s a u v (suc n) e f =
    stepped (cut s a u v) n refl ∙ ap (λ t. one_more (elimination t n)) (next_cut s a u v e f) ∙ counted_one (elimination (con s a u v) n)

pub left_place : (s : Sequent) (a : Formula) (r : Tree) → IsPlace (λ l. cut s a l r)
left_place s a r = place_at (Cut a) s none (more r none) refl

pub right_place : (s : Sequent) (a : Formula) (u : Tree) → cut_free u ≡ true → IsPlace (λ r. cut s a u r)
right_place s a u e = place_at (Cut a) s (more u none) none (ap (λ b. b && true) e)

right_done : (s : Sequent) (a : Formula) (u : Tree) (n : ℕ) → cut_free u ≡ true → (o : Option (Tree × ℕ)) → IfSome o (λ p. cut_free p.0 ≡ true)
    → given o (put_back (λ r. cut s a u r) n) ≡ given o (λ v j. counted j (contracted s a u v (n - j)))
right_done s a u n e None h = refl
right_done s a u n e (Some p) h = ap (counted p.1) (root_cut s a u p.0 (n - p.1) e h)

left_done : (s : Sequent) (a : Formula) (r : Tree) (n : ℕ) (o : Option (Tree × ℕ)) → IfSome o (λ p. cut_free p.0 ≡ true)
    → given o (put_back (λ l. cut s a l r) n) ≡ given o (λ u i. counted i (given (elimination r (n - i)) (λ v j. counted j (contracted s a u v (n - i - j)))))
left_done s a r n None h = refl
left_done s a r n (Some p) h =
    ap (counted p.1)
    (inside (λ v. cut s a p.0 v) (right_place s a p.0 h) (n - p.1) r ∙ right_done s a p.0 (n - p.1) h (elimination r (n - p.1)) (elimination_free r (n - p.1)))

pub big_cut : (s : Sequent) (a : Formula) (l r : Tree) (n : ℕ)
    → elimination (cut s a l r) n ≡ given (elimination l n) (λ u i. counted i (given (elimination r (n - i)) (λ v j. counted j (contracted s a u v (n - i - j)))))
big_cut s a l r n = inside (λ u. cut s a u r) (left_place s a r) n l ∙ left_done s a r n (elimination l n) (elimination_free l n)
