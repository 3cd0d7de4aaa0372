-- Each valid tree loses its cuts after some number of replacements: by induction on the grade of the cut formula, and within that on the
-- sizes of the premises.
use Rattle.std.proofs.Common.{◌≡◌, ℕ, zero, suc, ◌+◌, ◌-◌, ◌<◌, ◌≤◌, true, false, ◌&&◌, not, refl, ap, ◌∙◌, arith}
use Rattle.std.specs.List.{list_any}
use Rattle.std.specs.Ordering.{eq_by_cmp}
use Rattle.fol.specs.Syntax.{Formula}
use Rattle.fol.specs.Order.{formula_cmp}
use Rattle.finite.specs.Finite as set
use Rattle.free_variables.specs.Grade.{grade_of}
use Rattle.lk_rules.specs.declared.sequent.Sequent.{Sequent}
use Rattle.lk_rules.specs.declared.sequent.Side.{Side}
use Rattle.lk_rules.specs.declared.sequent.Side.TheVariants.{Left, Right}
use Rattle.lk_rules.specs.declared.rule.Rule.{Rule}
use Rattle.lk_rules.specs.declared.rule.Rule.TheVariants.{Cut, Weak}
use Rattle.lk_rules.specs.Sequents.{side_of, adds_to}
use Rattle.lk_rules.specs.Rules.{needs}
use Rattle.lk_rules.proofs.Subsequents.{and_left}
use Rattle.proof_trees.specs.Trees.{Tree, node, Trees, none, more, concl, rule_of, below, count, IsValid, AllValid, is_cut, cut_free, cut_free_all, size}
use Rattle.proof_trees.proofs.Booleans.{or_first}
use Rattle.cut_laws.specs.declared.case.Case.{Case}
use Rattle.cut_laws.specs.declared.case.Case.TheVariants.{Weaken, Leaf, Pass, Split, Reduce}
use Rattle.cut_laws.specs.Contraction.{introduces, has_above, cut, opposite, premise_on, cut_on, above_on, by_parts, case_of, by_case, con}
use Rattle.cut_laws.specs.Elimination.{Reaches}
use Rattle.cut_laws.specs.LowerCuts.{HasCutsBelow, HaveCutsBelow}
use Rattle.cut_laws.proofs.Sides.{clash, tied}
use Rattle.cut_laws.proofs.Cuts.{row_of, valid_cuts}
use Rattle.cut_laws.proofs.Introduced.{IsIntroduction, introduced}
use Rattle.cut_laws.proofs.ValidCuts.{out_of_conclusion, cut_valid_with}
use Rattle.cut_laws.proofs.Cases.{each, Known, known_case, introductions}
use Rattle.cut_laws.proofs.Contracted.{con_valid}
use Rattle.cut_laws.proofs.LowerGrades.{cut_free_parts_below}
use Rattle.cut_laws.proofs.BigSteps.{left_place, right_place}
use Rattle.cut_laws.proofs.Falling.{size_positive}
use Rattle.cut_laws.proofs.Ends.{Ends, reached, ended_free, ended_end, ended_valid, ends_itself, inside_ends, root_ends, AllEnd, node_ends}
use Rattle.cut_laws.proofs.Passed.{IsFinal, pass, split_cut}

-- a valid tree ends where each of its cuts would do so over premises without cuts. P says what is known of the trees, All of several
module _ (P : Tree → Type 0) (All : Trees → Type 0) (above : (q : Rule) (s : Sequent) (ts : Trees) → P (node q s ts) → All ts)
    (first : (t : Tree) (ts : Trees) → All (more t ts) → P t) (rest : (t : Tree) (ts : Trees) → All (more t ts) → All ts)
    (ends : (s : Sequent) (a : Formula) (l r l' r' : Tree) → P (cut s a l r) → cut_free l' ≡ true → cut_free r' ≡ true → IsValid (cut s a l' r') → Ends (cut s a l' r')) where
  cut_over : (s : Sequent) (a : Formula) (l r : Tree) → P (cut s a l r) → IsValid (cut s a l r) → AllEnd (more l (more r none)) → Ends (cut s a l r)
  cut_over s a l r p valid x =
      let left : Ends l = x.0 in
      let right : Ends r = x.1.0 in
      let whole : IsValid (cut s a left.tree r) = cut_valid_with Right s a l r left.tree valid (ended_end l left) (ended_valid l left valid.1.0) in
      inside_ends (λ t. cut s a t r) (left_place s a r) l left
      (inside_ends (λ t. cut s a left.tree t) (right_place s a left.tree (ended_free l left)) r right
      (ends s a l r left.tree right.tree p (ended_free l left) (ended_free r right)
      (cut_valid_with Left s a r left.tree right.tree whole (ended_end r right) (ended_valid r right valid.1.1.0))))

  node_over : (q : Rule) (s : Sequent) (ts : Trees) → count ts ≡ needs q → P (node q s ts) → IsValid (node q s ts) → AllEnd ts → Ends (node q s ts)
  node_over (Cut a) s none n p valid x = cc
  node_over (Cut a) s (more l none) n p valid x = cc
  node_over (Cut a) s (more l (more r none)) n p valid x = cut_over s a l r p valid x
  node_over (Cut a) s (more l (more r (more t ts))) n p valid x = cc
  node_over q s ts n p valid x = node_ends q s ts refl x

  mutual
    tree_ends : (t : Tree) → P t → IsValid t → Ends t
    tree_ends (node q s ts) p valid = node_over q s ts (row_of (node q s ts) valid).premises p valid (trees_end ts (above q s ts p) valid.1)

    trees_end : (ts : Trees) → All ts → AllValid ts → AllEnd ts
    trees_end none p valid = tt
    trees_end (more t ts) p valid = (tree_ends t (first t ts p) valid.0, trees_end ts (rest t ts p) valid.1)

-- each valid cut on a formula of lower grade than g ends, where its premises have no cut
abbrev LowerEnd : ℕ → Type 0
LowerEnd g = (s : Sequent) (a : Formula) (l r : Tree) → grade_of a < g → cut_free l ≡ true → cut_free r ≡ true → IsValid (cut s a l r) → Ends (cut s a l r)

-- so does each valid tree with such cuts alone
lower_trees_end : (g : ℕ) → LowerEnd g → (t : Tree) → HasCutsBelow g t → IsValid t → Ends t
lower_trees_end g lower = tree_ends (HasCutsBelow g) (HaveCutsBelow g) (λ q s ts p. p.1) (λ t ts p. p.0) (λ t ts p. p.1) (λ s a l r l' r' p. lower s a l' r' p.0)

-- a leaf has no cut
leaf_free : (s : Sequent) (t : Tree) → cut_free t ≡ true → cut_free (node (rule_of t) s none) ≡ true
leaf_free s (node q e ts) h = ap (λ b. b && true) (and_left (not (is_cut q)) (cut_free_all ts) h)

-- a cut over premises without cuts ends if it does where it goes above a rule, since cuts on formulas of lower grade do
module _ (s : Sequent) (a : Formula) (l r : Tree) where
  -- where a premise doesn't introduce the formula
  abbrev Passes : Side → Type 0
  Passes side =
      let t : Tree = premise_on side l r in
      let above : Tree = above_on side s s a t (premise_on (opposite side) l r) in
      introduces side a t ≡ false → IsValid above → Ends above

  -- where both do
  abbrev Splits : Side → Type 0
  Splits side =
      let t : Tree = premise_on side l r in
      let u : Tree = premise_on (opposite side) l r in
      let whole : Tree = cut_on side s a (above_on side (adds_to s side a) s a t u) u in
      ((other : Side) → IsIntroduction other (rule_of (premise_on other l r)) a) → set.has (side_of s side) a ≡ false → has_above side a (below t) ≡ true
      → (side ≡ Left → has_above Right a (below l) ≡ false) → IsValid whole → Ends whole

  module _ (valid : IsValid (cut s a l r)) (lower : LowerEnd (grade_of a)) (free : (side : Side) → cut_free (premise_on side l r) ≡ true) (passes : (side : Side) → Passes side)
      (splits : (side : Side) → Splits side) where
    by_known : (c : Case) → Known s a l r c → IsValid (by_case c s a l r) → Ends (by_case c s a l r)
    by_known (Weaken side) k = λ v. ends_itself (node Weak s (more (premise_on side l r) none)) (ap (λ b. b && true) (free side))
    by_known (Leaf side) k = λ v. ends_itself (node (rule_of (premise_on side l r)) s none) (leaf_free s (premise_on side l r) (free side))
    by_known (Pass side) k = passes side k
    by_known (Split side) k =
        splits side (introductions s a l r valid k.0)
        (out_of_conclusion side s a (premise_on side l r) (premise_on (opposite side) l r) (valid_cuts s a l r valid side) (k.0.outside side)) k.1 k.2
    by_known Reduce k = lower_trees_end (grade_of a) lower (by_parts s a l r) (cut_free_parts_below s a l r valid k.0 (free Right) (free Left))

    by_cases : Ends (cut s a l r)
    unfolding con
    by_cases = root_ends s a l r (free Right) (free Left) (by_known (case_of s a l r) (known_case s a l r) (con_valid s a l r valid))

module _ (a : Formula) (lower : LowerEnd (grade_of a)) where
  -- where the last rule introduces the formula alone, two cases can't be
  not_passed : {P : Type 0} (side : Side) (t : Tree) → IsFinal side a t → introduces side a t ≡ false → P
  not_passed side t final e = clash (introduces side a t) (ap (list_any (eq_by_cmp formula_cmp a)) (introduced side (rule_of t) a final.intro) ∙ or_first _ _ (tied a a refl)) e

  not_split : {P : Type 0} (side : Side) (t : Tree) → IsFinal side a t → has_above side a (below t) ≡ true → P
  not_split side t final e = clash (has_above side a (below t)) e final.alone

  -- both premises introduce the formula alone
  ends_final : (s : Sequent) (l r : Tree) → IsFinal Right a l → IsFinal Left a r → cut_free l ≡ true → cut_free r ≡ true → IsValid (cut s a l r) → Ends (cut s a l r)
  ends_final s l r final final' free free' valid =
      let finals : (side : Side) → IsFinal side a (premise_on side l r) = each _ final final' in
      by_cases s a l r valid lower (each _ free free')
      (λ side. not_passed side (premise_on side l r) (finals side))
      (λ side _ _ e _. not_split side (premise_on side l r) (finals side) e)

  -- the left premise does
  ends_left : (h : ℕ) (s : Sequent) (l r : Tree) → size r ≤ h → IsFinal Right a l → cut_free l ≡ true → cut_free r ≡ true → IsValid (cut s a l r) → Ends (cut s a l r)
  ends_left zero s l r less final free free' valid = let positive : 0 < size r = size_positive r in absurd (omega arith)
  ends_left (suc h) s l r less final free free' valid =
      let rights : (end : Sequent) (t : Tree) → size t ≤ h → cut_free t ≡ true → IsValid (cut end a l t) → Ends (cut end a l t) =
      λ end t smaller clean good. ends_left h end l t smaller final free clean good in
      by_cases s a l r valid lower (each _ free free')
      (each _ (not_passed Right l final) (λ _. pass Left a l h rights s s r less free'))
      (each _ (λ _ _ e _. not_split Right l final e)
      (λ intro out _ _. split_cut Left a l h rights s r less free' free (intro Left) out (λ u final' clean. ends_final s l u final final' free clean)))

  ends_any : (h : ℕ) (s : Sequent) (l r : Tree) → size l + size r ≤ h → cut_free l ≡ true → cut_free r ≡ true → IsValid (cut s a l r) → Ends (cut s a l r)
  ends_any zero s l r less free free' valid = let positive : 0 < size r = size_positive r in absurd (omega arith)
  ends_any (suc h) s l r less free free' valid =
      let left_positive : 0 < size l = size_positive l in
      let right_positive : 0 < size r = size_positive r in
      let lefts : (end : Sequent) (t : Tree) → size t ≤ size l - 1 → cut_free t ≡ true → IsValid (cut end a t r) → Ends (cut end a t r) =
      λ end t smaller clean good. ends_any h end t r (omega arith) clean free' good in
      let rights : (end : Sequent) (t : Tree) → size t ≤ size r - 1 → cut_free t ≡ true → IsValid (cut end a l t) → Ends (cut end a l t) =
      λ end t smaller clean good. ends_any h end l t (omega arith) free clean good in
      by_cases s a l r valid lower (each _ free free')
      (each _ (λ _. pass Right a r (size l - 1) lefts s s l (omega arith) free) (λ _. pass Left a l (size r - 1) rights s s r (omega arith) free'))
      (each _ (λ intro out _ _. split_cut Right a r (size l - 1) lefts s l (omega arith) free free' (intro Right) out (λ u final clean. ends_left (size r) s u r (omega arith) final clean free'))
      (λ intro out _ none. split_cut Left a l (size r - 1) rights s r (omega arith) free' free (intro Left) out (λ u final clean. ends_final s l u (record { intro = intro Right; alone = none refl }) final free clean)))

cuts_end : (g : ℕ) → LowerEnd g
cuts_end zero s a l r small free free' valid = absurd (omega arith)
cuts_end (suc g) s a l r small free free' valid =
    ends_any a (λ s b l r smaller. cuts_end g s b l r (omega arith)) (size l + size r) s l r (omega arith) free free' valid

pub all_end : (t : Tree) → IsValid t → (k : ℕ) × (u : Tree) × Reaches t k u × IsValid u × (concl u ≡ concl t)
all_end t valid =
    let x : Ends t =
    tree_ends (λ _. Unit {0}) (λ _. Unit {0}) (λ q s ts p. tt) (λ t ts p. tt) (λ t ts p. tt) (λ s a l r l' r' p. cuts_end (suc (grade_of a)) s a l' r' (omega arith)) t tt valid in
    (x.steps, x.tree, reached t x, ended_valid t x valid, ended_end t x)
