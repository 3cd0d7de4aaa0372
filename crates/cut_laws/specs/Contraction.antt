-- Contraction of one cut, after Gentzen (1935): a cut whose premises have no cut gives way to cuts that stand higher or are on smaller
-- formulas, or to none.
--     introduces, has_above      where the cut formula comes from
--     moved_rule, moved_trees      a rule under a new conclusion, in which its eigenvariable may be free
--     cut_on, cuts_on, above_on      the cut above the last rule of a premise, by the side on which that premise has the cut formula
--     case_of      which case it is
--     by_parts      cuts on the parts of a formula, or on what it unfolds to
--     by_case      what takes the place of the cut in each
--     con      the contraction
use Rattle.std.specs.Prelude.{ℕ, suc, Bool, false, if◌then◌else◌, ◌&&◌, ◌||◌, eqb, not as negated, Option, Some, None}
use Rattle.std.specs.List.{list_any}
use Rattle.std.specs.Ordering.{eq_by_cmp}
use Rattle.fol.specs.declared.symbols.Var.{Var}
use Rattle.fol.specs.Syntax.{Formula, free, atom, not, and, or, imp, all, ex}
use Rattle.fol.specs.Order.{formula_cmp}
use Rattle.finite.specs.Finite as set
use Rattle.substitution.specs.Instance.{inst}
use Rattle.substitution.specs.Maps.{only}
use Rattle.substitution.specs.Unfolding.{unf}
use Rattle.lk_rules.specs.declared.sequent.Sequent.{Sequent}
use Rattle.lk_rules.specs.declared.sequent.Side.{Side}
use Rattle.lk_rules.specs.declared.sequent.Side.TheVariants.{Left, Right}
use Rattle.lk_rules.specs.declared.rule.Rule.{Rule}
use Rattle.lk_rules.specs.declared.rule.Rule.TheVariants.{AllL, AllR, ExL, ExR, DefL, DefR, Cut, Weak}
use Rattle.lk_rules.specs.RuleOrder.{map_rule}
use Rattle.lk_rules.specs.Sequents.{side_of, adds_to, extended, is_free_in_sequent, is_subsequent}
use Rattle.lk_rules.specs.Rules.{needs, main, aux}
use Rattle.proof_trees.specs.Trees.{Tree, node, Trees, none, more, concl, rule_of, below}
use Rattle.proof_trees.specs.Substitution.{renamed, sub, sub_all}
use Rattle.cut_laws.specs.declared.case.Case.{Case}
use Rattle.cut_laws.specs.declared.case.Case.TheVariants.{Weaken, Leaf, Pass, Split, Reduce}

-- whether a is the main formula of the last rule, on that side
abbrev pub introduces : Side → Formula → Tree → Bool
introduces side a t = list_any (eq_by_cmp formula_cmp a) (main (rule_of t) side)

-- whether some of the trees has a in its conclusion, on that side
abbrev pub has_above : Side → Formula → Trees → Bool
has_above side a none = false
has_above side a (more t ts) = set.has (side_of (concl t) side) a || has_above side a ts

-- whether the last rule has no premise
abbrev pub is_leaf : Tree → Bool
is_leaf t = eqb (needs (rule_of t)) 0

-- a rule under a new conclusion: an eigenvariable that is free there becomes a fresh one
abbrev pub moved_rule : Sequent → Rule → Rule
moved_rule s = map_rule (λ f. f) (λ t. t) (λ y. renamed y s)

-- the trees above an eigenvariable y under a new conclusion
abbrev pub renamed_trees : Sequent → Var → Trees → Trees
renamed_trees s y ts = if is_free_in_sequent y s then sub_all ts (only y (free (renamed y s))) else ts

-- the trees above a rule under a new conclusion
abbrev pub moved_trees : Sequent → Rule → Trees → Trees
moved_trees s (AllR a y) ts = renamed_trees s y ts
moved_trees s (ExL a y) ts = renamed_trees s y ts
moved_trees s r ts = ts

-- the sequent with the auxiliary formulas of a premise
unfoldable pub with_aux : Sequent → Rule → ℕ → Sequent
with_aux s r i = extended s (aux r i)

abbrev pub cut : Sequent → Formula → Tree → Tree → Tree
cut s a l r = node (Cut a) s (more l (more r none))

abbrev pub opposite : Side → Side
opposite Left = Right
opposite Right = Left

-- of the left and the right premise of a cut the one that has the cut formula on that side
abbrev pub premise_on : Side → Tree → Tree → Tree
premise_on Left l r = r
premise_on Right l r = l

-- the cut over t, which has the cut formula on that side, and u
abbrev pub cut_on : Side → Sequent → Formula → Tree → Tree → Tree
cut_on side s a t u = cut s a (premise_on side t u) (premise_on (opposite side) t u)

-- the premises of rule q at s, from the i-th on, each with its cut on a against u
abbrev pub cuts_on : Side → Sequent → Formula → Rule → ℕ → Trees → Tree → Trees
cuts_on side s a q i none u = none
cuts_on side s a q i (more t ts) u = more (cut_on side (with_aux s q i) a t u) (cuts_on side s a q (suc i) ts u)

-- the last rule of t at the conclusion `end`, above it the cuts at s against u; of weakening there is one, at s
abbrev pub above_on : Side → Sequent → Sequent → Formula → Tree → Tree → Tree
above_on side end s a t u = node (moved_rule end (rule_of t)) end (cuts_on side s a (moved_rule end (rule_of t)) 0 (moved_trees end (rule_of t) (below t)) u)

-- the case of the premise that passes the test, of the left one where both do, and the other case where neither does
abbrev pub pick : (Side → Bool) → (Side → Case) → Case → Case
pick test case other = if test Right then case Right else if test Left then case Left else other

-- the case of a cut on a with the conclusion s over l and r: the first that fits
unfoldable pub case_of : Sequent → Formula → Tree → Tree → Case
case_of s a l r =
    pick (λ side. is_subsequent (concl (premise_on side l r)) s) Weaken
    (pick (λ side. is_leaf (premise_on side l r) && negated (introduces side a (premise_on side l r))) Leaf
    (pick (λ side. negated (introduces side a (premise_on side l r))) Pass
    (pick (λ side. has_above side a (below (premise_on side l r))) Split Reduce)))

-- the cut on the unfolding of the formula over p and p'. Where it has none, the cut over l and r stays
abbrev pub cut_unfolded : Sequent → Formula → Tree → Tree → Option Formula → Tree → Tree → Tree
cut_unfolded s a l r None p p' = cut s a l r
cut_unfolded s a l r (Some b) p p' = cut s b p p'

-- cuts on the parts of the formula, where both premises introduce it. Where they don't fit together, the cut stays
abbrev pub by_parts : Sequent → Formula → Tree → Tree → Tree
by_parts s (not b) (node q e (more p none)) (node q' e' (more p' none)) = cut s b p' p
by_parts s (and b c) (node q e (more p (more p' none))) (node q' e' (more p'' none)) = cut s b p (cut (adds_to s Left b) c p' p'')
by_parts s (or b c) (node q e (more p none)) (node q' e' (more p' (more p'' none))) = cut s c (cut (adds_to s Right c) b p p') p''
by_parts s (imp b c) (node q e (more p none)) (node q' e' (more p' (more p'' none))) = cut s c (cut (adds_to s Right c) b p' p) p''
by_parts s (all b) (node (AllR f y) e (more p none)) (node (AllL g t) e' (more p' none)) = cut s (inst b t) (sub p (only y t)) p'
by_parts s (ex b) (node (ExR f t) e (more p none)) (node (ExL g y) e' (more p' none)) = cut s (inst b t) p (sub p' (only y t))
by_parts s (atom b ts) (node (DefR f) e (more p none)) (node (DefL g) e' (more p' none)) =
    cut_unfolded s (atom b ts) (node (DefR f) e (more p none)) (node (DefL g) e' (more p' none)) (unf (atom b ts)) p p'
by_parts s a l r = cut s a l r

-- what takes the place of the cut
abbrev pub by_case : Case → Sequent → Formula → Tree → Tree → Tree
by_case (Weaken side) s a l r = node Weak s (more (premise_on side l r) none)
by_case (Leaf side) s a l r = node (rule_of (premise_on side l r)) s none
by_case (Pass side) s a l r = above_on side s s a (premise_on side l r) (premise_on (opposite side) l r)
by_case (Split side) s a l r =
    cut_on side s a (above_on side (adds_to s side a) s a (premise_on side l r) (premise_on (opposite side) l r)) (premise_on (opposite side) l r)
by_case Reduce s a l r = by_parts s a l r

-- the contraction of the cut on a with the conclusion s over l and r
unfoldable pub con : Sequent → Formula → Tree → Tree → Tree
con s a l r = by_case (case_of s a l r) s a l r
