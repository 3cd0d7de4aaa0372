-- The premises of a valid inference, and valid cuts, weakenings and leaves.
use Rattle.std.proofs.Common.{◌≡◌, ℕ, suc, true, false, List, [], ◌∷◌, IfSome, refl, sym, ◌∙◌}
use Rattle.std.specs.List.{list_all, list_any}
use Rattle.std.specs.Ordering.{eq_by_cmp}
use borrow.Author.Tests.{eqb-true}
use Rattle.fol.specs.Syntax.{Formula}
use Rattle.fol.specs.Order.{formula_cmp}
use Rattle.fol.specs.Formed.{IsFormed}
use Rattle.finite.specs.Finite as set
use Rattle.lk_rules.specs.declared.sequent.Sequent.{Sequent}
use Rattle.lk_rules.specs.declared.sequent.Side.{Side}
use Rattle.lk_rules.specs.declared.sequent.Side.TheVariants.{Left, Right}
use Rattle.lk_rules.specs.declared.rule.Rule.{Rule}
use Rattle.lk_rules.specs.declared.rule.Rule.TheVariants.{Ax, AllR, ExL, Cut, Weak}
use Rattle.lk_rules.specs.Formulas.{FormulaSet}
use Rattle.lk_rules.specs.Sequents.{side_of, adds_to, IsSubsequent}
use Rattle.lk_rules.specs.Rules.{IsFormedRule, needs, has_shape, main, aux, eigen_free, main_stands, IsWithin, Row}
use Rattle.lk_rules.proofs.Rows.{main_of, stands_of}
use Rattle.lk_rules.proofs.Subsequents.{and_left, and_right, and_both}
use Rattle.proof_trees.specs.Trees.{Tree, node, Trees, none, more, concl, rule_of, below, count, first_end, second_end, IsValid, AllValid}
use Rattle.proof_trees.proofs.Booleans.{or_first, or_second}
use Rattle.proof_trees.proofs.Verdicts.{row_of_verdict, verdict_of_row}
use Rattle.cut_laws.specs.Contraction.{introduces, has_above, is_leaf, cut, opposite, premise_on, cut_on}
use Rattle.cut_laws.proofs.Sides.{tied, clash, neither_first, neither_second, on_side, old_or_new, extended_without}

pub row_of : (t : Tree) → IsValid t → Row (rule_of t) (concl t) (count (below t)) (first_end (below t)) (second_end (below t))
row_of (node q e ts) h = row_of_verdict q e (count ts) (first_end ts) (second_end ts) h.0.right

-- the conclusions of the trees, from the i-th on, follow the rule
abbrev pub AllWithin : Rule → Sequent → ℕ → Trees → Type 0
AllWithin q e i none = Unit {0}
AllWithin q e i (more t ts) = IsWithin q e i (concl t) × AllWithin q e (suc i) ts

-- trees as premises of the rule at the conclusion e, whatever its main formula and eigenvariable
pub record Premises (q : Rule) (e : Sequent) (ts : Trees) : Type 0 where
  pub number : count ts ≡ needs q
  pub within : AllWithin q e 0 ts
  pub valid : AllValid ts

no_third : (q : Rule) (n : ℕ) → suc (suc (suc n)) ≡ needs q → ⊥
no_third (Ax a) n h = cc
no_third q n h = cc

all_within : (q : Rule) (e : Sequent) (ts : Trees) → Row q e (count ts) (first_end ts) (second_end ts) → AllWithin q e 0 ts
all_within q e none row = tt
all_within q e (more t none) row = (row.first_premise, tt)
all_within q e (more t (more u none)) row = (row.first_premise, (row.second_premise, tt))
all_within q e (more t (more u (more v ts))) row = absurd (no_third q (count ts) row.premises)

pub premises_of : (q : Rule) (e : Sequent) (ts : Trees) → Row q e (count ts) (first_end ts) (second_end ts) → AllValid ts → Premises q e ts
premises_of q e ts row valid = record { number = row.premises; within = all_within q e ts row; valid = valid }

first_within : (q : Rule) (e : Sequent) (ts : Trees) → AllWithin q e 0 ts → IfSome (first_end ts) (IsWithin q e 0)
first_within q e none h = tt
first_within q e (more t ts) h = h.0

second_within : (q : Rule) (e : Sequent) (ts : Trees) → AllWithin q e 0 ts → IfSome (second_end ts) (IsWithin q e 1)
second_within q e none h = tt
second_within q e (more t none) h = tt
second_within q e (more t (more u ts)) h = h.1.0

-- an inference over such premises
pub inference_valid : (q : Rule) (e : Sequent) (ts : Trees) → Premises q e ts → has_shape q ≡ true → main_stands q e ≡ true → eigen_free q e ≡ false → IsFormedRule q → IsValid (node q e ts)
inference_valid q e ts h shape stands eigen formed = (
  record {
    right = verdict_of_row q e (count ts) (first_end ts) (second_end ts) (record {
      premises = h.number;
      shape = shape;
      main_formula = main_of q e stands;
      eigenvariable = eigen;
      first_premise = first_within q e ts h.within;
      second_premise = second_within q e ts h.within;
    });
    formed = formed;
  },
  h.valid,
)

-- what a cut is by side, where it is valid
pub record ValidCut (side : Side) (s : Sequent) (a : Formula) (t u : Tree) : Type 0 where
  pub formed : IsFormed a
  pub within : IsSubsequent (concl t) (adds_to s side a)
  pub other : IsSubsequent (concl u) (adds_to s (opposite side) a)
  pub valid : IsValid t
  pub other_valid : IsValid u

pub turned : (side : Side) (s : Sequent) (a : Formula) (t u : Tree) → ValidCut side s a t u → ValidCut (opposite side) s a u t
turned Left s a t u h = record { formed = h.formed; within = h.other; other = h.within; valid = h.other_valid; other_valid = h.valid }
turned Right s a t u h = record { formed = h.formed; within = h.other; other = h.within; valid = h.other_valid; other_valid = h.valid }

right_of_cut : (s : Sequent) (a : Formula) (l r : Tree) → IsValid (cut s a l r) → ValidCut Right s a l r
right_of_cut s a l r h =
    let row = row_of (cut s a l r) h in
    record { formed = h.0.formed; within = row.first_premise; other = row.second_premise; valid = h.1.0; other_valid = h.1.1.0 }

-- by the one premise and by the other
pub valid_cuts : (s : Sequent) (a : Formula) (l r : Tree) → IsValid (cut s a l r) → (side : Side) → ValidCut side s a (premise_on side l r) (premise_on (opposite side) l r)
valid_cuts s a l r h Left = turned Right s a l r (right_of_cut s a l r h)
valid_cuts s a l r h Right = right_of_cut s a l r h

pub valid_cut : (side : Side) (s : Sequent) (a : Formula) (t u : Tree) → IsValid (cut_on side s a t u) → ValidCut side s a t u
valid_cut Left s a t u h = valid_cuts s a u t h Left
valid_cut Right s a t u h = right_of_cut s a t u h

cut_of_right : (s : Sequent) (a : Formula) (l r : Tree) → ValidCut Right s a l r → IsValid (cut s a l r)
cut_of_right s a l r h =
    inference_valid (Cut a) s (more l (more r none))
    (record { number = refl; within = (h.within, (h.other, tt)); valid = (h.valid, (h.other_valid, tt)) })
    refl refl refl h.formed

pub cut_valid : (side : Side) (s : Sequent) (a : Formula) (t u : Tree) → ValidCut side s a t u → IsValid (cut_on side s a t u)
cut_valid Left s a t u h = cut_of_right s a u t (turned Left s a t u h)
cut_valid Right s a t u h = cut_of_right s a t u h

pub weak_valid : (s : Sequent) (t : Tree) → IsSubsequent (concl t) s → IsValid t → IsValid (node Weak s (more t none))
weak_valid s t within valid = inference_valid Weak s (more t none) (record { number = refl; within = (within, tt); valid = (valid, tt) }) refl refl refl refl

-- main formulas stand in each larger conclusion, and in one without a where a isn't a main formula on its side

all_in : (e s : FormulaSet) (fs : List Formula) → ((f : Formula) → list_any (eq_by_cmp formula_cmp f) fs ≡ true → set.has e f ≡ true → set.has s f ≡ true)
    → list_all (set.has e) fs ≡ true → list_all (set.has s) fs ≡ true
all_in e s [] goes h = refl
all_in e s (f ∷ fs) goes h =
    and_both _ _
    (goes f (or_first _ _ (tied f f refl)) (and_left (set.has e f) (list_all (set.has e) fs) h))
    (all_in e s fs (λ g m. goes g (or_second (eq_by_cmp formula_cmp g f) _ m)) (and_right (set.has e f) (list_all (set.has e) fs) h))

main_goes : (q : Rule) (e s : Sequent) → ((side : Side) (f : Formula) → list_any (eq_by_cmp formula_cmp f) (main q side) ≡ true → set.has (side_of e side) f ≡ true → set.has (side_of s side) f ≡ true)
    → main_stands q e ≡ true → main_stands q s ≡ true
main_goes q e s goes h =
    and_both _ _
    (all_in e.left s.left (main q Left) (goes Left) (and_left _ _ h))
    (all_in e.right s.right (main q Right) (goes Right) (and_right (list_all (set.has e.left) (main q Left)) _ h))

pub main_larger : (q : Rule) (e s : Sequent) → IsSubsequent e s → main_stands q e ≡ true → main_stands q s ≡ true
main_larger q e s within = main_goes q e s (λ side f _ m. on_side e s within side f m)

pub main_without : (side : Side) (q : Rule) (e s : Sequent) (a : Formula) → IsSubsequent e (adds_to s side a) → list_any (eq_by_cmp formula_cmp a) (main q side) ≡ false
    → main_stands q e ≡ true → main_stands q s ≡ true
main_without side q e s a within out =
    main_goes q e s (λ p f m in_e.
    old_or_new side p s a f
    (λ old. old)
    (λ here is. clash (list_any (eq_by_cmp formula_cmp a) (main q side)) ((λ i. list_any (eq_by_cmp formula_cmp (sym is i)) (main q (sym here i))) ∙ m) out)
    (on_side e (adds_to s side a) within p f in_e))

-- the main formulas of a valid tree stand in its conclusion
pub main_in_end : (t : Tree) → IsValid t → main_stands (rule_of t) (concl t) ≡ true
main_in_end t h = stands_of (rule_of t) (concl t) (row_of t h).main_formula

-- a leaf that doesn't introduce the cut formula proves the conclusion too

leaf_eigen : (q : Rule) (s : Sequent) → needs q ≡ 0 → eigen_free q s ≡ false
leaf_eigen (AllR a y) s h = cc
leaf_eigen (ExL a y) s h = cc
leaf_eigen q s h = refl

pub leaf_valid : (side : Side) (s : Sequent) (a : Formula) (t : Tree) → IsSubsequent (concl t) (adds_to s side a) → IsValid t → is_leaf t ≡ true → introduces side a t ≡ false → IsValid (node (rule_of t) s none)
leaf_valid side s a (node q e ts) within valid leaf other =
    let t : Tree = node q e ts in
    let no_premise : needs q ≡ 0 = eqb-true (needs q) 0 leaf in
    inference_valid q s none (record { number = sym no_premise; within = tt; valid = tt })
    (row_of t valid).shape (main_without side q e s a within other (main_in_end t valid)) (leaf_eigen q s no_premise) valid.0.formed

-- where the cut formula stands above nowhere, the premises are within the conclusion of the cut

all_without : (side : Side) (q : Rule) (e s : Sequent) (a : Formula) (i : ℕ) (ts : Trees) → IsSubsequent e (adds_to s side a) → has_above side a ts ≡ false → AllWithin q e i ts → AllWithin q s i ts
all_without side q e s a i none within out h = tt
all_without side q e s a i (more t ts) within out h = (
  extended_without side (concl t) e s a (aux q i) (neither_first _ _ out) within h.0,
  all_without side q e s a (suc i) ts within (neither_second (set.has (side_of (concl t) side) a) _ out) h.1,
)

pub premises_without : (side : Side) (q : Rule) (e s : Sequent) (a : Formula) (ts : Trees) → IsSubsequent e (adds_to s side a) → has_above side a ts ≡ false → Premises q e ts → Premises q s ts
premises_without side q e s a ts within out h = record { number = h.number; within = all_without side q e s a 0 ts within out h.within; valid = h.valid }
