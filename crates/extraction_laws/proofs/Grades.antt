-- What holds at an address where it holds at those of the parts and of the instances holds at each address; and so for two addresses of
-- one formula.
use Rattle.std.proofs.Common.{◌≡◌, ℕ, zero, suc, ◌≤◌, true, refl, ap, ◌∙◌, arith}
use Rattle.fol.specs.Syntax.{Term, Formula, atom, top, bot, not, and, or, imp, all, ex}
use Rattle.free_variables.specs.Grade.{grade_of}
use Rattle.substitution.specs.Instance.{inst}
use Rattle.substitution.proofs.ShapeLaws.{grade-inst_at}
use Rattle.lk_rules.specs.declared.sequent.Side.{Side}
use Rattle.expansion_laws.specs.Building.{is_flat}
use Rattle.extraction_laws.specs.Addresses.{Address, part, via, part_formula, part_side, body_of, formula_at, side_at}

-- a statement of addresses that passes from the parts and the instances of the formula to the formula
pub record Rises (P : Address → Type 0) : Type 0 where
  pub flat : (a : Address) → is_flat (formula_at a) ≡ true → P a
  pub negation : (a : Address) (f : Formula) → formula_at a ≡ not f → P (part a 0) → P a
  pub conjunction : (a : Address) (f g : Formula) → formula_at a ≡ and f g → P (part a 0) → P (part a 1) → P a
  pub disjunction : (a : Address) (f g : Formula) → formula_at a ≡ or f g → P (part a 0) → P (part a 1) → P a
  pub implication : (a : Address) (f g : Formula) → formula_at a ≡ imp f g → P (part a 0) → P (part a 1) → P a
  pub universal : (a : Address) (f : Formula) → formula_at a ≡ all f → ((t : Term) → P (via a t)) → P a
  pub existential : (a : Address) (f : Formula) → formula_at a ≡ ex f → ((t : Term) → P (via a t)) → P a

-- the formulas of the parts and of the instances

pub part_is : (a : Address) (i : ℕ) (f g : Formula) → formula_at a ≡ f → part_formula f i ≡ g → formula_at (part a i) ≡ g
part_is a i f g e h = ap (λ x. part_formula x i) e ∙ h

pub instance_is : (a : Address) (t : Term) (f g : Formula) → formula_at a ≡ f → body_of f ≡ g → formula_at (via a t) ≡ inst g t
instance_is a t f g e h = ap (λ x. inst (body_of x) t) e ∙ ap (λ x. inst x t) h

-- the sides of the parts
pub side_of_part : (a : Address) (i : ℕ) (f : Formula) (s : Side) → formula_at a ≡ f → side_at a ≡ s → side_at (part a i) ≡ part_side f i s
side_of_part a i f s e side = λ j. part_side (e j) i (side j)

module _ (P : Address → Type 0) (rises : Rises P) where
  -- with a bound on the grade
  within : (n : ℕ) (f : Formula) (a : Address) → formula_at a ≡ f → grade_of f ≤ n → P a
  within n (atom s ts) a e low = rises.flat a (ap is_flat e)
  within n top a e low = rises.flat a (ap is_flat e)
  within n bot a e low = rises.flat a (ap is_flat e)
  within zero (not f) a e low = absurd (omega arith)
  within zero (and f g) a e low = absurd (omega arith)
  within zero (or f g) a e low = absurd (omega arith)
  within zero (imp f g) a e low = absurd (omega arith)
  within zero (all f) a e low = absurd (omega arith)
  within zero (ex f) a e low = absurd (omega arith)
  within (suc n) (not f) a e low = rises.negation a f e (within n f (part a 0) (part_is a 0 (not f) f e refl) (omega arith))
  within (suc n) (and f g) a e low = rises.conjunction a f g e (within n f (part a 0) (part_is a 0 (and f g) f e refl) (omega arith)) (within n g (part a 1) (part_is a 1 (and f g) g e refl) (omega arith))
  within (suc n) (or f g) a e low = rises.disjunction a f g e (within n f (part a 0) (part_is a 0 (or f g) f e refl) (omega arith)) (within n g (part a 1) (part_is a 1 (or f g) g e refl) (omega arith))
  within (suc n) (imp f g) a e low = rises.implication a f g e (within n f (part a 0) (part_is a 0 (imp f g) f e refl) (omega arith)) (within n g (part a 1) (part_is a 1 (imp f g) g e refl) (omega arith))
  within (suc n) (all f) a e low = rises.universal a f e (λ t. let same : grade_of (inst f t) ≡ grade_of f = grade-inst_at t f 0 in within n (inst f t) (via a t) (instance_is a t (all f) f e refl) (omega arith))
  within (suc n) (ex f) a e low = rises.existential a f e (λ t. let same : grade_of (inst f t) ≡ grade_of f = grade-inst_at t f 0 in within n (inst f t) (via a t) (instance_is a t (ex f) f e refl) (omega arith))

  pub at_each : (a : Address) → P a
  at_each a = within (grade_of (formula_at a)) (formula_at a) a refl (omega arith)

-- two addresses have this formula
pub record Share (l r : Address) (f : Formula) : Type 0 where
  pub left : formula_at l ≡ f
  pub right : formula_at r ≡ f

-- a statement of two addresses of one formula, of which the first stands on the left
pub record PairRises (P : Address → Address → Type 0) : Type 0 where
  pub flat : (l r : Address) (f : Formula) → Share l r f → is_flat f ≡ true → P l r
  pub negation : (l r : Address) (f : Formula) → Share l r (not f) → P (part r 0) (part l 0) → P l r
  pub conjunction : (l r : Address) (f g : Formula) → Share l r (and f g) → P (part l 0) (part r 0) → P (part l 1) (part r 1) → P l r
  pub disjunction : (l r : Address) (f g : Formula) → Share l r (or f g) → P (part l 0) (part r 0) → P (part l 1) (part r 1) → P l r
  pub implication : (l r : Address) (f g : Formula) → Share l r (imp f g) → P (part r 0) (part l 0) → P (part l 1) (part r 1) → P l r
  pub universal : (l r : Address) (f : Formula) → Share l r (all f) → ((t : Term) → P (via l t) (via r t)) → P l r
  pub existential : (l r : Address) (f : Formula) → Share l r (ex f) → ((t : Term) → P (via l t) (via r t)) → P l r

pub parts_share : (l r : Address) (i : ℕ) (f g : Formula) → Share l r f → part_formula f i ≡ g → Share (part l i) (part r i) g
parts_share l r i f g h e = record { left = part_is l i f g h.left e; right = part_is r i f g h.right e }

pub turned_share : (l r : Address) (i : ℕ) (f g : Formula) → Share l r f → part_formula f i ≡ g → Share (part r i) (part l i) g
turned_share l r i f g h e = record { left = part_is r i f g h.right e; right = part_is l i f g h.left e }

pub instances_share : (l r : Address) (t : Term) (f g : Formula) → Share l r f → body_of f ≡ g → Share (via l t) (via r t) (inst g t)
instances_share l r t f g h e = record { left = instance_is l t f g h.left e; right = instance_is r t f g h.right e }

module _ (P : Address → Address → Type 0) (rises : PairRises P) where
  pair_within : (n : ℕ) (f : Formula) (l r : Address) → Share l r f → grade_of f ≤ n → P l r
  pair_within n (atom s ts) l r e low = rises.flat l r (atom s ts) e refl
  pair_within n top l r e low = rises.flat l r top e refl
  pair_within n bot l r e low = rises.flat l r bot e refl
  pair_within zero (not f) l r e low = absurd (omega arith)
  pair_within zero (and f g) l r e low = absurd (omega arith)
  pair_within zero (or f g) l r e low = absurd (omega arith)
  pair_within zero (imp f g) l r e low = absurd (omega arith)
  pair_within zero (all f) l r e low = absurd (omega arith)
  pair_within zero (ex f) l r e low = absurd (omega arith)
  pair_within (suc n) (not f) l r e low = rises.negation l r f e (pair_within n f (part r 0) (part l 0) (turned_share l r 0 (not f) f e refl) (omega arith))
  pair_within (suc n) (and f g) l r e low =
      rises.conjunction l r f g e
      (pair_within n f (part l 0) (part r 0) (parts_share l r 0 (and f g) f e refl) (omega arith))
      (pair_within n g (part l 1) (part r 1) (parts_share l r 1 (and f g) g e refl) (omega arith))
  pair_within (suc n) (or f g) l r e low =
      rises.disjunction l r f g e
      (pair_within n f (part l 0) (part r 0) (parts_share l r 0 (or f g) f e refl) (omega arith))
      (pair_within n g (part l 1) (part r 1) (parts_share l r 1 (or f g) g e refl) (omega arith))
  pair_within (suc n) (imp f g) l r e low =
      rises.implication l r f g e
      (pair_within n f (part r 0) (part l 0) (turned_share l r 0 (imp f g) f e refl) (omega arith))
      (pair_within n g (part l 1) (part r 1) (parts_share l r 1 (imp f g) g e refl) (omega arith))
  pair_within (suc n) (all f) l r e low =
      rises.universal l r f e (λ t. let same : grade_of (inst f t) ≡ grade_of f = grade-inst_at t f 0 in pair_within n (inst f t) (via l t) (via r t) (instances_share l r t (all f) f e refl) (omega arith))
  pair_within (suc n) (ex f) l r e low =
      rises.existential l r f e (λ t. let same : grade_of (inst f t) ≡ grade_of f = grade-inst_at t f 0 in pair_within n (inst f t) (via l t) (via r t) (instances_share l r t (ex f) f e refl) (omega arith))

  pub at_pairs : (f : Formula) (l r : Address) → Share l r f → P l r
  at_pairs f l r share = pair_within (grade_of f) f l r share (omega arith)
