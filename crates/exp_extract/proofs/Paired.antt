-- Two addresses of one formula, with their parts and their instances.
use Rattle.std.proofs.Common.{◌≡◌, ℕ, ◌+◌, ◌<◌, List, length, refl, sym, ap, ◌∙◌, subst, arith}
use Rattle.fol.specs.Syntax.{Term, Formula, all, ex}
use Rattle.free_variables.specs.Grade.{grade_of}
use Rattle.substitution.specs.Instance.{inst}
use Rattle.substitution.proofs.ShapeLaws.{grade-inst_at}
use Rattle.extraction_laws.specs.Addresses.{Address, via, body_of, formula_at, side_at}
use Rattle.exp_extract.specs.Marked.{Marked, address_at}
use Rattle.exp_extract.specs.Entries.{IsChild}
use Rattle.exp_extract.specs.Quantifiers.{Grows}
use Rattle.exp_extract.specs.Pairing.{ArePaired}

-- addresses that grow

pub grows_itself : (bs : List Address) → Grows bs bs
grows_itself bs n l = (l, refl)

pub grows_next : (bs cs ds : List Address) → Grows bs cs → Grows cs ds → Grows bs ds
grows_next bs cs ds g h n l =
    let there : n < length cs = (g n l).0 in
    ((h n there).0, (h n there).1 ∙ (g n l).1)

pub grows_same : (bs cs : List Address) → cs ≡ bs → Grows bs cs
grows_same bs cs e = subst (λ (ds : List Address). Grows bs ds) (sym e) (grows_itself bs)

pub child_grown : (bs cs : List Address) (a : Address) (n : ℕ) → Grows bs cs → IsChild bs a n → IsChild cs a n
child_grown bs cs a n g h = let l : n < length bs = h.0 in ((g n l).0, (g n l).1 ∙ h.1)

pub paired_grown : (m n : Marked) (l r : ℕ) → Grows m.addresses n.addresses → ArePaired m l r → ArePaired n l r
paired_grown m n l r g h = record {
  left = (g l h.left).0;
  right = (g r h.right).0;
  formula = ap formula_at (g l h.left).1 ∙ (h.formula ∙ sym (ap formula_at (g r h.right).1));
  left_side = ap side_at (g l h.left).1 ∙ h.left_side;
  right_side = ap side_at (g r h.right).1 ∙ h.right_side;
}

module _ (m n : Marked) (l r p q : ℕ) (h : ArePaired m l r) where
  pub instances_paired : (t : Term) → IsChild n.addresses (via (address_at m l) t) p → IsChild n.addresses (via (address_at m r) t) q → ArePaired n p q
  instances_paired t first second = record {
    left = first.0;
    right = second.0;
    formula = ap formula_at first.1 ∙ (ap (λ f. inst (body_of f) t) h.formula ∙ sym (ap formula_at second.1));
    left_side = ap side_at first.1 ∙ h.left_side;
    right_side = ap side_at second.1 ∙ h.right_side;
  }

-- an instance is as large as the body
pub all_smaller : (a b : Address) (t : Term) (f : Formula) → b ≡ via a t → formula_at a ≡ all f → grade_of (formula_at b) + 1 ≡ grade_of (formula_at a)
all_smaller a b t f is e =
    let instance : grade_of (formula_at b) ≡ grade_of f = ap (λ x. grade_of (formula_at x)) is ∙ (ap (λ g. grade_of (inst (body_of g) t)) e ∙ grade-inst_at t f 0) in
    let whole : grade_of (formula_at a) ≡ grade_of f + 1 = ap grade_of e in
    omega arith

pub ex_smaller : (a b : Address) (t : Term) (f : Formula) → b ≡ via a t → formula_at a ≡ ex f → grade_of (formula_at b) + 1 ≡ grade_of (formula_at a)
ex_smaller a b t f is e =
    let instance : grade_of (formula_at b) ≡ grade_of f = ap (λ x. grade_of (formula_at x)) is ∙ (ap (λ g. grade_of (inst (body_of g) t)) e ∙ grade-inst_at t f 0) in
    let whole : grade_of (formula_at a) ≡ grade_of f + 1 = ap grade_of e in
    omega arith
