-- The tree of an instance is read for a formula of lower grade.
use Rattle.std.proofs.Common.{◌≡◌, ◌+◌, ◌*◌, ◌<◌, ap, ◌∙◌, arith}
use Rattle.fol.specs.Syntax.{Term}
use Rattle.free_variables.specs.Grade.{grade_of}
use Rattle.substitution.proofs.ShapeLaws.{grade-inst_at}
use Rattle.extraction_laws.specs.Addresses.{Address, via, body_of, formula_at}

pub instance_lower : (a b : Address) (t : Term) → b ≡ via a t → 3 * grade_of (formula_at b) < 3 * grade_of (body_of (formula_at a)) + 1
instance_lower a b t e =
    let same : grade_of (formula_at b) ≡ grade_of (body_of (formula_at a)) = ap (λ x. grade_of (formula_at x)) e ∙ grade-inst_at t (body_of (formula_at a)) 0 in
    omega arith
