-- The instances are paired, and smaller than the quantified formula.
use Rattle.std.proofs.Common.{◌≡◌, sym, ap, ◌∙◌, arith}
use Rattle.fol.specs.Shown.{formula_of}
use Rattle.fol.specs.Syntax.{free, all, ex}
use Rattle.free_variables.specs.Grade.{grade_of}
use Rattle.extraction_laws.specs.Addresses.{formula_at}
use Rattle.extraction_laws.specs.States.{variable_at}
use Rattle.exp_extract.specs.Marked.{Marked, address_at, address_in}
use Rattle.exp_extract.specs.Pairing.{ArePaired}
use Rattle.exp_extract.proofs.Paired.{grows_same, paired_grown, instances_paired, all_smaller, ex_smaller}
use Rattle.exp_extract.proofs.pairing.+pair.Goals as goal

pub pair-pair-requires : goal.pair-pair-requires
pair-pair-requires t c =
    let m = c.args.marks.now in
    let n = c.open-2.new.self in
    let l = c.args.left in
    let r = c.args.right in
    let same = c.open-2.ensures.addresses ∙ c.open.ensures.addresses in
    let before : ArePaired n l r = paired_grown m n l r (grows_same m.addresses n.addresses same) c.requires in
    let v = free (variable_at n.outside n.state (address_at n r)) in
    let formula : formula_at (address_at n l) ≡ all c.in-All.field-0 = ap (λ (x : Marked). formula_at (address_at x l)) (sym c.marks.view_is) ∙ sym c.formula.ensures.value ∙ (sym c.in_ok-formula.ensures ∙ (sym c.node.ensures ∙ ap formula_of c.in-All.is)) in
    let smaller = all_smaller (address_at n l) (address_at c.instances.new.marks c.in_ok-left-in-All.left) v c.in-All.field-0 c.in_ok-left-in-All.ensures.instance.1 formula in
    let stays : grade_of (formula_at (address_at n l)) ≡ grade_of (formula_at (address_at m l)) = ap (λ bs. grade_of (formula_at (address_in bs l))) same in
    (omega (arith, c.decreases, smaller, stays), instances_paired n c.instances.new.marks l r c.in_ok-left-in-All.left c.in_ok-left-in-All.right before v c.in_ok-left-in-All.ensures.instance c.in_ok-left-in-All.ensures.witness)

pub pair-pair-requires-in-Ex : goal.pair-pair-requires-in-Ex
pair-pair-requires-in-Ex t c =
    let m = c.args.marks.now in
    let n = c.open-2.new.self in
    let l = c.args.left in
    let r = c.args.right in
    let same = c.open-2.ensures.addresses ∙ c.open.ensures.addresses in
    let before : ArePaired n l r = paired_grown m n l r (grows_same m.addresses n.addresses same) c.requires in
    let v = free (variable_at n.outside n.state (address_at n l)) in
    let formula : formula_at (address_at n l) ≡ ex c.in-Ex.field-0 = ap (λ (x : Marked). formula_at (address_at x l)) (sym c.marks.view_is) ∙ sym c.formula.ensures.value ∙ (sym c.in_ok-formula.ensures ∙ (sym c.node.ensures ∙ ap formula_of c.in-Ex.is)) in
    let smaller = ex_smaller (address_at n l) (address_at c.instances-in-Ex.new.marks c.in_ok-right-in-Ex.left) v c.in-Ex.field-0 c.in_ok-right-in-Ex.ensures.witness.1 formula in
    let stays : grade_of (formula_at (address_at n l)) ≡ grade_of (formula_at (address_at m l)) = ap (λ bs. grade_of (formula_at (address_in bs l))) same in
    (omega (arith, c.decreases, smaller, stays), instances_paired n c.instances-in-Ex.new.marks l r c.in_ok-right-in-Ex.left c.in_ok-right-in-Ex.right before v c.in_ok-right-in-Ex.ensures.witness c.in_ok-right-in-Ex.ensures.instance)
