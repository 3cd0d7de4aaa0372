-- The main formula is used, and the auxiliary formulas are its parts.
use Rattle.std.proofs.Common.{sym, subst}
use Rattle.exp_extract.specs.declared.sides.Auxiliary.{Auxiliary}
use Rattle.exp_extract.specs.Inferences.{IsMet}
use Rattle.exp_extract.proofs.MetRules.{connective_is, connective_met}
use Rattle.exp_extract.proofs.inferences.mark_connective.Goals as goal

pub returns : goal.returns
returns c =
    let m = c.args.marks.now in
    let n = c.open_parts.new.marks in
    let ms = c.args.maps.now in
    let r = c.args.rule.now in
    let s = c.args.end.now in
    let x = c.args.sides.now in
    let k = c.args.map in
    let j = c.args.connective in
    let h = c.in_ok-first.ensures in
    subst (λ (a : Auxiliary). IsMet m n ms ms r s x k (record { map = k; auxiliary = a })) (sym c.in_ok-auxiliary.ensures)
    (connective_met m n s x h.outside h.grown ms k c.requires.map r j c.in_ok-first.first c.in_ok-first.second (connective_is r j c.requires.connective c.requires.shape) h.state h.first h.second)
