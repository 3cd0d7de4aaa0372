use Rattle.std.proofs.Common.{take, drop, ◌∙◌}
use Rattle.prop_search.proofs.LeastFormulas.{left_side, right_side}
use Rattle.prop_search.proofs.made.Made.sequent.Goals as goal

pub returns-clause-sequent : goal.returns-clause-sequent
returns-clause-sequent c =
    let at = c.split_at.ensures in
    let fs = c.args.numbering.now in
    let words = c.args.sequent.now in
    let left = left_side fs c.known.ensures words c.requires.fit c.split_at.result.0.now (at.front ∙ (λ i. take (c.width-width.ensures.width i) (c.words.ensures i))) in
    let right = right_side fs c.known.ensures words c.requires.fit c.split_at.result.1.now (at.back ∙ (λ i. drop (c.width-width.ensures.width i) (c.words.ensures i))) in
    λ i. record { left = (c.in_ok-left.ensures.side ∙ left) i; right = (c.in_ok-right.ensures.side ∙ right) i }
