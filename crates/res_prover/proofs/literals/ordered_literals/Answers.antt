-- Both sides are there, and the order doesn't matter.
use Rattle.std.proofs.Common.{◌≡◌, true, false, ◌++◌, map, ap, ◌∙◌}
use Rattle.finite.specs.Finite as set
use Rattle.res_prover.specs.Sending.{sides}
use Rattle.res_prover.proofs.LiteralLaws.{put, all_literals, permuted}
use Rattle.res_prover.proofs.literals.ordered_literals.Goals as goal

pub returns : goal.returns
returns c =
    let clause = c.args.one.now in
    let all = c.push_side-2.new.literals.items in
    let lefts = c.side-left.result.now in
    let rights = c.side-right.result.now in
    let one : sides c.push_side.new.literals.items ≡ map (put true) lefts =
    c.in_ok-push_side.ensures ∙ ap (λ ls. sides ls ++ map (put true) lefts) c.in_ok-all.ensures.items in
    let both : sides all ≡ map (put true) (set.listing clause.left) ++ map (put false) (set.listing clause.right) =
    c.in_ok-push_side-2.ensures
    ∙ ap (λ ps. ps ++ map (put false) rights) one
    ∙ ap (λ fs. map (put true) fs ++ map (put false) rights) c.side-left.ensures
    ∙ ap (λ fs. map (put true) (set.listing clause.left) ++ map (put false) fs) c.side-right.ensures in
    permuted clause all c.sort_by_key.new.self.items c.sort_by_key.ensures.permutation (all_literals clause all both)
