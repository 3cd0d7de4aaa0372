use Rattle.std.proofs.Common.{◌+◌, ap, ◌∙◌}
use Rattle.std.proofs.lemmas.List.{length_push}
use Rattle.prop_search.proofs.Numbers.{parts_at}
use Rattle.prop_search.proofs.Rooted.{rooted_more}
use Rattle.prop_search.proofs.numbering.roots_of.Goals as goal

pub root_of-requires-clause-parts : goal.root_of-requires-clause-parts
root_of-requires-clause-parts c = parts_at c.args.formulas.now c.loop-formula.formula-index c.formula-item.result c.requires.parts c.loop-formula-test.true c.formula-item.is

pub loop-formula-preserved : goal.loop-formula-preserved
loop-formula-preserved c =
    let at = c.loop-formula in
    rw c.in_ok-push.ensures.items (record {
      counted = length_push at.roots.items c.root_of.result ∙ ap (λ n. n + 1) at.invariant.counted;
      rooted = rooted_more c.args.formulas.now at.roots.items at.formula-index c.root_of.result c.formula-item.result at.invariant.counted c.loop-formula-test.true c.formula-item.is c.root_of.ensures at.invariant.rooted;
    })
