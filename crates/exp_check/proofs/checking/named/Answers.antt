-- One more variable, and all of them.
use Rattle.std.proofs.Common.{map, get_or, sym, ap, ◌∙◌, arith}
use Rattle.std.proofs.lemmas.List.{take_all}
use Rattle.exp_check.proofs.ShownLaws.{named_more}
use Rattle.exp_check.proofs.checking.named.Goals as goal

pub loop-number-preserved : goal.loop-number-preserved
loop-number-preserved c =
    let vs = c.args.vars.now in
    let ns = c.args.numbers.now in
    let k = c.loop-number.number-index in
    let v = c.in_ok-copy.field-0 in
    λ d. named_more vs ns k d v c.loop-number.list.items c.push.new.self.items c.loop-number-test.true (c.requires k 0 c.loop-number-test.true)
    (c.in_ok-copy.ensures ∙ c.index-vars-number.is ∙ ap (get_or vs (get_or ns k 0)) (sym c.in_ok-copy.ensures)) (c.loop-number.invariant d) c.in_ok-push.ensures.items

pub returns : goal.returns
returns c = λ d.
    c.from_vec.ensures ∙ c.loop-number.invariant d
    ∙ ap (map (λ i. get_or c.args.vars.now i d)) (take_all c.loop-number.number-index c.args.numbers.now (omega (arith, c.loop-number-test.false)))
