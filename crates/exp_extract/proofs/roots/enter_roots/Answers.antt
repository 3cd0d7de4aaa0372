-- The next formula has no address yet, and gets the next number.
use Rattle.std.proofs.Common.{◌∙◌}
use Rattle.exp_extract.proofs.Paired.{grows_next}
use Rattle.exp_extract.proofs.NextRoots.{next_absent, next_grown, still_out, next_others, next_addresses, next_within}
use Rattle.exp_extract.proofs.roots.enter_roots.Goals as goal

pub root-requires-clause-absent : goal.root-requires-clause-absent
root-requires-clause-absent c =
    next_absent c.loop-formula.marks.addresses c.loop-formula.marks.addresses c.args.side c.args.formulas.now c.loop-formula.formula-index c.in_ok-copy.field-0 c.formula-item.result c.loop-formula-test.true (c.in_ok-copy.ensures ∙ c.formula-item.is)
    c.requires.rises c.loop-formula.invariant.absent

pub loop-formula-preserved : goal.loop-formula-preserved
loop-formula-preserved c =
    let at = c.in_ok-copy.ensures ∙ c.formula-item.is in
    let small = c.loop-formula-test.true in
    let new = c.in_ok-number.ensures.addresses in
    let number = c.in_ok-number.ensures.number in
    let pushed = c.in_ok-push.ensures.items in
    record {
      addresses = next_addresses c.loop-formula.marks.addresses c.root.new.self.addresses c.args.side c.args.formulas.now c.loop-formula.formula-index c.in_ok-copy.field-0 c.formula-item.result small at new c.loop-formula.list.items c.push.new.self.items c.in_ok-number.number number pushed c.loop-formula.invariant.within c.loop-formula.invariant.addresses;
      within = next_within c.loop-formula.marks.addresses c.root.new.self.addresses c.args.side c.args.formulas.now c.loop-formula.formula-index c.in_ok-copy.field-0 c.formula-item.result small at new c.loop-formula.list.items c.push.new.self.items c.in_ok-number.number number pushed c.loop-formula.invariant.within;
      absent = still_out c.loop-formula.marks.addresses c.root.new.self.addresses c.args.side c.args.formulas.now c.loop-formula.formula-index c.in_ok-copy.field-0 c.formula-item.result small at new c.loop-formula.invariant.absent;
      others = next_others c.loop-formula.marks.addresses c.root.new.self.addresses c.args.side c.args.formulas.now c.loop-formula.formula-index c.in_ok-copy.field-0 c.formula-item.result small at new c.args.marks.now.addresses c.loop-formula.invariant.others;
      grown = grows_next c.args.marks.now.addresses c.loop-formula.marks.addresses c.root.new.self.addresses c.loop-formula.invariant.grown
          (next_grown c.loop-formula.marks.addresses c.root.new.self.addresses c.args.side c.args.formulas.now c.loop-formula.formula-index c.in_ok-copy.field-0 c.formula-item.result small at new);
      outside = c.in_ok-number.ensures.outside ∙ c.loop-formula.invariant.outside;
      state = c.in_ok-number.ensures.state ∙ c.loop-formula.invariant.state;
    }
