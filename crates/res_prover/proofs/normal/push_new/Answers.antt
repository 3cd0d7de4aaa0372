-- A variable that is listed changes nothing, and one that isn't comes last.
use Rattle.std.proofs.Common.{ap, ◌∙◌}
use Rattle.free_variables.specs.Fresh.{is_among}
use Rattle.res_prover.proofs.Firsts.{push_old, push_new}
use Rattle.res_prover.proofs.normal.push_new.Goals as goal

pub returns-then-is_listed : goal.returns-then-is_listed
returns-then-is_listed c = push_old c.args.firsts.now.items c.args.var.now c.is_listed.result (c.is_listed.ensures ∙ ap (is_among c.args.var.now) c.as_slice.ensures.value) c.if-is_listed.true

pub returns : goal.returns
returns c = push_new c.args.firsts.now.items c.push.new.self.items c.args.var.now c.in_ok-copy.field-0 c.is_listed.result (c.is_listed.ensures ∙ ap (is_among c.args.var.now) c.as_slice.ensures.value) c.if-is_listed.false c.in_ok-copy.ensures c.in_ok-push.ensures.items
