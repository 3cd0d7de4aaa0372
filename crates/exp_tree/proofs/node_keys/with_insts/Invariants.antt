-- What is mixed so far, with the instances that are left, gives the whole.
use Rattle.std.proofs.Common.{◌≡◌, drop, fold}
use Rattle.exp_tree.specs.Tables.{with_inst}
use Rattle.exp_tree.proofs.node_keys.with_insts.Given as goal

abbrev pub invariant-loop-inst : goal.invariant-loop-inst
invariant-loop-inst l = fold with_inst l.mixed (drop l.inst-index l.insts) ≡ fold with_inst l.fingerprint l.insts
