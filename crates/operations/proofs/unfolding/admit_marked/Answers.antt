-- No two definitions are of one symbol, and the steps have them put into them.
use Rattle.std.proofs.Common.{map, sym, ap, ◌∙◌}
use Rattle.def_laws.specs.Marking.{marked_step}
use Rattle.operation_laws.specs.Running.{repeated}
use Rattle.operations.proofs.DefinitionsUsed.{marked_runs}
use Rattle.operations.proofs.unfolding.admit_marked.Goals as goal

pub returns : goal.returns
returns g c =
    let once = sym c.in-Ok-None.field-0-is ∙ (c.in-Ok-None.ensures ∙ ap (repeated c.args.names.now) c.as_slice.ensures) in
    let list = c.deref.ensures.value ∙ (c.in-Ok.ensures.value ∙ ap (map (marked_step c.args.symbols.now)) c.as_slice-2.ensures.steps) in
    marked_runs _ _ _ _ c.args.names.now c.args.steps.now _ c.args.symbols.now c.requires.names once list c.admit_list.ensures
