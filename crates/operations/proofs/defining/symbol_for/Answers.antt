-- The symbol is that of the definition, and the variable is free in a well-formed formula.
use Rattle.std.proofs.Common.{Err, ap, ◌∙◌}
use Rattle.free_variables.proofs.FormedMembers.{formed_var_of}
use Rattle.operations.proofs.DefinitionsUsed.{defined_comes}
use Rattle.operations.proofs.defining.symbol_for.Goals as goal

pub returns-in-Ok-taken_apart : goal.returns-in-Ok-taken_apart
returns-in-Ok-taken_apart c = λ g.
    let is = c.in-Ok.ensures.ok in
    let answers = (c.answers_to_definitions.ensures.defined c.args.name c.args.vars.now c.args.body.now c.in-Ok.symbol).0 is in
    defined_comes g c.args.name c.args.vars.now c.args.body.now c.in-Ok.symbol c.in-Ok-taken_apart.made is answers.2 c.in-Ok.ensures.formed c.in-Ok-taken_apart.ensures

pub new-requires : goal.new-requires
new-requires c =
    let least = (c.answers_to_definitions.ensures.free c.args.name c.args.vars.now c.args.body.now c.in-Err-Free.var).0 (c.define.ensures.free c.in-Err-Free.var (c.in-Err-Free.is ∙ ap Err c.in-Err-Free.field-0-is)) in
    formed_var_of c.in-Err-Free.var c.args.body.now 0 c.requires.body least.free
