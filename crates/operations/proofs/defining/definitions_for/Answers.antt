-- Each name is given a definition, and memory ran out behind that.
use Rattle.std.proofs.Common.{map}
use Rattle.operation_laws.specs.Given.{definitions_given}
use Rattle.held_values.specs.Means.{sense}
use Rattle.operations.proofs.DefinitionsUsed.{some_lack}
use Rattle.operations.proofs.defining.definitions_for.Goals as goal

pub returns-in-Err-table_given-clause-none : goal.returns-in-Err-table_given-clause-none
returns-in-Err-table_given-clause-none c = λ g k lacks. some_lack (definitions_given c.args.names.now (map sense c.args.given.now)) c.in_default.ensures.found g k lacks
