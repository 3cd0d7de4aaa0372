use Rattle.tptp_tokens.proofs.FormedTokens.{formed_variable}
use Rattle.tptp_tokens.proofs.front.read_variable.Goals as goal

pub returns-clause-formed : goal.returns-clause-formed
returns-clause-formed c = formed_variable c.args.text.now c.variable_of_text.result c.variable_of_text.ensures
