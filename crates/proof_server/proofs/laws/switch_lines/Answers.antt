use Rattle.proof_server.proofs.Switches.{is_switch}
use Rattle.proof_server.proofs.laws.switch_lines.Goals as goal

pub returns : goal.returns
returns c = is_switch
