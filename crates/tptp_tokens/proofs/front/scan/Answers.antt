use Rattle.tptp_tokens.proofs.FormedTokens.{formed_scan}
use Rattle.tptp_tokens.proofs.front.scan.Goals as goal

pub returns-clause-formed : goal.returns-clause-formed
returns-clause-formed c = formed_scan c.args.bytes.now c.scan_front.result c.scan_front.ensures.value
