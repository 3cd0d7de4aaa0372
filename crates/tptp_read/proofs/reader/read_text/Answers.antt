use Rattle.std.proofs.Common.{length}
use Rattle.tptp_tokens.specs.Stream.{stream_of}
use Rattle.tptp_read.specs.Given.{meaning}
use Rattle.tptp_read.specs.Texts.{read}
use Rattle.tptp_read.proofs.Reading.{token_error}
use Rattle.tptp_read.proofs.reader.read_text.Goals as goal

pub returns-in-Err : goal.returns-in-Err
returns-in-Err c =
    token_error c.args.limits (meaning c.loop-state.state) c.in_ok-scan.field-0 c.in-Found.token (length c.args.text.now) c.in-Found.length c.loop-state.rest.now c.in-Err.error (read c.args.limits (meaning c.args.state) (stream_of c.args.text.now))
    c.in_ok-scan.ensures.value c.in_ok-scan.ensures.sized c.in-Found.is c.loop-state.invariant.0 c.in-Err.ensures c.loop-state.invariant.1
