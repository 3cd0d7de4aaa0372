use Rattle.std.proofs.Common.{[], refl}
use Rattle.job_windows.proofs.Answering.{empty_gathered, nothing_due}
use Rattle.proof_server.proofs.session.Session.new.Goals as goal

pub returns : goal.returns
returns c = λ desk of. record {
  done = [];
  waiting = [];
  each = refl;
  bytes = refl;
  answered = record { allowed = tt; number = refl; counts = c.new-4.ensures; good_is = refl; lacked_is = refl };
  gathered = empty_gathered desk c.new.result c.new-2.result [] [] (nothing_due desk c.new.result [] (c.new.ensures desk of)) refl c.new-2.ensures.0 c.new-2.ensures.1;
}
