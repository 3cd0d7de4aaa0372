use Rattle.session_laws.specs.Jobs.{jobs}
use Rattle.proof_server.proofs.Turns.{kept_line}
use Rattle.proof_server.proofs.Midway.{start, go_on, Rose-since}
use Rattle.proof_server.proofs.Endings.{stop_ends, stop_at_last, stop_at_fault, stop_at_full, done_all, cut_off, full, lacking_ends, few_lacking}
use Rattle.proof_server.proofs.serving.serve_lines.Goals as goal

pub lines-init : goal.lines-init
lines-init g c = start c.args.desk.now _ _ _ _ _ _ _ c.requires.reader c.requires.session

pub lines-preserved-in-Line : goal.lines-preserved-in-Line
lines-preserved-in-Line g c =
    let midway = c.lines.invariant in
    let handed = c.in-Line.ensures.answer in
    go_on midway handed (c.in-Ok.ensures.takes (jobs midway.lines) midway.written handed.line midway.at (kept_line _ _ handed.line c.as_slice.ensures.value handed.told))
    c.in-Ok.ensures.few c.next_line.ensures.kept c.take.ensures.faults

pub lines-preserved : goal.lines-preserved
lines-preserved g c =
    let midway = c.lines.invariant in
    let handed = c.in-TooLong.ensures.answer in
    go_on midway handed (c.in-Ok-take.ensures.takes (jobs midway.lines) midway.written handed.line midway.at handed.told)
    c.in-Ok-take.ensures.few c.next_line.ensures.kept c.take-in-TooLong.ensures.faults

pub returns-in-Err : goal.returns-in-Err
returns-in-Err g c =
    let midway = c.lines.invariant in
    let handed = c.in-Line.ensures.answer in
    let kept = kept_line _ _ handed.line c.as_slice.ensures.value handed.told in
    record {
      ends = stop_ends c.held_proofs.ensures.claimed _ _ _ _ c.take.new.self c.in-Err.stop c.ended_by.result midway handed c.ended_by.ensures
          (c.in-Err.ensures.takes (jobs midway.lines) midway.written handed.line midway.at kept);
      pass = c.take.ensures.pass;
    }

pub returns-in-Err-take : goal.returns-in-Err-take
returns-in-Err-take g c =
    let midway = c.lines.invariant in
    let handed = c.in-TooLong.ensures.answer in
    record {
      ends = stop_ends c.held_proofs.ensures.claimed _ _ _ _ c.take-in-TooLong.new.self c.in-Err-take.stop c.ended_by-in-Err-take.result midway handed
          c.ended_by-in-Err-take.ensures (c.in-Err-take.ensures.takes (jobs midway.lines) midway.written handed.line midway.at handed.told);
      pass = c.take-in-TooLong.ensures.pass;
    }

pub returns-in-Ok-run-clause-ends : goal.returns-in-Ok-run-clause-ends
returns-in-Ok-run-clause-ends g c =
    let midway = c.lines.invariant in
    let ran = c.in-Ok-run.ensures in
    done_all c.held_proofs.ensures.claimed c.run.new.self midway (ran.goes (jobs midway.lines) midway.written midway.at) ran.empty ran.flushed c.in-End.ensures.answer.0

pub returns-in-Err-run-clause-ends : goal.returns-in-Err-run-clause-ends
returns-in-Err-run-clause-ends g c =
    let midway = c.lines.invariant in
    stop_at_last c.held_proofs.ensures.claimed _ _ _ _ c.run.new.self c.in-Err-run.stop c.ended_by-in-Err-run.result midway
    c.ended_by-in-Err-run.ensures (c.in-Err-run.ensures.goes (jobs midway.lines) midway.written midway.at) c.in-End.ensures.answer.0

pub returns-in-Ok-run-2-clause-ends : goal.returns-in-Ok-run-2-clause-ends
returns-in-Ok-run-2-clause-ends g c =
    let midway = c.lines.invariant in
    let fault = c.in-ReadFault.ensures.answer in
    let ran = c.in-Ok-run-2.ensures in
    (Rose-since _ _ _ midway.reads fault.0, cut_off c.held_proofs.ensures.claimed c.run-in-ReadFault.new.self midway (ran.goes (jobs midway.lines) midway.written midway.at) ran.empty ran.flushed fault.1 fault.2)

pub returns-in-Err-run-2-clause-ends : goal.returns-in-Err-run-2-clause-ends
returns-in-Err-run-2-clause-ends g c =
    let midway = c.lines.invariant in
    let fault = c.in-ReadFault.ensures.answer in
    stop_at_fault c.held_proofs.ensures.claimed _ _ _ _ _ c.run-in-ReadFault.new.self c.in-Err-run-2.stop c.ended_by-in-Err-run-2.result midway
    c.ended_by-in-Err-run-2.ensures (c.in-Err-run-2.ensures.goes (jobs midway.lines) midway.written midway.at) fault.1 fault.2

pub returns-in-Ok-run-3-clause-ends : goal.returns-in-Ok-run-3-clause-ends
returns-in-Ok-run-3-clause-ends g c =
    let midway = c.lines.invariant in
    let over = c.in-InputFull.ensures.answer in
    let ran = c.in-Ok-run-3.ensures in
    full c.held_proofs.ensures.claimed c.run-in-InputFull.new.self midway (ran.goes (jobs midway.lines) midway.written midway.at) ran.empty ran.flushed over.0 over.1

pub returns-in-Err-run-3-clause-ends : goal.returns-in-Err-run-3-clause-ends
returns-in-Err-run-3-clause-ends g c =
    let midway = c.lines.invariant in
    let over = c.in-InputFull.ensures.answer in
    stop_at_full c.held_proofs.ensures.claimed _ _ _ _ _ c.run-in-InputFull.new.self c.in-Err-run-3.stop c.ended_by-in-Err-run-3.result midway
    c.ended_by-in-Err-run-3.ensures (c.in-Err-run-3.ensures.goes (jobs midway.lines) midway.written midway.at) over.0 over.1

pub returns-in-Memory : goal.returns-in-Memory
returns-in-Memory g c =
    let lacks = c.in-Memory.ensures.answer in
    record {
      ends = lacking_ends c.held_proofs.ensures.claimed c.lines.invariant lacks.0 lacks.1.taken lacks.1.from (few_lacking lacks.1);
      pass = c.lines.invariant.at.gathered.holds.pass;
    }
