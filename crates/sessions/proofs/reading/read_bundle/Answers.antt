use Rattle.std.proofs.Common.{◌≡◌, true, false, not, arith}
use Rattle.sessions.specs.Switches.{is_faulty}
use Rattle.sessions.proofs.ReadSoFar.{less_to_come}
use Rattle.sessions.proofs.Midway.{begin, few_lines, none_too_long, go_on, rose_since, has_faulty, faulty_told, whole, whole_told, whole_small}
use Rattle.sessions.proofs.Midway.{cut_off, full, part_taken, line_taken, none_taken, nothing_told}
use Rattle.sessions.proofs.reading.read_bundle.Goals as goal

pub lines-init : goal.lines-init
lines-init g c = begin _ _ _ _ c.in-Ok.ensures c.new-progress.ensures

pub overflow_add-number : goal.overflow_add-number
overflow_add-number g c = let few = few_lines c.lines.invariant in omega arith

pub unreachable-requires : goal.unreachable-requires
unreachable-requires g c = none_too_long c.lines.invariant c.in-TooLong.ensures.answer

pub lines-preserved : goal.lines-preserved
lines-preserved g c =
    let handed = c.in-Line.ensures.answer in
    let right : true ≡ not (is_faulty c.in-Line.line.items) = rw c.in-Ok-true.field-0-test at c.in-Ok-true.ensures.right in
    go_on _ _ c.in-Line.line.items c.lines.invariant handed handed.told.0 right c.in-Ok-true.ensures.taken c.next_line.ensures.kept

pub lines-smaller : goal.lines-smaller
lines-smaller g c = less_to_come c.in-Line.ensures.answer

pub returns-in-Err : goal.returns-in-Err
returns-in-Err g c = record { reads = none_taken _; told = nothing_told _; small = tt; kept = omega arith }

pub returns-in-Ok-false : goal.returns-in-Ok-false
returns-in-Ok-false g c =
    let handed = c.in-Line.ensures.answer in
    let faulty : false ≡ not (is_faulty c.in-Line.line.items) = rw c.in-Ok-false.field-0-test at c.in-Ok-false.ensures.right in
    record {
      reads = has_faulty c.in-Line.line.items c.lines.invariant handed handed.told.0 faulty;
      told = faulty_told c.in-Line.line.items c.lines.invariant handed handed.told.0 faulty;
      small = tt;
      kept = let since = c.lines.invariant.reads in omega (arith, c.next_line.ensures.kept);
    }

pub returns-in-Err-take : goal.returns-in-Err-take
returns-in-Err-take g c = record {
  reads = line_taken c.lines.invariant c.in-Line.ensures.answer;
  told = nothing_told _;
  small = tt;
  kept = let since = c.lines.invariant.reads in omega (arith, c.next_line.ensures.kept);
}

pub returns-in-End : goal.returns-in-End
returns-in-End g c =
    let all = whole c.lines.invariant c.in-End.ensures.answer.0 in
    record {
      reads = all;
      told = whole_told all;
      small = whole_small c.lines.invariant;
      kept = let since = c.lines.invariant.reads in omega (arith, c.next_line.ensures.kept);
    }

pub returns-in-ReadFault : goal.returns-in-ReadFault
returns-in-ReadFault g c =
    let fault = c.in-ReadFault.ensures.answer in
    record {
      reads = (rose_since _ _ _ c.lines.invariant.reads fault.0, cut_off c.lines.invariant fault.1 fault.2);
      told = nothing_told _;
      small = tt;
      kept = let since = c.lines.invariant.reads in omega (arith, c.next_line.ensures.kept);
    }

pub returns-in-InputFull : goal.returns-in-InputFull
returns-in-InputFull g c =
    let over = c.in-InputFull.ensures.answer in
    record {
      reads = full c.lines.invariant over.0 over.1;
      told = nothing_told _;
      small = tt;
      kept = let since = c.lines.invariant.reads in omega (arith, c.next_line.ensures.kept);
    }

pub returns-in-Memory : goal.returns-in-Memory
returns-in-Memory g c =
    let lacks = c.in-Memory.ensures.answer in
    record {
      reads = part_taken c.lines.invariant lacks.1;
      told = nothing_told _;
      small = tt;
      kept = let since = c.lines.invariant.reads in omega (arith, c.next_line.ensures.kept);
    }
