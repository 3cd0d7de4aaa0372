-- The reading of a text as a function: the problem that the text is, or its first fault.
use Rattle.std.specs.Prelude.{ℕ, ◌-◌, List, [], length, Result, Ok, Err}
use Rattle.tptp_problem.specs.declared.errors.Fault.{Fault}
use Rattle.tptp_problem.specs.declared.errors.ProblemKind.{ProblemKind}
use Rattle.tptp_problem.specs.declared.problems.Entry.{Entry}
use Rattle.tptp_problem.specs.declared.problems.Problem.{Problem}
use Rattle.tptp_problem.specs.Closures.{problem_sequent}
use Rattle.tptp_problem.specs.EntryReader.{entries_from}

-- the problem of these entries, or the place of the fault, counted from the start of the text
abbrev pub problem_from : List ℕ → Result (List Entry) Fault → Result Problem (ℕ × ProblemKind)
problem_from text (Ok es) = Ok (record { entries = es; sequent = problem_sequent es })
problem_from text (Err e) = Err (length text - e.left, e.kind)

-- The laws of readings say that this is the one function of which `IsProblemText` and `IsProblemFault` hold.
unfoldable pub problem_reading : List ℕ → Result Problem (ℕ × ProblemKind)
problem_reading text = problem_from text (entries_from [] text)
