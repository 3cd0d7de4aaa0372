-- What a job holds may cross threads, as a set for `search`.
use denote.Param.Send.{IsSend, IsSync, sendable}
use Rattle.std.proofs.Crossing as std
use Rattle.exp_tree.proofs.Crossing as trees
use Rattle.fol.proofs.symbols.Sym.TheSendSync as symbol
use Rattle.fol.proofs.syntax.Formula.TheLaws.TheKnot as formula_knot
use Rattle.fol.proofs.syntax.Term.TheLaws.TheKnot as term_knot
use Rattle.fol.specs.contracts.syntax.Predicate as predicate
use Rattle.held_values.specs.contracts.held.Held as held
use Rattle.held_values.specs.contracts.refutation.Refutation as refutation
use Rattle.job_words.proofs.Crossing as words
use Rattle.proof_graph.proofs.Crossing as graph
use Rattle.tptp_problem.proofs.Crossing as problems

predicate_send : IsSend predicate.the_row
predicate_send = search (sendable, std.crosses, formula_knot.crosses, term_knot.crosses, symbol.the_field_send) depth 30

predicate_sync : IsSync predicate.the_row
predicate_sync = search (sendable, std.crosses, formula_knot.crosses, term_knot.crosses, symbol.the_field_sync) depth 30

refutation_send : IsSend (refutation.the_field).row
refutation_send = search (sendable, words.crosses, problems.crosses) depth 20

refutation_sync : IsSync (refutation.the_field).row
refutation_sync = search (sendable, words.crosses, problems.crosses) depth 20

pub held_send : IsSend (held.the_field).row
held_send = search (sendable, std.crosses, graph.crosses, problems.crosses, trees.crosses, predicate_send, refutation_send) depth 30

pub held_sync : IsSync (held.the_field).row
held_sync = search (sendable, std.crosses, graph.crosses, problems.crosses, trees.crosses, predicate_sync, refutation_sync) depth 30

pub ruleset crosses = (held_send, held_sync)
