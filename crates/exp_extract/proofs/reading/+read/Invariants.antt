-- The formulas get smaller, and the instances so far are read.
use Rattle.std.proofs.Common.{◌+◌, ◌*◌}
use Rattle.free_variables.specs.Grade.{grade_of}
use Rattle.extraction_laws.specs.Addresses.{part, body_of, formula_at}
use Rattle.extraction_laws.specs.States.{terms_at}
use Rattle.exp_extract.specs.Marked.{address_at}
use Rattle.exp_extract.specs.Reading.{instance_tree}
use Rattle.exp_extract.proofs.ReadInstances.{AreRead}
use Rattle.exp_extract.proofs.reading.+read.Given as goal

abbrev pub decreases-read_tree : goal.decreases-read_tree
decreases-read_tree l = 3 * grade_of (formula_at (address_at l.marks.now l.place))

abbrev pub decreases-read_part : goal.decreases-read_part
decreases-read_part l = 3 * grade_of (formula_at (part (address_at l.marks.now l.place) l.number)) + 2

abbrev pub decreases-read_weak : goal.decreases-read_weak
decreases-read_weak l = 3 * grade_of (body_of (formula_at (address_at l.marks.now l.place))) + 2

abbrev pub decreases-read_instances : goal.decreases-read_instances
decreases-read_instances l = 3 * grade_of (body_of (formula_at (address_at l.marks.now l.place))) + 1

abbrev pub decreases-read_strong : goal.decreases-read_strong
decreases-read_strong l = 3 * grade_of (body_of (formula_at (address_at l.marks.now l.place))) + 2

abbrev pub decreases-read_witness : goal.decreases-read_witness
decreases-read_witness l = 3 * grade_of (body_of (formula_at (address_at l.marks.now l.place))) + 1

abbrev pub invariant-read_instances-loop-term : goal.invariant-read_instances-loop-term
invariant-read_instances-loop-term l = AreRead (instance_tree l.marks (address_at l.marks l.place)) (terms_at l.marks.state (address_at l.marks l.place)) l.term-iterator l.instances.items
