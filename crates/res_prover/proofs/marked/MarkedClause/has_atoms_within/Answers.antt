-- A clause of which some atom has no place in the other one doesn't subsume it.
use Rattle.std.proofs.Common.{sym, ap, ◌∙◌}
use Rattle.std.proofs.lemmas.Bool.{both_ways}
use Rattle.finite.specs.Finite as set
use Rattle.res_prover.specs.Marks.{each_within_some}
use Rattle.res_prover.proofs.MarkLaws.{each_left, each_right}
use Rattle.res_prover.proofs.marked.MarkedClause.has_atoms_within.Goals as goal

pub returns-then-not-are_within_some : goal.returns-then-not-are_within_some
returns-then-not-are_within_some c = λ _ h.
    let fs = set.listing c.args.self.now.left in
    let gs = set.listing c.args.other.now.left in
    let out =
    ap (each_within_some gs) (sym c.side.ensures) ∙ ap (λ ks. each_within_some ks c.side.result.now) (sym c.side-2.ensures) ∙ sym c.are_within_some.ensures
    ∙ c.if-not-are_within_some.true in
    both_ways (each_within_some gs fs) out (each_left c.args.self.now c.args.other.now h)

pub returns : goal.returns
returns c = λ e h.
    let fs = set.listing c.args.self.now.right in
    let gs = set.listing c.args.other.now.right in
    let out =
    ap (each_within_some gs) (sym c.side-3.ensures) ∙ ap (λ ks. each_within_some ks c.side-3.result.now) (sym c.side-4.ensures) ∙ sym c.are_within_some-2.ensures
    ∙ e in
    both_ways (each_within_some gs fs) out (each_right c.args.self.now c.args.other.now h)
