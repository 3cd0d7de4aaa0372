-- The clause that lacks a mark isn't subsumed, nor is one that lacks a link.
use Rattle.std.proofs.Common.{◌==◌}
use Rattle.std.specs.Prelude.{bit_or}
use Rattle.std.proofs.lemmas.Bool.{both_ways, eq-eqb}
use Rattle.res_prover.proofs.MarkedLaws.{shown, left_within, right_within, link_within}
use Rattle.res_prover.proofs.marked.MarkedClause.has_marks_within.Goals as goal

pub returns-then-self-other : goal.returns-then-self-other
returns-then-self-other c = λ _ h. c.if-self-other.true (left_within c.self.inside c.other.inside c.self.invariant c.other.invariant (shown c.self.inside c.other.inside c.args.self.now c.args.other.now c.self.view_is c.other.view_is h))

pub returns-then-self-other-2 : goal.returns-then-self-other-2
returns-then-self-other-2 c = λ _ h. c.if-self-other-2.true (right_within c.self.inside c.other.inside c.self.invariant c.other.invariant (shown c.self.inside c.other.inside c.args.self.now c.args.other.now c.self.view_is c.other.view_is h))

pub returns : goal.returns
returns c = λ e h.
    let l = c.in-Some.links in
    let k = c.in-Some-links.others in
    let within = link_within c.self.inside c.other.inside c.self.invariant c.other.invariant (shown c.self.inside c.other.inside c.args.self.now c.args.other.now c.self.view_is c.other.view_is h) l k c.in-Some.is c.in-Some-links.is in
    both_ways (bit_or l.needed k.offered == k.offered) e (eq-eqb (bit_or l.needed k.offered) k.offered within)
