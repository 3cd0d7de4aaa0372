-- One more link, and all of them.
use Rattle.std.proofs.Common.{◌≤◌, get_or, subst, arith}
use Rattle.std.proofs.lemmas.List.{take_all}
use Rattle.std.proofs.lemmas.List.Elements.{All-more}
use Rattle.exp_check.specs.Ranks.{NeverFall}
use Rattle.exp_check.specs.declared.links.Link.{Link}
use Rattle.exp_check.proofs.ranks.never_falls.Goals as goal

pub loop-link-preserved : goal.loop-link-preserved
loop-link-preserved c =
    All-more (λ (l : Link). get_or c.args.ranks.now l.before 0 ≤ get_or c.args.ranks.now l.after 0) c.args.links.now c.loop-link.link-index (record { before = 0; after = 0 }) c.loop-link-test.true c.loop-link.invariant c.if-ranks-link.false

pub returns : goal.returns
returns c = λ _. subst (NeverFall c.args.ranks.now) (take_all c.loop-link.link-index c.args.links.now (omega (arith, c.loop-link-test.false))) c.loop-link.invariant
