-- The numbers of a link are below what those of the turned one are.
use Rattle.std.proofs.Common.{◌<◌, sym, subst}
use Rattle.std.proofs.lemmas.List.Elements.{All-push, All-get_or}
use Rattle.std.proofs.lemmas.List.Sorted.{All-permutation}
use Rattle.exp_check.specs.Links.{AreWithin}
use Rattle.exp_check.specs.declared.links.Link.{Link}
use Rattle.exp_check.proofs.ranks.turned.Goals as goal

pub loop-link-preserved : goal.loop-link-preserved
loop-link-preserved c = λ n h.
    let own = λ (d : Link). All-get_or (λ (l : Link). (l.before < n) × (l.after < n)) c.args.links.now c.loop-link.link-index d c.loop-link-test.true h in
    subst (AreWithin n) (sym c.in_ok-push.ensures.items) (All-push (λ (l : Link). (l.before < n) × (l.after < n)) c.loop-link.turned.items _ (c.loop-link.invariant n h) ((own _).1, (own _).0))

pub returns : goal.returns
returns c = λ n h. All-permutation (λ (l : Link). (l.before < n) × (l.after < n)) c.loop-link.turned.items c.sort_unstable.new.self.items c.sort_unstable.ensures.permutation (c.loop-link.invariant n h)
