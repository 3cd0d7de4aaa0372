-- The turned links are within the count.
use Rattle.std.proofs.Common.{sym, subst}
use Rattle.exp_check.specs.Links.{AreWithin}
use Rattle.exp_check.proofs.ranks.ranks.Goals as goal

pub places-requires-2 : goal.places-requires-2
places-requires-2 c = subst (AreWithin c.args.count) (sym c.deref.ensures.value) (c.in_ok-turned.ensures c.args.count c.requires)
