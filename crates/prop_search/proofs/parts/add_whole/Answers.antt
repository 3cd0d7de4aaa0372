use Rattle.std.proofs.Common.{sym, subst}
use Rattle.fol.specs.Formed.{IsFormed}
use Rattle.prop_search.specs.Parts.{HasParts}
use Rattle.prop_search.proofs.PartsListed.{kept_all, closed_more, formed_more}
use Rattle.prop_search.proofs.parts.add_whole.Goals as goal

pub returns-clause-parts : goal.returns-clause-parts
returns-clause-parts c =
    closed_more c.args.seen.now.keys c.insert.new.self.keys c.in_ok-copy.field-0 c.in_ok-insert.ensures.updates.0 c.requires.parts (subst (HasParts c.args.seen.now.keys) (sym c.in_ok-copy.ensures) c.requires.whole)

pub returns-clause-formed : goal.returns-clause-formed
returns-clause-formed c =
    formed_more c.args.seen.now.keys c.insert.new.self.keys c.in_ok-copy.field-0 c.in_ok-insert.ensures.updates.0 c.requires.formed (subst IsFormed (sym c.in_ok-copy.ensures) c.requires.formula)

pub returns-clause-kept : goal.returns-clause-kept
returns-clause-kept c = kept_all c.args.seen.now.keys c.insert.new.self.keys c.in_ok-copy.field-0 c.in_ok-insert.ensures.updates.0
