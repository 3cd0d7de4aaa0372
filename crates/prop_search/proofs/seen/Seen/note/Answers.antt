use Rattle.std.proofs.Common.{sym, subst}
use Rattle.std.proofs.lemmas.List.Elements.{All-set}
use Rattle.prop_search.specs.Seen.{IsVisited}
use Rattle.prop_search.proofs.seen.Seen.note.Goals as goal

pub returns-then-is_small : goal.returns-then-is_small
returns-then-is_small c = c.recycle.ensures c.args.numbering.now c.requires.seen

pub returns-in-Some : goal.returns-in-Some
returns-in-Some c =
    let fs = c.args.numbering.now in
    let ready = c.in_ok-prepare.ensures fs c.requires.seen in
    c.recycle-in-Some.ensures fs (record { visited = All-set (IsVisited fs) _ _ _ (subst (IsVisited fs) (sym c.replace-earlier.ensures.after) (λ some. c.requires.proved)) ready.visited })
