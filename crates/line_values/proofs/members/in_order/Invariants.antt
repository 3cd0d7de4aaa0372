use Rattle.std.proofs.Common.{◌≡◌, take}
use Rattle.line_values.specs.View.{members_view, ordered_view}
use Rattle.line_values.proofs.members.in_order.Given as goal

-- the members so far are in order
abbrev pub invariant-loop-member : goal.invariant-loop-member
invariant-loop-member l = ordered_view l.ordered.entries ≡ members_view (take l.member-index l.member-items)
