use Rattle.std.proofs.Common.{◌≡◌, ◌≤◌, length, take}
use Rattle.serde_json.specs.Find.{get_member}
use Rattle.line_values.specs.View.{members_view}
use Rattle.line_values.proofs.members.find.Given as goal

-- the key is not that of a member from here on
abbrev pub invariant-loop-left : goal.invariant-loop-left
invariant-loop-left l =
    (get_member l.key (members_view l.members.items) ≡ get_member l.key (members_view (take l.left l.members.items))) × (l.left ≤ length l.members.items)

abbrev pub decreases-loop-left : goal.decreases-loop-left
decreases-loop-left l = l.left
