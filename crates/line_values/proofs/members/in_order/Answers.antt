use Rattle.std.proofs.Common.{◌≡◌, ◌+◌, ◌++◌, ◌∷◌, [], take, sym, ap, ◌∙◌, arith}
use Rattle.std.proofs.lemmas.List.{take_more}
use Rattle.serde_json.specs.Data.{put}
use Rattle.line_values.specs.View.{view, members_view, ordered_view}
use Rattle.line_values.proofs.Levels.{members_view-push, ordered_view-insert_entry}
use Rattle.line_values.proofs.members.in_order.Goals as goal

pub loop-member-preserved : goal.loop-member-preserved
loop-member-preserved c =
    let l = c.loop-member in
    let xs = c.deref-member-items.result.now in
    let i = l.member-index in
    let m = c.member-item.result in
    let front : take (i + 1) xs ≡ take i xs ++ m ∷ [] = take_more xs i m (omega arith) ∙ ap (λ y. take i xs ++ y ∷ []) (sym c.member-item.is) in
    ap ordered_view c.in_ok-insert.ensures.entries
    ∙ ordered_view-insert_entry l.ordered.entries _ _
    ∙ ap (put m.0.now (view m.1)) l.invariant
    ∙ sym (ap members_view front ∙ members_view-push (take i xs) m)
