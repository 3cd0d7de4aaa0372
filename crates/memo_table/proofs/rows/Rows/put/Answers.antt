use Rattle.std.proofs.Common.{ap, sym, subst, rules}
use Rattle.memo_table.specs.Pairs.{IsAbsent}
use Rattle.memo_table.specs.Table.{AreKept}
use Rattle.memo_table.proofs.Finds.{kept_push, pushed}
use Rattle.memo_table.proofs.rows.Rows.put.Goals as goal

pub invariant_of-self-2 : goal.invariant_of-self-2
invariant_of-self-2 g c =
    let cmp = g.L.Key.Ord.cmp in
    let same = pushed c.self.inside.pairs.items c.push_reserved.new.self.items c.of-noted.result _ (search rules) c.of-noted.ensures in
    let away = subst (λ ps. IsAbsent cmp ps c.args.key) (sym (ap (λ t. t.pairs) c.self.view_is)) c.requires.absent in
    let holds = subst (λ h. g.L.Law.Truth h c.args.key c.args.val) (sym (ap (λ t. t.home) c.self.view_is)) c.requires.truth in
    subst (λ ps. AreKept (g.L.Law.Truth c.self.inside.home.value) cmp c.insert.new.self.entries ps) (sym same)
    (kept_push cmp _ _ _ c.self.invariant c.args.key c.args.val c.insert.new.self.entries holds away c.in_ok-insert.ensures.updates.0)
