use Rattle.std.proofs.Common.{true, is_some, ap, sym, subst, ◌∙◌}
use Rattle.memo_table.specs.Pairs.{IsAbsent}
use Rattle.memo_table.proofs.Finds.{found_at, absent_from_none, in_and_absent, cases_from_lookup}
use Rattle.memo_table.proofs.rows.Rows.find.Goals as goal

pub copy-requires : goal.copy-requires
copy-requires g c = (
  c.args.key.now,
  subst (λ h. g.L.Law.Truth h c.args.key.now c.in-Some.val.now) (ap (λ t. t.home) c.self.view_is ∙ sym c.requires)
      (found_at g.L.Key.Ord.cmp _ _ _ c.self.invariant (g.met.L.Law.respects_cmp c.self.inside.home.value) c.args.key.now c.in-Some.val.now c.in-Some.ensures.value),
)

pub returns-in_ok-copy-in-Some-clause-found : goal.returns-in_ok-copy-in-Some-clause-found
returns-in_ok-copy-in-Some-clause-found g c =
    c.in_ok-copy-in-Some.ensures c.args.key.now
    (subst (λ h. g.L.Law.Truth h c.args.key.now c.in-Some.val.now) (ap (λ t. t.home) c.self.view_is ∙ sym c.requires)
    (found_at g.L.Key.Ord.cmp _ _ _ c.self.invariant (g.met.L.Law.respects_cmp c.self.inside.home.value) c.args.key.now c.in-Some.val.now c.in-Some.ensures.value))

pub returns-in-None-clause-none : goal.returns-in-None-clause-none
returns-in-None-clause-none g c =
    λ _. subst (λ ps. IsAbsent g.L.Key.Ord.cmp ps c.args.key.now) (ap (λ t. t.pairs) c.self.view_is)
    (absent_from_none g.L.Key.Ord.cmp _ _ _ c.self.invariant c.args.key.now (sym c.in-None.ensures.value))

pub returns-in-None-clause-some : goal.returns-in-None-clause-some
returns-in-None-clause-some g c =
    λ at. absurd (in_and_absent g.L.Key.Ord.cmp c.args.self.now.pairs c.args.key.now at
    (subst (λ ps. IsAbsent g.L.Key.Ord.cmp ps c.args.key.now) (ap (λ t. t.pairs) c.self.view_is)
    (absent_from_none g.L.Key.Ord.cmp _ _ _ c.self.invariant c.args.key.now (sym c.in-None.ensures.value))))

pub returns-in_ok-copy-in-Some-clause-stands : goal.returns-in_ok-copy-in-Some-clause-stands
returns-in_ok-copy-in-Some-clause-stands g c = λ some.
    cases_from_lookup g.L.Key.Ord.cmp _ _ _ c.self.invariant c.args.key.now true _ (ap is_some c.in-Some.ensures.value) (ap (λ t. t.pairs) c.self.view_is)
