-- A number from which no link is level lies on no cycle.
use Rattle.std.proofs.Common.{◌≡◌, ℕ, ◌<◌, false, get_or, refl, sym, subst, ◌∙◌}
use Rattle.std.specs.List.{list_any, range_with_len}
use Rattle.std.proofs.lemmas.Result.{IfOk-weaker}
use Rattle.exp_check.specs.Distances.{leads_to}
use Rattle.exp_check.specs.Ranks.{is_level, NeverFall}
use Rattle.exp_check.proofs.RankLaws.{on_no_cycle}
use Rattle.exp_check.proofs.ranks.candidates.Goals as goal

pub returns-then-never_falls-clause-others : goal.returns-then-never_falls-clause-others
returns-then-never_falls-clause-others c =
    let ls = c.args.links.now in
    let rs = c.deref-then-never_falls.result.now in
    IfOk-weaker c.level_at.result
    (λ bs. (i : ℕ) → get_or bs.items i false ≡ list_any (is_level rs i) ls)
    (λ bs. (i : ℕ) (k : ℕ) → i < c.args.count → get_or bs.items i false ≡ false → leads_to ls c.args.count k i i ≡ false)
    (λ bs h i k within none.
    on_no_cycle rs ls
    (subst (λ qs. NeverFall qs ls) (c.deref.ensures.value ∙ sym c.deref-then-never_falls.ensures.value) (c.if-never_falls.ensures refl))
    (range_with_len 0 c.args.count) k i (sym (h i) ∙ none))
    c.level_at.ensures.level
