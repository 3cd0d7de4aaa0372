-- The numbers on the left that are on the right too.
use Rattle.std.proofs.Common.{◌≡◌, ℕ, ap, ◌∙◌}
use Rattle.std.proofs.lemmas.Result.{IfOk-weaker}
use Rattle.arena_building.specs.Leaves.{is_number_in, is_common}
use Rattle.arena_building.proofs.CommonNumbers.{on_both}
use Rattle.arena_building.proofs.leaves.common.Goals as goal

pub returns : goal.returns
returns c =
    let l = c.args.list.now in
    let ds = c.deref.result.now in
    let same = λ (m : ℕ). ap (λ ns. is_number_in ns m) c.deref.ensures.value ∙ c.in_ok-right.ensures.same m in
    IfOk-weaker c.among.result _ (λ common. (n : ℕ) → is_number_in common.items n ≡ is_common l n) (λ common h n. ap (λ ns. is_number_in ns n) h ∙ on_both ds l n same) c.among.ensures
