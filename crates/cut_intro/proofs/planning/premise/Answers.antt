-- The rules may be used from the end sequent with the formula up.
use Rattle.std.proofs.Common.{◌≡◌, sym, subst, ◌∙◌}
use Rattle.lk_rules.specs.Sequents.{adds_to}
use Rattle.cut_intro.specs.Branches.{AreUsable}
use Rattle.cut_intro.proofs.planning.premise.Goals as goal

pub new-requires : goal.new-requires
new-requires c =
    let same : c.add.new.self ≡ adds_to c.args.end.now c.args.side c.args.formula.now = c.in_ok-add.ensures.ok ∙ λ i. adds_to (c.in_ok-premise.ensures i) c.args.side (c.in_ok-copy.ensures i) in
    subst (λ (P : Type 0). P) (λ i. AreUsable (sym c.deref.ensures.value i) (sym same i)) c.requires.usable
