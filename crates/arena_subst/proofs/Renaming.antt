-- An eigenvariable under a new conclusion, by whether it is free there.
use Rattle.std.proofs.Common.{◌≡◌, true, false, if◌then◌else◌, sym, ap, ◌∙◌}
use Rattle.fol.specs.declared.symbols.Var.{Var}
use Rattle.finite.specs.Finite as set
use Rattle.free_variables.specs.Fresh.{least_outside}
use Rattle.lk_rules.specs.declared.sequent.Sequent.{Sequent}
use Rattle.lk_rules.specs.Sequents.{vars_sequent}
use Rattle.lk_rules.proofs.SequentVariables.{sequent_var_members}
use Rattle.proof_trees.specs.Substitution.{renamed}

pub renamed_itself : (y : Var) (e : Sequent) → set.has (vars_sequent e) y ≡ false → renamed y e ≡ y
unfolding renamed
renamed_itself y e h = ap (λ b. if b then least_outside (set.listing (vars_sequent e)) else y) (sym (sequent_var_members e y) ∙ h)

pub renamed_afresh : (y : Var) (e : Sequent) → set.has (vars_sequent e) y ≡ true → renamed y e ≡ least_outside (set.listing (vars_sequent e))
unfolding renamed
renamed_afresh y e h = ap (λ b. if b then least_outside (set.listing (vars_sequent e)) else y) (sym (sequent_var_members e y) ∙ h)
