-- What may be answered to an expansion proof.
use Rattle.std.proofs.Common.{◌≡◌, ⊎_elim}
use Rattle.std.specs.Prelude.{◌⊎◌, Result, Ok, Err, IfErr, if◌then◌else◌}
use Rattle.expansion_laws.specs.Dependency.{Expansion}
use Rattle.exp_tree.specs.declared.sequents.ExpSequent.{ExpSequent}
use Rattle.expansion_laws.specs.declared.fault.ExpFault.{ExpFault}
use Rattle.expansion_laws.specs.declared.fault.ExpFault.TheVariants.{EigenTwice, EigenFree, Cycle, Falsified, Budget, Memory}
use Rattle.exp_check.specs.Checking.{Checks, IsShort}

-- an answer to an expansion proof
pub short : (x : Expansion) (r : Result ExpSequent ExpFault) (wanted : Result Expansion ExpFault) → Checks r wanted → (wanted ≡ Ok x) ⊎ (wanted ≡ Err Budget) → IfErr r IsShort
short x (Ok e) wanted c h = tt
short x (Err (EigenTwice v)) wanted c h = ⊎_elim (λ e. cc) (λ e. cc) h
short x (Err (EigenFree v)) wanted c h = ⊎_elim (λ e. cc) (λ e. cc) h
short x (Err (Cycle vs)) wanted c h = ⊎_elim (λ e. cc) (λ e. cc) h
short x (Err (Falsified a)) wanted c h = ⊎_elim (λ e. cc) (λ e. cc) h
short x (Err Budget) wanted c h = tt
short x (Err Memory) wanted c h = tt
