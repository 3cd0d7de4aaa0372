-- What the code of the check answers.
--     Checks      just what the check comes to, unless memory runs out
--     IsShort      what may be answered to an expansion proof
use Rattle.std.specs.Prelude.{◌≡◌, Result, Ok, Err}
use Rattle.expansion_laws.specs.Dependency.{Expansion}
use Rattle.exp_tree.specs.declared.sequents.ExpSequent.{ExpSequent}
use Rattle.exp_tree.specs.Reads.{expansion_of}
use Rattle.expansion_laws.specs.declared.fault.ExpFault.{ExpFault}
use Rattle.expansion_laws.specs.declared.fault.ExpFault.TheVariants.{EigenTwice, EigenFree, Cycle, Falsified, Budget, Memory}

abbrev pub Checks : Result ExpSequent ExpFault → Result Expansion ExpFault → Type 0
Checks (Ok e) wanted = wanted ≡ Ok (expansion_of e)
Checks (Err (EigenTwice v)) wanted = wanted ≡ Err (EigenTwice v)
Checks (Err (EigenFree v)) wanted = wanted ≡ Err (EigenFree v)
Checks (Err (Cycle vs)) wanted = wanted ≡ Err (Cycle vs)
Checks (Err (Falsified a)) wanted = wanted ≡ Err (Falsified a)
Checks (Err Budget) wanted = wanted ≡ Err Budget
Checks (Err Memory) wanted = Unit {0}

-- the budget or memory doesn't suffice
abbrev pub IsShort : ExpFault → Type 0
IsShort Budget = Unit {0}
IsShort Memory = Unit {0}
IsShort fault = ⊥
