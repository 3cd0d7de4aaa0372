-- Faults of Herbrand instances as faults of the introduction of a cut.
use Rattle.introduction_laws.specs.declared.fault.HerbrandFault.{HerbrandFault}
use Rattle.introduction_laws.specs.declared.fault.HerbrandFault.TheVariants as herbrand
use Rattle.introduction_laws.specs.declared.fault.IntroFault.{IntroFault}
use Rattle.introduction_laws.specs.declared.fault.IntroFault.TheVariants as intro

-- the same fault of an introduction
abbrev pub intro_fault : HerbrandFault → IntroFault
intro_fault (herbrand.Cut n) = intro.Cut n
intro_fault (herbrand.NotPrenex f side) = intro.NotPrenex f side
intro_fault herbrand.Budget = intro.Budget
intro_fault herbrand.Memory = intro.Memory
