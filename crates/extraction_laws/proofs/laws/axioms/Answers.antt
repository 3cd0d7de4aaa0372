-- The laws are lemmas.
use Rattle.std.proofs.Common.{refl, sym}
use Rattle.extraction_laws.specs.Addresses.{formula_at}
use Rattle.extraction_laws.proofs.Unrolled.{paired-flat, paired-not, paired-and, paired-or, paired-imp, paired-all, paired-ex}
use Rattle.extraction_laws.proofs.laws.axioms.Goals as goal

pub returns-clause-flat : goal.returns-clause-flat
returns-clause-flat c vs l r x e h = paired-flat vs (formula_at l) l r x (record { left = refl; right = sym e }) h

pub returns-clause-negation : goal.returns-clause-negation
returns-clause-negation c vs l r f x left right = paired-not vs f l r x (record { left = left; right = right })

pub returns-clause-conjunction : goal.returns-clause-conjunction
returns-clause-conjunction c vs l r f g x left right = paired-and vs f g l r x (record { left = left; right = right })

pub returns-clause-disjunction : goal.returns-clause-disjunction
returns-clause-disjunction c vs l r f g x left right = paired-or vs f g l r x (record { left = left; right = right })

pub returns-clause-implication : goal.returns-clause-implication
returns-clause-implication c vs l r f g x left right = paired-imp vs f g l r x (record { left = left; right = right })

pub returns-clause-universal : goal.returns-clause-universal
returns-clause-universal c vs l r f x left right = paired-all vs f l r x (record { left = left; right = right })

pub returns-clause-existential : goal.returns-clause-existential
returns-clause-existential c vs l r f x left right = paired-ex vs f l r x (record { left = left; right = right })
