-- The laws are lemmas.
use Rattle.extraction_laws.specs.Addresses.{address_total}
use Rattle.merge_laws.proofs.Unions.{has-union, united_comm}
use Rattle.merge_laws.proofs.laws.unions.Goals as goal

pub returns-clause-used : goal.returns-clause-used
returns-clause-used c x y a = has-union address_total x.opened y.opened a

pub returns-clause-instances : goal.returns-clause-instances
returns-clause-instances c x y a = has-union address_total x.instances y.instances a

pub returns-clause-swap : goal.returns-clause-swap
returns-clause-swap c = united_comm
