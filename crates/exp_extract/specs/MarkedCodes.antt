-- How marks are coded, so that a proof can tell them apart.
use Rattle.std.specs.Coded.{Coded}
use base.Stored.{coded×, coded_list, coded_via}
use Rattle.finite.specs.Finite as set
use Rattle.free_variables.specs.Sets.{coded_var}
use Rattle.extraction_laws.specs.States.{State}
use Rattle.exp_extract.specs.Marked.{Marked}
use Rattle.exp_extract.specs.AddressCodes.{coded_address}

abbrev pub coded_state : Coded State
coded_state =
    coded_via (coded× (set.code coded_address) (coded× (set.code coded_address) (coded_list coded_address))) (λ (s : State). (s.opened, (s.instances, s.names)))
    (λ x y e i. record { opened = (e i).0; instances = (e i).1.0; names = (e i).1.1 })

abbrev pub coded_marked : Coded Marked
coded_marked =
    coded_via (coded× (coded_list coded_var) (coded× (coded_list coded_address) coded_state)) (λ (m : Marked). (m.outside, (m.addresses, m.state)))
    (λ x y e i. record { outside = (e i).0; addresses = (e i).1.0; state = (e i).1.1 })
