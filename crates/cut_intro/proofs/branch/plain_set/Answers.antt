-- The formulas of a set are well formed.
use Rattle.std.proofs.Common.{not}
use Rattle.std.specs.List.{filter}
use Rattle.std.proofs.lemmas.List.Elements.{All-same, All-filter}
use Rattle.fol.specs.Formed.{IsFormed}
use Rattle.search_laws.specs.Truth.{has_quantifier}
use Rattle.cut_intro.proofs.branch.plain_set.Goals as goal

pub from_vec-requires : goal.from_vec-requires
from_vec-requires c =
    All-same IsFormed c.in_ok-list.list.items (filter (λ f. not (has_quantifier f)) c.as_slice.result.now) c.in_ok-list.ensures (All-filter (λ f. not (has_quantifier f)) IsFormed c.as_slice.result.now c.as_slice.ensures.formed)
