-- The laws are lemmas.
use Rattle.std.specs.Prelude.{Contains, ◌∷◌, ◌++◌}
use Rattle.std.proofs.lemmas.List.Elements.{All-contains, Contains-append_left, Contains-append_right, Contains-append_cases}
use Rattle.clause_laws.specs.Keeping.{with_clause, with_each}
use Rattle.clause_laws.proofs.Lists.{contains_head, contains_later, all_contained}
use Rattle.clause_laws.proofs.Kept.{clause_covers, clause_kept, clause_reduced, each_covers, each_kept, each_reduced}
use Rattle.clause_laws.proofs.laws.kept_clauses.Goals as goal

pub returns-clause-one_covers : goal.returns-clause-one_covers
returns-clause-one_covers c = clause_covers

pub returns-clause-one_has : goal.returns-clause-one_has
returns-clause-one_has g ks c d =
    All-contains (Contains (c ∷ ks)) (with_clause ks c) d (clause_kept (Contains (c ∷ ks)) ks c (all_contained (Contains (c ∷ ks)) ks (contains_later c ks)) (contains_head c ks))

pub returns-clause-one_reduced : goal.returns-clause-one_reduced
returns-clause-one_reduced c = clause_reduced

pub returns-clause-each_covers : goal.returns-clause-each_covers
returns-clause-each_covers g ks cs of_ks of_cs d m = each_covers ks cs of_ks of_cs d (Contains-append_cases ks cs d m)

pub returns-clause-each_has : goal.returns-clause-each_has
returns-clause-each_has g ks cs d =
    All-contains (Contains (ks ++ cs)) (with_each ks cs) d
    (each_kept (Contains (ks ++ cs)) ks cs (all_contained (Contains (ks ++ cs)) ks (Contains-append_left ks cs)) (all_contained (Contains (ks ++ cs)) cs (Contains-append_right ks cs)))

pub returns-clause-each_reduced : goal.returns-clause-each_reduced
returns-clause-each_reduced c = each_reduced
