-- What the patterns and the rows of the code mean.
--     term_pattern_of, tuple_pattern_of, listed_values      a pattern with its list of values
--     row_meant      a row
--     columns      the first terms of tuples and the others
use Rattle.std.specs.Prelude.{List, map, Option, option_map}
use Rattle.std.specs.declared.vec.Vec.{Vec}
use Rattle.fol.specs.Syntax.{Term, Terms}
use Rattle.delta_rows.specs.declared.patterns.TermPattern.{TermPattern}
use Rattle.delta_rows.specs.declared.patterns.TuplePattern.{TuplePattern}
use Rattle.delta_rows.specs.declared.rows.Row.{Row as Found}
use Rattle.herbrand_laws.specs.Patterns.{Pattern, Row}

abbrev pub listed_values : {Z : Type 0} → Option (Vec Term Z) → Option (List Term)
listed_values vs = option_map (λ v. v.items) vs

abbrev pub term_pattern_of : TermPattern → Pattern Term
term_pattern_of p = record { pattern = p.pattern; values = listed_values p.values }

abbrev pub tuple_pattern_of : TuplePattern → Pattern Terms
tuple_pattern_of p = record { pattern = p.pattern; values = listed_values p.values }

abbrev pub row_meant : Found → Row
row_meant r = record { pattern = r.pattern; values = r.values }

-- the first terms of tuples, and the others of each
abbrev pub columns : List (Term × Terms) → List Term × List Terms
columns ps = (map (λ p. p.0) ps, map (λ p. p.1) ps)
