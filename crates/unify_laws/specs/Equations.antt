-- Equations between terms, and the maps that solve them.
--     Equation, variables_of, is_free_in_equations      equations, and which variables stand in them
--     AreFormed      their sides are well formed
--     Unifies      a map makes the sides of each equation equal
--     replaced      equations with a term for a variable
use Rattle.std.specs.Prelude.{◌≡◌, Bool, ◌||◌, List, [], ◌∷◌, ◌++◌, map, Option}
use Rattle.std.specs.List.{All, list_any}
use Rattle.std.specs.FinMap as fin
use Rattle.fol.specs.declared.symbols.Var.{Var}
use Rattle.fol.specs.Syntax.{Term}
use Rattle.fol.specs.Formed.{IsFormedTerm}
use Rattle.free_variables.specs.Occurrence.{is_free_in_term, var_list_term}
use Rattle.substitution.specs.Image.{image_term}
use Rattle.substitution.specs.Maps.{only}

-- two terms that are to become equal
abbrev pub Equation : Type 0
Equation = Term × Term

-- the variables of equations, one for each occurrence
abbrev pub variables_of : List Equation → List Var
variables_of [] = []
variables_of (e ∷ es) = (var_list_term e.0 ++ var_list_term e.1) ++ variables_of es

-- whether v stands on either side
abbrev pub is_free_in_equation : Var → Equation → Bool
is_free_in_equation v e = is_free_in_term v e.0 || is_free_in_term v e.1

abbrev pub is_free_in_equations : Var → List Equation → Bool
is_free_in_equations v es = list_any (is_free_in_equation v) es

-- a unifier: a map that makes the sides of each equation equal
abbrev pub Unifies : (Var → Option Term) → List Equation → Type 0
Unifies m es = All (λ (e : Equation). image_term m e.0 ≡ image_term m e.1) es

-- the sides are well formed
abbrev pub AreFormed : List Equation → Type 0
AreFormed es = All (λ (e : Equation). IsFormedTerm e.0 × IsFormedTerm e.1) es

-- the term with s for the variable x
abbrev pub put_for : Var → Term → Term → Term
put_for x s t = image_term (fin.get (only x s)) t

abbrev pub replaced : Var → Term → List Equation → List Equation
replaced x s es = map (λ (e : Equation). (put_for x s e.0, put_for x s e.1)) es
