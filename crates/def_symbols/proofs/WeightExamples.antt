-- Worked examples. The formula q(X, Y) & ![Z]: p(Z) with its arguments put for X and Y, which are the indices 1 and 0, of 5 and of 10 nodes:
-- a conjunction, an atom with these, a quantifier, and an atom with a variable.
use Rattle.std.proofs.Common.{◌≡◌, [], ◌∷◌, refl}
use Rattle.fol.specs.Syntax.{bound, nil, cons, plain, Formula, atom, and, all}
use Rattle.def_symbols.specs.Weights.{size_for, weight_of, cut}

abbrev body : Formula
body = and (atom (plain (record { name = 113 ∷ []; arity = 2 })) (cons (bound 1) (cons (bound 0) nil))) (all (atom (plain (record { name = 112 ∷ []; arity = 1 })) (cons (bound 0) nil)))

with_arguments : weight_of (5 ∷ 10 ∷ []) 2 body ≡ 20
with_arguments = refl

without_arguments : weight_of [] 0 body ≡ 7
without_arguments = refl

-- the first argument is that of the outermost quantifier

first_argument : size_for (5 ∷ 10 ∷ []) 2 1 ≡ 5
first_argument = refl

second_argument : size_for (5 ∷ 10 ∷ []) 2 0 ≡ 10
second_argument = refl

-- one quantifier further in each index is one more, and the new one has no argument

further_in : size_for (5 ∷ 10 ∷ []) 3 1 ≡ 10
further_in = refl

its_own : size_for (5 ∷ 10 ∷ []) 3 0 ≡ 1
its_own = refl

large : cut 123456 ≡ 10001
large = refl
