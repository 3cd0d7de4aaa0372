-- Worked examples. With v(X) for p, v(Z) with all unfolded is p, where Z is no longer free. With sub(X, Y) for ![Z]: (in(Z, X) => in(Z, Y)),
-- ?[U]: sub(U, c) is ?[U]: ![Z]: (in(Z, U) => in(Z, c)): the index for U is one higher under the quantifier of Z. Marked by sub, ?[U]: sub(U, c)
-- has that symbol. A definition whose formula has a free variable that is no argument is refused.
use Rattle.std.proofs.Common.{◌≡◌, Bool, true, false, ◌||◌, [], ◌∷◌, Some, None, Ok, Err, refl, lit≤}
use Rattle.std.specs.Ordering.{eq_by_cmp}
use Rattle.fol.specs.declared.symbols.Var.{Var}
use Rattle.fol.specs.declared.symbols.Var.TheVariants.{Word}
use Rattle.fol.specs.Syntax.{Term, free, bound, app, Terms, nil, cons, Pred, plain, Formula, atom, imp, all, ex}
use Rattle.fol.specs.Order.{var_cmp}
use Rattle.free_variables.specs.Occurrence.{is_free_in}
use Rattle.def_laws.specs.declared.fault.DefFault.TheVariants.{Free}
use Rattle.def_laws.specs.Defining.{defining}
use Rattle.def_laws.specs.Definitions.{definition}
use Rattle.def_laws.specs.Flat.{flat}
use Rattle.def_laws.specs.Marking.{marked, first_like}
use Rattle.def_laws.specs.Nodes.{nodes_of}
use Rattle.def_laws.proofs.Faults.{not_less, defined_is, free_is}

abbrev x : Var
x = Word (88 ∷ [])

abbrev y : Var
y = Word (89 ∷ [])

abbrev z : Var
z = Word (90 ∷ [])

abbrev two : Term → Term → Terms
two t u = cons t (cons u nil)

-- an argument that stands nowhere in the body

abbrev p : Formula
p = atom (plain (record { name = 112 ∷ []; arity = 0 })) nil

abbrev v : Pred
v = definition (118 ∷ []) (x ∷ []) p

constant_body : flat (atom v (cons (free z) nil)) ≡ p
constant_body = refl

free_before : is_free_in z (atom v (cons (free z) nil)) ≡ true
free_before = refl

not_free_after : is_free_in z (flat (atom v (cons (free z) nil))) ≡ false
not_free_after = refl

-- an argument with an index

abbrev member : Term → Term → Formula
member t u = atom (plain (record { name = 105 ∷ 110 ∷ []; arity = 2 })) (two t u)

abbrev c : Term
c = app (record { name = 99 ∷ []; arity = 0 }) nil

abbrev sub : Pred
sub = definition (115 ∷ 117 ∷ 98 ∷ []) (x ∷ y ∷ []) (all (imp (member (bound 0) (free x)) (member (bound 0) (free y))))

under_a_quantifier : flat (ex (atom sub (two (bound 0) c))) ≡ ex (all (imp (member (bound 0) (bound 1)) (member (bound 0) c)))
under_a_quantifier = refl

-- a body with a defined symbol

abbrev equal : Pred
equal = definition (101 ∷ 113 ∷ []) (x ∷ y ∷ []) (imp (atom sub (two (free x) (free y))) (atom sub (two (free y) (free x))))

body_in_a_body : flat (atom equal (two (free z) c)) ≡ imp (all (imp (member (bound 0) (free z)) (member (bound 0) c))) (all (imp (member (bound 0) c) (member (bound 0) (free z))))
body_in_a_body = refl

-- nodes: a connective, an atom with two variables, an atom without any

three_and_one : nodes_of (imp (member (free x) (free y)) p) ≡ 5
three_and_one = refl

-- a body isn't looked into, but where it is unfolded

before_and_after : nodes_of (atom sub (two (free x) c)) ≡ 3
before_and_after = refl

unfolded_nodes : nodes_of (flat (atom sub (two (free x) c))) ≡ 8
unfolded_nodes = refl

-- an atom without a body gets that of the first symbol with its name and number of arguments

abbrev named : Pred
named = plain (record { name = 115 ∷ 117 ∷ 98 ∷ []; arity = 2 })

marked_atom : marked (v ∷ sub ∷ []) (ex (atom named (two (bound 0) c))) ≡ ex (atom sub (two (bound 0) c))
marked_atom = refl

-- another number of arguments makes another symbol

other_symbol : marked (v ∷ sub ∷ []) (atom (plain (record { name = 118 ∷ []; arity = 0 })) nil) ≡ atom (plain (record { name = 118 ∷ []; arity = 0 })) nil
other_symbol = refl

like_another : first_like [] (v ∷ sub ∷ named ∷ sub ∷ []) ≡ Some 2
like_another = refl

all_different : first_like [] (v ∷ sub ∷ []) ≡ None
all_different = refl

-- Y is free and no argument; as an argument it is bound, and the definition is the symbol that marks

other_free : (a b : Bool) → (a || (b || false)) ≡ true → (a || false) ≡ false → b ≡ true
other_free true b e h = cc
other_free false true e h = refl
other_free false false e h = cc

unbound : defining (118 ∷ []) (x ∷ []) (member (free x) (free y)) ≡ Err (Free y)
unbound =
    (free_is (118 ∷ []) (x ∷ []) (member (free x) (free y)) y).1 (record {
      free = refl;
      outside = refl;
      least = λ w inside out. not_less w y (other_free (eq_by_cmp var_cmp w x) (eq_by_cmp var_cmp w y) inside out);
    })

each_listed : (a b : Bool) → ((a || false) || (b || false)) ≡ true → (a || (b || false)) ≡ true
each_listed true b e = refl
each_listed false b e = e

bound_by_arguments : defining (115 ∷ 117 ∷ 98 ∷ []) (x ∷ y ∷ []) (all (imp (member (bound 0) (free x)) (member (bound 0) (free y)))) ≡ Ok sub
bound_by_arguments =
    (defined_is (115 ∷ 117 ∷ 98 ∷ []) (x ∷ y ∷ []) (all (imp (member (bound 0) (free x)) (member (bound 0) (free y)))) sub).1
    (λ w inside. each_listed (eq_by_cmp var_cmp w x) (eq_by_cmp var_cmp w y) inside, lit≤ tt, refl)
