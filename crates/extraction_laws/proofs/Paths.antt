-- Addresses that are reached from another: by parts and instances. An address is reached from one address of each length of path.
use Rattle.std.proofs.Common.{◌≡◌, ◌⊎◌, inl, inr, ℕ, suc, ◌≤◌, Bool, true, false, ◌||◌, refl, sym, ap, subst, ◌∙◌, arith}
use Rattle.fol.specs.declared.symbols.Var.{Var}
use Rattle.fol.specs.Syntax.{Term}
use Rattle.free_variables.specs.Occurrence.{is_free_in_term}
use Rattle.proof_trees.proofs.Booleans.{or_second}
use Rattle.extraction_laws.specs.Addresses.{Address, root, part, via}

-- b is a or is reached from a
abbrev pub From : Address → Address → Type 0
From a (root s f) = a ≡ root s f
From a (part b i) = (a ≡ part b i) ⊎ From a b
From a (via b t) = (a ≡ via b t) ⊎ From a b

-- the length of the path
abbrev pub length_of : Address → ℕ
length_of (root s f) = 0
length_of (part a i) = suc (length_of a)
length_of (via a t) = suc (length_of a)

pub from_itself : (a : Address) → From a a
from_itself (root s f) = refl
from_itself (part a i) = inl refl
from_itself (via a t) = inl refl

-- what is reached from a part or an instance is reached from the address

from_equal : (a b c : Address) → From a b → b ≡ c → From a c
from_equal a b c h e = subst (From a) e h

pub from_part : (a : Address) (i : ℕ) (b : Address) → From (part a i) b → From a b
from_part a i (root s f) h = cc
from_part a i (part b j) (inl e) = from_equal a (part a i) (part b j) (inr (from_itself a)) e
from_part a i (part b j) (inr h) = inr (from_part a i b h)
from_part a i (via b t) (inl e) = from_equal a (part a i) (via b t) (inr (from_itself a)) e
from_part a i (via b t) (inr h) = inr (from_part a i b h)

pub from_via : (a : Address) (t : Term) (b : Address) → From (via a t) b → From a b
from_via a t (root s f) h = cc
from_via a t (part b j) (inl e) = from_equal a (via a t) (part b j) (inr (from_itself a)) e
from_via a t (part b j) (inr h) = inr (from_via a t b h)
from_via a t (via b u) (inl e) = from_equal a (via a t) (via b u) (inr (from_itself a)) e
from_via a t (via b u) (inr h) = inr (from_via a t b h)

-- paths get longer

pub not_shorter : (a b : Address) → From a b → length_of a ≤ length_of b
not_shorter a (root s f) h = let e : length_of a ≡ 0 = ap length_of h in omega arith
not_shorter a (part b i) (inl h) = let e : length_of a ≡ suc (length_of b) = ap length_of h in omega arith
not_shorter a (part b i) (inr h) = let e : length_of a ≤ length_of b = not_shorter a b h in omega arith
not_shorter a (via b t) (inl h) = let e : length_of a ≡ suc (length_of b) = ap length_of h in omega arith
not_shorter a (via b t) (inr h) = let e : length_of a ≤ length_of b = not_shorter a b h in omega arith

-- two addresses with paths of one length, from which the same address is reached, are equal

pub one_of_length : (a c b : Address) → From a b → From c b → length_of a ≡ length_of c → a ≡ c
one_of_length a c (root s f) h g e = h ∙ sym g
one_of_length a c (part b i) (inl h) (inl g) e = h ∙ sym g
one_of_length a c (part b i) (inl h) (inr g) e =
    let long : length_of a ≡ suc (length_of b) = ap length_of h in
    let short : length_of c ≤ length_of b = not_shorter c b g in
    absurd (omega arith)
one_of_length a c (part b i) (inr h) (inl g) e =
    let long : length_of c ≡ suc (length_of b) = ap length_of g in
    let short : length_of a ≤ length_of b = not_shorter a b h in
    absurd (omega arith)
one_of_length a c (part b i) (inr h) (inr g) e = one_of_length a c b h g e
one_of_length a c (via b t) (inl h) (inl g) e = h ∙ sym g
one_of_length a c (via b t) (inl h) (inr g) e =
    let long : length_of a ≡ suc (length_of b) = ap length_of h in
    let short : length_of c ≤ length_of b = not_shorter c b g in
    absurd (omega arith)
one_of_length a c (via b t) (inr h) (inl g) e =
    let long : length_of c ≡ suc (length_of b) = ap length_of g in
    let short : length_of a ≤ length_of b = not_shorter a b h in
    absurd (omega arith)
one_of_length a c (via b t) (inr h) (inr g) e = one_of_length a c b h g e

-- a variable of an instance term on the path
abbrev pub on_path : Var → Address → Bool
on_path y (root s f) = false
on_path y (part a i) = on_path y a
on_path y (via a t) = is_free_in_term y t || on_path y a

-- is one on each path that goes on
pub stays_on_path : (y : Var) (a b : Address) → From a b → on_path y a ≡ true → on_path y b ≡ true
stays_on_path y a (root s f) h e = ap (on_path y) (sym h) ∙ e
stays_on_path y a (part b i) (inl h) e = ap (on_path y) (sym h) ∙ e
stays_on_path y a (part b i) (inr h) e = stays_on_path y a b h e
stays_on_path y a (via b t) (inl h) e = ap (on_path y) (sym h) ∙ e
stays_on_path y a (via b t) (inr h) e = or_second (is_free_in_term y t) (on_path y b) (stays_on_path y a b h e)
