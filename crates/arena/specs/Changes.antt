-- Changes of terms and formulas: instances, images and binding, inside a number of quantifiers.
--     Operation      what a change does
--     on_term, on_terms, on_formula, changed      what becomes of a term, a list of terms, a formula, an item
--     inside      the change inside a key's item, which may be a quantified formula
use Rattle.std.specs.Prelude.{ℕ, ◌+◌, ◌^◌, ◌<◌}
use Rattle.std.specs.FinMap as fin
use Rattle.fol.specs.declared.symbols.Var.{Var}
use Rattle.fol.specs.Syntax.{Term, Terms, Formula}
use Rattle.substitution.specs.Instance.{inst_term_at, inst_terms_at, inst_at, bind_term_at, bind_terms_at, bind_at}
use Rattle.substitution.specs.Image.{image_term, image_terms, image as image_formula}
use Rattle.substitution.specs.Maps.{Map}
use Rattle.arena.specs.declared.task.Change.{Change}
use Rattle.arena.specs.declared.task.Change.TheVariants as change
use Rattle.arena_cells.specs.declared.key.Parts.{Parts}
use Rattle.arena_cells.specs.declared.key.Parts.TheVariants.{Zero, One, Two}
use Rattle.arena_cells.specs.declared.key.Key.{Key}
use Rattle.arena_cells.specs.declared.key.Key.TheVariants.{Free, Bound, App, Cons, Atom, Defined, Not, And, Or, Imp, All, Ex}
use Rattle.arena_cells.specs.Items.{Item, term, terms, formula}
use Rattle.std.specs.Prelude.{List, Bool, true, false, if◌then◌else◌}
use Rattle.arena_cells.specs.Standing.{term_at, variable_at, map_at, IsTermAt, IsVariableAt, IsMapAt}

-- an instance by a term inside k quantifiers, the image under a map, or a variable bound inside k quantifiers
pub data Operation : Type 0 where
  instance : Term → ℕ → Operation
  image : Map → Operation
  binding : Var → ℕ → Operation

abbrev pub on_term : Operation → Term → Term
on_term (instance u k) t = inst_term_at u k t
on_term (image m) t = image_term (fin.get m) t
on_term (binding v k) t = bind_term_at v k t

abbrev pub on_terms : Operation → Terms → Terms
on_terms (instance u k) ts = inst_terms_at u k ts
on_terms (image m) ts = image_terms (fin.get m) ts
on_terms (binding v k) ts = bind_terms_at v k ts

abbrev pub on_formula : Operation → Formula → Formula
on_formula (instance u k) f = inst_at u k f
on_formula (image m) f = image_formula (fin.get m) f
on_formula (binding v k) f = bind_at v k f

-- what becomes of an item; what is no term, list of terms or formula stays
abbrev pub changed : Operation → Item → Item
changed o (term t) = term (on_term o t)
changed o (terms ts) = terms (on_terms o ts)
changed o (formula f) = formula (on_formula o f)
changed o i = i

-- inside one more quantifier
abbrev pub deeper : Operation → Operation
deeper (instance u k) = instance u (k + 1)
deeper (image m) = image m
deeper (binding v k) = binding v (k + 1)

-- whether the key is that of a quantified formula
abbrev pub binds : Key → Bool
binds (All f) = true
binds (Ex f) = true
binds k = false

abbrev pub inside : Key → Operation → Operation
inside k o = if binds k then deeper o else o

-- the numbers of the terms, lists of terms and formulas of which a key's item is made, but for the body of a symbol: nothing is free in it
abbrev pub parts_of : Key → Parts
parts_of (App s ts) = One ts
parts_of (Cons t ts) = Two t ts
parts_of (Atom s ts) = One ts
parts_of (Defined s f ts) = One ts
parts_of (Not f) = One f
parts_of (And f g) = Two f g
parts_of (Or f g) = Two f g
parts_of (Imp f g) = Two f g
parts_of (All f) = One f
parts_of (Ex f) = One f
parts_of k = Zero

-- the key with other such numbers
abbrev pub with_parts : Key → ℕ → ℕ → Key
with_parts (App s ts) x y = App s x
with_parts (Cons t ts) x y = Cons x y
with_parts (Atom s ts) x y = Atom s x
with_parts (Defined s f ts) x y = Defined s f x
with_parts (Not f) x y = Not x
with_parts (And f g) x y = And x y
with_parts (Or f g) x y = Or x y
with_parts (Imp f g) x y = Imp x y
with_parts (All f) x y = All x
with_parts (Ex f) x y = Ex x
with_parts k x y = k

-- what a change by numbers does
abbrev pub operation_at : List Item → Change → Operation
operation_at a (change.Instance u k) = instance (term_at a u) k
operation_at a (change.Image m) = image (map_at a m)
operation_at a (change.Bind v k) = binding (variable_at a v) k

-- the change's numbers stand for what they do
abbrev pub HasChange : List Item → Change → Type 0
HasChange a (change.Instance u k) = IsTermAt a u
HasChange a (change.Image m) = IsMapAt a m
HasChange a (change.Bind v k) = IsVariableAt a v

-- no more than 2 ^ 32 quantifiers stand around what is below the number
abbrev pub FitsChange : ℕ → Change → Type 0
FitsChange n (change.Instance u k) = k + n < 2 ^ 32
FitsChange n (change.Image m) = Unit {0}
FitsChange n (change.Bind v k) = k + n < 2 ^ 32

-- the change inside a key's item
abbrev pub deeper_change : Change → Change
deeper_change (change.Instance u k) = change.Instance u (k + 1)
deeper_change (change.Image m) = change.Image m
deeper_change (change.Bind v k) = change.Bind v (k + 1)

abbrev pub change_inside : Key → Change → Change
change_inside k ch = if binds k then deeper_change ch else ch

-- what the key means is changed by its parts: it is neither a variable nor an index
abbrev pub IsWalked : Key → Type 0
IsWalked (Free v) = ⊥
IsWalked (Bound i) = ⊥
IsWalked k = Unit {0}

-- the key is not that of a variable
abbrev pub IsNoVariable : Key → Type 0
IsNoVariable (Free v) = ⊥
IsNoVariable k = Unit {0}
