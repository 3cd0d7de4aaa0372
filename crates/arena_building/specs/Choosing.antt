-- Which instance of a weak quantifier is taken.
--     has_some, have_some      a variable of a set stands in a term, or in a list of terms
--     instances_in      the instances at the root of a tree
--     ready_place      the place of the first instance whose term has none
--     chosen      the instance at a place, and the others
--     begins_closed      the term of a list's first instance has no free variable
--     IsAsReady      two sets of variables make the same instance the first that is ready
use Rattle.std.specs.Prelude.{◌≡◌, ℕ, zero, suc, Bool, false, not, if◌then◌else◌, List, [], ◌∷◌, Option, Some, None, option_map, is_some, position, slice_get}
use Rattle.std.specs.List.{list_any}
use Rattle.std.specs.Option.{unwrap_or}
use Rattle.fol.specs.Syntax.{Term, Terms}
use Rattle.fol.specs.Facts.{is_term_open}
use Rattle.finite.specs.Finite as set
use Rattle.free_variables.specs.Sets.{VarSet}
use Rattle.free_variables.specs.Occurrence.{var_list_term, var_list_terms}
use Rattle.expansion_laws.specs.Expansions.{Exp, weak, Insts, none, more}
use Rattle.building_laws.specs.Lists.{Placed}
use Rattle.building_laws.specs.Building.{Chosen, behind}

-- whether a variable of the set stands in the term
abbrev pub has_some : VarSet → Term → Bool
has_some vs t = list_any (set.has vs) (var_list_term t)

abbrev pub have_some : VarSet → Terms → Bool
have_some vs ts = list_any (set.has vs) (var_list_terms ts)

-- the instances of a weak quantifier at the root
abbrev pub instances_in : Exp → Option Insts
instances_in (weak f is) = Some is
instances_in e = None

-- the place of the first instance whose term has no variable of the set
abbrev pub ready_place : VarSet → Insts → Option ℕ
ready_place vs none = None
ready_place vs (more t e is) = if has_some vs t then option_map suc (ready_place vs is) else Some 0

-- the same at the root of a tree
abbrev pub ready_in : VarSet → Exp → Option ℕ
ready_in vs (weak f is) = ready_place vs is
ready_in vs e = None

-- the instance at a place
abbrev pub chosen : Insts → ℕ → Option Chosen
chosen none n = None
chosen (more t e is) zero = Some (record { term = t; tree = e; others = is })
chosen (more t e is) (suc n) = option_map (behind t e) (chosen is n)

-- whether the term of the first instance of a tree has no free variable, where there is one
abbrev pub first_closed_of : Insts → Option Bool
first_closed_of none = None
first_closed_of (more t e is) = Some (not (is_term_open t))

abbrev pub first_closed : Exp → Option Bool
first_closed (weak f is) = first_closed_of is
first_closed e = None

-- the same of the first instance of a list's trees
abbrev pub begins_closed : List Placed → Bool
begins_closed [] = false
begins_closed (p ∷ l) = unwrap_or (first_closed p.tree) (begins_closed l)

-- the first instance whose term has no variable of ws is the first whose term has none of vs
pub record IsAsReady (ws vs : VarSet) (l : List Placed) : Type 0 where
  pub place : position (λ p. is_some (ready_in ws p.tree)) l ≡ position (λ p. is_some (ready_in vs p.tree)) l
  pub instance : (n : ℕ) (p : Placed) → position (λ q. is_some (ready_in ws q.tree)) l ≡ Some n → slice_get l n ≡ Some p → ready_in ws p.tree ≡ ready_in vs p.tree
