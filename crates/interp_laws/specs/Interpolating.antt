-- What an interpolation over a proof comes to.
--     first_difference      the first formula that stands on a side of just one of two sequents
--     interpolating      the interpolation, or the first reason why there is none
use Rattle.std.specs.Prelude.{ℕ, nat_lt, ◌&&◌, not as negated, if◌then◌else◌, Option, Result, Ok, Err}
use Rattle.std.specs.List.{find, position}
use Rattle.fol.specs.Syntax.{Formula}
use Rattle.finite.specs.Finite as set
use Rattle.free_variables.specs.Union.{union_of}
use Rattle.lk_rules.specs.declared.sequent.Sequent.{Sequent}
use Rattle.lk_rules.specs.Formulas.{FormulaSet}
use Rattle.lk_rules.specs.Sequents.{union_sequent}
use Rattle.proof_trees.specs.Trees.{Tree, concl, size}
use Rattle.step_laws.specs.Places.{steps_of, is_cut_step}
use Rattle.step_laws.specs.Faults.{Placed, on_sides, first_defined, or_fault}
use Rattle.interp_laws.specs.Interpolation.{Interpolation, itp}
use Rattle.interp_laws.specs.declared.fault.InterpFault.{InterpFault}
use Rattle.interp_laws.specs.declared.fault.InterpFault.TheVariants.{Cut, Defined, Partition, Budget}

-- the first formula that stands in just one of two sets
abbrev pub first_outside : FormulaSet → FormulaSet → Option Formula
first_outside a b = find (λ f. negated (set.has a f && set.has b f)) (set.listing (union_of a b))

-- the first formula that stands on a side of just one of two sequents
abbrev pub first_difference : Sequent → Sequent → Option Placed
first_difference s t = on_sides (first_outside s.left t.left) (first_outside s.right t.right)

-- The interpolation of a proof by two parts, or the first of the reasons why there is none, in this order: a cut, by its place among the
-- proof's steps; a formula of the end sequent with a defined symbol; parts that don't make up the end sequent; a tree of more than n nodes.
unfoldable pub interpolating : Tree → Sequent → Sequent → ℕ → Result Interpolation InterpFault
interpolating t one two n =
    or_fault Cut (position is_cut_step (steps_of t))
    (or_fault (λ (p : Placed). Defined p.0 p.1) (first_defined (concl t))
    (or_fault (λ (p : Placed). Partition p.0 p.1) (first_difference (union_sequent one two) (concl t))
    (if nat_lt n (size t) then Err Budget else Ok (itp t one two))))
