-- What Herbrand instances of a proof come to.
--     first_not_prenex      the first formula of a sequent that isn't weak quantifiers over a matrix
--     instancing      the instances, or the first reason why there are none
use Rattle.std.specs.Prelude.{ℕ, nat_lt, not as negated, if◌then◌else◌, List, Option, Result, Ok, Err}
use Rattle.std.specs.List.{find, position}
use Rattle.finite.specs.Finite as set
use Rattle.lk_rules.specs.declared.sequent.Sequent.{Sequent}
use Rattle.lk_rules.specs.declared.sequent.Side.TheVariants.{Left, Right}
use Rattle.proof_trees.specs.Trees.{Tree, concl, size}
use Rattle.step_laws.specs.Places.{steps_of, is_cut_step}
use Rattle.step_laws.specs.Faults.{Placed, on_sides, or_fault}
use Rattle.extraction_laws.specs.Extraction.{extracted}
use Rattle.herbrand_laws.specs.Herbrand.{is_prenex, Item, items_of}
use Rattle.introduction_laws.specs.declared.fault.HerbrandFault.{HerbrandFault}
use Rattle.introduction_laws.specs.declared.fault.HerbrandFault.TheVariants.{Cut, NotPrenex, Budget}

-- the first formula of the sequent, left before right, that isn't weak quantifiers over a matrix
abbrev pub first_not_prenex : Sequent → Option Placed
first_not_prenex s = on_sides (find (λ f. negated (is_prenex Left f)) (set.listing s.left)) (find (λ f. negated (is_prenex Right f)) (set.listing s.right))

-- The items of the trees that are extracted from a proof, or the first of the reasons why there are none, in this order: a cut, by its place
-- among the proof's steps; a formula of the end sequent that isn't weak quantifiers over a matrix; a tree of more than n nodes.
unfoldable pub instancing : Tree → ℕ → Result (List Item) HerbrandFault
instancing t n =
    or_fault Cut (position is_cut_step (steps_of t))
    (or_fault (λ (p : Placed). NotPrenex p.0 p.1) (first_not_prenex (concl t))
    (if nat_lt n (size t) then Err Budget else Ok (items_of (extracted t))))
