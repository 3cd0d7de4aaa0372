-- What the tasks ask for whose results an arena keeps, and what it keeps.
use Rattle.std.specs.Prelude.{◌≡◌, ℕ, nat_eq, List, get_or, Option, Some, None, IfSome}
use Rattle.std.specs.FinMap as fin
use Rattle.std.specs.HashMap as hash
use Rattle.std.specs.HashMap.{HashMap}
use Rattle.finite.specs.Finite as set
use Rattle.free_variables.specs.Sets.{VarSet}
use Rattle.free_variables.specs.Occurrence.{var_list_terms, vars_term, vars_formula}
use Rattle.lk_rules.specs.Formulas.{FormulaSet, image_set, var_lists}
use Rattle.lk_rules.specs.Sequents.{vars_sequent}
use Rattle.proof_trees.specs.Substitution.{sub}
use Rattle.arena.specs.declared.task.Task.{Task}
use Rattle.arena.specs.declared.task.Task.TheVariants as task
use Rattle.arena.specs.declared.arena.Arena.TheInside.{Inside}
use Rattle.arena.specs.declared.arena.Imported.{Imported}
use Rattle.arena.specs.TaskKeys.{same_task}
use Rattle.arena_cells.specs.Items.{Item, term, terms, formula, side, sequent, tree}
use Rattle.arena_cells.specs.Standing.{Stands, HasFormula, HasVariables, item_at, map_at, side_at, tree_at, IsMapAt, IsSideAt, IsTreeAt, IsThere}
use Rattle.arena.specs.Changes.{changed, operation_at, HasChange}
use Rattle.arena.specs.TreeVariables.{vars_tree}

-- the free variables of a term, a list of terms or a formula; other items have none of their own
abbrev pub vars_item : Item → VarSet
vars_item (term t) = vars_term t set.empty
vars_item (terms ts) = set.of_list (var_list_terms ts)
vars_item (formula f) = vars_formula f set.empty
vars_item i = set.empty

-- the free variables of a set of formulas
abbrev pub vars_side : FormulaSet → VarSet
vars_side s = set.of_list (var_lists (set.listing s))

-- the free variables of an item of any kind
abbrev pub vars_any : Item → VarSet
vars_any (side s) = vars_side s
vars_any (sequent e) = vars_sequent e
vars_any (tree t) = vars_tree t
vars_any i = vars_item i

-- the item for which a task asks
abbrev pub result_of : List Item → Task → Item
result_of a (task.Change ch n) = changed (operation_at a ch) (item_at a n)
result_of a (task.Image m n) = side (image_set (fin.get (map_at a m)) (side_at a n))
result_of a (task.TreeImage m n) = tree (sub (tree_at a n) (map_at a m))

-- the task's numbers stand for what they do
abbrev pub HasTask : List Item → Task → Type 0
HasTask a (task.Change ch n) = HasChange a ch × IsThere a n
HasTask a (task.Image m n) = IsMapAt a m × IsSideAt a n
HasTask a (task.TreeImage m n) = IsMapAt a m × IsTreeAt a n

-- the result of the task stands at the number
pub record IsResult (a : List Item) (q : Task) (n : ℕ) : Type 0 where
  pub parts : HasTask a q
  pub stands : Stands a n (result_of a q)

-- each result that is kept is right
abbrev pub AreResults : {S : Type 0} → List Item → HashMap Task ℕ S → Type 0
AreResults a kept = (q : Task) (n : ℕ) → hash.get same_task kept q ≡ Some n → IsResult a q n

-- the free variables of what stands at the number n are at the number k
pub record AreVariablesOf (a : List Item) (n k : ℕ) : Type 0 where
  pub there : IsThere a n
  pub stands : HasVariables a k (vars_any (item_at a n))

-- each set of variables that is kept at a place is right
abbrev pub AreVariables : List Item → List (Option ℕ) → Type 0
AreVariables a kept = (n k : ℕ) → get_or kept n None ≡ Some k → AreVariablesOf a n k

-- each formula that is kept stands at its number
abbrev pub AreImported : {S : Type 0} → List Item → HashMap ℕ Imported S → Type 0
AreImported a kept = (fingerprint : ℕ) (f : Imported) → hash.get nat_eq kept fingerprint ≡ Some f → HasFormula a f.number f.formula

-- what an arena keeps beside its cells is right
pub record IsArena (i : Inside) : Type 0 where
  pub results : AreResults i.cells i.results
  pub variables : AreVariables i.cells i.variables.items
  pub no_variables : IfSome i.no_variables (λ n. HasVariables i.cells n set.empty)
  pub imported : AreImported i.cells i.imported
