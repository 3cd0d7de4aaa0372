-- The results that are kept, in a larger arena and with one more.
use Rattle.std.proofs.Common.{◌≡◌, ℕ, nat_eq, Bool, true, false, cond, List, get_or, refl, sym, ap, ◌∙◌, subst}
use Rattle.std.specs.Prelude.{Option, Some, None, Result, Ok, Err, IfOk, IfErr, IfSome}
use Rattle.std.specs.Cmp.{unsigned_Decides}
use Rattle.std.specs.FinMap as fin
use Rattle.finite.specs.Finite as set
use Rattle.std.specs.HashMap as hash
use Rattle.std.specs.HashMap.{HashMap, Updates}
use Rattle.std.specs.Map.{lookup}
use Rattle.lk_rules.specs.Formulas.{image_set}
use Rattle.arena.specs.declared.task.Change.{Change}
use Rattle.arena.specs.declared.task.Change.TheVariants as change
use Rattle.arena.specs.declared.task.Task.{Task}
use Rattle.arena.specs.declared.task.Task.TheVariants as task
use Rattle.arena.specs.declared.arena.Imported.{Imported}
use Rattle.arena.specs.TaskKeys.{coded_task, same_task}
use Rattle.number_hash.specs.Codes.{same_by_decides}
use Rattle.arena_cells.specs.Items.{Item, variables, substitution, side, tree}
use Rattle.arena_cells.specs.Standing.{Stands, Extends, HasFormula, HasVariables, item_at, map_at, IsMapAt, IsThere}
use Rattle.arena.specs.Changes.{instance, image, binding, changed, operation_at, HasChange}
use Rattle.proof_trees.specs.Substitution.{sub}
use Rattle.arena.specs.Tasks.{vars_any, result_of, HasTask, IsResult, AreResults, AreVariablesOf, AreVariables, AreImported}
use Rattle.arena_cells.proofs.Reading.{some_same}
use Rattle.arena_cells.proofs.Staying.{item_is, is_map, term_stays, variable_stays, side_stays, tree_stays, term_there, variable_there, side_there, tree_there}

-- a map with one more entry, each of whose entries is right
entries_more : {K V S : Type 0} (eq : K → K → Bool) → ((k q : K) → eq k q ≡ true → k ≡ q) → (P : K → V → Type 0) (kept grown : HashMap K V S) (k : K) (v : V)
    → ((q : K) (w : V) → hash.get eq kept q ≡ Some w → P q w) → Updates eq kept grown k (Some v) → P k v
    → (q : K) (w : V) → hash.get eq grown q ≡ Some w → P q w
entries_more {K} {V} eq same P kept grown k v right updates here q w there = by (eq k q) refl
  where
    by : (b : Bool) → eq k q ≡ b → P q w
    by true e =
        let value : v ≡ w = some_same v w (sym (updates.0 q ∙ ap (λ b. cond b (Some v) (hash.get eq kept q)) e) ∙ there) in
        subst (λ (x : K). P x w) (same k q e) (subst (λ (y : V). P k y) value here)
    by false e = right q w (sym (updates.0 q ∙ ap (λ b. cond b (Some v) (hash.get eq kept q)) e) ∙ there)

pub results_more : {S : Type 0} (a : List Item) (kept grown : HashMap Task ℕ S) (q : Task) (n : ℕ) → AreResults a kept → Updates same_task kept grown q (Some n) → HasTask a q
    → Stands a n (result_of a q) → AreResults a grown
results_more a kept grown q n right updates parts stands =
    entries_more same_task (λ p r. (same_by_decides coded_task p r).0) (IsResult a) kept grown q n right updates (record { parts = parts; stands = stands })

pub imported_more : {S : Type 0} (a : List Item) (kept grown : HashMap ℕ Imported S) (fingerprint : ℕ) (f : Imported) → AreImported a kept → Updates nat_eq kept grown fingerprint (Some f)
    → HasFormula a f.number f.formula → AreImported a grown
imported_more a kept grown fingerprint f right updates here =
    entries_more nat_eq (λ m n. (unsigned_Decides m n).0) (λ _ g. HasFormula a g.number g.formula) kept grown fingerprint f right updates here

module _ (a b : List Item) (grown : Extends a b) where
  pub map_stays : (n : ℕ) → IsMapAt a n → map_at b n ≡ map_at a n
  map_stays n h = is_map b n _ (grown n _ h)

  pub map_there : (n : ℕ) → IsMapAt a n → IsMapAt b n
  map_there n h = grown n _ h ∙ ap (λ x. Some (substitution x)) (sym (map_stays n h))

  pub item_stays : (n : ℕ) → IsThere a n → item_at b n ≡ item_at a n
  item_stays n h = item_is b n _ (grown n _ h)

  pub item_there : (n : ℕ) → IsThere a n → IsThere b n
  item_there n h = grown n _ h ∙ ap Some (sym (item_stays n h))

  pub operation_stays : (ch : Change) → HasChange a ch → operation_at b ch ≡ operation_at a ch
  operation_stays (change.Instance u k) h = ap (λ t. instance t k) (term_stays a b grown u h)
  operation_stays (change.Image m) h = ap image (map_stays m h)
  operation_stays (change.Bind v k) h = ap (λ x. binding x k) (variable_stays a b grown v h)

  pub change_there : (ch : Change) → HasChange a ch → HasChange b ch
  change_there (change.Instance u k) h = term_there a b grown u h
  change_there (change.Image m) h = map_there m h
  change_there (change.Bind v k) h = variable_there a b grown v h

  pub result_stays : (q : Task) → HasTask a q → result_of b q ≡ result_of a q
  result_stays (task.Change ch n) h = λ i. changed (operation_stays ch h.0 i) (item_stays n h.1 i)
  result_stays (task.Image m n) h = λ i. side (image_set (fin.get (map_stays m h.0 i)) (side_stays a b grown n h.1 i))
  result_stays (task.TreeImage m n) h = λ i. tree (sub (tree_stays a b grown n h.1 i) (map_stays m h.0 i))

  pub task_there : (q : Task) → HasTask a q → HasTask b q
  task_there (task.Change ch n) h = (change_there ch h.0, item_there n h.1)
  task_there (task.Image m n) h = (map_there m h.0, side_there a b grown n h.1)
  task_there (task.TreeImage m n) h = (map_there m h.0, tree_there a b grown n h.1)

  pub vars_stay : (kept : List (Option ℕ)) → AreVariables a kept → AreVariables b kept
  vars_stay kept right n k there =
      let old = right n k there in
      record { there = item_there n old.there; stands = grown k _ old.stands ∙ ap (λ t. Some (variables (vars_any t))) (sym (item_stays n old.there)) }

pub results_stay : {S : Type 0} (a b : List Item) (kept : HashMap Task ℕ S) → AreResults a kept → Extends a b → AreResults b kept
results_stay a b kept right grown q n there =
    let old = right q n there in
    record { parts = task_there a b grown q old.parts; stands = grown n _ old.stands ∙ ap Some (sym (result_stays a b grown q old.parts)) }

pub imported_stay : {S : Type 0} (a b : List Item) (kept : HashMap ℕ Imported S) → AreImported a kept → Extends a b → AreImported b kept
imported_stay a b kept right grown fingerprint f there = grown f.number _ (right fingerprint f there)

pub none_stays : (a b : List Item) → Extends a b → (o : Option ℕ) → IfSome o (λ n. HasVariables a n set.empty) → IfSome o (λ n. HasVariables b n set.empty)
none_stays a b grown None h = tt
none_stays a b grown (Some n) h = grown n _ h

-- one more set of variables
vars_more : (a : List Item) (kept grown : List (Option ℕ)) (place number : ℕ) → AreVariables a kept
    → ((n : ℕ) → get_or grown n None ≡ cond (nat_eq n place) (Some number) (get_or kept n None)) → AreVariablesOf a place number → AreVariables a grown
vars_more a kept grown place number right entries here n k there = by (nat_eq n place) refl
  where
    by : (b : Bool) → nat_eq n place ≡ b → AreVariablesOf a n k
    by true e =
        let value : number ≡ k = some_same number k (sym (entries n ∙ ap (λ b. cond b (Some number) (get_or kept n None)) e) ∙ there) in
        subst (λ (m : ℕ). AreVariablesOf a m k) (sym ((unsigned_Decides n place).0 e)) (subst (λ (m : ℕ). AreVariablesOf a place m) value here)
    by false e = right n k (sym (entries n ∙ ap (λ b. cond b (Some number) (get_or kept n None)) e) ∙ there)

vars_same : (a : List Item) (kept same : List (Option ℕ)) → AreVariables a kept → ((n : ℕ) → get_or same n None ≡ get_or kept n None) → AreVariables a same
vars_same a kept same right entries n k there = right n k (sym (entries n) ∙ there)

-- one more set of variables, or none where memory ran out
pub vars_noted : {X E : Type 0} (a : List Item) (kept grown : List (Option ℕ)) (place number : ℕ) (r : Result X E) → AreVariables a kept
    → ((n : ℕ) → IfOk r (λ _. get_or grown n None ≡ cond (nat_eq n place) (Some number) (get_or kept n None)))
    → ((n : ℕ) → IfErr r (λ _. get_or grown n None ≡ get_or kept n None)) → AreVariablesOf a place number → AreVariables a grown
vars_noted a kept grown place number (Ok x) right more same here = vars_more a kept grown place number right more here
vars_noted a kept grown place number (Err e) right more same here = vars_same a kept grown right same

-- with the same entries the same is kept
pub results_same : {S : Type 0} (a : List Item) (kept same : HashMap Task ℕ S) → AreResults a kept → same.entries ≡ kept.entries → AreResults a same
results_same a kept same right entries q n there = right q n (ap (lookup (same_task q)) (sym entries) ∙ there)

pub imported_same : {S : Type 0} (a : List Item) (kept same : HashMap ℕ Imported S) → AreImported a kept → same.entries ≡ kept.entries → AreImported a same
imported_same a kept same right entries fingerprint f there = right fingerprint f (ap (lookup (nat_eq fingerprint)) (sym entries) ∙ there)
