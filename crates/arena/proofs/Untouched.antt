-- What a change leaves as it is: a closed term or formula, and one whose indices are those of its own quantifiers.
use Rattle.std.proofs.Common.{◌≡◌, ℕ, ◌≤◌, false, refl, ap}
use Rattle.finite.specs.Finite as set
use Rattle.free_variables.proofs.ShutLaws.{list-shut_term, list-shut_terms, list-shut}
use Rattle.substitution.proofs.Shut.{image-shut_term, image-shut_terms, image-shut, bind-shut_term, bind-shut_terms, bind-shut}
use Rattle.substitution.proofs.Low.{inst-low_term, inst-low_terms, inst-low}
use Rattle.substitution.specs.Maps.{Map}
use Rattle.std.specs.FinMap as fin
use Rattle.fol.specs.declared.symbols.Var.{Var}
use Rattle.fol.specs.Syntax.{Term}
use Rattle.arena_cells.specs.Items.{Item, symbol, term, terms, formula, variables, substitution, side, sequent, tree}
use Rattle.arena_cells.specs.ItemFacts.{is_open_item, item_dangling}
use Rattle.arena.specs.Changes.{instance, image, binding, changed}
use Rattle.arena.specs.Tasks.{vars_item}

pub low_instance : (u : Term) (k : ℕ) (i : Item) → item_dangling i ≤ k → changed (instance u k) i ≡ i
low_instance u k (term t) h = ap term (inst-low_term u k t h)
low_instance u k (terms ts) h = ap terms (inst-low_terms u k ts h)
low_instance u k (formula f) h = ap formula (inst-low u k f h)
low_instance u k (symbol x) h = refl
low_instance u k (variables x) h = refl
low_instance u k (substitution x) h = refl
low_instance u k (side x) h = refl
low_instance u k (sequent x) h = refl
low_instance u k (tree x) h = refl

pub shut_image : (m : Map) (i : Item) → is_open_item i ≡ false → changed (image m) i ≡ i
shut_image m (term t) h = ap term (image-shut_term (fin.get m) t h)
shut_image m (terms ts) h = ap terms (image-shut_terms (fin.get m) ts h)
shut_image m (formula f) h = ap formula (image-shut (fin.get m) f h)
shut_image m (symbol x) h = refl
shut_image m (variables x) h = refl
shut_image m (substitution x) h = refl
shut_image m (side x) h = refl
shut_image m (sequent x) h = refl
shut_image m (tree x) h = refl

pub shut_binding : (v : Var) (k : ℕ) (i : Item) → is_open_item i ≡ false → changed (binding v k) i ≡ i
shut_binding v k (term t) h = ap term (bind-shut_term v k t h)
shut_binding v k (terms ts) h = ap terms (bind-shut_terms v k ts h)
shut_binding v k (formula f) h = ap formula (bind-shut v k f h)
shut_binding v k (symbol x) h = refl
shut_binding v k (variables x) h = refl
shut_binding v k (substitution x) h = refl
shut_binding v k (side x) h = refl
shut_binding v k (sequent x) h = refl
shut_binding v k (tree x) h = refl

pub shut_vars : (i : Item) → is_open_item i ≡ false → vars_item i ≡ set.empty
shut_vars (term t) h = ap set.of_list (list-shut_term t h)
shut_vars (terms ts) h = ap set.of_list (list-shut_terms ts h)
shut_vars (formula f) h = ap set.of_list (list-shut f h)
shut_vars (symbol x) h = refl
shut_vars (variables x) h = refl
shut_vars (substitution x) h = refl
shut_vars (side x) h = refl
shut_vars (sequent x) h = refl
shut_vars (tree x) h = refl

pub ruleset untouched = (low_instance, shut_image, shut_binding)
