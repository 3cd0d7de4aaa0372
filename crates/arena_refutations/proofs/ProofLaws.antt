-- The proofs of steps under maps: they stay in a larger arena, and what a step's proof under a map is made of.
use Rattle.std.proofs.Common.{◌≡◌, ℕ, ◌<◌, true, List, map, length, get_or, sym, ap, subst, ◌∙◌, arith}
use Rattle.std.specs.Prelude.{Option, Some, slice_get, IfSome}
use Rattle.std.specs.List.{All}
use Rattle.std.specs.FinMap as fin
use Rattle.std.specs.BTreeMap as ordered
use Rattle.std.specs.BTreeMap.{BTreeMap}
use Rattle.std.proofs.lemmas.Option.{IfSome_then, slice_get-get_or}
use Rattle.fol.specs.declared.symbols.Var.{Var}
use Rattle.fol.specs.Syntax.{Formula, free}
use Rattle.finite.specs.Finite as set
use Rattle.free_variables.specs.Sets.{VarSet}
use Rattle.substitution.specs.Image.{image, image_term, IsFormedMap}
use Rattle.substitution.specs.Maps.{Map}
use Rattle.substitution.specs.Restriction.{restricted}
use Rattle.substitution.proofs.ClosedLaws.{closed_map_of}
use Rattle.substitution.proofs.Restricting.{restricted_agrees}
use Rattle.lk_rules.specs.declared.sequent.Sequent.{Sequent}
use Rattle.lk_rules.specs.declared.rule.Rule.TheVariants.{Cut}
use Rattle.lk_rules.specs.Sequents.{union_sequent, image_sequent}
use Rattle.proof_trees.specs.Trees.{Tree, node, none, more}
use Rattle.proof_trees.specs.FreeVariables.{is_free_in_tree}
use Rattle.proof_trees.specs.Substitution.{sub}
use Rattle.proof_trees.proofs.Agreeing.{agree_tree}
use Rattle.arena_cells.specs.Items.{Item, tree}
use Rattle.arena_cells.specs.Standing.{Extends, HasMap, HasTree, tree_at, map_at, variables_at, IsMapAt, IsSequentAt, AreVariablesAt}
use Rattle.arena_cells.proofs.Staying.{is_map, is_tree}
use Rattle.arena_cells.proofs.Facts as facts
use Rattle.arena.proofs.Results.{map_stays, map_there}
use Rattle.refutations.specs.declared.clause.Clause.{Clause}
use Rattle.refutations.specs.declared.step.ResStep.{ResStep}
use Rattle.refutations.specs.declared.step.ResStep.TheVariants.{Input, Subst, Resolve}
use Rattle.refutations.specs.Clauses.{IsClauseOf, closure_of, closures}
use Rattle.refutations.specs.DerivedSteps.{image_of, resolved}
use Rattle.refutations.specs.Refutations.{Derived, of_input, resolvent, AreFormedSteps}
use Rattle.proof_trees.proofs.FormulaSets.{image-union_sequent}
use Rattle.refutations.proofs.Closures.{image-closures}
use Rattle.arena_refutations.specs.declared.planning.Planned.{Planned}
use Rattle.image_laws.specs.Steps.{all_derived, AreDerived}
use Rattle.arena_refutations.specs.Planning.{HasNamed, IsPlanned, ArePlanned, IsMade, AreMade, pair_cmp}
use Rattle.image_laws.specs.Terms.{over_terms}
use Rattle.arena_refutations.proofs.ClauseLaws.{found}
use Rattle.image_laws.proofs.StepLaws.{reached, rigid_derived}
use Rattle.image_laws.proofs.RigidTrees.{composed-tree}
use Rattle.image_laws.proofs.InputImages.{input-image}

module _ (a b : List Item) (grown : Extends a b) where
  module _ (cs : List Clause) (steps : List ResStep) where
    pub proof_stays : (place m n : ℕ) → IsMapAt a m → IsMade a cs steps place m n → IsMade b cs steps place m n
    proof_stays place m n there h = record { tree = λ d at. grown n _ (h.tree d at) ∙ ap (λ (x : Map). Some (tree (sub d.tree x))) (sym (map_stays a b grown m there)) }

    pub proofs_stay : (table : BTreeMap (ℕ × ℕ) ℕ) → AreMade a cs steps table → AreMade b cs steps table
    proofs_stay table h place m = IfSome_then (ordered.get pair_cmp table (place, m)) (h place m) (λ n k. (map_there a b grown m k.0, proof_stays place m n k.0 k.1))

module _ (cs : List Clause) (steps : List ResStep) (derived : AreDerived cs steps) (place : ℕ) (step : ResStep) (at : slice_get steps place ≡ Some step) where
  -- only what the step derives stands at its place
  only_derived : (d e : Derived) → slice_get (all_derived cs steps) place ≡ Some d → slice_get (all_derived cs steps) place ≡ Some e → d ≡ e
  only_derived d e first second = let same : Some d ≡ Some e = sym first ∙ second in cc

  -- the proof under the part of a map that it needs is that under the map; a has the map, b its part, and c the proof
  pub proof_needed : (a b c : List Item) (p : Planned) (m k n : ℕ) → Extends a b → Extends b c → ((d : Derived) → slice_get (all_derived cs steps) place ≡ Some d → IsPlanned a step d p) → IsMapAt a m
      → HasMap b k (restricted (map_at a m) (variables_at a p.set)) → IsMade c cs steps place k n → IsMade c cs steps place m n
  proof_needed a b c p m k n first second planned there part made = record {
    tree = λ d here.
        let part_is : map_at c k ≡ restricted (map_at a m) (variables_at a p.set) = is_map c k _ (second k _ part) in
        let map_is : map_at c m ≡ map_at a m = map_stays a c (λ j t h. second j t (first j t h)) m there in
        let same : sub d.tree (restricted (map_at a m) (variables_at a p.set)) ≡ sub d.tree (map_at a m) =
        agree_tree d.tree (restricted (map_at a m) (variables_at a p.set)) (map_at a m) (λ v e. restricted_agrees (map_at a m) (variables_at a p.set) v ((planned d here).covers v e)) in
        made.tree d here ∙ ap (λ (u : Tree). Some (tree u)) (ap (sub d.tree) part_is ∙ same ∙ ap (sub d.tree) (sym map_is));
  }

  module _ (a b : List Item) (grown : Extends a b) (m n : ℕ) (there : IsMapAt a m) where
    -- a tree that is the image of the step's under the map
    made_of : (t : Tree) → HasTree b n t → ((d : Derived) → slice_get (all_derived cs steps) place ≡ Some d → t ≡ sub d.tree (map_at a m)) → IsMade b cs steps place m n
    made_of t h is = record {
      tree = λ d here. h ∙ ap (λ (u : Tree). Some (tree u)) (is d here ∙ ap (sub d.tree) (sym (map_stays a b grown m there)));
    }

module _ (cs : List Clause) (clauses : All IsClauseOf cs) (steps : List ResStep) (derived : AreDerived cs steps) where
  -- an input clause
  pub input_made : (place i : ℕ) → slice_get steps place ≡ Some (Input i) → (a b : List Item) → Extends a b → (m n : ℕ) → IsMapAt a m → IsFormedMap (fin.get (map_at a m)) → (c : Clause) → slice_get cs i ≡ Some c
      → (xs : List Var) (s g : Sequent) (f : Formula) → xs ≡ c.vars → ((d : Derived) → slice_get (all_derived cs steps) place ≡ Some d → s ≡ d.clause) → g ≡ closures cs → f ≡ closure_of c
      → HasTree b n (over_terms (union_sequent g (image_sequent (fin.get (map_at a m)) s)) (map (λ (x : Var). image_term (fin.get (map_at a m)) (free x)) xs) f) → IsMade b cs steps place m n
  input_made place i at a b grown m n there map_formed c here xs s g f vars literals ends closure h =
      made_of cs steps derived place (Input i) at a b grown m n there _ h (λ d stands.
      let M = map_at a m in
      let r = reached cs steps derived place (Input i) at in
      let clauses_same : Some r.from.clause ≡ Some c = sym r.from.at ∙ here in
      let one : r.from.clause ≡ c = cc in
      let is : d ≡ of_input (closures cs) c = only_derived cs steps derived place (Input i) at d r.derived stands r.at ∙ r.from.is ∙ ap (of_input (closures cs)) one in
      (λ j. over_terms (union_sequent (ends j) (image_sequent (fin.get M) ((literals d stands ∙ ap (λ (e : Derived). e.clause) is) j))) (map (λ (x : Var). image_term (fin.get M) (free x)) (vars j)) (closure j))
      ∙ sym (input-image cs clauses i c here M (closed_map_of (fin.get M) map_formed)) ∙ ap (λ (e : Derived). sub e.tree M) (sym is))

  -- an image, from the proof of the step that it is of under both maps in a row; a has the maps, b both in a row, and c the proof
  pub image_made : AreFormedSteps steps → (place k : ℕ) (g : Map) → slice_get steps place ≡ Some (Subst k g) → (a b c : List Item) → Extends a b → Extends b c → (m both n : ℕ) → IsMapAt a m → IsMapAt b both → (vs : VarSet)
      → ((e : Derived) → slice_get (all_derived cs steps) k ≡ Some e → (v : Var) → is_free_in_tree v e.tree ≡ true → set.has vs v ≡ true)
      → ((v : Var) → set.has vs v ≡ true → image_term (fin.get (map_at a m)) (image_term (fin.get g) (free v)) ≡ image_term (fin.get (map_at b both)) (free v))
      → IsMade c cs steps k both n → IsMade c cs steps place m n
  image_made formed place k g at a b c first second m both n there both_there vs covers same made = record {
    tree = λ d stands.
        let r = reached cs steps derived place (Subst k g) at in
        let e = r.from.from in
        let is : d ≡ image_of g e = only_derived cs steps derived place (Subst k g) at d r.derived stands r.at ∙ r.from.is in
        let map_is : map_at c m ≡ map_at a m = map_stays a c (λ j t h. second j t (first j t h)) m there in
        let both_is : map_at c both ≡ map_at b both = map_stays b c second both both_there in
        let trees : sub (sub e.tree g) (map_at a m) ≡ sub e.tree (map_at b both) =
        composed-tree e.tree g (map_at a m) (map_at b both) (rigid_derived cs steps formed derived k e r.from.at) (λ v free_there. same v (covers e r.from.at v free_there)) in
        made.tree e r.from.at
        ∙ ap (λ (u : Tree). Some (tree u)) (ap (sub e.tree) both_is ∙ sym trees ∙ (λ j. sub (sub e.tree g) (sym map_is j)) ∙ ap (λ (x : Derived). sub x.tree (map_at c m)) (sym is));
  }

  -- a resolvent, from the proofs of the steps that it is of; a has these, and b the proof
  pub resolvent_made : (place p q : ℕ) (f : Formula) → slice_get steps place ≡ Some (Resolve p q f) → (a b : List Item) → Extends a b → (m first second n : ℕ) → IsMapAt a m → (s g : Sequent) (x : Formula)
      → ((d : Derived) → slice_get (all_derived cs steps) place ≡ Some d → s ≡ d.clause) → g ≡ closures cs → x ≡ f → IsMade a cs steps p m first → IsMade a cs steps q m second
      → HasTree b n (node (Cut (image (fin.get (map_at a m)) x)) (union_sequent g (image_sequent (fin.get (map_at a m)) s)) (more (tree_at a first) (more (tree_at a second) none))) → IsMade b cs steps place m n
  resolvent_made place p q f at a b grown m first second n there s g x literals ends atom one other h =
      made_of cs steps derived place (Resolve p q f) at a b grown m n there _ h (λ d stands.
      let M = map_at a m in
      let r = reached cs steps derived place (Resolve p q f) at in
      let w = r.from in
      let is : d ≡ resolved (closures cs) w.first w.second f = only_derived cs steps derived place (Resolve p q f) at d r.derived stands r.at ∙ w.is in
      let left : tree_at a first ≡ sub w.first.tree M = is_tree a first _ (one.tree w.first w.first_at) in
      let right : tree_at a second ≡ sub w.second.tree M = is_tree a second _ (other.tree w.second w.second_at) in
      let clause : s ≡ resolvent w.first.clause w.second.clause f = literals d stands ∙ ap (λ (e : Derived). e.clause) is in
      let end : union_sequent g (image_sequent (fin.get M) s) ≡ image_sequent (fin.get M) (union_sequent (closures cs) (resolvent w.first.clause w.second.clause f)) =
      (λ j. union_sequent (ends j) (image_sequent (fin.get M) (clause j)))
      ∙ ap (λ e. union_sequent e (image_sequent (fin.get M) (resolvent w.first.clause w.second.clause f))) (sym (image-closures (fin.get M) cs clauses))
      ∙ sym (image-union_sequent (fin.get M) (closures cs) (resolvent w.first.clause w.second.clause f)) in
      (λ j. node (Cut (image (fin.get M) (atom j))) (end j) (more (left j) (more (right j) none))) ∙ ap (λ (e : Derived). sub e.tree M) (sym is))

-- the step at a place, where it is read
pub step_at : (steps : List ResStep) (place : ℕ) (x s : ResStep) → place < length steps → x ≡ get_or steps place x → x ≡ s → slice_get steps place ≡ Some s
step_at steps place x s within here is = found steps place x within here ∙ ap Some is

-- the plan of the step at a place
module _ (a : List Item) (cs : List Clause) (steps : List ResStep) (derived : AreDerived cs steps) (ps : List Planned) (planned : ArePlanned a cs steps ps) (many : length ps ≡ length steps) (k : ℕ) (within : k < length steps) where
  abbrev pub now : Planned
  now = get_or ps k (record { clause = 0; set = 0; named = 0 })

  now_at : slice_get ps k ≡ Some now
  now_at = slice_get-get_or ps k (record { clause = 0; set = 0; named = 0 }) (omega (arith, within, many))

  abbrev pub step : ResStep
  step = get_or steps k (Input 0)

  pub stands : slice_get steps k ≡ Some step
  stands = slice_get-get_or steps k (Input 0) within

  pub planned_as : (s : ResStep) → slice_get steps k ≡ Some s → (d : Derived) → slice_get (all_derived cs steps) k ≡ Some d → IsPlanned a s d now
  planned_as s at d there = planned.each k s d now at there now_at

  pub variables_there : AreVariablesAt a now.set
  variables_there = let r = reached cs steps derived k step stands in (planned_as step stands r.derived r.at).variables

  pub set_is : (n : ℕ) → IfSome (slice_get ps k) (λ p. n ≡ p.set) → n ≡ now.set
  set_is n h = subst (λ (o : Option Planned). IfSome o (λ p. n ≡ p.set)) now_at h

  pub named_there : (s : ResStep) → slice_get steps k ≡ Some s → HasNamed a now.named s
  named_there s at = let r = reached cs steps derived k s at in (planned_as s at r.derived r.at).named

  pub clause_there : IsSequentAt a now.clause
  clause_there = let r = reached cs steps derived k step stands in facts.sequent_there a now.clause _ (planned_as step stands r.derived r.at).clause
