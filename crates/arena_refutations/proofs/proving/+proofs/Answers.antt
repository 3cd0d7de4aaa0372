-- The proof of a step under a map, from those of the steps that it is of.
use Rattle.std.proofs.Common.{◌≡◌, ℕ, ◌<◌, true, List, length, sym, ap, subst, ◌∙◌, arith}
use Rattle.std.specs.Prelude.{Some, slice_get, IfSome}
use Rattle.std.specs.FinMap as fin
use Rattle.std.proofs.lemmas.Option.{slice_get_within}
use Rattle.fol.specs.declared.symbols.Var.{Var}
use Rattle.fol.specs.Syntax.{Formula, free}
use Rattle.finite.specs.Finite as set
use Rattle.substitution.specs.Image.{image_term, IsFormedMap}
use Rattle.substitution.specs.Maps.{Map}
use Rattle.substitution.proofs.Restricting.{restricted_formed}
use Rattle.proof_trees.specs.FreeVariables.{is_free_in_tree}
use Rattle.arena_cells.specs.Items.{Item}
use Rattle.arena_cells.specs.Standing.{Extends, HasMap, map_at, variables_at, AreVariablesAt, IsTreeAt}
use Rattle.arena_cells.proofs.Facts as facts
use Rattle.arena_cells.proofs.Staying.{is_formula, is_sequent, is_map, sequent_there, tree_there}
use Rattle.arena_cells.proofs.Reading.{if_ok}
use Rattle.arena.proofs.Results.{map_stays, map_there}
use Rattle.refutations.specs.declared.clause.Clause.{Clause}
use Rattle.refutations.specs.declared.step.ResStep.{ResStep}
use Rattle.refutations.specs.declared.step.ResStep.TheVariants.{Input, Subst, Resolve}
use Rattle.refutations.specs.Refutations.{Derived, IsFormedStep}
use Rattle.refutations.proofs.Derivations.{found_in}
use Rattle.arena_refutations.specs.declared.planning.Planned.{Planned}
use Rattle.image_laws.specs.Steps.{all_derived, AreDerived}
use Rattle.arena_refutations.specs.Planning.{ArePlanned, IsMade}
use Rattle.arena_refutations.proofs.Closings.{closed_stays}
use Rattle.image_laws.proofs.StepLaws.{reached}
use Rattle.arena_refutations.proofs.PlanLaws.{planned_stays}
use Rattle.arena_refutations.proofs.ProofLaws as laws
use Rattle.arena_refutations.proofs.proving.+proofs.Goals as goal

pub prove-restrict-requires-clause-set : goal.prove-restrict-requires-clause-set
prove-restrict-requires-clause-set t c = laws.variables_there c.args.arena.now c.args.clauses.now c.args.steps.now c.requires.derived c.args.planned.now c.requires.planned c.requires.many c.args.place c.requires.place

pub prove-returns-in_err-map-clause-made : goal.prove-returns-in_err-map-clause-made
prove-returns-in_err-map-clause-made t c = laws.proofs_stay c.args.arena.now c.restrict.new.self c.restrict.ensures.grown c.args.clauses.now c.args.steps.now c.args.made.now c.requires.made

pub prove-returns-in-Some-clause-tree : goal.prove-returns-in-Some-clause-tree
prove-returns-in-Some-clause-tree t c =
    let a = c.args.arena.now in
    let b = c.restrict.new.self in
    let cs = c.args.clauses.now in
    let steps = c.args.steps.now in
    let ps = c.args.planned.now in
    let k = c.args.place in
    let p = laws.now a cs steps c.requires.derived ps c.requires.planned c.requires.many k c.requires.place in
    let s = laws.step a cs steps c.requires.derived ps c.requires.planned c.requires.many k c.requires.place in
    let at = laws.stands a cs steps c.requires.derived ps c.requires.planned c.requires.many k c.requires.place in
    laws.proof_needed cs steps c.requires.derived k s at a b b p c.args.map c.in_ok-map.map c.in-Some.tree c.restrict.ensures.grown (λ n x h. h)
    (laws.planned_as a cs steps c.requires.derived ps c.requires.planned c.requires.many k c.requires.place s at) c.requires.map c.in_ok-map.ensures.map c.in-Some.ensures.made

pub prove-prove_new-requires : goal.prove-prove_new-requires
prove-prove_new-requires t c =
    let a = c.args.arena.now in
    let b = c.restrict.new.self in
    let cs = c.args.clauses.now in
    let steps = c.args.steps.now in
    let grown : Extends a b = c.restrict.ensures.grown in (
      omega (arith, c.decreases),
      (
        c.requires.clauses,
        (
          closed_stays a b cs c.args.closed.now grown c.requires.closed,
          (
            c.requires.formed,
            (
              c.requires.derived,
              (
                planned_stays a b grown cs steps c.args.planned.now c.requires.planned,
                (
                  c.requires.many,
                  (
                    laws.proofs_stay a b grown cs steps c.args.made.now c.requires.made,
                    (
                      c.requires.place,
                      (
                        facts.map_there b c.in_ok-map.map _ c.in_ok-map.ensures.map,
                        subst (λ (m : Map). IsFormedMap (fin.get m)) (sym (is_map b c.in_ok-map.map _ c.in_ok-map.ensures.map)) (restricted_formed (map_at a c.args.map) _ c.requires.map_formed),
                      ),
                    ),
                  ),
                ),
              ),
            ),
          ),
        ),
      ),
    )

pub prove-returns-clause-tree : goal.prove-returns-clause-tree
prove-returns-clause-tree t c =
    let a = c.args.arena.now in
    let cs = c.args.clauses.now in
    let steps = c.args.steps.now in
    let ps = c.args.planned.now in
    let k = c.args.place in
    let p = laws.now a cs steps c.requires.derived ps c.requires.planned c.requires.many k c.requires.place in
    let s = laws.step a cs steps c.requires.derived ps c.requires.planned c.requires.many k c.requires.place in
    let at = laws.stands a cs steps c.requires.derived ps c.requires.planned c.requires.many k c.requires.place in
    laws.proof_needed cs steps c.requires.derived k s at a c.restrict.new.self c.prove_new.new.arena p c.args.map c.in_ok-map.map c.in_ok-tree.tree c.restrict.ensures.grown c.prove_new.ensures.grown
    (laws.planned_as a cs steps c.requires.derived ps c.requires.planned c.requires.many k c.requires.place s at) c.requires.map c.in_ok-map.ensures.map c.in_ok-tree.ensures.tree

pub prove_new-prove_input-requires-clause-within : goal.prove_new-prove_input-requires-clause-within
prove_new-prove_input-requires-clause-within t c =
    let at = laws.step_at c.args.steps.now c.args.place c.index-steps-place.result (Input c.in-Input.number) c.requires.place c.index-steps-place.is c.in-Input.is in
    let w = (reached c.args.clauses.now c.args.steps.now c.requires.derived c.args.place (Input c.in-Input.number) at).from in
    slice_get_within c.args.clauses.now c.in-Input.number w.clause w.at

pub prove_new-prove_input-requires-clause-planned : goal.prove_new-prove_input-requires-clause-planned
prove_new-prove_input-requires-clause-planned t c = λ d stands.
    let at = laws.step_at c.args.steps.now c.args.place c.index-steps-place.result (Input c.in-Input.number) c.requires.place c.index-steps-place.is c.in-Input.is in
    (laws.planned_as c.args.arena.now c.args.clauses.now c.args.steps.now c.requires.derived c.args.planned.now c.requires.planned c.requires.many c.args.place c.requires.place (Input c.in-Input.number) at d stands).clause

-- a step under a map: it is of an earlier step, whose plan is there
module _ (a : List Item) (cs : List Clause) (steps : List ResStep) (derived : AreDerived cs steps) (ps : List Planned) (planned : ArePlanned a cs steps ps) (many : length ps ≡ length steps) (place : ℕ)
    (within : place < length steps) (k : ℕ) (g : Map) (at : slice_get steps place ≡ Some (Subst k g)) where
  earlier : k < place
  earlier = (reached cs steps derived place (Subst k g) at).from.before

  earlier_within : k < length steps
  earlier_within = omega (arith, earlier, within)

  map_there_now : HasMap a (laws.now a cs steps derived ps planned many place within).named g
  map_there_now = laws.named_there a cs steps derived ps planned many place within (Subst k g) at

  source_there : (n : ℕ) → IfSome (slice_get ps k) (λ p. n ≡ p.set) → AreVariablesAt a n
  source_there n h = subst (AreVariablesAt a) (sym (laws.set_is a cs steps derived ps planned many k earlier_within n h)) (laws.variables_there a cs steps derived ps planned many k earlier_within)

  source_covers : (n : ℕ) → IfSome (slice_get ps k) (λ p. n ≡ p.set) → (e : Derived) → slice_get (all_derived cs steps) k ≡ Some e → (v : Var) → is_free_in_tree v e.tree ≡ true → set.has (variables_at a n) v ≡ true
  source_covers n h e stands v there =
      ap (λ j. set.has (variables_at a j) v) (laws.set_is a cs steps derived ps planned many k earlier_within n h)
      ∙ (laws.planned_as a cs steps derived ps planned many k earlier_within _ (laws.stands a cs steps derived ps planned many k earlier_within) e stands).covers v there

pub prove_new-set_of-wanted-requires : goal.prove_new-set_of-wanted-requires
prove_new-set_of-wanted-requires t c =
    let at = laws.step_at c.args.steps.now c.args.place c.index-steps-place.result (Subst c.in-Subst.from c.in-Subst.field-1) c.requires.place c.index-steps-place.is c.in-Subst.is in
    omega (arith, earlier c.args.arena.now c.args.clauses.now c.args.steps.now c.requires.derived c.args.planned.now c.requires.planned c.requires.many c.args.place c.requires.place c.in-Subst.from c.in-Subst.field-1 at, c.requires.place, c.requires.many)

pub prove_new-composed_for-requires-clause-first : goal.prove_new-composed_for-requires-clause-first
prove_new-composed_for-requires-clause-first t c =
    let at = laws.step_at c.args.steps.now c.args.place c.index-steps-place.result (Subst c.in-Subst.from c.in-Subst.field-1) c.requires.place c.index-steps-place.is c.in-Subst.is in
    facts.map_there c.args.arena.now _ _ (map_there_now c.args.arena.now c.args.clauses.now c.args.steps.now c.requires.derived c.args.planned.now c.requires.planned c.requires.many c.args.place c.requires.place c.in-Subst.from c.in-Subst.field-1 at)

pub prove_new-composed_for-requires-clause-first_formed : goal.prove_new-composed_for-requires-clause-first_formed
prove_new-composed_for-requires-clause-first_formed t c =
    let a = c.args.arena.now in
    let steps = c.args.steps.now in
    let s = Subst c.in-Subst.from c.in-Subst.field-1 in
    let at = laws.step_at steps c.args.place c.index-steps-place.result s c.requires.place c.index-steps-place.is c.in-Subst.is in
    let formed : IsFormedStep s = found_in IsFormedStep steps c.args.place s c.requires.formed at in
    subst (λ (m : Map). IsFormedMap (fin.get m))
    (sym (is_map a _ _ (map_there_now a c.args.clauses.now steps c.requires.derived c.args.planned.now c.requires.planned c.requires.many c.args.place c.requires.place c.in-Subst.from c.in-Subst.field-1 at))) formed

pub prove_new-composed_for-requires-clause-wanted : goal.prove_new-composed_for-requires-clause-wanted
prove_new-composed_for-requires-clause-wanted t c =
    let at = laws.step_at c.args.steps.now c.args.place c.index-steps-place.result (Subst c.in-Subst.from c.in-Subst.field-1) c.requires.place c.index-steps-place.is c.in-Subst.is in
    source_there c.args.arena.now c.args.clauses.now c.args.steps.now c.requires.derived c.args.planned.now c.requires.planned c.requires.many c.args.place c.requires.place c.in-Subst.from c.in-Subst.field-1 at c.set_of-wanted.result c.set_of-wanted.ensures

pub prove_new-prove-requires : goal.prove_new-prove-requires
prove_new-prove-requires t c =
    let a = c.args.arena.now in
    let b = c.composed_for.new.arena in
    let cs = c.args.clauses.now in
    let steps = c.args.steps.now in
    let grown : Extends a b = c.composed_for.ensures.grown in
    let at = laws.step_at steps c.args.place c.index-steps-place.result (Subst c.in-Subst.from c.in-Subst.field-1) c.requires.place c.index-steps-place.is c.in-Subst.is in
    let before = earlier a cs steps c.requires.derived c.args.planned.now c.requires.planned c.requires.many c.args.place c.requires.place c.in-Subst.from c.in-Subst.field-1 at in (
      omega (arith, c.decreases, before),
      (
        c.requires.clauses,
        (
          closed_stays a b cs c.args.closed.now grown c.requires.closed,
          (
            c.requires.formed,
            (
              c.requires.derived,
              (
                planned_stays a b grown cs steps c.args.planned.now c.requires.planned,
                (c.requires.many, (laws.proofs_stay a b grown cs steps c.args.made.now c.requires.made, (omega (arith, before, c.requires.place), (c.in_ok-map-in-Subst.ensures.map, c.in_ok-map-in-Subst.ensures.formed)))),
              ),
            ),
          ),
        ),
      ),
    )

pub prove_new-returns-in_ok-map-in-Subst-clause-tree : goal.prove_new-returns-in_ok-map-in-Subst-clause-tree
prove_new-returns-in_ok-map-in-Subst-clause-tree t c =
    let a = c.args.arena.now in
    let cs = c.args.clauses.now in
    let steps = c.args.steps.now in
    let ps = c.args.planned.now in
    let k = c.in-Subst.from in
    let g = c.in-Subst.field-1 in
    let at = laws.step_at steps c.args.place c.index-steps-place.result (Subst k g) c.requires.place c.index-steps-place.is c.in-Subst.is in
    let named = is_map a _ _ (map_there_now a cs steps c.requires.derived ps c.requires.planned c.requires.many c.args.place c.requires.place k g at) in
    if_ok c.prove.result _ (IsMade c.prove.new.arena cs steps c.args.place c.args.map)
    (λ n h. laws.image_made cs c.requires.clauses steps c.requires.derived c.requires.formed c.args.place k g at a c.composed_for.new.arena c.prove.new.arena c.composed_for.ensures.grown c.prove.ensures.grown c.args.map
    c.in_ok-map-in-Subst.map n c.requires.map c.in_ok-map-in-Subst.ensures.map (variables_at a c.set_of-wanted.result)
    (source_covers a cs steps c.requires.derived ps c.requires.planned c.requires.many c.args.place c.requires.place k g at c.set_of-wanted.result c.set_of-wanted.ensures)
    (λ v e. ap (λ (m : Map). image_term (fin.get (map_at a c.args.map)) (image_term (fin.get m) (free v))) (sym named) ∙ c.in_ok-map-in-Subst.ensures.same v e) h)
    c.prove.ensures.tree

-- a resolution: it is of two earlier steps
module _ (cs : List Clause) (steps : List ResStep) (derived : AreDerived cs steps) (place p q : ℕ) (f : Formula) (at : slice_get steps place ≡ Some (Resolve p q f)) where
  first_earlier : p < place
  first_earlier = (reached cs steps derived place (Resolve p q f) at).from.first_before

  second_earlier : q < place
  second_earlier = (reached cs steps derived place (Resolve p q f) at).from.second_before

  -- their trees
  first_there : (b : List Item) (m n : ℕ) → IsMade b cs steps p m n → IsTreeAt b n
  first_there b m n h = let w = (reached cs steps derived place (Resolve p q f) at).from in facts.tree_there b n _ (h.tree w.first w.first_at)

  second_there : (b : List Item) (m n : ℕ) → IsMade b cs steps q m n → IsTreeAt b n
  second_there b m n h = let w = (reached cs steps derived place (Resolve p q f) at).from in facts.tree_there b n _ (h.tree w.second w.second_at)

pub prove_new-prove-requires-in-Resolve : goal.prove_new-prove-requires-in-Resolve
prove_new-prove-requires-in-Resolve t c =
    let at = laws.step_at c.args.steps.now c.args.place c.index-steps-place.result (Resolve c.in-Resolve.positive c.in-Resolve.negative c.in-Resolve.atom) c.requires.place c.index-steps-place.is c.in-Resolve.is in
    let before = first_earlier c.args.clauses.now c.args.steps.now c.requires.derived c.args.place c.in-Resolve.positive c.in-Resolve.negative _ at in (
      omega (arith, c.decreases, before),
      (
        c.requires.clauses,
        (
          c.requires.closed,
          (c.requires.formed, (c.requires.derived, (c.requires.planned, (c.requires.many, (c.requires.made, (omega (arith, before, c.requires.place), (c.requires.map, c.requires.map_formed))))))),
        ),
      ),
    )

pub prove_new-prove-requires-in-Resolve-2 : goal.prove_new-prove-requires-in-Resolve-2
prove_new-prove-requires-in-Resolve-2 t c =
    let a = c.args.arena.now in
    let b = c.prove-in-Resolve.new.arena in
    let cs = c.args.clauses.now in
    let steps = c.args.steps.now in
    let grown : Extends a b = c.prove-in-Resolve.ensures.grown in
    let at = laws.step_at steps c.args.place c.index-steps-place.result (Resolve c.in-Resolve.positive c.in-Resolve.negative c.in-Resolve.atom) c.requires.place c.index-steps-place.is c.in-Resolve.is in
    let before = second_earlier cs steps c.requires.derived c.args.place c.in-Resolve.positive c.in-Resolve.negative _ at in (
      omega (arith, c.decreases, before),
      (
        c.requires.clauses,
        (
          closed_stays a b cs c.args.closed.now grown c.requires.closed,
          (
            c.requires.formed,
            (
              c.requires.derived,
              (
                planned_stays a b grown cs steps c.args.planned.now c.requires.planned,
                (
                  c.requires.many,
                  (
                    c.prove-in-Resolve.ensures.made,
                    (
                      omega (arith, before, c.requires.place),
                      (map_there a b grown c.args.map c.requires.map, subst (λ (m : Map). IsFormedMap (fin.get m)) (sym (map_stays a b grown c.args.map c.requires.map)) c.requires.map_formed),
                    ),
                  ),
                ),
              ),
            ),
          ),
        ),
      ),
    )

pub prove_new-prove_resolvent-requires-clause-clause : goal.prove_new-prove_resolvent-requires-clause-clause
prove_new-prove_resolvent-requires-clause-clause t c =
    sequent_there c.args.arena.now c.prove-in-Resolve-2.new.arena (λ n x h. c.prove-in-Resolve-2.ensures.grown n x (c.prove-in-Resolve.ensures.grown n x h)) _
    (laws.clause_there c.args.arena.now c.args.clauses.now c.args.steps.now c.requires.derived c.args.planned.now c.requires.planned c.requires.many c.args.place c.requires.place)

pub prove_new-prove_resolvent-requires-clause-atom : goal.prove_new-prove_resolvent-requires-clause-atom
prove_new-prove_resolvent-requires-clause-atom t c =
    let s = Resolve c.in-Resolve.positive c.in-Resolve.negative c.in-Resolve.atom in
    let at = laws.step_at c.args.steps.now c.args.place c.index-steps-place.result s c.requires.place c.index-steps-place.is c.in-Resolve.is in
    facts.formula_there c.prove-in-Resolve-2.new.arena _ _
    (c.prove-in-Resolve-2.ensures.grown _ _ (c.prove-in-Resolve.ensures.grown _ _
    (laws.named_there c.args.arena.now c.args.clauses.now c.args.steps.now c.requires.derived c.args.planned.now c.requires.planned c.requires.many c.args.place c.requires.place s at)))

pub prove_new-prove_resolvent-requires-clause-first : goal.prove_new-prove_resolvent-requires-clause-first
prove_new-prove_resolvent-requires-clause-first t c =
    let at = laws.step_at c.args.steps.now c.args.place c.index-steps-place.result (Resolve c.in-Resolve.positive c.in-Resolve.negative c.in-Resolve.atom) c.requires.place c.index-steps-place.is c.in-Resolve.is in
    tree_there c.prove-in-Resolve.new.arena c.prove-in-Resolve-2.new.arena c.prove-in-Resolve-2.ensures.grown c.in_ok-first-in-Resolve.first
    (first_there c.args.clauses.now c.args.steps.now c.requires.derived c.args.place c.in-Resolve.positive c.in-Resolve.negative _ at c.prove-in-Resolve.new.arena c.args.map c.in_ok-first-in-Resolve.first c.in_ok-first-in-Resolve.ensures.tree)

pub prove_new-prove_resolvent-requires-clause-second : goal.prove_new-prove_resolvent-requires-clause-second
prove_new-prove_resolvent-requires-clause-second t c =
    let at = laws.step_at c.args.steps.now c.args.place c.index-steps-place.result (Resolve c.in-Resolve.positive c.in-Resolve.negative c.in-Resolve.atom) c.requires.place c.index-steps-place.is c.in-Resolve.is in
    second_there c.args.clauses.now c.args.steps.now c.requires.derived c.args.place c.in-Resolve.positive c.in-Resolve.negative _ at c.prove-in-Resolve-2.new.arena c.args.map c.in_ok-second-in-Resolve.second c.in_ok-second-in-Resolve.ensures.tree

pub prove_new-returns-in_ok-second-in-Resolve-clause-tree : goal.prove_new-returns-in_ok-second-in-Resolve-clause-tree
prove_new-returns-in_ok-second-in-Resolve-clause-tree t c =
    let a = c.args.arena.now in
    let b = c.prove-in-Resolve.new.arena in
    let d = c.prove-in-Resolve-2.new.arena in
    let cs = c.args.clauses.now in
    let steps = c.args.steps.now in
    let ps = c.args.planned.now in
    let f = c.in-Resolve.atom in
    let s = Resolve c.in-Resolve.positive c.in-Resolve.negative f in
    let at = laws.step_at steps c.args.place c.index-steps-place.result s c.requires.place c.index-steps-place.is c.in-Resolve.is in
    let whole : Extends a d = λ n x h. c.prove-in-Resolve-2.ensures.grown n x (c.prove-in-Resolve.ensures.grown n x h) in
    let map = map_there a d whole c.args.map c.requires.map in
    let first = laws.proof_stays b d c.prove-in-Resolve-2.ensures.grown cs steps c.in-Resolve.positive c.args.map c.in_ok-first-in-Resolve.first
    (map_there a b c.prove-in-Resolve.ensures.grown c.args.map c.requires.map) c.in_ok-first-in-Resolve.ensures.tree in
    if_ok c.prove_resolvent.result _ (IsMade c.prove_resolvent.new.arena cs steps c.args.place c.args.map)
    (λ n h. laws.resolvent_made cs c.requires.clauses steps c.requires.derived c.args.place c.in-Resolve.positive c.in-Resolve.negative f at d c.prove_resolvent.new.arena c.prove_resolvent.ensures.grown c.args.map
    c.in_ok-first-in-Resolve.first c.in_ok-second-in-Resolve.second n map _ _ _
    (λ e stands. is_sequent d _ _ (whole _ _ (laws.planned_as a cs steps c.requires.derived ps c.requires.planned c.requires.many c.args.place c.requires.place s at e stands).clause))
    (is_sequent d c.args.closed.now.end _ (whole _ _ c.requires.closed.end))
    (is_formula d _ _ (whole _ _ (laws.named_there a cs steps c.requires.derived ps c.requires.planned c.requires.many c.args.place c.requires.place s at)))
    first c.in_ok-second-in-Resolve.ensures.tree h)
    c.prove_resolvent.ensures.tree
