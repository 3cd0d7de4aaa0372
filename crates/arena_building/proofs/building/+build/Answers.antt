-- The proof of a list is by its step and the proofs of the premises. It has as many inferences as those, and one more.
use Rattle.std.proofs.Common.{◌≡◌, ◌+◌, List, [], ◌∷◌, Option, Some, sym, ap, subst, ◌∙◌, arith}
use Rattle.std.specs.Prelude.{ℕ, IfSome, option_map}
use Rattle.std.specs.List.{All}
use Rattle.std.proofs.lemmas.List.Elements.{All-head, All-tail}
use Rattle.std.proofs.lemmas.Option.{IfSome_then}
use Rattle.std.proofs.lemmas.Result.{IfOk-weaker}
use Rattle.lk_rules.specs.declared.sequent.Sequent.{Sequent}
use Rattle.proof_trees.specs.Trees.{node}
use Rattle.arena_cells.specs.Items.{Item}
use Rattle.arena_cells.specs.Standing.{Extends, HasSequent, sequent_at, tree_at}
use Rattle.arena_cells.specs.Meaning.{rule_at, trees_at, HasRuleParts}
use Rattle.arena_cells.specs.declared.key.Parts.{Parts}
use Rattle.arena_cells.proofs.Facts.{sequent_there, tree_there}
use Rattle.arena_cells.proofs.Staying.{is_sequent, is_tree, rule_stays, rule_parts_there}
use Rattle.building_laws.specs.Lists.{Placed, conclusion}
use Rattle.building_laws.specs.Building.{step_at, build, visits}
use Rattle.building_laws.specs.Buildable.{IsBuildable}
use Rattle.building_laws.specs.declared.fault.BuildFault.TheVariants.{Budget}
use Rattle.arena_building.specs.Begun.{IsBegun}
use Rattle.arena_building.specs.Building.{two_of, IsAnswered, IsProofOf, AreProofsOf}
use Rattle.arena_building.specs.Dividing.{items_of, parts_each, ArePremisesNumbered}
use Rattle.arena_building.specs.Kept.{kept_of}
use Rattle.arena_building.specs.Leaves.{IsOpen}
use Rattle.arena_building.specs.Numbered.{Numbered, trees}
use Rattle.arena_building.specs.Putting.{put}
use Rattle.arena_building.specs.Sides.{HasSides, with_main}
use Rattle.arena_building.specs.Taking.{lists_over, step_of, IsRest, HasEnd}
use Rattle.arena_building.specs.declared.building.Begun.{Begun}
use Rattle.arena_building.specs.declared.building.Begun.TheVariants.{Open}
use Rattle.arena_building.specs.declared.dividing.Added.{Added}
use Rattle.arena_building.specs.declared.dividing.Premises.{Premises}
use Rattle.arena_building.specs.declared.lists.Rest.{Rest}
use Rattle.arena_building.specs.declared.sides.Sides.{Sides}
use Rattle.arena_building.specs.declared.steps.Taken.{Taken}
use Rattle.arena_building.proofs.Answered.{if_answered, answered_by, passed_on}
use Rattle.arena_building.proofs.Counted.{by_its_step, visits_by_step}
use Rattle.arena_building.proofs.Premises.{premise_shown, premise_numbered, added_stays, premises_stay, rest_stays, two_answered}
use Rattle.arena_building.proofs.SideNumbers.{sides_stay}
use Rattle.arena_building.proofs.building.+build.Goals as goal

pub build_open-rest_sides-requires-clause-end : goal.build_open-rest_sides-requires-clause-end
build_open-rest_sides-requires-clause-end t c =
    let b = c.take_step.new.arena in
    let end = (subst (λ (o : Option Taken). IfSome o (HasEnd b (trees c.args.list.items))) c.in-Some.is c.in_ok-taken.ensures.end).end in
    IfSome_then c.args.end c.requires.end (λ n h.
    subst (λ (qs : List Numbered). HasSequent b n (with_main b c.in-Some.taken.main (conclusion (trees qs)))) (sym c.deref.ensures.value)
    (subst (λ (e : Sequent). HasSequent b n e) end (c.take_step.ensures.grown _ _ h)))

pub build_open-build_premises-requires : goal.build_open-build_premises-requires
build_open-build_premises-requires t c =
    let a = c.take_step.new.arena in
    let b = c.rest_sides.new.arena in
    let l = trees c.args.list.items in
    let taken = c.in-Some.taken in
    let step : step_at l ≡ Some (step_of a taken) = c.in_ok-taken.ensures.step ∙ ap (option_map (step_of a)) c.in-Some.is in
    let sides = if_answered (λ s. HasSides b s (conclusion (trees c.deref.result.now))) c.args.end c.in_ok-sides.sides c.in_ok-sides.ensures.sides in (
      omega (arith, c.in_ok-count.ensures.counted),
      (
        c.lists.ensures.premises l (step_of a taken) c.requires.buildable step,
        (
          rest_stays a b taken.rest c.rest_sides.ensures.grown (subst (λ (o : Option Taken). IfSome o (λ t. IsRest a t.rest)) c.in-Some.is c.in_ok-taken.ensures.rest),
          (
            subst (λ (qs : List Numbered). IfSome c.in_ok-sides.sides (λ s. HasSides b s (conclusion (trees qs)))) c.deref.ensures.value sides,
            premises_stay a b taken.premises c.rest_sides.ensures.grown (subst (λ (o : Option Taken). IfSome o (λ t. ArePremisesNumbered a t.premises)) c.in-Some.is c.in_ok-taken.ensures.premises),
          ),
        ),
      ),
    )

pub build_open-returns-in_err-proofs-clause-budget : goal.build_open-returns-in_err-proofs-clause-budget
build_open-returns-in_err-proofs-clause-budget t c =
    λ e.
    let b = c.take_step.new.arena in
    let l = trees c.args.list.items in
    let s = step_of b c.in-Some.taken in
    let step : step_at l ≡ Some s = c.in_ok-taken.ensures.step ∙ ap (option_map (step_of b)) c.in-Some.is in
    let visited = visits_by_step c.lists.ensures.built l s (c.steps.ensures.step l) step (c.lists.ensures.premises l s c.requires.buildable step) in
    let less = c.in_err-proofs.ensures.budget (passed_on c.from_residual-in_err-proofs.result Budget c.in_err-proofs.field-0.0 c.from_residual-in_err-proofs.ensures.1 e) in
    omega (arith, less, visited, c.in_ok-count.ensures.counted)

pub build_open-returns-in_default-end-clause-counted : goal.build_open-returns-in_default-end-clause-counted
build_open-returns-in_default-end-clause-counted t c =
    let b = c.take_step.new.arena in
    let l = trees c.args.list.items in
    let s = step_of b c.in-Some.taken in
    let step : step_at l ≡ Some s = c.in_ok-taken.ensures.step ∙ ap (option_map (step_of b)) c.in-Some.is in
    let visited = visits_by_step c.lists.ensures.built l s (c.steps.ensures.step l) step (c.lists.ensures.premises l s c.requires.buildable step) in
    omega (arith, c.in_ok-count.ensures.counted, c.in_ok-proofs.ensures.counted, visited)

pub build_open-inference-requires-clause-rule : goal.build_open-inference-requires-clause-rule
build_open-inference-requires-clause-rule t c =
    let b = c.take_step.new.arena in
    let grown : Extends b c.build_premises.new.arena = λ n x h. c.build_premises.ensures.grown n x (c.rest_sides.ensures.grown n x h) in
    rule_parts_there b c.build_premises.new.arena grown c.in-Some.taken.rule
    (subst (λ (o : Option Taken). IfSome o (λ t. HasRuleParts b t.rule)) c.in-Some.is c.in_ok-taken.ensures.rule)

pub build_open-inference-requires-clause-end : goal.build_open-inference-requires-clause-end
build_open-inference-requires-clause-end t c =
    let there = subst (λ (o : Option ℕ). IfSome o (λ n. HasSequent c.args.arena.now n (conclusion (trees c.args.list.items)))) c.in-Some-end.is c.requires.end in
    sequent_there c.build_premises.new.arena c.in-Some-end.end _ (c.build_premises.ensures.grown _ _ (c.rest_sides.ensures.grown _ _ (c.take_step.ensures.grown _ _ there)))

pub build_open-returns-in_err-inference-clause-grown : goal.build_open-returns-in_err-inference-clause-grown
build_open-returns-in_err-inference-clause-grown t c = λ n x h. c.inference.ensures.grown n x (c.build_premises.ensures.grown n x (c.rest_sides.ensures.grown n x (c.take_step.ensures.grown n x h)))

pub build_open-returns-clause-proof : goal.build_open-returns-clause-proof
build_open-returns-clause-proof t c =
    let b = c.take_step.new.arena in
    let d = c.build_premises.new.arena in
    let grown : Extends b d = λ n x h. c.build_premises.ensures.grown n x (c.rest_sides.ensures.grown n x h) in
    let l = trees c.args.list.items in
    let taken = c.in-Some.taken in
    let end = c.in-Some-end.end in
    let ms = lists_over taken.rest (parts_each taken.premises) in
    let step : step_at l ≡ Some (step_of b taken) = c.in_ok-taken.ensures.step ∙ ap (option_map (step_of b)) c.in-Some.is in
    let parts : HasRuleParts b taken.rule = subst (λ (o : Option Taken). IfSome o (λ t. HasRuleParts b t.rule)) c.in-Some.is c.in_ok-taken.ensures.rule in
    let rule : rule_at d taken.rule ≡ rule_at b taken.rule = rule_stays b d grown taken.rule parts in
    let there = subst (λ (o : Option ℕ). IfSome o (λ n. HasSequent c.args.arena.now n (conclusion l))) c.in-Some-end.is c.requires.end in
    let shown : sequent_at d end ≡ conclusion l = is_sequent d end _ (grown _ _ (c.take_step.ensures.grown _ _ there)) in
    let proofs : AreProofsOf d ms c.in-Some-proofs.proofs =
    subst (λ (o : Option Parts). IfSome o (AreProofsOf d ms)) c.in-Some-proofs.is (if_answered (AreProofsOf d ms) c.in_ok-sides.sides c.in_ok-proofs.proofs c.in_ok-proofs.ensures.proofs) in
    let made = c.inference.new.arena in
    let n = c.in_ok-inference.field-0 in
    let premises = trees_at d c.in-Some-proofs.proofs in
    let built : build l ≡ Some (tree_at made n) =
    by_its_step l (step_of b taken) (c.steps.ensures.step l) step
    ∙ (ap (option_map (node (rule_at b taken.rule) (conclusion l))) proofs.built
    ∙ ((λ i. Some (node (sym rule i) (sym shown i) premises)) ∙ ap Some (sym (is_tree made n _ c.in_ok-inference.ensures.tree)))) in
    subst (λ (o : Option ℕ). IsAnswered (λ _. IsProofOf made l) o (Some n)) (sym c.in-Some-end.is) (record { built = built; there = tree_there made n _ c.in_ok-inference.ensures.tree })

pub build_open-returns-clause-counted : goal.build_open-returns-clause-counted
build_open-returns-clause-counted t c =
    let b = c.take_step.new.arena in
    let l = trees c.args.list.items in
    let s = step_of b c.in-Some.taken in
    let step : step_at l ≡ Some s = c.in_ok-taken.ensures.step ∙ ap (option_map (step_of b)) c.in-Some.is in
    let visited = visits_by_step c.lists.ensures.built l s (c.steps.ensures.step l) step (c.lists.ensures.premises l s c.requires.buildable step) in
    omega (arith, c.in_ok-count.ensures.counted, c.in_ok-proofs.ensures.counted, visited)

pub build_open-returns-clause-grown : goal.build_open-returns-clause-grown
build_open-returns-clause-grown t c = λ n x h. c.inference.ensures.grown n x (c.build_premises.ensures.grown n x (c.rest_sides.ensures.grown n x (c.take_step.ensures.grown n x h)))

-- a premise whose list has to be taken apart
to_take_apart : (b : List Item) (sides : Option Sides) (m n : ℕ) (q r : Rest) (x : Added) (y : Begun) (end : Option ℕ) → q ≡ r → y ≡ Open end → IsBegun b sides m n (put (trees q.list.items) q.place (trees (items_of x))) y → IsBegun b sides m n (put (trees r.list.items) r.place (trees (items_of x))) (Open end)
to_take_apart b sides m n q r x y end same is h =
    subst (λ (z : Rest). IsBegun b sides m n (put (trees z.list.items) z.place (trees (items_of x))) (Open end)) same (subst (λ (z : Begun). IsBegun b sides m n (put (trees q.list.items) q.place (trees (items_of x))) z) is h)

pub build_premise-build_open-requires : goal.build_premise-build_open-requires
build_premise-build_open-requires t c =
    let a = c.args.arena.now in
    let b = c.begin.new.arena in
    let r = kept_of c.args.rest in
    let x = c.args.added in
    let l = c.in_ok-list-in-Open.list.items in
    let m = put (trees r.list.items) r.place (trees (items_of x)) in
    let same : l ≡ put r.list.items r.place (items_of x) = c.in_ok-list-in-Open.ensures in
    let shown : trees l ≡ m = premise_shown r x l same in
    let begun = to_take_apart b c.args.sides c.args.left.now c.begin.new.left c.rest.result.now r x c.in_ok-proof.field-0 c.in-Open.end c.rest.ensures c.in-Open.is c.in_ok-proof.ensures.begun in (
      omega (arith, begun.1.1),
      (
        subst (λ (ps : List Placed). IsBuildable ps) (sym shown) c.requires.buildable,
        (
          premise_numbered r x l same a b c.begin.ensures.grown c.requires.rest c.requires.added,
          (
            subst (λ (ps : List Placed). IsOpen ps) (sym shown) begun.1.0,
            subst (λ (ps : List Placed). IfSome c.in-Open.end (λ n. HasSequent b n (conclusion ps))) (sym shown) (if_answered (λ n. HasSequent b n (conclusion m)) c.args.sides c.in-Open.end begun.0),
          ),
        ),
      ),
    )

pub build_premise-returns-in_ok-list-in-Open-clause-proof : goal.build_premise-returns-in_ok-list-in-Open-clause-proof
build_premise-returns-in_ok-list-in-Open-clause-proof t c =
    let b = c.begin.new.arena in
    let d = c.build_open.new.arena in
    let r = kept_of c.args.rest in
    let x = c.args.added in
    let l = c.in_ok-list-in-Open.list.items in
    let m = put (trees r.list.items) r.place (trees (items_of x)) in
    let shown : trees l ≡ m = premise_shown r x l c.in_ok-list-in-Open.ensures in
    let begun = to_take_apart b c.args.sides c.args.left.now c.begin.new.left c.rest.result.now r x c.in_ok-proof.field-0 c.in-Open.end c.rest.ensures c.in-Open.is c.in_ok-proof.ensures.begun in
    IfOk-weaker c.build_open.result (IsAnswered (λ _. IsProofOf d (trees l)) c.in-Open.end) (IsAnswered (λ _. IsProofOf d m) c.args.sides)
    (λ q h.
    answered_by (λ n. HasSequent b n (conclusion m)) (IsProofOf d m) c.args.sides c.in-Open.end q begun.0 (subst (λ (ps : List Placed). IsAnswered (λ _. IsProofOf d ps) c.in-Open.end q) shown h)) c.build_open.ensures.proof

pub build_premise-returns-in_ok-list-in-Open-clause-counted : goal.build_premise-returns-in_ok-list-in-Open-clause-counted
build_premise-returns-in_ok-list-in-Open-clause-counted t c =
    let b = c.begin.new.arena in
    let r = kept_of c.args.rest in
    let x = c.args.added in
    let l = c.in_ok-list-in-Open.list.items in
    let m = put (trees r.list.items) r.place (trees (items_of x)) in
    let shown : trees l ≡ m = premise_shown r x l c.in_ok-list-in-Open.ensures in
    let begun = to_take_apart b c.args.sides c.args.left.now c.begin.new.left c.rest.result.now r x c.in_ok-proof.field-0 c.in-Open.end c.rest.ensures c.in-Open.is c.in_ok-proof.ensures.begun in
    let after = c.build_open.new.left in
    IfOk-weaker c.build_open.result (λ _. c.begin.new.left ≡ after + visits (trees l)) (λ _. c.args.left.now ≡ after + visits m) (λ _ e. sym begun.1.1 ∙ (e ∙ ap (λ ps. after + visits ps) shown)) c.build_open.ensures.counted

pub build_premise-returns-in_ok-list-in-Open-clause-budget : goal.build_premise-returns-in_ok-list-in-Open-clause-budget
build_premise-returns-in_ok-list-in-Open-clause-budget t c =
    λ e.
    let b = c.begin.new.arena in
    let r = kept_of c.args.rest in
    let x = c.args.added in
    let l = c.in_ok-list-in-Open.list.items in
    let m = put (trees r.list.items) r.place (trees (items_of x)) in
    let shown : trees l ≡ m = premise_shown r x l c.in_ok-list-in-Open.ensures in
    let begun = to_take_apart b c.args.sides c.args.left.now c.begin.new.left c.rest.result.now r x c.in_ok-proof.field-0 c.in-Open.end c.rest.ensures c.in-Open.is c.in_ok-proof.ensures.begun in
    let less = c.build_open.ensures.budget e in
    let visited : visits (trees l) ≡ visits m = ap visits shown in
    omega (arith, less, visited, begun.1.1)

pub build_premises-build_premise-requires : goal.build_premises-build_premise-requires
build_premises-build_premise-requires t c =
    let r = c.args.rest in
    let each = subst (λ (p : Premises). All IsBuildable (lists_over r (parts_each p))) c.in-One.is c.requires.buildable in (
      omega arith,
      (
        All-head IsBuildable (put (trees r.list.items) r.place (trees (items_of c.in-One.added))) [] each,
        (c.requires.rest, (c.requires.sides, subst (λ (p : Premises). ArePremisesNumbered c.args.arena.now p) c.in-One.is c.requires.premises)),
      ),
    )

pub build_premises-build_premise-requires-in-Two : goal.build_premises-build_premise-requires-in-Two
build_premises-build_premise-requires-in-Two t c =
    let r = c.args.rest in
    let each = subst (λ (p : Premises). All IsBuildable (lists_over r (parts_each p))) c.in-Two.is c.requires.buildable in
    let numbers = subst (λ (p : Premises). ArePremisesNumbered c.args.arena.now p) c.in-Two.is c.requires.premises in (
      omega arith,
      (
        All-head IsBuildable (put (trees r.list.items) r.place (trees (items_of c.in-Two.first))) (put (trees r.list.items) r.place (trees (items_of c.in-Two.second)) ∷ []) each,
        (c.requires.rest, (c.requires.sides, numbers.0)),
      ),
    )

pub build_premises-build_premise-requires-in-Two-2 : goal.build_premises-build_premise-requires-in-Two-2
build_premises-build_premise-requires-in-Two-2 t c =
    let a = c.args.arena.now in
    let b = c.build_premise-in-Two.new.arena in
    let r = c.args.rest in
    let first = put (trees r.list.items) r.place (trees (items_of c.in-Two.first)) in
    let second = put (trees r.list.items) r.place (trees (items_of c.in-Two.second)) in
    let each = subst (λ (p : Premises). All IsBuildable (lists_over r (parts_each p))) c.in-Two.is c.requires.buildable in
    let numbers = subst (λ (p : Premises). ArePremisesNumbered a p) c.in-Two.is c.requires.premises in
    let grown = c.build_premise-in-Two.ensures.grown in (
      omega (arith, c.in_ok-first-in-Two.ensures.counted),
      (
        All-head IsBuildable second [] (All-tail IsBuildable first (second ∷ []) each),
        (
          rest_stays a b r grown c.requires.rest,
          (IfSome_then c.args.sides c.requires.sides (λ s h. sides_stay a b s (conclusion (trees r.list.items)) grown h), added_stays a b c.in-Two.second grown numbers.1),
        ),
      ),
    )

pub build_premises-returns-in_ok-second-in-Two-clause-proofs : goal.build_premises-returns-in_ok-second-in-Two-clause-proofs
build_premises-returns-in_ok-second-in-Two-clause-proofs t c =
    let r = c.args.rest in
    let b = c.build_premise-in-Two.new.arena in
    let d = c.build_premise-in-Two-2.new.arena in
    let first = put (trees r.list.items) r.place (trees (items_of c.in-Two.first)) in
    let second = put (trees r.list.items) r.place (trees (items_of c.in-Two.second)) in
    let both = two_answered b d first second c.args.sides c.in_ok-first-in-Two.first c.in_ok-second-in-Two.second c.build_premise-in-Two-2.ensures.grown c.in_ok-first-in-Two.ensures.proof c.in_ok-second-in-Two.ensures.proof in
    subst (λ (o : Option Parts). IsAnswered (λ _. AreProofsOf d (lists_over r (parts_each c.args.premises))) c.args.sides o) (sym c.two.ensures)
    (subst (λ (p : Premises). IsAnswered (λ _. AreProofsOf d (lists_over r (parts_each p))) c.args.sides (two_of c.in_ok-first-in-Two.first c.in_ok-second-in-Two.second)) (sym c.in-Two.is) both)
