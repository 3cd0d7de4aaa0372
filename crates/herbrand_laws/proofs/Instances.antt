-- The rules for instances of formulas of a sequent.
use Rattle.std.proofs.Common.{◌≡◌, true, List, [], ◌∷◌, length, refl, sym, subst, ◌∙◌, arith}
use Rattle.std.specs.List.{All}
use Rattle.std.proofs.lemmas.List.Elements.{All-nil, All-cons, All-head, All-tail}
use Rattle.fol.specs.Syntax.{Term, Terms, nil, cons, Formula, all, ex}
use Rattle.fol.specs.Formed.{is_formed, is_formed_term_at, are_formed_terms_at, count_terms}
use Rattle.substitution.specs.Instance.{inst}
use Rattle.substitution.proofs.InstanceFormed.{formed-inst}
use Rattle.lk_rules.specs.declared.sequent.Sequent.{Sequent}
use Rattle.lk_rules.specs.declared.sequent.Side.{Side}
use Rattle.lk_rules.specs.declared.sequent.Side.TheVariants.{Left, Right}
use Rattle.lk_rules.specs.Sequents.{extended, IsSubsequent}
use Rattle.lk_rules.specs.Rules.{aux}
use Rattle.lk_rules.proofs.Subsequents.{and_left, and_right, and_both}
use Rattle.search_laws.proofs.Listed.{among_first, added}
use Rattle.expansion_laws.specs.Proofs.{is_weak_on}
use Rattle.herbrand_laws.specs.Herbrand.{is_prenex, prefix, instance_of, matrix_instance}
use Rattle.herbrand_laws.specs.Introduction.{Instance, matrix_of, rule_for, rules_by, rules_for, end_after}
use Rattle.herbrand_laws.proofs.Matrices.{weak_front, next_prefix, next_prenex}
use Rattle.herbrand_laws.proofs.RulesOver.{Stands, member, through, IsStep, AreSteps, after_larger, after-append, steps_append}

-- the rule for a weak quantifier gives the instance
pub weak_step : (side : Side) (f : Formula) (t : Term) (e : Sequent) → is_weak_on side f ≡ true → Stands e side f → is_formed f ≡ true → is_formed_term_at 0 t ≡ true
    → IsStep (rule_for side f t) e × Stands (extended e (aux (rule_for side f t) 0)) side (instance_of f t) × (is_formed (instance_of f t) ≡ true)
weak_step Left (all b) t e w h f g = (
  record { quantifier = refl; shape = refl; stands = and_both _ true (and_both _ true h refl) refl; eigenvariable = refl; formed = and_both _ _ f g },
  added e.left (inst b t ∷ []) (inst b t) (among_first (inst b t) []),
  formed-inst b t f g,
)
weak_step Right (ex b) t e w h f g = (
  record { quantifier = refl; shape = refl; stands = and_both _ true h refl; eigenvariable = refl; formed = and_both _ _ f g },
  added e.right (inst b t ∷ []) (inst b t) (among_first (inst b t) []),
  formed-inst b t f g,
)
weak_step side f t e w h q g = cc

-- those for a tuple give the matrix instance
pub tuple_steps : (side : Side) (us : Terms) (f : Formula) (e : Sequent) → Stands e side f → is_prenex side f ≡ true → count_terms us ≡ prefix side f → is_formed f ≡ true → are_formed_terms_at 0 us ≡ true
    → AreSteps (rules_by side f us) e × Stands (end_after (rules_by side f us) e) side (matrix_instance us f)
tuple_steps side nil f e h p n q g = (tt, h)
tuple_steps side (cons t us) f e h p n q g =
    let front = weak_front side f (count_terms us) n in
    let next = next_prefix side f t front in
    let one = weak_step side f t e front h q (and_left _ _ g) in
    let later = tuple_steps side us (instance_of f t) (extended e (aux (rule_for side f t) 0)) one.1 (next_prenex side f t front ∙ p) (omega arith) one.2 (and_right (is_formed_term_at 0 t) _ g) in
    ((one.0, later.0), later.1)

-- an instance of a formula of a sequent
pub record IsInstance (s : Sequent) (j : Instance) : Type 0 where
  pub stands : Stands s j.side j.formula
  pub prenex : is_prenex j.side j.formula ≡ true
  pub counted : count_terms j.tuple ≡ prefix j.side j.formula
  pub formed : is_formed j.formula ≡ true
  pub terms : are_formed_terms_at 0 j.tuple ≡ true

-- the matrix instances stand above the rules for instances
abbrev pub AllStand : Sequent → List Instance → Type 0
AllStand e js = All (λ j. Stands e j.side (matrix_of j)) js

pub instances_steps : (s : Sequent) (js : List Instance) → All (IsInstance s) js → (e : Sequent) → IsSubsequent s e → AreSteps (rules_for js) e × AllStand (end_after (rules_for js) e) js
instances_steps s [] h e within = (tt, All-nil _)
instances_steps s (j ∷ js) h e within =
    let first = rules_by j.side j.formula j.tuple in
    let i = All-head (IsInstance s) j js h in
    let one = tuple_steps j.side j.tuple j.formula e (member s e within j.side j.formula i.stands) i.prenex i.counted i.formed i.terms in
    let e2 = end_after first e in
    let later = instances_steps s js (All-tail (IsInstance s) j js h) e2 (through s e e2 within (after_larger first e)) in (
      steps_append first (rules_for js) e one.0 later.0,
      subst (λ q. AllStand q (j ∷ js)) (sym (after-append first (rules_for js) e))
          (All-cons (λ i. Stands (end_after (rules_for js) e2) i.side (matrix_of i)) j js (member e2 _ (after_larger (rules_for js) e2) j.side (matrix_of j) one.1) later.1),
    )

-- there is a rule for each term
pub rules_counted : (side : Side) (us : Terms) (f : Formula) → length (rules_by side f us) ≡ count_terms us
rules_counted side nil f = refl
rules_counted side (cons t us) f = let later = rules_counted side us (instance_of f t) in omega arith
