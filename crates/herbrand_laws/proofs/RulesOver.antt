-- Quantifier rules of one premise each, over a tree.
use Rattle.std.proofs.Common.{◌≡◌, ◌+◌, true, false, if◌then◌else◌, List, [], ◌∷◌, ◌++◌, length, refl, sym, ap, ◌∙◌, arith}
use Rattle.std.specs.List.{list_all}
use Rattle.fol.specs.Syntax.{Formula, all, ex}
use Rattle.fol.specs.Formed.{is_formed}
use Rattle.finite.specs.Finite as set
use Rattle.substitution.proofs.InstanceFormed.{formed-inst}
use Rattle.lk_rules.specs.declared.sequent.Sequent.{Sequent}
use Rattle.lk_rules.specs.declared.sequent.Side.{Side}
use Rattle.lk_rules.specs.declared.sequent.Side.TheVariants.{Left, Right}
use Rattle.lk_rules.specs.declared.rule.Rule.{Rule}
use Rattle.lk_rules.specs.declared.rule.Rule.TheVariants.{AllL, AllR, ExL, ExR}
use Rattle.lk_rules.specs.Sequents.{side_of, extended, IsSubsequent}
use Rattle.lk_rules.specs.Rules.{IsFormedRule, needs, has_shape, aux, eigen_free, main_stands, IsWithin}
use Rattle.lk_rules.proofs.Rows.{main_of}
use Rattle.lk_rules.proofs.Subsequents.{and_left, and_right, and_both}
use Rattle.proof_trees.specs.Trees.{Tree, none, more, concl, first_end, second_end, IsInference, IsValid, is_cut, is_quantifier_rule, cuts, quants}
use Rattle.proof_trees.proofs.Verdicts.{verdict_of_row}
use Rattle.cut_laws.proofs.Sides.{itself, within_extended}
use Rattle.search_laws.proofs.Found.{are_formed}
use Rattle.search_laws.proofs.Listed.{all-adds_each}
use Rattle.herbrand_laws.specs.Introduction.{end_after, over}

-- f stands in s on that side
abbrev pub Stands : Sequent → Side → Formula → Type 0
Stands s side f = set.has (side_of s side) f ≡ true

pub member : (s t : Sequent) → IsSubsequent s t → (side : Side) (f : Formula) → Stands s side f → Stands t side f
member s t h Left = h.left
member s t h Right = h.right

pub through : (s t u : Sequent) → IsSubsequent s t → IsSubsequent t u → IsSubsequent s u
through s t u h g = record { left = λ f m. g.left f (h.left f m); right = λ f m. g.right f (h.right f m) }

-- a quantifier rule may be used at a conclusion
pub record IsStep (r : Rule) (e : Sequent) : Type 0 where
  pub quantifier : is_quantifier_rule r ≡ true
  pub shape : has_shape r ≡ true
  pub stands : main_stands r e ≡ true
  pub eigenvariable : eigen_free r e ≡ false
  pub formed : IsFormedRule r

-- so may several, one after the other
abbrev pub AreSteps : List Rule → Sequent → Type 0
AreSteps [] e = Unit {0}
AreSteps (r ∷ rs) e = IsStep r e × AreSteps rs (extended e (aux r 0))

needs_one : (r : Rule) → is_quantifier_rule r ≡ true → needs r ≡ 1
needs_one (AllL a t) e = refl
needs_one (AllR a y) e = refl
needs_one (ExL a y) e = refl
needs_one (ExR a t) e = refl
needs_one r e = cc

no_cut : (r : Rule) → is_quantifier_rule r ≡ true → is_cut r ≡ false
no_cut (AllL a t) e = refl
no_cut (AllR a y) e = refl
no_cut (ExL a y) e = refl
no_cut (ExR a t) e = refl
no_cut r e = cc

-- the auxiliary formula is well formed
aux_formed : (r : Rule) (side : Side) → is_quantifier_rule r ≡ true → has_shape r ≡ true → IsFormedRule r → list_all is_formed (aux r 0 side) ≡ true
aux_formed (AllL (all b) t) Left e h f = and_both _ true (formed-inst b t (and_left _ _ f) (and_right (is_formed (all b)) _ f)) refl
aux_formed (AllL (all b) t) Right e h f = refl
aux_formed (AllR (all b) y) Right e h f = and_both _ true (formed-inst b _ (and_left _ _ f) (and_right (is_formed (all b)) _ f)) refl
aux_formed (AllR (all b) y) Left e h f = refl
aux_formed (ExL (ex b) y) Left e h f = and_both _ true (formed-inst b _ (and_left _ _ f) (and_right (is_formed (ex b)) _ f)) refl
aux_formed (ExL (ex b) y) Right e h f = refl
aux_formed (ExR (ex b) t) Right e h f = and_both _ true (formed-inst b t (and_left _ _ f) (and_right (is_formed (ex b)) _ f)) refl
aux_formed (ExR (ex b) t) Left e h f = refl
aux_formed r side e h f = cc

step_formed : (r : Rule) (e : Sequent) → IsStep r e → are_formed e ≡ true → are_formed (extended e (aux r 0)) ≡ true
step_formed r e h f =
    and_both _ _
    (all-adds_each is_formed e.left (aux r 0 Left) ∙ and_both _ _ (and_left _ _ f) (aux_formed r Left h.quantifier h.shape h.formed))
    (all-adds_each is_formed e.right (aux r 0 Right) ∙ and_both _ _ (and_right (list_all is_formed (set.listing e.left)) _ f) (aux_formed r Right h.quantifier h.shape h.formed))

-- the end sequent above rules is well formed
pub after_formed : (rs : List Rule) (e : Sequent) → AreSteps rs e → are_formed e ≡ true → are_formed (end_after rs e) ≡ true
after_formed [] e h f = f
after_formed (r ∷ rs) e h f = after_formed rs (extended e (aux r 0)) h.1 (step_formed r e h.0 f)

-- and has what is below
pub after_larger : (rs : List Rule) (e : Sequent) → IsSubsequent e (end_after rs e)
after_larger [] e = itself e
after_larger (r ∷ rs) e = through e (extended e (aux r 0)) _ (within_extended e (aux r 0)) (after_larger rs (extended e (aux r 0)))

-- rules after rules

pub after-append : (xs ys : List Rule) (e : Sequent) → end_after (xs ++ ys) e ≡ end_after ys (end_after xs e)
after-append [] ys e = refl
after-append (x ∷ xs) ys e = after-append xs ys (extended e (aux x 0))

pub steps_append : (xs ys : List Rule) (e : Sequent) → AreSteps xs e → AreSteps ys (end_after xs e) → AreSteps (xs ++ ys) e
steps_append [] ys e h g = g
steps_append (x ∷ xs) ys e h g = (h.0, steps_append xs ys (extended e (aux x 0)) h.1 g)

-- the tree under rules

pub over_within : (rs : List Rule) (e : Sequent) (t : Tree) → IsSubsequent (concl t) (end_after rs e) → IsSubsequent (concl (over rs e t)) e
over_within [] e t h = h
over_within (r ∷ rs) e t h = itself e

-- a rule that may be used gives an inference from a premise that is within the conclusion with the auxiliary formula
pub step_inference : (r : Rule) (e : Sequent) (t : Tree) → IsStep r e → IsWithin r e 0 (concl t) → IsInference r e (more t none)
step_inference r e t h within = record {
  right = verdict_of_row r e 1 (first_end (more t none)) (second_end (more t none)) (record {
    premises = sym (needs_one r h.quantifier);
    shape = h.shape;
    main_formula = main_of r e h.stands;
    eigenvariable = h.eigenvariable;
    first_premise = within;
    second_premise = tt;
  });
  formed = h.formed;
}

pub over_valid : (rs : List Rule) (e : Sequent) (t : Tree) → AreSteps rs e → IsSubsequent (concl t) (end_after rs e) → IsValid t → IsValid (over rs e t)
over_valid [] e t h within valid = valid
over_valid (r ∷ rs) e t h within valid =
    let e2 = extended e (aux r 0) in
    (step_inference r e (over rs e2 t) h.0 (over_within rs e2 t within), (over_valid rs e2 t h.1 within valid, tt))

pub over_cuts : (rs : List Rule) (e : Sequent) (t : Tree) → AreSteps rs e → cuts (over rs e t) ≡ cuts t
over_cuts [] e t h = refl
over_cuts (r ∷ rs) e t h =
    let below = over_cuts rs (extended e (aux r 0)) t h.1 in
    let here : cuts (over (r ∷ rs) e t) ≡ 0 + (cuts (over rs (extended e (aux r 0)) t) + 0) = ap (λ b. (if b then 1 else 0) + (cuts (over rs (extended e (aux r 0)) t) + 0)) (no_cut r h.0.quantifier) in
    omega arith

pub over_quants : (rs : List Rule) (e : Sequent) (t : Tree) → AreSteps rs e → quants (over rs e t) ≡ length rs + quants t
over_quants [] e t h = omega arith
over_quants (r ∷ rs) e t h =
    let below = over_quants rs (extended e (aux r 0)) t h.1 in
    let here : quants (over (r ∷ rs) e t) ≡ 1 + (quants (over rs (extended e (aux r 0)) t) + 0) = ap (λ b. (if b then 1 else 0) + (quants (over rs (extended e (aux r 0)) t) + 0)) h.0.quantifier in
    omega arith

-- the rules one by one

pub step_at : (xs : List Rule) (r : Rule) (ys : List Rule) (e : Sequent) → AreSteps (xs ++ (r ∷ ys)) e → IsStep r (end_after xs e)
step_at [] r ys e h = h.0
step_at (x ∷ xs) r ys e h = step_at xs r ys (extended e (aux x 0)) h.1

pub first_steps : (xs ys : List Rule) (e : Sequent) → AreSteps (xs ++ ys) e → AreSteps xs e
first_steps [] ys e h = tt
first_steps (x ∷ xs) ys e h = (h.0, first_steps xs ys (extended e (aux x 0)) h.1)
