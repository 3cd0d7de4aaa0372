-- Worked examples. The empty clause is a full resolvent of /p(X), p(Y) and p(U), p(V)/, where both atoms on each side go at once: no resolvent on
-- one atom of each is empty. The clause /p(X) subsumes /p(a) and not the other way round.
use Rattle.std.proofs.Common.{◌≡◌, ℕ, true, false, ◌||◌, List, [], ◌∷◌, Some, refl, sym, ap, subst, ◌∙◌, inl, inr}
use Rattle.std.specs.Ordering.{eq_by_cmp}
use Rattle.std.proofs.lemmas.Bool.{false≢true}
use Rattle.fol.specs.declared.symbols.Var.TheVariants.{Word, Num}
use Rattle.fol.specs.Syntax.{Term, free, app, nil, cons, plain, Formula, atom}
use Rattle.fol.specs.Order.{formula_cmp}
use Rattle.finite.specs.Finite as set
use Rattle.finite.proofs.Finite.{has-empty}
use Rattle.substitution.specs.Image.{image}
use Rattle.lk_rules.specs.declared.sequent.Sequent.{Sequent}
use Rattle.lk_rules.specs.Formulas.{FormulaSet, image_set}
use Rattle.lk_rules.specs.Sequents.{empty}
use Rattle.proof_trees.proofs.Booleans.{either}
use Rattle.proof_trees.proofs.Members.{image_member}
use Rattle.proof_trees.proofs.FormulaSets.{equal, tied, same_sets}
use Rattle.refutations.specs.Refutations.{resolvent}
use Rattle.clause_laws.specs.Subsumption.{Subsumes}
use Rattle.clause_laws.specs.Unifiers.{set_of}
use Rattle.clause_laws.specs.Apart.{first_apart, second_apart}
use Rattle.clause_laws.specs.Resolvents.{IsFullResolvent, SubsumedByPair}
use Rattle.clause_laws.specs.Choices.{choices}
use Rattle.clause_laws.specs.Normal.{numbered}
use Rattle.clause_laws.proofs.Sets.{Replacing, is_in, has-each, images_within}
use Rattle.clause_laws.proofs.Sequents.{from_left, from_right}
use Rattle.clause_laws.proofs.Central.{lifted, subsumes_empty}

abbrev variable : ℕ → Term
variable n = free (Word (n ∷ []))

abbrev a : Term
a = app (record { name = 97 ∷ []; arity = 0 }) nil

abbrev p : Term → Formula
p t = atom (plain (record { name = 112 ∷ []; arity = 1 })) (cons t nil)

-- atoms on the right, and atoms on the left
abbrev positive : List Formula → Sequent
positive fs = record { left = set.empty; right = set_of fs }

abbrev negative : List Formula → Sequent
negative fs = record { left = set_of fs; right = set.empty }

none_in_empty : {P : Type 0} (q : Formula) → set.has (set.empty {R = formula_cmp}) q ≡ true → P
none_in_empty q e = absurd (false≢true (sym (has-empty formula_cmp q) ∙ e))

-- every variable to a
abbrev all_to_a : Replacing
all_to_a v = Some a

pa : is_in (p a ∷ []) (p a) ≡ true
pa = ap (λ b. b || false) (tied (p a) (p a) refl)

two_to_one : (t u : Term) → image all_to_a (p t) ≡ p a → image all_to_a (p u) ≡ p a → set.IsSubset (image_set all_to_a (set_of (p t ∷ p u ∷ []))) (set_of (p a ∷ []))
two_to_one t u one two =
    images_within all_to_a (set_of (p t ∷ p u ∷ [])) (set_of (p a ∷ [])) (λ f e.
    has-each (p a ∷ []) (image all_to_a f)
    ∙ either (eq_by_cmp formula_cmp f (p t)) (is_in (p u ∷ []) f)
    (λ d. ap (λ g. is_in (p a ∷ []) (image all_to_a g)) (equal f (p t) d) ∙ ap (is_in (p a ∷ [])) one ∙ pa)
    (either (eq_by_cmp formula_cmp f (p u)) false
    (λ d. ap (λ g. is_in (p a ∷ []) (image all_to_a g)) (equal f (p u) d) ∙ ap (is_in (p a ∷ [])) two ∙ pa)
    (λ d. absurd (false≢true d)))
    (sym (has-each (p t ∷ p u ∷ []) f) ∙ e))

nothing_within : (t : FormulaSet) → set.IsSubset (image_set all_to_a set.empty) t
nothing_within t = images_within all_to_a set.empty t (λ f. none_in_empty f)

abbrev c : Sequent
c = positive (p (variable 88) ∷ p (variable 89) ∷ [])

abbrev d : Sequent
d = negative (p (variable 85) ∷ p (variable 86) ∷ [])

first_subsumes : Subsumes c (positive (p a ∷ []))
first_subsumes = record { map = all_to_a; within = record { left = nothing_within set.empty; right = two_to_one (variable 88) (variable 89) refl refl } }

second_subsumes : Subsumes d (negative (p a ∷ []))
second_subsumes = record { map = all_to_a; within = record { left = two_to_one (variable 85) (variable 86) refl refl; right = nothing_within set.empty } }

-- nothing is left of /p(a) and p(a)/
only_pa : {P : Type 0} (q : Formula) → set.has (set_of (p a ∷ [])) q ≡ true → eq_by_cmp formula_cmp (p a) q ≡ false → P
only_pa q e other =
    either (eq_by_cmp formula_cmp q (p a)) false
    (λ same. absurd (false≢true (sym other ∙ tied (p a) q (sym (equal q (p a) same)))))
    (λ no. absurd (false≢true no))
    (sym (has-each (p a ∷ []) q) ∙ e)

ground_is_empty : resolvent (positive (p a ∷ [])) (negative (p a ∷ [])) (p a) ≡ empty
ground_is_empty =
    let x = positive (p a ∷ []) in
    let y = negative (p a ∷ []) in
    let lefts = same_sets (resolvent x y (p a)).left set.empty (λ q. from_left x y (p a) q (none_in_empty q) (only_pa q)) (λ q. none_in_empty q) in
    let rights = same_sets (resolvent x y (p a)).right set.empty (λ q. from_right x y (p a) q (only_pa q) (none_in_empty q)) (λ q. none_in_empty q) in
    λ i. record { left = lefts i; right = rights i }

not_empty_right : c ≡ empty → ⊥
not_empty_right e =
    none_in_empty (p (variable 88))
    (ap (λ (s : Sequent). set.has s.right (p (variable 88))) (sym e) ∙ has-each (p (variable 88) ∷ p (variable 89) ∷ []) (p (variable 88)) ∙ ap (λ b. b || is_in (p (variable 89) ∷ []) (p (variable 88))) (tied (p (variable 88)) (p (variable 88)) refl))

not_empty_left : d ≡ empty → ⊥
not_empty_left e =
    none_in_empty (p (variable 85))
    (ap (λ (s : Sequent). set.has s.left (p (variable 85))) (sym e) ∙ has-each (p (variable 85) ∷ p (variable 86) ∷ []) (p (variable 85)) ∙ ap (λ b. b || is_in (p (variable 86) ∷ []) (p (variable 85))) (tied (p (variable 85)) (p (variable 85)) refl))

by_pair : SubsumedByPair c d empty → IsFullResolvent c d empty
by_pair (inl h) = absurd (not_empty_right (subsumes_empty c h))
by_pair (inr (inl h)) = absurd (not_empty_left (subsumes_empty d h))
by_pair (inr (inr h)) = subst (IsFullResolvent c d) (subsumes_empty h.resolvent h.subsumes) h.full

pub all_at_once : IsFullResolvent c d empty
all_at_once = by_pair (subst (SubsumedByPair c d) ground_is_empty (lifted c d (positive (p a ∷ [])) (negative (p a ∷ [])) (p a) refl first_subsumes second_subsumes))

-- a constant does not become a variable

pub not_back : Subsumes (positive (p a ∷ [])) (positive (p (variable 88) ∷ [])) → ⊥
not_back h =
    let at : set.has (image_set h.map (set_of (p a ∷ []))) (p a) ≡ true = image_member h.map (set_of (p a ∷ [])) (p a) (has-each (p a ∷ []) (p a) ∙ pa) in
    either (eq_by_cmp formula_cmp (p a) (p (variable 88))) false
    (λ e. let same : p a ≡ p (variable 88) = equal (p a) (p (variable 88)) e in cc)
    (λ no. false≢true no)
    (sym (has-each (p (variable 88) ∷ []) (p a)) ∙ h.within.right (p a) at)

-- renaming apart, choices and numbers

pub third_apart : (first_apart (Num 3) ≡ Some (free (Num 6))) × (second_apart (Num 3) ≡ Some (free (Num 7)))
third_apart = (refl, refl)

pub choices_of_two : (f g : Formula) → choices (f ∷ g ∷ []) ≡ (f ∷ g ∷ []) ∷ (f ∷ []) ∷ (g ∷ []) ∷ []
choices_of_two f g = refl

pub second_number : numbered 0 (Word (88 ∷ []) ∷ Word (89 ∷ []) ∷ []) (Word (89 ∷ [])) ≡ Some (free (Num 1))
second_number = refl
