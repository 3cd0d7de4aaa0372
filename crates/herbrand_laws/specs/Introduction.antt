-- Introduction of a cut, after Hetzl, Leitsch, Reis and Weller (2014): a proof of a sequent by its Herbrand instances becomes one with a cut,
-- whose formula says for all values at once what the patterns say.
--     Instance, instances_by      a formula with a tuple for its quantifiers; some for each item
--     cut_variable, cut_matrix, cut_formula      the eigenvariable, and the formula of the cut
--     rules_for, left_rules, right_rules      the quantifier rules of the two premises, from the root up
--     end_after, over      the end sequent above rules, and the rules over a tree
--     plain_part      the formulas without quantifiers, which are searched
--     new_proof, introduced, introduction      the proof with the cut
--     AreFormed, IsFormedProof      the trees that it is made from
--     IsProofWithCut      what holds of it
use Rattle.std.specs.Prelude.{◌≡◌, ℕ, true, not as negated, nat_lt, if◌then◌else◌, List, [], ◌∷◌, ◌++◌, map, Option, Some, None, unwrap_or}
use Rattle.std.specs.List.{All, filter, flat_map}
use Rattle.fol.specs.declared.symbols.Var.{Var}
use Rattle.fol.specs.Syntax.{Term, free, Terms, nil, cons, Formula, top, not, and, all}
use Rattle.fol.specs.Formed.{IsFormed, are_formed_terms_at}
use Rattle.finite.specs.Finite as set
use Rattle.free_variables.specs.Fresh.{least_outside}
use Rattle.free_variables.specs.Occurrence.{var_list_terms}
use Rattle.substitution.specs.Instance.{bind}
use Rattle.lk_rules.specs.declared.sequent.Sequent.{Sequent}
use Rattle.lk_rules.specs.declared.sequent.Side.{Side}
use Rattle.lk_rules.specs.declared.sequent.Side.TheVariants.{Left, Right}
use Rattle.lk_rules.specs.declared.rule.Rule.{Rule}
use Rattle.lk_rules.specs.declared.rule.Rule.TheVariants.{AllL, AllR, ExR, Cut}
use Rattle.lk_rules.specs.Formulas.{FormulaSet}
use Rattle.lk_rules.specs.Sequents.{adds_to, extended, vars_sequent}
use Rattle.lk_rules.specs.Rules.{aux}
use Rattle.proof_trees.specs.Trees.{Tree, node, none, more, concl, IsValid, cuts, quants}
use Rattle.search_laws.specs.Truth.{has_quantifier}
use Rattle.search_laws.specs.Search.{Walk, proved, falsified, walk}
use Rattle.expansion_laws.specs.Dependency.{Expansion}
use Rattle.expansion_laws.specs.Proofs.{IsExpansionProof}
use Rattle.herbrand_laws.specs.Herbrand.{instance_of, matrix_instance, Item, items_of, IsPrenex}
use Rattle.herbrand_laws.specs.Patterns.{put, TermSet}
use Rattle.herbrand_laws.specs.Candidates.{patterns, rest, cost, best}

-- a formula on a side, and a term for each of its quantifiers
pub record Instance : Type 0 where
  pub side : Side
  pub formula : Formula
  pub tuple : Terms

abbrev pub by_tuple : Item → Terms → Instance
by_tuple i us = record { side = i.side; formula = i.formula; tuple = us }

-- some instances of each item, in order
abbrev pub instances_by : (Item → List Terms) → List Item → List Instance
instances_by pick items = flat_map (λ i. map (by_tuple i) (pick i)) items

abbrev pub matrix_of : Instance → Formula
matrix_of j = matrix_instance j.tuple j.formula

-- what a formula on a side says if it doesn't make the sequent true
abbrev pub assumed : Side → Formula → Formula
assumed Left f = f
assumed Right f = not f

-- a conjunction, chained to the left
abbrev pub chained : Formula → List Formula → Formula
chained front [] = front
chained front (f ∷ fs) = chained (and front f) fs

abbrev pub conjunction : List Formula → Formula
conjunction [] = top
conjunction (f ∷ fs) = chained f fs

-- the instances of the items by their patterns, with a term for the variable of these
abbrev pub instances_at : ℕ → List Item → TermSet → Term → List Instance
instances_at width items w t = instances_by (λ i. map (λ p. put p t) (patterns width w i)) items

-- what they say
abbrev pub matrix_at : ℕ → List Item → TermSet → Term → Formula
matrix_at width items w t = conjunction (map (λ j. assumed j.side (matrix_of j)) (instances_at width items w t))

-- the variables of the tuples, one for each occurrence
abbrev pub tuple_variables : List Item → List Var
tuple_variables items = flat_map (λ i. flat_map var_list_terms i.tuples) items

-- the numbered variable of least number that is in no tuple and not free in the sequent
abbrev pub cut_variable : Sequent → List Item → Var
cut_variable s items = least_outside (set.listing (set.adds_each (vars_sequent s) (tuple_variables items)))

-- what the patterns say of this variable
abbrev pub cut_matrix : ℕ → Sequent → List Item → TermSet → Formula
cut_matrix width s items w = matrix_at width items w (free (cut_variable s items))

-- that they say so of everything
abbrev pub cut_formula : ℕ → Sequent → List Item → TermSet → Formula
cut_formula width s items w = all (bind (cut_matrix width s items w) (cut_variable s items))

-- the rule for a weak quantifier on a side
abbrev pub rule_for : Side → Formula → Term → Rule
rule_for Left f t = AllL f t
rule_for Right f t = ExR f t

-- the rules for an instance, from the root up
abbrev pub rules_by : Side → Formula → Terms → List Rule
rules_by side f nil = []
rules_by side f (cons t us) = rule_for side f t ∷ rules_by side (instance_of f t) us

abbrev pub rules_for : List Instance → List Rule
rules_for js = flat_map (λ j. rules_by j.side j.formula j.tuple) js

-- the rules of the cut's left premise: the eigenvariable, and the instances by the patterns with it
abbrev pub left_rules : ℕ → Sequent → List Item → TermSet → List Rule
left_rules width s items w = AllR (cut_formula width s items w) (cut_variable s items) ∷ rules_for (instances_at width items w (free (cut_variable s items)))

-- those of its right premise: the values in order, and the instances by the tuples of the rest
abbrev pub right_rules : ℕ → Sequent → List Item → TermSet → List Rule
right_rules width s items w = map (AllL (cut_formula width s items w)) (set.listing w) ++ rules_for (instances_by (rest width w) items)

-- the end sequent above rules of one premise each: their auxiliary formulas are added
abbrev pub end_after : List Rule → Sequent → Sequent
end_after [] e = e
end_after (r ∷ rs) e = end_after rs (extended e (aux r 0))

-- the rules over a tree, from the end sequent up
abbrev pub over : List Rule → Sequent → Tree → Tree
over [] e t = t
over (r ∷ rs) e t = node r e (more (over rs (extended e (aux r 0)) t) none)

-- the formulas without quantifiers
abbrev pub plain_formulas : FormulaSet → FormulaSet
plain_formulas s = set.of_list (filter (λ f. negated (has_quantifier f)) (set.listing s))

abbrev pub plain_part : Sequent → Sequent
plain_part s = record { left = plain_formulas s.left; right = plain_formulas s.right }

-- the sequents that are searched
abbrev pub left_search : ℕ → Sequent → List Item → TermSet → Sequent
left_search width s items w = plain_part (end_after (left_rules width s items w) (adds_to s Right (cut_formula width s items w)))

abbrev pub right_search : ℕ → Sequent → List Item → TermSet → Sequent
right_search width s items w = plain_part (end_after (right_rules width s items w) (adds_to s Left (cut_formula width s items w)))

-- the proof with the cut, over proofs of those
abbrev pub new_proof : ℕ → Sequent → List Item → TermSet → Tree → Tree → Tree
new_proof width s items w l r =
    let c = cut_formula width s items w in
    node (Cut c) s (more (over (left_rules width s items w) (adds_to s Right c) l) (more (over (right_rules width s items w) (adds_to s Left c) r) none))

abbrev pub from_walks : (Tree → Tree → Tree) → Walk → Walk → Option Tree
from_walks f (proved l) (proved r) = Some (f l r)
from_walks f (proved l) (falsified n a) = None
from_walks f (falsified n a) r = None

-- the same by search
abbrev pub introduced : ℕ → Sequent → List Item → TermSet → Option Tree
introduced width s items w = from_walks (new_proof width s items w) (walk (left_search width s items w)) (walk (right_search width s items w))

-- the proof that takes the place of one with the same end: the same unless the best candidate costs less
abbrev pub introduction_by : ℕ → Tree → List Item → Option TermSet → Tree
introduction_by width t items None = t
introduction_by width t items (Some w) = if nat_lt (cost width items w) (quants t) then unwrap_or (introduced width (concl t) items w) t else t

abbrev pub introduction : ℕ → Tree → List Item → Tree
introduction width t items = introduction_by width t items (best width items)

-- each formula of a sequent is well formed
pub record AreFormed (s : Sequent) : Type 0 where
  pub left : All IsFormed (set.listing s.left)
  pub right : All IsFormed (set.listing s.right)

-- An expansion proof of a sequent of well-formed formulas that are weak quantifiers over matrices. The terms of its tuples are well formed.
pub record IsFormedProof (x : Expansion) (s : Sequent) : Type 0 where
  pub proof : IsExpansionProof x s
  pub prenex : IsPrenex s
  pub formulas : AreFormed s
  pub terms : All (λ i. All (λ us. are_formed_terms_at 0 us ≡ true) i.tuples) (items_of x)

-- t is a valid proof of s with one cut and n quantifier inferences
pub record IsProofWithCut (s : Sequent) (n : ℕ) (t : Tree) : Type 0 where
  pub valid : IsValid t
  pub end : concl t ≡ s
  pub one_cut : cuts t ≡ 1
  pub inferences : quants t ≡ n
