-- The bound on the number of atoms does not matter: a search goes on by itself where an atom has a value more.
use Rattle.std.proofs.Common.{◌≡◌, ℕ, zero, suc, ◌<◌, if◌then◌else◌, List, [], ◌∷◌, length, refl, ap, ◌∙◌, arith}
use Rattle.fol.specs.Syntax.{Formula}
use Rattle.finite.specs.Finite as set
use Rattle.lk_rules.specs.declared.sequent.Sequent.{Sequent}
use Rattle.lk_rules.specs.declared.sequent.Side.TheVariants.{Left, Right}
use Rattle.lk_rules.specs.Sequents.{empty, adds_to}
use Rattle.ground_laws.specs.Deciding.{Known, Partial, first_false, Choice, chosen, others_than, Outcome, satisfied, conflict, after_false, after_true, branch, by_atoms, by_conflict, visit, search_within, search_from, inputs, atoms_of, answer_of, decide}
use Rattle.ground_laws.proofs.Decided.{chosen_among, fewer}

-- searches that come to the same with the atom false, come to the same after what it came to with the atom true
after_same : (a : Formula) (next again : Known → Outcome) → ((l : Known) → next l ≡ again l) → (o : Outcome) → after_true a next o ≡ after_true a again o
after_same a next again alike (satisfied m) = refl
after_same a next again alike (conflict l n c) = ap (λ o. if set.has c.left a then after_false a n c o else conflict l n c) (alike l)

module _ (n : ℕ) (look again : Partial → List Formula → Known → Outcome) (alike : (r : Partial) (fs : List Formula) (k : Known) → length fs < n → look r fs k ≡ again r fs k) where
  branch_same : (a : Formula) (r : Partial) (fs : List Formula) (k : Known) → length fs < n → branch look a r fs k ≡ branch again a r fs k
  branch_same a r fs k below =
      ap (after_true a (look (adds_to r Right a) fs)) (alike (adds_to r Left a) fs k below)
      ∙ after_same a (look (adds_to r Right a) fs) (again (adds_to r Right a) fs) (λ l. alike (adds_to r Right a) fs l below) (again (adds_to r Left a) fs k)

  atoms_same : (choose : Choice) (r : Partial) (fs : List Formula) (k : Known) → length fs < suc n → by_atoms look choose r fs k ≡ by_atoms again choose r fs k
  atoms_same choose r [] k below = refl
  atoms_same choose r (f ∷ fs) k below =
      let a = chosen (choose k r (f ∷ fs)) f fs in
      branch_same a r (others_than a (f ∷ fs)) k (omega (arith, fewer a (f ∷ fs) (chosen_among (choose k r (f ∷ fs)) f fs), below))

  visit_same : (choose : Choice) (r : Partial) (fs : List Formula) (k : Known) → length fs < suc n → visit look choose r fs k ≡ visit again choose r fs k
  visit_same choose r fs k below = ap (by_conflict k (first_false r k.clauses)) (atoms_same choose r fs k below)

-- any two bounds above the number of atoms without a value give the same
same_within : (choose : Choice) (n m : ℕ) (r : Partial) (fs : List Formula) (k : Known) → length fs < n → length fs < m → search_within choose n r fs k ≡ search_within choose m r fs k
unfolding search_within
same_within choose zero m r fs k below under = absurd (omega arith)
same_within choose (suc n) zero r fs k below under = absurd (omega arith)
same_within choose (suc n) (suc m) r fs k below under =
    visit_same (length fs) (search_within choose n) (search_within choose m) (λ q gs l fewer. same_within choose n m q gs l (omega (arith, fewer, below)) (omega (arith, fewer, under))) choose r fs k (omega arith)

within_suc : (choose : Choice) (n : ℕ) (r : Partial) (fs : List Formula) (k : Known) → search_within choose (suc n) r fs k ≡ visit (search_within choose n) choose r fs k
unfolding search_within
within_suc choose n r fs k = refl

-- a search goes on by one turn
pub search-unrolled : (choose : Choice) (r : Partial) (fs : List Formula) (k : Known) → search_from choose r fs k ≡ visit (search_from choose) choose r fs k
unfolding search_from
search-unrolled choose r fs k =
    within_suc choose (length fs) r fs k
    ∙ visit_same (length fs) (search_within choose (length fs)) (search_from choose) (λ q gs l below. same_within choose (length fs) (suc (length gs)) q gs l below (omega arith)) choose r fs k (omega arith)

-- a search for a model or a refutation begins with no value and the clauses alone
pub decide-search : (choose : Choice) (cs : List Sequent) → decide choose cs ≡ answer_of (search_from choose empty (atoms_of cs) (inputs cs))
unfolding decide
decide-search choose cs = refl
