-- The tests of terms and addresses answer `true` exactly for equal ones.
use Rattle.std.proofs.Common.{◌≡◌, ℕ, zero, suc, true, List, [], ◌∷◌, refl, sym, ap, ◌∙◌}
use Rattle.std.specs.FinMap as fin
use Rattle.std.specs.Cmp.Lexicographic.{slice_cmp}
use Rattle.std.specs.Ordering.{nat_cmp, eq_by_cmp}
use Rattle.std.specs.declared.cmp.Ordering.TheVariants.{Equal}
use Rattle.std.proofs.lemmas.Cmp.{ranked}
use Rattle.fol.specs.Syntax.{Term, bound, Formula, top}
use Rattle.fol.specs.Order.{term_cmp, formula_cmp}
use Rattle.fol.proofs.OrderTies.{then_ties, formula_ties, term_ties, term_equality_same, equality_same}
use Rattle.lk_rules.specs.declared.sequent.Side.TheVariants.{Left, Right}
use Rattle.extraction_laws.specs.Addresses.{Address, root, part, via, Step, steps_to, step_cmp, address_cmp, address_total, same_address}

pub equal_terms : (t u : Term) → eq_by_cmp term_cmp t u ≡ true → t ≡ u
equal_terms t u = (term_equality_same t u (eq_by_cmp term_cmp t u) refl).0

pub tied_terms : (t u : Term) → t ≡ u → eq_by_cmp term_cmp t u ≡ true
tied_terms t u = (term_equality_same t u (eq_by_cmp term_cmp t u) refl).1

-- only equal steps tie
step_ties : (x y : Step) → step_cmp x y ≡ Equal → x ≡ y
step_ties x y h =
    let kinds = then_ties (nat_cmp x.kind y.kind) _ h in
    let parts = then_ties (slice_cmp formula_cmp x.formulas y.formulas) (slice_cmp term_cmp x.terms y.terms) kinds.1 in
    let kind : x.kind ≡ y.kind = ranked _ _ Equal (sym kinds.0) in
    let formulas : x.formulas ≡ y.formulas = fin.slice_cmp-IsAntisymmetric formula_ties x.formulas y.formulas parts.0 in
    let terms : x.terms ≡ y.terms = fin.slice_cmp-IsAntisymmetric term_ties x.terms y.terms parts.1 in
    λ i. record { kind = kind i; formulas = formulas i; terms = terms i }

-- an address from the steps to it

abbrev first_formula : List Formula → Formula
first_formula [] = top
first_formula (f ∷ fs) = f

abbrev first_term : List Term → Term
first_term [] = bound 0
first_term (t ∷ ts) = t

abbrev after_step : ℕ → List Formula → List Term → Address → Address
after_step zero fs ts a = root Left (first_formula fs)
after_step (suc zero) fs ts a = root Right (first_formula fs)
after_step (suc (suc zero)) fs ts a = via a (first_term ts)
after_step (suc (suc (suc i))) fs ts a = part a i

abbrev address_from : List Step → Address
address_from [] = root Left top
address_from (x ∷ xs) = after_step x.kind x.formulas x.terms (address_from xs)

address_from-steps : (a : Address) → address_from (steps_to a) ≡ a
address_from-steps (root Left f) = refl
address_from-steps (root Right f) = refl
address_from-steps (via a t) = λ i. via (address_from-steps a i) t
address_from-steps (part a j) = λ i. part (address_from-steps a i) j

-- only equal addresses tie
pub address_ties : (a b : Address) → address_cmp a b ≡ Equal → a ≡ b
address_ties a b h =
    sym (address_from-steps a)
    ∙ (ap address_from (fin.slice_cmp-IsAntisymmetric step_ties (steps_to a) (steps_to b) h)
    ∙ address_from-steps b)

pub equal_addresses : (a b : Address) → same_address a b ≡ true → a ≡ b
equal_addresses a b = (equality_same address_total address_ties a b (same_address a b) refl).0

pub tied_addresses : (a b : Address) → a ≡ b → same_address a b ≡ true
tied_addresses a b = (equality_same address_total address_ties a b (same_address a b) refl).1

pub tied_address : (a : Address) → same_address a a ≡ true
tied_address a = tied_addresses a a refl
