-- No map makes atoms equal that clash.
use Rattle.std.proofs.Common.{◌≡◌, ◌==◌, ◌&&◌, ℕ, Bool, true, false, not, if◌then◌else◌, List, ◌++◌, refl, sym, ap, ◌∙◌}
use Rattle.std.specs.Prelude.{Contains, Option}
use Rattle.std.specs.List.{All}
use Rattle.std.proofs.lemmas.Bool.{both_ways, not-true, eq-eqb}
use Rattle.std.proofs.lemmas.List.Elements.{All-contains, Contains-append_left, Contains-append_right}
use Rattle.fol.specs.declared.symbols.Var.{Var}
use Rattle.fol.specs.declared.symbols.Sym.{Sym}
use Rattle.fol.specs.Syntax.{Term, free, bound, app, Terms, nil, cons, Pred, Formula, atom}
use Rattle.fol.specs.Facts.{is_open, sym_fingerprint, pred_fingerprint, formula_fingerprint}
use Rattle.substitution.specs.Image.{image_term, image_terms, image}
use Rattle.substitution.proofs.Booleans.{and_left, and_right}
use Rattle.substitution.proofs.Shut.{image-shut}
use Rattle.proof_trees.proofs.Booleans.{either}
use Rattle.clause_laws.proofs.Atomic.{makes-listed}
use Rattle.res_prover.specs.Choosing.{IsUnified}
use Rattle.res_prover.specs.Clashes.{clashes, any_clash, symbols_clash, atoms_clash}

other_number : (k n : ℕ) → not (k == n) ≡ true → k ≡ n → ⊥
other_number k n e same = both_ways (k == n) (not-true (k == n) e) (eq-eqb k n same)

other_symbol : (s r : Sym) → not (sym_fingerprint s == sym_fingerprint r) ≡ true → s ≡ r → ⊥
other_symbol s r e same = other_number (sym_fingerprint s) (sym_fingerprint r) e (ap sym_fingerprint same)

other_predicate : (p q : Pred) → not (pred_fingerprint p == pred_fingerprint q) ≡ true → p ≡ q → ⊥
other_predicate p q e same = other_number (pred_fingerprint p) (pred_fingerprint q) e (ap pred_fingerprint same)

module _ (h : Var → Option Term) where
  mutual
    clash_apart : (t u : Term) → clashes t u ≡ true → image_term h t ≡ image_term h u → ⊥
    clash_apart (app s ts) (app r us) e same =
        either (not (sym_fingerprint s == sym_fingerprint r)) (any_clash ts us)
        (λ differ. other_symbol s r differ cc)
        (λ later. any_apart ts us later cc)
        e
    clash_apart (app s ts) (free v) e same = cc
    clash_apart (app s ts) (bound i) e same = cc
    clash_apart (free v) u e same = cc
    clash_apart (bound i) u e same = cc

    any_apart : (ts us : Terms) → any_clash ts us ≡ true → image_terms h ts ≡ image_terms h us → ⊥
    any_apart (cons t ts) (cons u us) e same =
        either (clashes t u) (any_clash ts us)
        (λ here. clash_apart t u here cc)
        (λ later. any_apart ts us later cc)
        e
    any_apart (cons t ts) nil e same = cc
    any_apart nil us e same = cc

  symbols_apart : (f g : Formula) → symbols_clash f g ≡ true → image h f ≡ image h g → ⊥
  symbols_apart (atom p ts) (atom q us) e same =
      either (not (pred_fingerprint p == pred_fingerprint q)) (any_clash ts us)
      (λ differ. other_predicate p q differ cc)
      (λ later. any_apart ts us later cc)
      e
  symbols_apart (atom p ts) g e same = cc
  symbols_apart f g e same = cc

  wholes_apart : (f g : Formula) (b : Bool) → (not (is_open f) && not (is_open g)) ≡ b → (if b then not (formula_fingerprint f == formula_fingerprint g) else symbols_clash f g) ≡ true → image h f ≡ image h g → ⊥
  wholes_apart f g true shut e same =
      let first = image-shut h f (not-true (is_open f) (and_left (not (is_open f)) (not (is_open g)) shut)) in
      let second = image-shut h g (not-true (is_open g) (and_right (not (is_open f)) (not (is_open g)) shut)) in
      other_number (formula_fingerprint f) (formula_fingerprint g) e (ap formula_fingerprint (sym first ∙ same ∙ second))
  wholes_apart f g false shut e same = symbols_apart f g e same

  atoms_apart : (f g : Formula) → atoms_clash f g ≡ true → image h f ≡ image h g → ⊥
  atoms_apart f g = wholes_apart f g (not (is_open f) && not (is_open g)) refl

-- so no list with both has a unifier
pub clash_unified : (fs gs : List Formula) (f g : Formula) → Contains fs f → Contains gs g → atoms_clash f g ≡ true → IsUnified (fs ++ gs) → ⊥
clash_unified fs gs f g in_fs in_gs e u =
    let P : Formula → Type 0 = λ q. image u.map q ≡ u.atom in
    let all : All P (fs ++ gs) = (makes-listed u.map (fs ++ gs) u.atom).0 u.unifies in
    atoms_apart u.map f g e
    (All-contains P (fs ++ gs) f all (Contains-append_left fs gs f in_fs) ∙ sym (All-contains P (fs ++ gs) g all (Contains-append_right fs gs g in_gs)))
