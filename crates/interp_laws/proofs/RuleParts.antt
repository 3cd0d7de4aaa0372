-- What a rule names, and the parts: its main formula stands in one of them, and its auxiliary formulas are well formed.
use Rattle.std.proofs.Common.{◌≡◌, ℕ, zero, suc, Bool, true, false, ◌&&◌, if◌then◌else◌, List, [], ◌∷◌, Option, Some, None, IfSome, option_to_list, refl, sym, ap, ◌∙◌}
use Rattle.std.specs.List.{All, list_all, list_any}
use Rattle.std.specs.Ordering.{eq_by_cmp}
use Rattle.std.proofs.lemmas.List.Sums.{AllPass-from_list_all, list_all-from_AllPass}
use Rattle.fol.specs.declared.symbols.Var.{Var}
use Rattle.fol.specs.Syntax.{Term, free, pred, defined, Formula, atom, top, bot, not, and, or, imp, all, ex}
use Rattle.fol.specs.Order.{var_cmp}
use Rattle.fol.specs.Formed.{is_formed, is_formed_term, IsFormed, IsFormedVar}
use Rattle.fol.specs.OrderLaws.{formula_total}
use Rattle.finite.specs.Finite as set
use Rattle.finite.proofs.Finite.{all-adds}
use Rattle.free_variables.specs.Occurrence.{is_free_in, is_free_in_term}
use Rattle.free_variables.proofs.FormedMembers.{formed_var_of}
use Rattle.substitution.specs.Instance.{inst}
use Rattle.substitution.proofs.ImageLaws.{same_var}
use Rattle.substitution.specs.Unfolding.{unf}
use Rattle.substitution.proofs.InstanceFormed.{formed-inst}
use Rattle.substitution.proofs.Unfoldings.{formed-unf}
use Rattle.lk_rules.specs.declared.sequent.Sequent.{Sequent}
use Rattle.lk_rules.specs.declared.sequent.Side.{Side}
use Rattle.lk_rules.specs.declared.sequent.Side.TheVariants.{Left, Right}
use Rattle.lk_rules.specs.declared.rule.Rule.{Rule}
use Rattle.lk_rules.specs.declared.rule.Rule.TheVariants.{Ax, TopR, BotL, NegL, NegR, AndL, AndR, OrL, OrR, ImpL, ImpR, AllL, AllR, ExL, ExR, DefL, DefR, Cut, Weak}
use Rattle.lk_rules.specs.Formulas.{FormulaSet}
use Rattle.lk_rules.specs.RuleOrder.{term_of, variable_of}
use Rattle.lk_rules.specs.Sequents.{extended, is_free_in_sequent, union_sequent, IsSubsequent}
use Rattle.lk_rules.specs.Rules.{IsFormedRule, needs, aux, eigen_free, main_stands}
use Rattle.lk_rules.proofs.Listings.{alike}
use Rattle.lk_rules.proofs.Subsequents.{and_left, and_right, and_both}
use Rattle.proof_trees.specs.Trees.{is_cut}
use Rattle.proof_trees.specs.Occurrence.{passes}
use Rattle.proof_trees.proofs.Booleans.{either}
use Rattle.cut_laws.proofs.Sides.{clash}
use Rattle.interp_laws.specs.Interpolation.{part, part_of, has_main}
use Rattle.interp_laws.specs.Parts.{IsFormedSequent}
use Rattle.interp_laws.proofs.Members.{Stands, member, from_union, unless}

-- the main formula

pub main_no_cut : (r : Rule) → has_main r ≡ true → is_cut r ≡ false
main_no_cut (Cut a) h = cc
main_no_cut r h = refl

-- the rule's main formula is this, on that side
pub record IsMain (r : Rule) (side : Side) (f : Formula) : Type 0 where
  pub in_it : (e : Sequent) → main_stands r e ≡ true → Stands e side f
  pub of_it : (e : Sequent) → Stands e side f → main_stands r e ≡ true

abbrev pub Main : Rule → Type 0
Main r = (side : Side) × (f : Formula) × IsMain r side f

on_left : (r : Rule) (f : Formula) → ((e : Sequent) → main_stands r e ≡ ((set.has e.left f && true) && true)) → Main r
on_left r f is = (
  Left,
  f,
  record {
    in_it = λ e h. and_left _ _ (and_left _ _ (sym (is e) ∙ h));
    of_it = λ e h. is e ∙ and_both _ _ (and_both _ _ h refl) refl;
  },
)

on_right : (r : Rule) (f : Formula) → ((e : Sequent) → main_stands r e ≡ (set.has e.right f && true)) → Main r
on_right r f is = (
  Right,
  f,
  record {
    in_it = λ e h. and_left _ _ (sym (is e) ∙ h);
    of_it = λ e h. is e ∙ and_both _ _ h refl;
  },
)

pub the_main : (r : Rule) → has_main r ≡ true → Main r
the_main (Ax a) h = cc
the_main TopR h = on_right TopR top (λ e. refl)
the_main BotL h = on_left BotL bot (λ e. refl)
the_main (NegL a) h = on_left (NegL a) a (λ e. refl)
the_main (NegR a) h = on_right (NegR a) a (λ e. refl)
the_main (AndL a) h = on_left (AndL a) a (λ e. refl)
the_main (AndR a) h = on_right (AndR a) a (λ e. refl)
the_main (OrL a) h = on_left (OrL a) a (λ e. refl)
the_main (OrR a) h = on_right (OrR a) a (λ e. refl)
the_main (ImpL a) h = on_left (ImpL a) a (λ e. refl)
the_main (ImpR a) h = on_right (ImpR a) a (λ e. refl)
the_main (AllL a t) h = on_left (AllL a t) a (λ e. refl)
the_main (AllR a y) h = on_right (AllR a y) a (λ e. refl)
the_main (ExL a y) h = on_left (ExL a y) a (λ e. refl)
the_main (ExR a t) h = on_right (ExR a t) a (λ e. refl)
the_main (DefL a) h = on_left (DefL a) a (λ e. refl)
the_main (DefR a) h = on_right (DefR a) a (λ e. refl)
the_main (Cut a) h = cc
the_main Weak h = cc

-- it stands in the part to which it counts
pub main_in_part : (r : Rule) (s one two : Sequent) → has_main r ≡ true → IsSubsequent s (union_sequent one two) → main_stands r s ≡ true → main_stands r (part one two (part_of r one)) ≡ true
main_in_part r s one two has within stands =
    elim (main_stands r one) as (λ b. main_stands r one ≡ b → main_stands r (part one two (if b then Right else Left)) ≡ true) [
      | true ↦ λ h. h
      | false ↦ λ h.
          let m : Main r = the_main r has in
          from_union one two m.0 m.1
          (λ first. clash (main_stands r one) (m.2.of_it one first) h)
          (λ second. m.2.of_it two second)
          (member s (union_sequent one two) within m.0 m.1 (m.2.in_it s stands))
    ] refl

-- auxiliary formulas

one_formed : (a : Bool) → a ≡ true → (a && true) ≡ true
one_formed a h = and_both a true h refl

two_formed : (a b : Bool) → (a && b) ≡ true → (a && (b && true)) ≡ true
two_formed a b h = and_both a (b && true) (and_left a b h) (one_formed b (and_right a b h))

given_formed : (b : Formula) (t : Term) → (is_formed (all b) && is_formed_term t) ≡ true → (is_formed (inst b t) && true) ≡ true
given_formed b t h = one_formed _ (formed-inst b t (and_left _ _ h) (and_right (is_formed (all b)) _ h))

unfolding_formed : (o : Option Formula) → IfSome o IsFormed → list_all is_formed (option_to_list o) ≡ true
unfolding_formed None h = refl
unfolding_formed (Some f) h = one_formed _ h

aux_formed : (r : Rule) (i : ℕ) (side : Side) → IsFormedRule r → list_all is_formed (aux r i side) ≡ true
aux_formed (NegL (not a)) zero Right h = one_formed _ h
aux_formed (NegR (not a)) zero Left h = one_formed _ h
aux_formed (AndL (and a b)) zero Left h = two_formed _ _ h
aux_formed (AndR (and a b)) zero Right h = one_formed _ (and_left _ _ h)
aux_formed (AndR (and a b)) (suc zero) Right h = one_formed _ (and_right (is_formed a) _ h)
aux_formed (OrL (or a b)) zero Left h = one_formed _ (and_left _ _ h)
aux_formed (OrL (or a b)) (suc zero) Left h = one_formed _ (and_right (is_formed a) _ h)
aux_formed (OrR (or a b)) zero Right h = two_formed _ _ h
aux_formed (ImpL (imp a b)) zero Right h = one_formed _ (and_left _ _ h)
aux_formed (ImpL (imp a b)) (suc zero) Left h = one_formed _ (and_right (is_formed a) _ h)
aux_formed (ImpR (imp a b)) zero Left h = one_formed _ (and_left _ _ h)
aux_formed (ImpR (imp a b)) zero Right h = one_formed _ (and_right (is_formed a) _ h)
aux_formed (AllL (all b) t) zero Left h = given_formed b t h
aux_formed (AllR (all b) y) zero Right h = given_formed b (free y) h
aux_formed (ExL (ex b) y) zero Left h = given_formed b (free y) h
aux_formed (ExR (ex b) t) zero Right h = given_formed b t h
aux_formed (DefL (atom (pred s (defined b)) ts)) zero Left h = unfolding_formed (unf (atom (pred s (defined b)) ts)) (formed-unf (atom (pred s (defined b)) ts) h)
aux_formed (DefR (atom (pred s (defined b)) ts)) zero Right h = unfolding_formed (unf (atom (pred s (defined b)) ts)) (formed-unf (atom (pred s (defined b)) ts) h)
aux_formed (Cut a) zero Right h = one_formed _ h
aux_formed (Cut a) (suc zero) Left h = one_formed _ h
aux_formed Weak zero Left h = refl
aux_formed r i side h = refl

all_added : (s : FormulaSet) (fs : List Formula) → list_all is_formed (set.listing s) ≡ true → list_all is_formed fs ≡ true → list_all is_formed (set.listing (set.adds_each s fs)) ≡ true
all_added s [] old new = old
all_added s (f ∷ fs) old new =
    all_added (set.adds s f) fs (all-adds formula_total is_formed (alike is_formed) s f old (and_left (is_formed f) _ new)) (and_right (is_formed f) (list_all is_formed fs) new)

formed_with : (s : FormulaSet) (fs : List Formula) → All IsFormed (set.listing s) → list_all is_formed fs ≡ true → All IsFormed (set.listing (set.adds_each s fs))
formed_with s fs old new = AllPass-from_list_all is_formed (set.listing (set.adds_each s fs)) (all_added s fs (list_all-from_AllPass is_formed (set.listing s) old) new)

-- a well-formed sequent with them is well formed
pub extended_formed : (r : Rule) (i : ℕ) (s : Sequent) → IsFormedRule r → IsFormedSequent s → IsFormedSequent (extended s (aux r i))
extended_formed r i s formed h = record { left = formed_with s.left (aux r i Left) h.left (aux_formed r i Left formed); right = formed_with s.right (aux r i Right) h.right (aux_formed r i Right formed) }

free_formed : (v : Var) (fs : List Formula) → list_all is_formed fs ≡ true → list_any (is_free_in v) fs ≡ true → IsFormedVar v
free_formed v [] formed h = cc
free_formed v (f ∷ fs) formed h =
    either (is_free_in v f) (list_any (is_free_in v) fs) (formed_var_of v f 0 (and_left (is_formed f) _ formed)) (free_formed v fs (and_right (is_formed f) (list_all is_formed fs) formed)) h

-- and its free variables are well formed
pub free_var_formed : (v : Var) (s : Sequent) → IsFormedSequent s → is_free_in_sequent v s ≡ true → IsFormedVar v
free_var_formed v s h =
    either (list_any (is_free_in v) (set.listing s.left)) (list_any (is_free_in v) (set.listing s.right))
    (free_formed v (set.listing s.left) (list_all-from_AllPass is_formed (set.listing s.left) h.left))
    (free_formed v (set.listing s.right) (list_all-from_AllPass is_formed (set.listing s.right) h.right))

-- eigenvariables

-- the rule's eigenvariable isn't free in a sequent whose variables are free in one in which it isn't
pub eigen_out : (r : Rule) (x e : Sequent) → ((v : Var) → is_free_in_sequent v x ≡ true → is_free_in_sequent v e ≡ true) → eigen_free r e ≡ false → eigen_free r x ≡ false
eigen_out (AllR a y) x e h out = unless (is_free_in_sequent y x) (is_free_in_sequent y e) (h y) out
eigen_out (ExL a y) x e h out = unless (is_free_in_sequent y x) (is_free_in_sequent y e) (h y) out
eigen_out r x e h out = refl

-- what is free where the eigenvariable isn't is another variable
pub not_eigen : {P : Type 0} (r : Rule) (e : Sequent) (v : Var) → eigen_free r e ≡ false → is_free_in_sequent v e ≡ true → passes (eq_by_cmp var_cmp v) (variable_of r) ≡ true → P
not_eigen (AllR a y) e v out h same = clash (is_free_in_sequent y e) (sym (ap (λ w. is_free_in_sequent w e) (same_var v y same)) ∙ h) out
not_eigen (ExL a y) e v out h same = clash (is_free_in_sequent y e) (sym (ap (λ w. is_free_in_sequent w e) (same_var v y same)) ∙ h) out
not_eigen r e v out h same = cc

-- a rule without premises or with two has neither an eigenvariable nor a term

pub none_without : (r : Rule) (e : Sequent) → needs r ≡ 0 → eigen_free r e ≡ false
none_without (AllR a y) e h = cc
none_without (ExL a y) e h = cc
none_without r e h = refl

pub none_with_two : (r : Rule) (e : Sequent) → needs r ≡ 2 → eigen_free r e ≡ false
none_with_two (AllR a y) e h = cc
none_with_two (ExL a y) e h = cc
none_with_two r e h = refl

pub no_term_with_two : (r : Rule) (v : Var) → needs r ≡ 2 → passes (is_free_in_term v) (term_of r) ≡ false
no_term_with_two (AllL a t) v h = cc
no_term_with_two (ExR a t) v h = cc
no_term_with_two r v h = refl
