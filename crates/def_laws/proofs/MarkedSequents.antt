-- Sequents and rules with marked symbols are well formed.
use Rattle.std.proofs.Common.{◌≡◌, true, List, [], ◌∷◌, map, sym, ◌∙◌, refl}
use Rattle.std.specs.List.{All, list_all}
use Rattle.fol.specs.Syntax.{Pred, Formula}
use Rattle.fol.specs.OrderLaws.{formula_total}
use Rattle.fol.specs.Formed.{is_formed, IsFormed, IsFormedPred}
use Rattle.finite.specs.Finite as set
use Rattle.finite.proofs.Finite.{has-listing, all_among}
use Rattle.substitution.proofs.Booleans.{and_left, and_right, and_both}
use Rattle.lk_rules.specs.declared.sequent.Sequent.{Sequent}
use Rattle.lk_rules.specs.declared.rule.Rule.{Rule}
use Rattle.lk_rules.specs.declared.rule.Rule.TheVariants.{Ax, TopR, BotL, NegL, NegR, AndL, AndR, OrL, OrR, ImpL, ImpR, AllL, AllR, ExL, ExR, DefL, DefR, Cut, Weak}
use Rattle.lk_rules.specs.Formulas.{FormulaSet}
use Rattle.lk_rules.specs.Rules.{IsFormedRule}
use Rattle.lk_rules.proofs.Listings.{alike}
use Rattle.proof_trees.specs.Conclusions.{IsFormedSequent}
use Rattle.def_laws.specs.Marking.{marked, marked_set, marked_sequent, marked_rule}
use Rattle.def_laws.proofs.FlatSets.{has-relisted}
use Rattle.def_laws.proofs.MarkedFormulas.{formed-marked}

formed_each : (ds : List Pred) (fs : List Formula) → All IsFormedPred ds → list_all is_formed fs ≡ true → list_all is_formed (map (marked ds) fs) ≡ true
formed_each ds [] each h = refl
formed_each ds (f ∷ fs) each h = and_both _ _ (formed-marked ds 0 f each (and_left _ _ h)) (formed_each ds fs each (and_right (is_formed f) _ h))

formed_set : (ds : List Pred) (s : FormulaSet) → All IsFormedPred ds → list_all is_formed (set.listing s) ≡ true → list_all is_formed (set.listing (marked_set ds s)) ≡ true
formed_set ds s each h =
    all_among formula_total is_formed (alike is_formed) (map (marked ds) (set.listing s)) (set.listing (marked_set ds s))
    (formed_each ds (set.listing s) each h)
    (λ q m. sym (has-relisted (map (marked ds) (set.listing s)) q) ∙ (has-listing (marked_set ds s) q ∙ m))

pub formed_marked_sequent : (ds : List Pred) (s : Sequent) → All IsFormedPred ds → IsFormedSequent s → IsFormedSequent (marked_sequent ds s)
formed_marked_sequent ds s each h = record { left = formed_set ds s.left each h.left; right = formed_set ds s.right each h.right }

module _ (ds : List Pred) (each : All IsFormedPred ds) where
  formed : (f : Formula) → IsFormed f → IsFormed (marked ds f)
  formed f h = formed-marked ds 0 f each h

  pub formed_marked_rule : (r : Rule) → IsFormedRule r → IsFormedRule (marked_rule ds r)
  formed_marked_rule (Ax a) h = formed a h
  formed_marked_rule TopR h = refl
  formed_marked_rule BotL h = refl
  formed_marked_rule (NegL a) h = formed a h
  formed_marked_rule (NegR a) h = formed a h
  formed_marked_rule (AndL a) h = formed a h
  formed_marked_rule (AndR a) h = formed a h
  formed_marked_rule (OrL a) h = formed a h
  formed_marked_rule (OrR a) h = formed a h
  formed_marked_rule (ImpL a) h = formed a h
  formed_marked_rule (ImpR a) h = formed a h
  formed_marked_rule (AllL a t) h = and_both _ _ (formed a (and_left _ _ h)) (and_right (is_formed a) _ h)
  formed_marked_rule (AllR a y) h = and_both _ _ (formed a (and_left _ _ h)) (and_right (is_formed a) _ h)
  formed_marked_rule (ExL a y) h = and_both _ _ (formed a (and_left _ _ h)) (and_right (is_formed a) _ h)
  formed_marked_rule (ExR a t) h = and_both _ _ (formed a (and_left _ _ h)) (and_right (is_formed a) _ h)
  formed_marked_rule (DefL a) h = formed a h
  formed_marked_rule (DefR a) h = formed a h
  formed_marked_rule (Cut a) h = formed a h
  formed_marked_rule Weak h = refl
