-- Where for each premise some tree at the address of a formula of its conclusion makes the sequent true, some tree at that of a formula
-- of the rule's conclusion does.
use Rattle.std.proofs.Common.{◌≡◌, ◌⊎◌, inl, inr, ℕ, suc, Bool, true, false, ◌&&◌, ◌||◌, if◌then◌else◌, List, [], refl, sym, ap, ◌∙◌}
use Rattle.std.specs.FinMap as fin
use Rattle.std.specs.List.{list_any}
use Rattle.std.specs.Ordering.{eq_by_cmp}
use Rattle.fol.specs.declared.symbols.Var.{Var}
use Rattle.fol.specs.Syntax.{Term, free, Formula, top, bot, not, and, or, imp, all, ex}
use Rattle.fol.specs.Order.{formula_cmp}
use Rattle.finite.specs.Finite as set
use Rattle.substitution.specs.Closed.{IsClosedMap}
use Rattle.substitution.specs.Image.{image, image_term}
use Rattle.substitution.specs.Maps.{Map}
use Rattle.lk_rules.specs.declared.sequent.Sequent.{Sequent}
use Rattle.lk_rules.specs.declared.sequent.Side.{Side}
use Rattle.lk_rules.specs.declared.sequent.Side.TheVariants.{Left, Right}
use Rattle.lk_rules.specs.declared.rule.Rule.{Rule}
use Rattle.lk_rules.specs.declared.rule.Rule.TheVariants.{Ax, TopR, BotL, NegL, NegR, AndL, AndR, OrL, OrR, ImpL, ImpR, AllL, AllR, ExL, ExR, DefL, DefR, Cut, Weak}
use Rattle.lk_rules.specs.Sequents.{side_of}
use Rattle.lk_rules.specs.Rules.{is_unfolding_rule, needs, has_shape, aux, main_stands, IsWithin}
use Rattle.lk_rules.proofs.Subsequents.{and_both}
use Rattle.proof_trees.specs.Trees.{Trees, none, more, concl, count, is_cut}
use Rattle.proof_trees.proofs.Booleans.{or_first, or_second, either}
use Rattle.cut_laws.proofs.Cuts.{AllWithin}
use Rattle.cut_laws.proofs.Sides.{clash}
use Rattle.search_laws.specs.Truth.{Assignment}
use Rattle.search_laws.proofs.Searched.{alone_left, alone_right}
use Rattle.expansion_laws.specs.Helping.{helps, conjoined, disjoined}
use Rattle.extraction_laws.specs.Addresses.{Address, part, via, is_listed}
use Rattle.extraction_laws.specs.States.{State, nth_outside, variable_at, Includes}
use Rattle.extraction_laws.specs.Extraction.{Context, main_address, met, auxiliary_address, inner_context, inner_variable}
use Rattle.extraction_laws.specs.Images.{HasImage, HaveImages}
use Rattle.extraction_laws.proofs.Fitting.{from_within}
use Rattle.extraction_laws.proofs.Helping.{help, help-flat, help-not, help-and, help-or, help-imp, help_all_left, help_ex_right, help_all_right, help_ex_left}
use Rattle.extraction_laws.proofs.Mains.{initial_left, initial_right}
use Rattle.extraction_laws.proofs.Marks.{is_there, marked}
use Rattle.extraction_laws.proofs.PairTruth.{pair_helps}

-- weakening has no auxiliary formula
weakening_adds : (side : Side) → aux Weak 0 side ≡ []
weakening_adds Left = refl
weakening_adds Right = refl

module _ (vs : List Var) (st : State) (α : Assignment) where
  abbrev does : Address → Bool
  does = help vs st α

  -- at the address of some formula of a sequent stands a tree that makes the sequent true
  pub record Helper (c : Context) (s : Sequent) : Type 0 where
    pub side : Side
    pub formula : Formula
    pub stands : set.has (side_of s side) formula ≡ true
    pub helps : does (c side formula) ≡ true

  -- so it is for each premise, from the i-th on
  abbrev pub AllHelped : (ℕ → Context) → ℕ → Trees → Type 0
  AllHelped cs i none = Unit {0}
  AllHelped cs i (more t ts) = Helper (cs i) (concl t) × AllHelped cs (suc i) ts

  -- at the address of some auxiliary formula
  record Extra (at : Side → Formula → Address) (r : Rule) (i : ℕ) : Type 0 where
    side : Side
    formula : Formula
    among : list_any (eq_by_cmp formula_cmp formula) (aux r i side) ≡ true
    helps : does (at side formula) ≡ true

  -- one of two parts

  either_part : (a : Address) (b : Bool) → does (part a (if b then 0 else 1)) ≡ true → (does (part a 0) || does (part a 1)) ≡ true
  either_part a true h = or_first (does (part a 0)) (does (part a 1)) h
  either_part a false h = or_second (does (part a 0)) (does (part a 1)) h

  part_of_imp : (f : Formula) (m : Map) (v : Var) (a : Address) (side : Side) (h : Formula) → does (auxiliary_address (ImpR f) m v a 0 side h) ≡ true → (does (part a 0) || does (part a 1)) ≡ true
  part_of_imp f m v a Left h e = or_first (does (part a 0)) (does (part a 1)) e
  part_of_imp f m v a Right h e = or_second (does (part a 0)) (does (part a 1)) e

  module _ (m : Map) (c : Context) (s : Sequent) (closed : IsClosedMap (fin.get m)) (fits : HaveImages m c s) where
    -- a formula of the conclusion

    left_helper : (f : Formula) → ((set.has s.left f && true) && true) ≡ true → does (c Left f) ≡ true → Helper c s
    left_helper f main h = record { side = Left; formula = f; stands = alone_left _ main; helps = h }

    right_helper : (f : Formula) → (true && (set.has s.right f && true)) ≡ true → does (c Right f) ≡ true → Helper c s
    right_helper f main h = record { side = Right; formula = f; stands = alone_right _ main; helps = h }

    on_left : (f : Formula) → ((set.has s.left f && true) && true) ≡ true → HasImage m (c Left f) Left f
    on_left f main = fits Left f (alone_left _ main)

    on_right : (f : Formula) → (true && (set.has s.right f && true)) ≡ true → HasImage m (c Right f) Right f
    on_right f main = fits Right f (alone_right _ main)

    module _ (r : Rule) (v : Var) where
      abbrev at : ℕ → Side → Formula → Address
      at i = auxiliary_address r m v (main_address r c) i

      -- a premise's formula is one of the conclusion or an auxiliary one
      of_premise : (i : ℕ) (x : Sequent) → IsWithin r s i x → Helper (inner_context r s m c v i) x → Helper c s ⊎ Extra (at i) r i
      of_premise i x within h =
          let chosen : Bool → Address = λ b. if b then c h.side h.formula else at i h.side h.formula in
          from_within s r i x h.side h.formula within h.stands
          (λ there. inl (record { side = h.side; formula = h.formula; stands = there; helps = ap (λ b. does (chosen b)) (sym there) ∙ h.helps }))
          (λ away extra. inr (record { side = h.side; formula = h.formula; among = extra; helps = ap (λ b. does (chosen b)) (sym away) ∙ h.helps }))

      first_of : (n : ℕ) (ts : Trees) → count ts ≡ suc n → AllWithin r s 0 ts → AllHelped (inner_context r s m c v) 0 ts → Helper c s ⊎ Extra (at 0) r 0
      first_of n none number within helped = cc
      first_of n (more t ts) number within helped = of_premise 0 (concl t) within.0 helped.0

      second_of : (n : ℕ) (ts : Trees) → count ts ≡ suc (suc n) → AllWithin r s 0 ts → AllHelped (inner_context r s m c v) 0 ts → Helper c s ⊎ Extra (at 1) r 1
      second_of n none number within helped = cc
      second_of n (more t none) number within helped = cc
      second_of n (more t (more u ts)) number within helped = of_premise 1 (concl u) within.1.0 helped.1.0

      -- with one premise
      by_one : (ts : Trees) → count ts ≡ 1 → AllWithin r s 0 ts → AllHelped (inner_context r s m c v) 0 ts → (Extra (at 0) r 0 → Helper c s) → Helper c s
      by_one ts number within helped combined = elim (first_of 0 ts number within helped) [
        | inl h ↦ h
        | inr e ↦ combined e
      ]

      -- with two
      by_two : (ts : Trees) → count ts ≡ 2 → AllWithin r s 0 ts → AllHelped (inner_context r s m c v) 0 ts → (Extra (at 0) r 0 → Extra (at 1) r 1 → Helper c s) → Helper c s
      by_two ts number within helped combined = elim (first_of 1 ts number within helped) [
        | inl h ↦ h
        | inr e ↦ elim (second_of 0 ts number within helped) [
          | inl h ↦ h
          | inr g ↦ combined e g
        ]
      ]

    -- the variable of the main formula stays
    kept_variable : (a : Address) (x : State) → Includes x st → is_listed a x.names ≡ true → variable_at vs st a ≡ variable_at vs x a
    kept_variable a x h there = ap (nth_outside vs) (h.places a there)

    pub rule_helps : (r : Rule) (ts : Trees) (x : State) → is_cut r ≡ false → is_unfolding_rule r ≡ false → has_shape r ≡ true → main_stands r s ≡ true → count ts ≡ needs r → AllWithin r s 0 ts → Includes (met vs r m c x) st
        → AllHelped (inner_context r s m c (inner_variable vs r m c x)) 0 ts → Helper c s
    rule_helps (Ax f) ts x no_cut no_unfolding shape main number within marks helped =
        let l : HasImage m (c Left f) Left f = fits Left f (initial_left s f main) in
        let r : HasImage m (c Right f) Right f = fits Right f (initial_right s f main) in
        either (does (c Left f)) (does (c Right f))
        (λ h. record { side = Left; formula = f; stands = initial_left s f main; helps = h })
        (λ h. record { side = Right; formula = f; stands = initial_right s f main; helps = h })
        (pair_helps vs st α (c Left f) (c Right f) (image (fin.get m) f) x (record { left = l.formula; right = r.formula }) marks l.side r.side)
    rule_helps TopR ts x no_cut no_unfolding shape main number within marks helped =
        let a : Address = c Right top in
        let p : HasImage m a Right top = on_right top main in
        right_helper top main (help-flat vs st α top a p.formula refl (marks.used a (marked x.opened a)) ∙ ap (λ o. helps α o top) p.side)
    rule_helps BotL ts x no_cut no_unfolding shape main number within marks helped =
        let a : Address = c Left bot in
        let p : HasImage m a Left bot = on_left bot main in
        left_helper bot main (help-flat vs st α bot a p.formula refl (marks.used a (marked x.opened a)) ∙ ap (λ o. helps α o bot) p.side)
    rule_helps (NegL (not f)) ts x no_cut no_unfolding shape main number within marks helped =
        let a : Address = c Left (not f) in
        let p : HasImage m a Left (not f) = on_left (not f) main in
        by_one (NegL (not f)) (inner_variable vs (NegL (not f)) m c x) ts number within helped (λ e.
        left_helper (not f) main (help-not vs st α (image (fin.get m) f) a p.formula (marks.used a (marked x.opened a)) ∙ e.helps))
    rule_helps (NegR (not f)) ts x no_cut no_unfolding shape main number within marks helped =
        let a : Address = c Right (not f) in
        let p : HasImage m a Right (not f) = on_right (not f) main in
        by_one (NegR (not f)) (inner_variable vs (NegR (not f)) m c x) ts number within helped (λ e.
        right_helper (not f) main (help-not vs st α (image (fin.get m) f) a p.formula (marks.used a (marked x.opened a)) ∙ e.helps))
    rule_helps (AndL (and f g)) ts x no_cut no_unfolding shape main number within marks helped =
        let a : Address = c Left (and f g) in
        let p : HasImage m a Left (and f g) = on_left (and f g) main in
        by_one (AndL (and f g)) (inner_variable vs (AndL (and f g)) m c x) ts number within helped (λ e.
        left_helper (and f g) main (help-and vs st α (image (fin.get m) f) (image (fin.get m) g) a p.formula (marks.used a (marked x.opened a))
        ∙ (ap (λ o. conjoined o (does (part a 0)) (does (part a 1))) p.side ∙ either_part a (eq_by_cmp formula_cmp e.formula f) e.helps)))
    rule_helps (AndR (and f g)) ts x no_cut no_unfolding shape main number within marks helped =
        let a : Address = c Right (and f g) in
        let p : HasImage m a Right (and f g) = on_right (and f g) main in
        by_two (AndR (and f g)) (inner_variable vs (AndR (and f g)) m c x) ts number within helped (λ d e.
        right_helper (and f g) main (help-and vs st α (image (fin.get m) f) (image (fin.get m) g) a p.formula (marks.used a (marked x.opened a))
        ∙ (ap (λ o. conjoined o (does (part a 0)) (does (part a 1))) p.side ∙ and_both (does (part a 0)) (does (part a 1)) d.helps e.helps)))
    rule_helps (OrL (or f g)) ts x no_cut no_unfolding shape main number within marks helped =
        let a : Address = c Left (or f g) in
        let p : HasImage m a Left (or f g) = on_left (or f g) main in
        by_two (OrL (or f g)) (inner_variable vs (OrL (or f g)) m c x) ts number within helped (λ d e.
        left_helper (or f g) main (help-or vs st α (image (fin.get m) f) (image (fin.get m) g) a p.formula (marks.used a (marked x.opened a))
        ∙ (ap (λ o. disjoined o (does (part a 0)) (does (part a 1))) p.side ∙ and_both (does (part a 0)) (does (part a 1)) d.helps e.helps)))
    rule_helps (OrR (or f g)) ts x no_cut no_unfolding shape main number within marks helped =
        let a : Address = c Right (or f g) in
        let p : HasImage m a Right (or f g) = on_right (or f g) main in
        by_one (OrR (or f g)) (inner_variable vs (OrR (or f g)) m c x) ts number within helped (λ e.
        right_helper (or f g) main (help-or vs st α (image (fin.get m) f) (image (fin.get m) g) a p.formula (marks.used a (marked x.opened a))
        ∙ (ap (λ o. disjoined o (does (part a 0)) (does (part a 1))) p.side ∙ either_part a (eq_by_cmp formula_cmp e.formula f) e.helps)))
    rule_helps (ImpL (imp f g)) ts x no_cut no_unfolding shape main number within marks helped =
        let a : Address = c Left (imp f g) in
        let p : HasImage m a Left (imp f g) = on_left (imp f g) main in
        by_two (ImpL (imp f g)) (inner_variable vs (ImpL (imp f g)) m c x) ts number within helped (λ d e.
        left_helper (imp f g) main (help-imp vs st α (image (fin.get m) f) (image (fin.get m) g) a p.formula (marks.used a (marked x.opened a))
        ∙ (ap (λ o. disjoined o (does (part a 0)) (does (part a 1))) p.side ∙ and_both (does (part a 0)) (does (part a 1)) d.helps e.helps)))
    rule_helps (ImpR (imp f g)) ts x no_cut no_unfolding shape main number within marks helped =
        let a : Address = c Right (imp f g) in
        let v : Var = inner_variable vs (ImpR (imp f g)) m c x in
        let p : HasImage m a Right (imp f g) = on_right (imp f g) main in
        by_one (ImpR (imp f g)) v ts number within helped (λ e.
        right_helper (imp f g) main (help-imp vs st α (image (fin.get m) f) (image (fin.get m) g) a p.formula (marks.used a (marked x.opened a))
        ∙ (ap (λ o. disjoined o (does (part a 0)) (does (part a 1))) p.side ∙ part_of_imp (imp f g) m v a e.side e.formula e.helps)))
    rule_helps (AllL (all b) t) ts x no_cut no_unfolding shape main number within marks helped =
        let a : Address = c Left (all b) in
        let u : Term = image_term (fin.get m) t in
        let p : HasImage m a Left (all b) = on_left (all b) main in
        by_one (AllL (all b) t) (inner_variable vs (AllL (all b) t) m c x) ts number within helped (λ e.
        left_helper (all b) main (help_all_left vs st α (image (fin.get m) b) a u p.formula p.side (marks.used a (marked x.opened a)) (marks.instances (via a u) (marked x.instances (via a u))) e.helps))
    rule_helps (AllR (all b) y) ts x no_cut no_unfolding shape main number within marks helped =
        let a : Address = c Right (all b) in
        let p : HasImage m a Right (all b) = on_right (all b) main in
        by_one (AllR (all b) y) (inner_variable vs (AllR (all b) y) m c x) ts number within helped (λ e.
        right_helper (all b) main (help_all_right vs st α (image (fin.get m) b) a p.formula p.side (marks.used a (marked x.opened a))
        ∙ (ap (λ w. does (via a (free w))) (kept_variable a (met vs (AllR (all b) y) m c x) marks (is_there a x.names)) ∙ e.helps)))
    rule_helps (ExL (ex b) y) ts x no_cut no_unfolding shape main number within marks helped =
        let a : Address = c Left (ex b) in
        let p : HasImage m a Left (ex b) = on_left (ex b) main in
        by_one (ExL (ex b) y) (inner_variable vs (ExL (ex b) y) m c x) ts number within helped (λ e.
        left_helper (ex b) main (help_ex_left vs st α (image (fin.get m) b) a p.formula p.side (marks.used a (marked x.opened a))
        ∙ (ap (λ w. does (via a (free w))) (kept_variable a (met vs (ExL (ex b) y) m c x) marks (is_there a x.names)) ∙ e.helps)))
    rule_helps (ExR (ex b) t) ts x no_cut no_unfolding shape main number within marks helped =
        let a : Address = c Right (ex b) in
        let u : Term = image_term (fin.get m) t in
        let p : HasImage m a Right (ex b) = on_right (ex b) main in
        by_one (ExR (ex b) t) (inner_variable vs (ExR (ex b) t) m c x) ts number within helped (λ e.
        right_helper (ex b) main (help_ex_right vs st α (image (fin.get m) b) a u p.formula p.side (marks.used a (marked x.opened a)) (marks.instances (via a u) (marked x.instances (via a u))) e.helps))
    rule_helps Weak ts x no_cut no_unfolding shape main number within marks helped =
        by_one Weak (inner_variable vs Weak m c x) ts number within helped (λ e. clash false (ap (list_any (eq_by_cmp formula_cmp e.formula)) (sym (weakening_adds e.side)) ∙ e.among) refl)
    rule_helps (DefL f) ts x no_cut no_unfolding shape main number within marks helped = cc
    rule_helps (DefR f) ts x no_cut no_unfolding shape main number within marks helped = cc
    rule_helps (Cut f) ts x no_cut no_unfolding shape main number within marks helped = cc
    rule_helps r ts x no_cut no_unfolding shape main number within marks helped = cc
