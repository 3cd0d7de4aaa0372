-- The rules keep states proper, and the variables on the paths to a context's addresses known.
use Rattle.std.proofs.Common.{◌≡◌, inl, inr, ℕ, Bool, true, false, ◌&&◌, ◌||◌, cond, if◌then◌else◌, List, [], Option, Some, None, IfSome, unwrap_or, refl, sym, ap, subst, ◌∙◌}
use Rattle.std.specs.FinMap as fin
use Rattle.std.specs.Ordering.{eq_by_cmp}
use Rattle.fol.specs.declared.symbols.Sym.{Sym}
use Rattle.fol.specs.declared.symbols.Var.{Var}
use Rattle.fol.specs.Syntax.{Term, free, nil, cons, plain, Formula, atom, top, bot, not, and, or, imp, all, ex}
use Rattle.fol.specs.Order.{var_cmp}
use Rattle.fol.specs.OrderLaws.{var_total}
use Rattle.finite.specs.Finite as set
use Rattle.free_variables.specs.Fresh.{is_among}
use Rattle.free_variables.specs.Occurrence.{is_free_in_term, var_list_term}
use Rattle.free_variables.proofs.OccurrenceLaws.{is_free-var_list_term}
use Rattle.substitution.specs.Closed.{IsClosedMap}
use Rattle.substitution.specs.Image.{image, image_term}
use Rattle.substitution.specs.Maps.{Map}
use Rattle.substitution.proofs.FreeLaws.{Origin, origin}
use Rattle.substitution.proofs.ImageLaws.{same_var}
use Rattle.lk_rules.specs.declared.sequent.Sequent.{Sequent}
use Rattle.lk_rules.specs.declared.sequent.Side.{Side}
use Rattle.lk_rules.specs.declared.sequent.Side.TheVariants.{Left, Right}
use Rattle.lk_rules.specs.declared.rule.Rule.{Rule}
use Rattle.lk_rules.specs.declared.rule.Rule.TheVariants.{Ax, TopR, BotL, NegL, NegR, AndL, AndR, OrL, OrR, ImpL, ImpR, AllL, AllR, ExL, ExR, DefL, DefR, Cut, Weak}
use Rattle.lk_rules.specs.Sequents.{side_of}
use Rattle.lk_rules.specs.Rules.{is_unfolding_rule, has_shape, main_stands, IsWithin}
use Rattle.proof_trees.specs.Trees.{is_cut}
use Rattle.proof_trees.proofs.Booleans.{or_first}
use Rattle.cut_laws.proofs.Sides.{alone, clash}
use Rattle.search_laws.proofs.Searched.{alone_left, alone_right}
use Rattle.expansion_laws.specs.Proofs.{is_strong_on}
use Rattle.extraction_laws.specs.Addresses.{Address, is_listed, formula_at, side_at}
use Rattle.extraction_laws.specs.States.{State, opened, nth_outside, variable_at, Includes}
use Rattle.extraction_laws.specs.Extraction.{vars_chosen, Context, main_address, met, auxiliary_address, inner_context, inner_map, inner_variable}
use Rattle.extraction_laws.specs.Images.{HasImage, HaveImages}
use Rattle.extraction_laws.proofs.Fitting.{from_within}
use Rattle.extraction_laws.proofs.Growing.{includes-met}
use Rattle.extraction_laws.proofs.Mains.{initial_left, initial_right, main_of}
use Rattle.extraction_laws.proofs.Marks.{is_there}
use Rattle.extraction_laws.proofs.Proper.{Known, KnownPath, path_later, Proper, proper_opened, proper_instantiated, proper_strong, known_instance, known_variable}
use Rattle.extraction_laws.proofs.ProperPairs.{proper_paired}

-- the terms of a map with one binding more

if_bound : (P : Term → Type 0) (b : Bool) (u : Term) (o : Option Term) → IfSome o P → P u → IfSome (cond b (Some u) o) P
if_bound P true u o h p = p
if_bound P false u o h p = h

with_binding : (P : Term → Type 0) (m : Map) (y : Var) (u : Term) (v : Var) → IfSome (fin.get m v) P → P u → IfSome (fin.get (fin.insert m y u) v) P
with_binding P m y u v h p = subst (λ o. IfSome o P) (sym (fin.get-insert var_total m y u v)) (if_bound P (eq_by_cmp var_cmp v y) u (fin.get m v) h p)

as_well : (P Q : Term → Type 0) (o : Option Term) → ((t : Term) → P t → Q t) → IfSome o P → IfSome o Q
as_well P Q None f h = tt
as_well P Q (Some t) f h = f t h

-- a variable of a term's image comes from one of the term
term_origin : (y : Var) (m : Map) (t : Term) → is_free_in_term y (image_term (fin.get m) t) ≡ true → Origin y (fin.get m) (λ w. is_free_in_term w t)
term_origin y m t h =
    let p : Sym = record { name = []; arity = 1 } in
    let o : Origin y (fin.get m) (λ w. is_free_in_term w t || false) = origin y (fin.get m) (atom (plain p) (cons t nil)) (or_first (is_free_in_term y (image_term (fin.get m) t)) false h) in
    (o.0, (alone (is_free_in_term o.0 t) o.1.0, o.1.1))

module _ (vs : List Var) where
  -- the term is the variable of an address that has got one
  abbrev pub IsGiven : State → Term → Type 0
  IsGiven st t = (b : Address) × ((is_listed b st.names ≡ true) × (t ≡ free (variable_at vs st b)))

  -- each term of the map is
  abbrev pub IsNaming : State → Map → Type 0
  IsNaming st m = (v : Var) → IfSome (fin.get m v) (IsGiven st)

  given_later : (x y : State) → Includes x y → (t : Term) → IsGiven x t → IsGiven y t
  given_later x y h t e = (e.0, (h.names e.0 e.1.0, e.1.1 ∙ ap (λ n. free (nth_outside vs n)) (sym (h.places e.0 e.1.0))))

  pub naming_later : (x y : State) → Includes x y → (m : Map) → IsNaming x m → IsNaming y m
  naming_later x y h m naming v = as_well (IsGiven x) (IsGiven y) (fin.get m v) (given_later x y h) (naming v)

  -- variables of the images of terms are known

  of_binding : (st : State) (y w : Var) (o : Option Term) → IfSome o (IsGiven st) → is_among w vs ≡ true → is_free_in_term y (unwrap_or o (free w)) ≡ true → Known vs st y
  of_binding st y w None h there e = inl (ap (λ v. is_among v vs) (same_var y w e) ∙ there)
  of_binding st y w (Some u) h there e = inr (h.0, (h.1.0, same_var y (variable_at vs st h.0) (ap (is_free_in_term y) (sym h.1.1) ∙ e)))

  known_image : (st : State) (m : Map) (t : Term) → IsNaming st m → ((y : Var) → is_free_in_term y t ≡ true → is_among y vs ≡ true) → (y : Var) → is_free_in_term y (image_term (fin.get m) t) ≡ true → Known vs st y
  known_image st m t naming within y e =
      let o : Origin y (fin.get m) (λ w. is_free_in_term w t) = term_origin y m t e in
      of_binding st y o.0 (fin.get m o.0) (naming o.0) (within o.0 o.1.0) o.1.1

  -- the paths of a context's addresses are known
  abbrev pub KnownContext : State → Context → Sequent → Type 0
  KnownContext st c s = (side : Side) (f : Formula) → set.has (side_of s side) f ≡ true → KnownPath vs st (c side f)

  -- the variables of the list are those of the rule's term, and more
  abbrev pub HasChosen : Rule → Type 0
  HasChosen r = (y : Var) → is_among y (vars_chosen r) ≡ true → is_among y vs ≡ true

  has_term : (t : Term) → ((y : Var) → is_among y (var_list_term t) ≡ true → is_among y vs ≡ true) → (y : Var) → is_free_in_term y t ≡ true → is_among y vs ≡ true
  has_term t h y e = h y (is_free-var_list_term y t ∙ e)

  module _ (m : Map) (c : Context) (s : Sequent) (closed : IsClosedMap (fin.get m)) (fits : HaveImages m c s) (x : State) (known : KnownContext x c s) where
    known_left : (f : Formula) → ((set.has s.left f && true) && true) ≡ true → KnownPath vs x (c Left f)
    known_left f main = known Left f (alone_left _ main)

    known_right : (f : Formula) → (true && (set.has s.right f && true)) ≡ true → KnownPath vs x (c Right f)
    known_right f main = known Right f (alone_right _ main)

    -- the main formula's
    known_main : (r : Rule) → main_stands r s ≡ true → KnownPath vs x (main_address r c)
    known_main r main = elim (main_of r s main) [
      | inl m ↦ subst (KnownPath vs x) (sym (m.address c)) (known m.side m.formula m.there)
      | inr none ↦ subst (KnownPath vs x) (sym (none c)) (λ y e. cc)
    ]

    -- a rule's main formula that is no strong quantifier

    weak_left : (f : Formula) → ((set.has s.left f && true) && true) ≡ true → is_strong_on Left (image (fin.get m) f) ≡ false → is_strong_on (side_at (c Left f)) (formula_at (c Left f)) ≡ false
    weak_left f main h = let p : HasImage m (c Left f) Left f = fits Left f (alone_left _ main) in (λ i. is_strong_on (p.side i) (p.formula i)) ∙ h

    weak_right : (f : Formula) → (true && (set.has s.right f && true)) ≡ true → is_strong_on Right (image (fin.get m) f) ≡ false → is_strong_on (side_at (c Right f)) (formula_at (c Right f)) ≡ false
    weak_right f main h = let p : HasImage m (c Right f) Right f = fits Right f (alone_right _ main) in (λ i. is_strong_on (p.side i) (p.formula i)) ∙ h

    proper_left : (f : Formula) → ((set.has s.left f && true) && true) ≡ true → is_strong_on Left (image (fin.get m) f) ≡ false → Proper vs x → Proper vs (opened (c Left f) x)
    proper_left f main h p = proper_opened vs (c Left f) x p (λ strong. clash _ strong (weak_left f main h))

    proper_right : (f : Formula) → (true && (set.has s.right f && true)) ≡ true → is_strong_on Right (image (fin.get m) f) ≡ false → Proper vs x → Proper vs (opened (c Right f) x)
    proper_right f main h p = proper_opened vs (c Right f) x p (λ strong. clash _ strong (weak_right f main h))

    pub proper_met : (r : Rule) → is_cut r ≡ false → is_unfolding_rule r ≡ false → has_shape r ≡ true → main_stands r s ≡ true → Proper vs x → Proper vs (met vs r m c x)
    proper_met (Ax f) no_cut no_unfolding shape main p =
        let left : set.has s.left f ≡ true = initial_left s f main in
        let right : set.has s.right f ≡ true = initial_right s f main in
        proper_paired vs (c Left f) (c Right f) (image (fin.get m) f) x (record { left = (fits Left f left).formula; right = (fits Right f right).formula }) p
        (fits Left f left).side (fits Right f right).side (known Left f left) (known Right f right)
    proper_met TopR no_cut no_unfolding shape main p = proper_right top main refl p
    proper_met BotL no_cut no_unfolding shape main p = proper_left bot main refl p
    proper_met (NegL (not f)) no_cut no_unfolding shape main p = proper_left (not f) main refl p
    proper_met (NegR (not f)) no_cut no_unfolding shape main p = proper_right (not f) main refl p
    proper_met (AndL (and f g)) no_cut no_unfolding shape main p = proper_left (and f g) main refl p
    proper_met (AndR (and f g)) no_cut no_unfolding shape main p = proper_right (and f g) main refl p
    proper_met (OrL (or f g)) no_cut no_unfolding shape main p = proper_left (or f g) main refl p
    proper_met (OrR (or f g)) no_cut no_unfolding shape main p = proper_right (or f g) main refl p
    proper_met (ImpL (imp f g)) no_cut no_unfolding shape main p = proper_left (imp f g) main refl p
    proper_met (ImpR (imp f g)) no_cut no_unfolding shape main p = proper_right (imp f g) main refl p
    proper_met (AllL (all b) t) no_cut no_unfolding shape main p = proper_instantiated vs (c Left (all b)) (image_term (fin.get m) t) (opened (c Left (all b)) x) (proper_left (all b) main refl p)
    proper_met (ExR (ex b) t) no_cut no_unfolding shape main p = proper_instantiated vs (c Right (ex b)) (image_term (fin.get m) t) (opened (c Right (ex b)) x) (proper_right (ex b) main refl p)
    proper_met (AllR (all b) y) no_cut no_unfolding shape main p = proper_strong vs (c Right (all b)) x p (known_right (all b) main)
    proper_met (ExL (ex b) y) no_cut no_unfolding shape main p = proper_strong vs (c Left (ex b)) x p (known_left (ex b) main)
    proper_met (DefL f) no_cut no_unfolding shape main p = cc
    proper_met (DefR f) no_cut no_unfolding shape main p = cc
    proper_met (Cut f) no_cut no_unfolding shape main p = cc
    proper_met Weak no_cut no_unfolding shape main p = p
    proper_met r no_cut no_unfolding shape main p = cc

    -- after the rule
    main_later : (r : Rule) → main_stands r s ≡ true → KnownPath vs (met vs r m c x) (main_address r c)
    main_later r main = path_later vs x (met vs r m c x) (includes-met vs r m c x) (main_address r c) (known_main r main)

    -- the addresses of auxiliary formulas
    known_auxiliary : (r : Rule) → main_stands r s ≡ true → IsNaming x m → HasChosen r → (i : ℕ) (side : Side) (h : Formula)
        → KnownPath vs (met vs r m c x) (auxiliary_address r m (inner_variable vs r m c x) (main_address r c) i side h)
    known_auxiliary (AllL f t) main naming chosen i side h =
        let y : State = met vs (AllL f t) m c x in
        known_instance vs (c Left f) (image_term (fin.get m) t) y (main_later (AllL f t) main)
        (known_image y m t (naming_later x y (includes-met vs (AllL f t) m c x) m naming) (has_term t chosen))
    known_auxiliary (ExR f t) main naming chosen i side h =
        let y : State = met vs (ExR f t) m c x in
        known_instance vs (c Right f) (image_term (fin.get m) t) y (main_later (ExR f t) main)
        (known_image y m t (naming_later x y (includes-met vs (ExR f t) m c x) m naming) (has_term t chosen))
    known_auxiliary (AllR f v) main naming chosen i side h =
        let y : State = met vs (AllR f v) m c x in
        known_instance vs (c Right f) (free (variable_at vs y (c Right f))) y (main_later (AllR f v) main) (known_variable vs (c Right f) y (is_there (c Right f) x.names))
    known_auxiliary (ExL f v) main naming chosen i side h =
        let y : State = met vs (ExL f v) m c x in
        known_instance vs (c Left f) (free (variable_at vs y (c Left f))) y (main_later (ExL f v) main) (known_variable vs (c Left f) y (is_there (c Left f) x.names))
    known_auxiliary r main naming chosen i side h = main_later r main

    -- those of a premise's formulas
    pub known_inner : (r : Rule) → main_stands r s ≡ true → IsNaming x m → HasChosen r → (i : ℕ) (e : Sequent) → IsWithin r s i e → KnownContext (met vs r m c x) (inner_context r s m c (inner_variable vs r m c x) i) e
    known_inner r main naming chosen i e within side h there =
        let v : Var = inner_variable vs r m c x in
        let y : State = met vs r m c x in
        let new : Address = auxiliary_address r m v (main_address r c) i side h in
        from_within s r i e side h within there
        (λ old. subst (KnownPath vs y) (sym (ap (λ b. if b then c side h else new) old)) (path_later vs x y (includes-met vs r m c x) (c side h) (known side h old)))
        (λ out extra. subst (KnownPath vs y) (sym (ap (λ b. if b then c side h else new) out)) (known_auxiliary r main naming chosen i side h))

    -- the map of the premises
    pub naming_inner : (r : Rule) → IsNaming x m → IsNaming (met vs r m c x) (inner_map r m (inner_variable vs r m c x))
    naming_inner (AllR f y) naming v =
        let z : State = met vs (AllR f y) m c x in
        with_binding (IsGiven z) m y (free (variable_at vs z (c Right f))) v (naming_later x z (includes-met vs (AllR f y) m c x) m naming v) (c Right f, (is_there (c Right f) x.names, refl))
    naming_inner (ExL f y) naming v =
        let z : State = met vs (ExL f y) m c x in
        with_binding (IsGiven z) m y (free (variable_at vs z (c Left f))) v (naming_later x z (includes-met vs (ExL f y) m c x) m naming v) (c Left f, (is_there (c Left f) x.names, refl))
    naming_inner r naming v = naming_later x (met vs r m c x) (includes-met vs r m c x) m naming v
