-- Valid proofs without cuts and unfoldings keep states closed under prefixes.
use Rattle.std.proofs.Common.{◌≡◌, ℕ, zero, suc, true, false, ◌&&◌, if◌then◌else◌, inl, inr, List, refl, sym, ap, subst}
use Rattle.std.specs.FinMap as fin
use Rattle.std.specs.List.{list_any}
use Rattle.std.specs.Ordering.{eq_by_cmp}
use Rattle.fol.specs.declared.symbols.Var.{Var}
use Rattle.fol.specs.Syntax.{free, Formula, all, ex}
use Rattle.fol.specs.Order.{formula_cmp}
use Rattle.finite.specs.Finite as set
use Rattle.substitution.specs.Closed.{IsClosedMap}
use Rattle.substitution.specs.Image.{image, image_term}
use Rattle.substitution.specs.Maps.{Map}
use Rattle.lk_rules.specs.declared.sequent.Sequent.{Sequent}
use Rattle.lk_rules.specs.declared.sequent.Side.{Side}
use Rattle.lk_rules.specs.declared.sequent.Side.TheVariants.{Left, Right}
use Rattle.lk_rules.specs.declared.rule.Rule.{Rule}
use Rattle.lk_rules.specs.declared.rule.Rule.TheVariants.{Ax, AllL, AllR, ExL, ExR, DefL, DefR, Cut, Weak}
use Rattle.lk_rules.specs.Rules.{is_unfolding_rule, has_shape, aux, main_stands, IsWithin}
use Rattle.lk_rules.proofs.Subsequents.{and_left, and_right}
use Rattle.proof_trees.specs.Trees.{Tree, node, Trees, none, more, concl, is_cut, IsValid, AllValid, cut_free, cut_free_all}
use Rattle.proof_trees.specs.Conclusions.{EachNode, EachNodeOf}
use Rattle.proof_trees.specs.Occurrence.{IsPlainNode}
use Rattle.cut_laws.proofs.Cuts.{AllWithin}
use Rattle.search_laws.proofs.Searched.{alone_left, alone_right}
use Rattle.extraction_laws.specs.Addresses.{Address, via}
use Rattle.extraction_laws.specs.States.{State, opened, variable_at, Includes}
use Rattle.extraction_laws.specs.Extraction.{Context, main_address, met, auxiliary_address, inner_context, inner_map, inner_variable, walked, walked_each}
use Rattle.extraction_laws.specs.Images.{HasImage, HaveImages}
use Rattle.extraction_laws.proofs.Fitting.{from_within, closed_inner}
use Rattle.extraction_laws.proofs.Growing.{includes-met, includes-walked}
use Rattle.extraction_laws.proofs.Mains.{initial_left, initial_right, main_of}
use Rattle.extraction_laws.proofs.Marks.{marked}
use Rattle.extraction_laws.proofs.Truth.{AllFit, Inference, inference, all_fit}
use Rattle.merge_laws.specs.United.{IsReached, IsPrefixClosed}
use Rattle.merge_laws.specs.Inferences.{AreReached}
use Rattle.merge_laws.proofs.PrefixClosed.{reached_later, closed_opened, closed_instantiated, closed_named, reached_strong, closed_paired}

-- weakening has no auxiliary formula
no_auxiliary : {P : Type 0} (i : ℕ) (side : Side) (h : Formula) → list_any (eq_by_cmp formula_cmp h) (aux Weak i side) ≡ true → P
no_auxiliary zero Left h e = cc
no_auxiliary zero Right h e = cc
no_auxiliary (suc i) side h e = cc

module _ (vs : List Var) where
  module _ (m : Map) (c : Context) (s : Sequent) (fits : HaveImages m c s) (x : State) (reached : AreReached x c s) where
    on_left : (f : Formula) → ((set.has s.left f && true) && true) ≡ true → HasImage m (c Left f) Left f
    on_left f main = fits Left f (alone_left _ main)

    on_right : (f : Formula) → (true && (set.has s.right f && true)) ≡ true → HasImage m (c Right f) Right f
    on_right f main = fits Right f (alone_right _ main)

    reached_main : (r : Rule) → main_stands r s ≡ true → IsReached x (main_address r c)
    reached_main r main = elim (main_of r s main) [
      | inl m ↦ subst (IsReached x) (sym (m.address c)) (reached m.side m.formula m.there)
      | inr absent ↦ subst (IsReached x) (sym (absent c)) tt
    ]

    -- the main formula is used
    closed_main : (r : Rule) → main_stands r s ≡ true → IsPrefixClosed x → IsPrefixClosed (opened (main_address r c) x)
    closed_main r main h = closed_opened (main_address r c) x h (reached_main r main)

    closed_met : (r : Rule) → main_stands r s ≡ true → IsPrefixClosed x → IsPrefixClosed (met vs r m c x)
    closed_met (Ax f) main h =
        let left : set.has s.left f ≡ true = initial_left s f main in
        let right : set.has s.right f ≡ true = initial_right s f main in
        closed_paired vs (c Left f) (c Right f) (image (fin.get m) f) x (record { left = (fits Left f left).formula; right = (fits Right f right).formula }) h
        (fits Left f left).side (fits Right f right).side (reached Left f left) (reached Right f right)
    closed_met (AllL f t) main h = closed_instantiated (c Left f) (image_term (fin.get m) t) (opened (c Left f) x) (closed_main (AllL f t) main h) (marked x.opened (c Left f))
    closed_met (AllR f y) main h = closed_named (c Right f) (opened (c Right f) x) (closed_main (AllR f y) main h)
    closed_met (ExL f y) main h = closed_named (c Left f) (opened (c Left f) x) (closed_main (ExL f y) main h)
    closed_met (ExR f t) main h = closed_instantiated (c Right f) (image_term (fin.get m) t) (opened (c Right f) x) (closed_main (ExR f t) main h) (marked x.opened (c Right f))
    closed_met (DefL f) main h = h
    closed_met (DefR f) main h = h
    closed_met (Cut f) main h = h
    closed_met Weak main h = h
    closed_met r main h = closed_main r main h

    -- the addresses of auxiliary formulas
    reached_auxiliary : (r : Rule) → is_cut r ≡ false → is_unfolding_rule r ≡ false → has_shape r ≡ true → main_stands r s ≡ true → (i : ℕ) (side : Side) (h : Formula) → list_any (eq_by_cmp formula_cmp h) (aux r i side) ≡ true
        → IsReached (met vs r m c x) (auxiliary_address r m (inner_variable vs r m c x) (main_address r c) i side h)
    reached_auxiliary (Ax f) no_cut no_unfolding shape main i side h e = cc
    reached_auxiliary (AllL f t) no_cut no_unfolding shape main i side h e = (marked x.opened (c Left f), λ _. marked x.instances (via (c Left f) (image_term (fin.get m) t)))
    reached_auxiliary (ExR f t) no_cut no_unfolding shape main i side h e = (marked x.opened (c Right f), λ _. marked x.instances (via (c Right f) (image_term (fin.get m) t)))
    reached_auxiliary (AllR (all b) y) no_cut no_unfolding shape main i side h e =
        let p : HasImage m (c Right (all b)) Right (all b) = on_right (all b) main in
        let z : State = met vs (AllR (all b) y) m c x in
        reached_strong z (c Right (all b)) (free (variable_at vs z (c Right (all b)))) Right (image (fin.get m) (all b)) p.side p.formula refl (marked x.opened (c Right (all b)))
    reached_auxiliary (AllR f y) no_cut no_unfolding shape main i side h e = cc
    reached_auxiliary (ExL (ex b) y) no_cut no_unfolding shape main i side h e =
        let p : HasImage m (c Left (ex b)) Left (ex b) = on_left (ex b) main in
        let z : State = met vs (ExL (ex b) y) m c x in
        reached_strong z (c Left (ex b)) (free (variable_at vs z (c Left (ex b)))) Left (image (fin.get m) (ex b)) p.side p.formula refl (marked x.opened (c Left (ex b)))
    reached_auxiliary (ExL f y) no_cut no_unfolding shape main i side h e = cc
    reached_auxiliary (DefL f) no_cut no_unfolding shape main i side h e = cc
    reached_auxiliary (DefR f) no_cut no_unfolding shape main i side h e = cc
    reached_auxiliary (Cut f) no_cut no_unfolding shape main i side h e = cc
    reached_auxiliary Weak no_cut no_unfolding shape main i side h e = no_auxiliary i side h e
    reached_auxiliary r no_cut no_unfolding shape main i side h e = marked x.opened (main_address r c)

    -- those of a premise's formulas
    reached_inner : (r : Rule) → is_cut r ≡ false → is_unfolding_rule r ≡ false → has_shape r ≡ true → main_stands r s ≡ true → (i : ℕ) (e : Sequent) → IsWithin r s i e
        → AreReached (met vs r m c x) (inner_context r s m c (inner_variable vs r m c x) i) e
    reached_inner r no_cut no_unfolding shape main i e within side h there =
        let y : State = met vs r m c x in
        let new : Address = auxiliary_address r m (inner_variable vs r m c x) (main_address r c) i side h in
        from_within s r i e side h within there
        (λ old. subst (IsReached y) (sym (ap (λ b. if b then c side h else new) old)) (reached_later x y (includes-met vs r m c x) (c side h) (reached side h old)))
        (λ out extra. subst (IsReached y) (sym (ap (λ b. if b then c side h else new) out)) (reached_auxiliary r no_cut no_unfolding shape main i side h extra))

  -- the addresses of the premises' formulas are reached, from the i-th on

  abbrev pub AllReached : State → (ℕ → Context) → ℕ → Trees → Type 0
  AllReached x cs i none = Unit {0}
  AllReached x cs i (more t ts) = AreReached x (cs i) (concl t) × AllReached x cs (suc i) ts

  all_reached : (m : Map) (c : Context) (s : Sequent) → HaveImages m c s → (x : State) → AreReached x c s → (r : Rule) → is_cut r ≡ false → is_unfolding_rule r ≡ false → has_shape r ≡ true → main_stands r s ≡ true
      → (i : ℕ) (ts : Trees) → AllWithin r s i ts → AllReached (met vs r m c x) (inner_context r s m c (inner_variable vs r m c x)) i ts
  all_reached m c s fits x reached r no_cut no_unfolding shape main i none within = tt
  all_reached m c s fits x reached r no_cut no_unfolding shape main i (more t ts) within = (
    reached_inner m c s fits x reached r no_cut no_unfolding shape main i (concl t) within.0,
    all_reached m c s fits x reached r no_cut no_unfolding shape main (suc i) ts within.1,
  )

  all_later : (x y : State) → Includes x y → (cs : ℕ → Context) (i : ℕ) (ts : Trees) → AllReached x cs i ts → AllReached y cs i ts
  all_later x y h cs i none reached = tt
  all_later x y h cs i (more t ts) reached = (λ side f there. reached_later x y h (cs i side f) (reached.0 side f there), all_later x y h cs (suc i) ts reached.1)

  -- what is known of the premises, after the rule
  pub record Premised (r : Rule) (s : Sequent) (ts : Trees) (m : Map) (c : Context) (x : State) : Type 0 where
    pub free : cut_free_all ts ≡ true
    pub plain : EachNodeOf IsPlainNode ts
    pub closed : IsClosedMap (fin.get (inner_map r m (inner_variable vs r m c x)))
    pub fit : AllFit (inner_map r m (inner_variable vs r m c x)) (inner_context r s m c (inner_variable vs r m c x)) 0 ts
    pub reached : AllReached (met vs r m c x) (inner_context r s m c (inner_variable vs r m c x)) 0 ts
    pub marks : IsPrefixClosed (met vs r m c x)

  pub premised : (r : Rule) (s : Sequent) (ts : Trees) (m : Map) (c : Context) (x : State) → IsValid (node r s ts) → cut_free (node r s ts) ≡ true → EachNode IsPlainNode (node r s ts) → IsClosedMap (fin.get m) → HaveImages m c s
      → AreReached x c s → IsPrefixClosed x → Premised r s ts m c x
  premised r s ts m c x valid uncut plain closed fits reached h =
      let i : Inference r s ts = inference r s ts valid uncut plain in
      let v : Var = inner_variable vs r m c x in record {
        free = i.above_free;
        plain = i.above_plain;
        closed = closed_inner m closed v r;
        fit = all_fit r s m c v closed fits i.no_cut i.no_unfolding i.main i.row.eigenvariable 0 ts i.premises.within;
        reached = all_reached m c s fits x reached r i.no_cut i.no_unfolding i.row.shape i.main 0 ts i.premises.within;
        marks = closed_met m c s fits x reached r i.main h;
      }

  mutual
    pub closed_walked : (t : Tree) (m : Map) (c : Context) (x : State) → IsValid t → cut_free t ≡ true → EachNode IsPlainNode t → IsClosedMap (fin.get m) → HaveImages m c (concl t) → AreReached x c (concl t)
        → IsPrefixClosed x → IsPrefixClosed (walked vs t m c x)
    closed_walked (node r s ts) m c x valid uncut plain closed fits reached h =
        let p : Premised r s ts m c x = premised r s ts m c x valid uncut plain closed fits reached h in
        let v : Var = inner_variable vs r m c x in
        closed_each ts (inner_map r m v) (inner_context r s m c v) 0 (met vs r m c x) valid.1 p.free p.plain p.closed p.fit p.reached p.marks

    closed_each : (ts : Trees) (m : Map) (cs : ℕ → Context) (i : ℕ) (x : State) → AllValid ts → cut_free_all ts ≡ true → EachNodeOf IsPlainNode ts → IsClosedMap (fin.get m) → AllFit m cs i ts → AllReached x cs i ts
        → IsPrefixClosed x → IsPrefixClosed (walked_each vs ts m cs i x)
    closed_each none m cs i x valid uncut plain closed fit reached h = h
    closed_each (more t ts) m cs i x valid uncut plain closed fit reached h =
        let y : State = walked vs t m (cs i) x in
        closed_each ts m cs (suc i) y valid.1 (and_right (cut_free t) _ uncut) plain.1 closed fit.1
        (all_later x y (includes-walked vs t m (cs i) x) cs (suc i) ts reached.1)
        (closed_walked t m (cs i) x valid.0 (and_left _ _ uncut) plain.0 closed fit.0 reached.0 h)
