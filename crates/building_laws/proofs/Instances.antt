-- The instance that a step takes out of its node, and the others.
use Rattle.std.proofs.Common.{◌≡◌, ◌+◌, true, false, ◌&&◌, ◌||◌, if◌then◌else◌, List, Some, None, refl, sym, ap, subst, ◌∙◌, arith}
use Rattle.std.specs.Prelude.{option_map}
use Rattle.std.specs.declared.cmp.Ordering.{Ordering}
use Rattle.std.specs.declared.cmp.Ordering.TheVariants.{Less, Equal, Greater}
use Rattle.std.specs.Cmp.{IsTotalOrder}
use Rattle.fol.specs.declared.symbols.Var.{Var}
use Rattle.fol.specs.Syntax.{Term, Formula, all, ex}
use Rattle.fol.specs.Order.{term_cmp}
use Rattle.fol.specs.OrderLaws.{term_total}
use Rattle.fol.specs.Formed.{is_formed, is_formed_term}
use Rattle.free_variables.specs.Occurrence.{is_free_in, is_free_in_term}
use Rattle.substitution.specs.Instance.{inst}
use Rattle.substitution.proofs.FreeLaws.{free_from-inst_at}
use Rattle.substitution.proofs.InstanceFormed.{formed-inst}
use Rattle.lk_rules.specs.declared.sequent.Side.{Side}
use Rattle.lk_rules.proofs.Subsequents.{and_left, and_right, and_both}
use Rattle.proof_trees.proofs.Booleans.{or_first, or_second, either}
use Rattle.proof_trees.proofs.FormulaSets.{equal}
use Rattle.search_laws.specs.Truth.{Assignment}
use Rattle.expansion_laws.specs.Expansions.{Exp, Insts, none, more, shallow}
use Rattle.expansion_laws.specs.Building.{is_instance, is_less, is_below, is_built, are_built}
use Rattle.expansion_laws.specs.Dependency.{strongs, strongs_in, is_above, is_above_in}
use Rattle.expansion_laws.specs.Helping.{helped, some_helped}
use Rattle.expansion_laws.specs.Proofs.{stands, stand_in}
use Rattle.building_laws.specs.Building.{Chosen, behind, is_ready, first_ready}
use Rattle.building_laws.specs.Buildable.{has_formed_terms, have_formed_terms}
use Rattle.building_laws.proofs.Above.{above_more}
use Rattle.building_laws.proofs.Counting.{count, count-append}
use Rattle.building_laws.proofs.Taking.{some_same}

-- instances of a quantified formula

pub instance_formed : (f : Formula) (t : Term) (g : Formula) → is_instance f t g ≡ true → is_formed f ≡ true → is_formed_term t ≡ true → is_formed g ≡ true
instance_formed (all b) t g e formed term = ap is_formed (equal g (inst b t) e) ∙ formed-inst b t formed term
instance_formed (ex b) t g e formed term = ap is_formed (equal g (inst b t) e) ∙ formed-inst b t formed term
instance_formed f t g e formed term = cc

pub instance_free : (v : Var) (f : Formula) (t : Term) (g : Formula) → is_instance f t g ≡ true → is_free_in v g ≡ true → (is_free_in v f || is_free_in_term v t) ≡ true
instance_free v (all b) t g e m = free_from-inst_at v t b 0 (ap (is_free_in v) (sym (equal g (inst b t) e)) ∙ m)
instance_free v (ex b) t g e m = free_from-inst_at v t b 0 (ap (is_free_in v) (sym (equal g (inst b t) e)) ∙ m)
instance_free v f t g e m = cc

-- terms that rise

less : (o : Ordering) → is_less o ≡ true → o ≡ Less
less Less e = refl
less Equal e = cc
less Greater e = cc

-- a term that is below the first of some instances is below the first of those after it
below_later : (u t : Term) (d : Exp) (is : Insts) → is_below u (more t d is) ≡ true → is_below t is ≡ true → is_below u is ≡ true
below_later u t d none e h = refl
below_later u t d (more w k is) e h = ap is_less (IsTotalOrder.trans term_total u t w (less (term_cmp u t) e) (less (term_cmp t w) h))

-- the instance c was chosen from `is`
pub record IsChosen (vs : List Var) (s : Side) (f : Formula) (is : Insts) (c : Chosen) : Type 0 where
  pub ready : is_ready vs c.term ≡ true
  pub instance : is_instance f c.term (shallow c.tree) ≡ true
  pub built : is_built c.tree ≡ true
  pub others_built : are_built f c.others ≡ true
  pub rising : (u : Term) → is_below u is ≡ true → is_below u c.others ≡ true
  pub stand : stands s c.tree ≡ true
  pub others_stand : stand_in s c.others ≡ true
  pub term : is_formed_term c.term ≡ true
  pub terms : has_formed_terms c.tree ≡ true
  pub others_terms : have_formed_terms c.others ≡ true
  pub helps : (a : Assignment) → some_helped a s is ≡ true → (some_helped a s c.others || helped a s c.tree) ≡ true
  pub over : (y z : Var) → (is_above_in y z false c.others || is_above y z false c.tree) ≡ true → is_above_in y z false is ≡ true
  pub counted : (v : Var) → count v (strongs_in is) ≡ count v (strongs_in c.others) + count v (strongs c.tree)

module _ (vs : List Var) (s : Side) (f : Formula) (t : Term) (d : Exp) (is : Insts) (built : are_built f (more t d is) ≡ true) (stand : stand_in s (more t d is) ≡ true) (terms : have_formed_terms (more t d is) ≡ true) where
  -- the first one
  first_chosen : is_ready vs t ≡ true → IsChosen vs s f (more t d is) (record { term = t; tree = d; others = is })
  first_chosen ready =
      let good : (is_instance f t (shallow d) && is_built d) ≡ true = and_left _ _ built in
      let rest : (is_below t is && are_built f is) ≡ true = and_right (is_instance f t (shallow d) && is_built d) _ built in
      let formed : (is_formed_term t && has_formed_terms d) ≡ true = and_left _ _ terms in
      record {
        ready = ready;
        instance = and_left _ _ good;
        built = and_right (is_instance f t (shallow d)) _ good;
        others_built = and_right (is_below t is) _ rest;
        rising = λ u below. below_later u t d is below (and_left _ _ rest);
        stand = and_left _ _ stand;
        others_stand = and_right (stands s d) _ stand;
        term = and_left _ _ formed;
        terms = and_right (is_formed_term t) _ formed;
        others_terms = and_right (is_formed_term t && has_formed_terms d) _ terms;
        helps = λ a. either (helped a s d) (some_helped a s is) (or_second (some_helped a s is) (helped a s d)) (or_first (some_helped a s is) (helped a s d));
        over = λ y z. either (is_above_in y z false is) (is_above y z false d)
            (or_second (is_above y z (is_free_in_term y t) d) (is_above_in y z false is))
            (λ e. or_first (is_above y z (is_free_in_term y t) d) (is_above_in y z false is) (above_more y z (is_free_in_term y t) d e));
        counted = λ v. let all = count-append v (strongs d) (strongs_in is) in omega arith;
      }

  -- one after the first
  later_chosen : (c : Chosen) → IsChosen vs s f is c → IsChosen vs s f (more t d is) (behind t d c)
  later_chosen c h =
      let good : (is_instance f t (shallow d) && is_built d) ≡ true = and_left _ _ built in
      let rest : (is_below t is && are_built f is) ≡ true = and_right (is_instance f t (shallow d) && is_built d) _ built in
      let formed : (is_formed_term t && has_formed_terms d) ≡ true = and_left _ _ terms in
      record {
        ready = h.ready;
        instance = h.instance;
        built = h.built;
        others_built = and_both _ _ good (and_both _ _ (h.rising t (and_left _ _ rest)) h.others_built);
        rising = λ u below. below;
        stand = h.stand;
        others_stand = and_both _ _ (and_left _ _ stand) h.others_stand;
        term = h.term;
        terms = h.terms;
        others_terms = and_both _ _ formed h.others_terms;
        helps = λ a. either (helped a s d) (some_helped a s is)
            (λ e. or_first (helped a s d || some_helped a s c.others) (helped a s c.tree) (or_first (helped a s d) (some_helped a s c.others) e))
            (λ e. either (some_helped a s c.others) (helped a s c.tree)
            (λ k. or_first (helped a s d || some_helped a s c.others) (helped a s c.tree) (or_second (helped a s d) (some_helped a s c.others) k))
            (or_second (helped a s d || some_helped a s c.others) (helped a s c.tree))
            (h.helps a e));
        over = λ y z.
            let here = is_above y z (is_free_in_term y t) d in
            either (here || is_above_in y z false c.others) (is_above y z false c.tree)
            (either here (is_above_in y z false c.others)
            (or_first here (is_above_in y z false is))
            (λ e. or_second here (is_above_in y z false is) (h.over y z (or_first (is_above_in y z false c.others) (is_above y z false c.tree) e))))
            (λ e. or_second here (is_above_in y z false is) (h.over y z (or_second (is_above_in y z false c.others) (is_above y z false c.tree) e)));
        counted = λ v.
            let rest = h.counted v in
            let all = count-append v (strongs d) (strongs_in is) in
            let others = count-append v (strongs d) (strongs_in c.others) in
            omega arith;
      }

pub chosen : (vs : List Var) (s : Side) (f : Formula) (is : Insts) (c : Chosen) → first_ready vs is ≡ Some c → are_built f is ≡ true → stand_in s is ≡ true → have_formed_terms is ≡ true → IsChosen vs s f is c
chosen vs s f none c e built stand terms = cc
chosen vs s f (more t d is) c e built stand terms =
    elim (is_ready vs t) as (λ b. is_ready vs t ≡ b → (if b then Some (record { term = t; tree = d; others = is }) else option_map (behind t d) (first_ready vs is)) ≡ Some c → IsChosen vs s f (more t d is) c) [
      | true ↦ λ ready h. subst (IsChosen vs s f (more t d is)) (some_same (record { term = t; tree = d; others = is }) c h) (first_chosen vs s f t d is built stand terms ready)
      | false ↦ λ _. elim (first_ready vs is) as (λ o. first_ready vs is ≡ o → option_map (behind t d) o ≡ Some c → IsChosen vs s f (more t d is) c) [
        | None ↦ λ _ h. cc
        | Some k ↦ λ g h.
            let rest : IsChosen vs s f is k =
            chosen vs s f is k g
            (and_right (is_below t is) _ (and_right (is_instance f t (shallow d) && is_built d) _ built))
            (and_right (stands s d) _ stand)
            (and_right (is_formed_term t && has_formed_terms d) _ terms) in
            subst (IsChosen vs s f (more t d is)) (some_same (behind t d k) c h) (later_chosen vs s f t d is built stand terms k rest)
      ] refl
    ] refl e
