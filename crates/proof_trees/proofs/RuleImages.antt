-- The parts of a rule under a map: premises, shape, main and auxiliary formulas, eigenvariable.
use Rattle.std.proofs.Common.{◌≡◌, ℕ, zero, suc, Bool, true, false, ◌||◌, if◌then◌else◌, List, [], ◌∷◌, map, Option, Some, None, option_map, option_to_list, unwrap_or, refl, sym, ap, ◌∙◌}
use Rattle.std.specs.FinMap as fin
use Rattle.std.specs.List.{list_any}
use Rattle.fol.specs.declared.symbols.Var.{Var}
use Rattle.fol.specs.Syntax.{Term, free, pred, undefined, defined, Formula, atom, not, and, or, imp, all, ex}
use Rattle.fol.specs.Formed.{is_formed, IsFormed, is_formed_var, IsFormedVar}
use Rattle.finite.specs.Finite as set
use Rattle.finite.proofs.Finite.{has-listing}
use Rattle.free_variables.specs.Occurrence.{is_free_in}
use Rattle.free_variables.specs.Fresh.{least_outside}
use Rattle.free_variables.proofs.FreshVariables.{fresh_out, least_outside_is}
use Rattle.substitution.specs.Closed.{IsClosedMap}
use Rattle.substitution.specs.Image.{image, image_term, IsFormedMap}
use Rattle.substitution.specs.Instance.{inst}
use Rattle.substitution.specs.Maps.{Map}
use Rattle.substitution.specs.Unfolding.{unf}
use Rattle.substitution.proofs.Booleans.{and_left, and_right, and_both}
use Rattle.substitution.proofs.ImageFormed.{formed-image, formed-image_term}
use Rattle.substitution.proofs.ImageLaws.{image-inst_at, own_binding, away, formed_insert, closed_insert}
use Rattle.substitution.proofs.Unfoldings.{unf-image}
use Rattle.lk_rules.specs.declared.sequent.Sequent.{Sequent}
use Rattle.lk_rules.specs.declared.sequent.Side.{Side}
use Rattle.lk_rules.specs.declared.sequent.Side.TheVariants.{Left, Right}
use Rattle.lk_rules.specs.declared.rule.Rule.{Rule}
use Rattle.lk_rules.specs.declared.rule.Rule.TheVariants.{Ax, TopR, BotL, NegL, NegR, AndL, AndR, OrL, OrR, ImpL, ImpR, AllL, AllR, ExL, ExR, DefL, DefR, Cut, Weak}
use Rattle.lk_rules.specs.Sequents.{is_free_in_sequent, vars_sequent, image_sequent}
use Rattle.lk_rules.specs.Rules.{IsFormedRule, needs, has_shape, main, aux, eigen_free}
use Rattle.lk_rules.proofs.SequentVariables.{sequent_var_members}
use Rattle.proof_trees.specs.Substitution.{renamed, image_rule, premise_map}

pub needs-image : (m : Map) (r : Rule) (e : Sequent) → needs (image_rule m r e) ≡ needs r
needs-image m (Ax a) e = refl
needs-image m r e = refl

pub shape-image : (m : Map) (r : Rule) (e : Sequent) → has_shape (image_rule m r e) ≡ has_shape r
shape-image m (NegL (not a)) e = refl
shape-image m (NegR (not a)) e = refl
shape-image m (AndL (and a b)) e = refl
shape-image m (AndR (and a b)) e = refl
shape-image m (OrL (or a b)) e = refl
shape-image m (OrR (or a b)) e = refl
shape-image m (ImpL (imp a b)) e = refl
shape-image m (ImpR (imp a b)) e = refl
shape-image m (AllL (all b) t) e = refl
shape-image m (AllR (all b) y) e = refl
shape-image m (ExL (ex b) y) e = refl
shape-image m (ExR (ex b) t) e = refl
shape-image m (DefL (atom (pred s undefined) ts)) e = refl
shape-image m (DefL (atom (pred s (defined b)) ts)) e = refl
shape-image m (DefR (atom (pred s undefined) ts)) e = refl
shape-image m (DefR (atom (pred s (defined b)) ts)) e = refl
shape-image m r e = refl

pub main-image : (m : Map) (r : Rule) (e : Sequent) (side : Side) → main (image_rule m r e) side ≡ map (image (fin.get m)) (main r side)
main-image m (Ax a) e side = refl
main-image m r e Left = refl
main-image m r e Right = refl

-- the eigenvariable under a new conclusion

unfree : (v : Var) (e : Sequent) → set.has (vars_sequent e) v ≡ false → is_free_in_sequent v e ≡ false
unfree v e h = sym (sequent_var_members e v) ∙ h

pub renamed_out : (y : Var) (e : Sequent) → is_free_in_sequent (renamed y e) e ≡ false
unfolding renamed
renamed_out y e =
    elim (is_free_in_sequent y e) as (λ b. is_free_in_sequent y e ≡ b → is_free_in_sequent (if b then least_outside (set.listing (vars_sequent e)) else y) e ≡ false) [
      | true ↦ λ _. unfree _ e (has-listing (vars_sequent e) _ ∙ fresh_out (set.listing (vars_sequent e)))
      | false ↦ λ h. h
    ] refl

pub renamed_formed : (y : Var) (e : Sequent) → IsFormedVar y → IsFormedVar (renamed y e)
unfolding renamed
renamed_formed y e h =
    elim (is_free_in_sequent y e) as (λ b. is_formed_var (if b then least_outside (set.listing (vars_sequent e)) else y) ≡ true) [
      | true ↦ ap is_formed_var (least_outside_is (set.listing (vars_sequent e))).numbered
      | false ↦ h
    ]

pub eigen-image : (m : Map) (r : Rule) (e : Sequent) → eigen_free (image_rule m r e) e ≡ false
eigen-image m (AllR a y) e = renamed_out y e
eigen-image m (ExL a y) e = renamed_out y e
eigen-image m r e = refl

pub formed_rule-image : (m : Map) (r : Rule) (e : Sequent) → IsFormedMap (fin.get m) → IsFormedRule r → IsFormedRule (image_rule m r e)
formed_rule-image m (Ax a) e f h = formed-image (fin.get m) a 0 f h
formed_rule-image m TopR e f h = refl
formed_rule-image m BotL e f h = refl
formed_rule-image m (NegL a) e f h = formed-image (fin.get m) a 0 f h
formed_rule-image m (NegR a) e f h = formed-image (fin.get m) a 0 f h
formed_rule-image m (AndL a) e f h = formed-image (fin.get m) a 0 f h
formed_rule-image m (AndR a) e f h = formed-image (fin.get m) a 0 f h
formed_rule-image m (OrL a) e f h = formed-image (fin.get m) a 0 f h
formed_rule-image m (OrR a) e f h = formed-image (fin.get m) a 0 f h
formed_rule-image m (ImpL a) e f h = formed-image (fin.get m) a 0 f h
formed_rule-image m (ImpR a) e f h = formed-image (fin.get m) a 0 f h
formed_rule-image m (AllL a t) e f h = and_both _ _ (formed-image (fin.get m) a 0 f (and_left _ _ h)) (formed-image_term (fin.get m) t 0 f (and_right (is_formed a) _ h))
formed_rule-image m (AllR a y) e f h = and_both _ _ (formed-image (fin.get m) a 0 f (and_left _ _ h)) (renamed_formed y e (and_right (is_formed a) _ h))
formed_rule-image m (ExL a y) e f h = and_both _ _ (formed-image (fin.get m) a 0 f (and_left _ _ h)) (renamed_formed y e (and_right (is_formed a) _ h))
formed_rule-image m (ExR a t) e f h = and_both _ _ (formed-image (fin.get m) a 0 f (and_left _ _ h)) (formed-image_term (fin.get m) t 0 f (and_right (is_formed a) _ h))
formed_rule-image m (DefL a) e f h = formed-image (fin.get m) a 0 f h
formed_rule-image m (DefR a) e f h = formed-image (fin.get m) a 0 f h
formed_rule-image m (Cut a) e f h = formed-image (fin.get m) a 0 f h
formed_rule-image m Weak e f h = refl

pub formed_premise_map : (m : Map) (r : Rule) (e : Sequent) → IsFormedMap (fin.get m) → IsFormedRule r → IsFormedMap (fin.get (premise_map m r e))
formed_premise_map m (AllR a y) e f h = formed_insert m y (free (renamed y e)) f (renamed_formed y e (and_right (is_formed a) _ h))
formed_premise_map m (ExL a y) e f h = formed_insert m y (free (renamed y e)) f (renamed_formed y e (and_right (is_formed a) _ h))
formed_premise_map m r e f h = f

-- auxiliary formulas go to auxiliary formulas

-- whether the eigenvariable is free in the main formula
abbrev pub is_eigen_in_main : Rule → Bool
is_eigen_in_main (AllR a y) = is_free_in y a
is_eigen_in_main (ExL a y) = is_free_in y a
is_eigen_in_main r = false

instance-image : (m : Map) → IsClosedMap (fin.get m) → (b : Formula) (t : Term) → inst (image (fin.get m) b) (image_term (fin.get m) t) ∷ [] ≡ image (fin.get m) (inst b t) ∷ []
instance-image m closed b t = ap (λ f. f ∷ []) (sym (image-inst_at (fin.get m) closed t b 0))

renamed_instance : (m : Map) → IsClosedMap (fin.get m) → (b : Formula) (y z : Var) → is_free_in y b ≡ false
    → inst (image (fin.get m) b) (free z) ∷ [] ≡ image (fin.get (fin.insert m y (free z))) (inst b (free y)) ∷ []
renamed_instance m closed b y z out =
    let n : Map = fin.insert m y (free z) in
    let body : image (fin.get n) b ≡ image (fin.get m) b = away m y (free z) b out in
    let variable : image_term (fin.get n) (free y) ≡ free z = ap (λ o. unwrap_or o (free y)) (own_binding m y (free z)) in
    ap (λ f. f ∷ []) (sym (image-inst_at (fin.get n) (closed_insert m y (free z) closed refl) (free y) b 0 ∙ λ i. inst (body i) (variable i)))

images_of_none_or_one : (f : Formula → Formula) (o : Option Formula) → option_to_list (option_map f o) ≡ map f (option_to_list o)
images_of_none_or_one f None = refl
images_of_none_or_one f (Some g) = refl

unfolding-image : (m : Map) (a : Formula) → IsFormed a → option_to_list (unf (image (fin.get m) a)) ≡ map (image (fin.get m)) (option_to_list (unf a))
unfolding-image m a h = ap option_to_list (unf-image (fin.get m) a 0 h) ∙ images_of_none_or_one (image (fin.get m)) (unf a)

pub aux-image : (m : Map) (r : Rule) (e : Sequent) (i : ℕ) (side : Side) → IsClosedMap (fin.get m) → IsFormedRule r → is_eigen_in_main r ≡ false
    → aux (image_rule m r e) i side ≡ map (image (fin.get (premise_map m r e))) (aux r i side)
aux-image m (NegL (not a)) e zero Right c h out = refl
aux-image m (NegR (not a)) e zero Left c h out = refl
aux-image m (AndL (and a b)) e zero Left c h out = refl
aux-image m (AndR (and a b)) e zero Right c h out = refl
aux-image m (AndR (and a b)) e (suc zero) Right c h out = refl
aux-image m (OrL (or a b)) e zero Left c h out = refl
aux-image m (OrL (or a b)) e (suc zero) Left c h out = refl
aux-image m (OrR (or a b)) e zero Right c h out = refl
aux-image m (ImpL (imp a b)) e zero Right c h out = refl
aux-image m (ImpL (imp a b)) e (suc zero) Left c h out = refl
aux-image m (ImpR (imp a b)) e zero Left c h out = refl
aux-image m (ImpR (imp a b)) e zero Right c h out = refl
aux-image m (AllL (all b) t) e zero Left c h out = instance-image m c b t
aux-image m (AllR (all b) y) e zero Right c h out = renamed_instance m c b y (renamed y e) out
aux-image m (ExL (ex b) y) e zero Left c h out = renamed_instance m c b y (renamed y e) out
aux-image m (ExR (ex b) t) e zero Right c h out = instance-image m c b t
aux-image m (DefL (atom (pred s undefined) ts)) e i side c h out = refl
aux-image m (DefL (atom (pred s (defined b)) ts)) e zero Left c h out = unfolding-image m (atom (pred s (defined b)) ts) h
aux-image m (DefR (atom (pred s undefined) ts)) e i side c h out = refl
aux-image m (DefR (atom (pred s (defined b)) ts)) e zero Right c h out = unfolding-image m (atom (pred s (defined b)) ts) h
aux-image m (Cut a) e zero Right c h out = refl
aux-image m (Cut a) e (suc zero) Left c h out = refl
aux-image m Weak e zero Left c h out = refl
aux-image m r e i side c h out = refl

-- a conclusion in which the eigenvariable isn't free has one image under both maps

neither_first : (a b : Bool) → (a || b) ≡ false → a ≡ false
neither_first true b h = h
neither_first false b h = refl

neither_second : (a b : Bool) → (a || b) ≡ false → b ≡ false
neither_second true b h = cc
neither_second false b h = h

away_list : (m : Map) (y : Var) (u : Term) (fs : List Formula) → list_any (is_free_in y) fs ≡ false → map (image (fin.get (fin.insert m y u))) fs ≡ map (image (fin.get m)) fs
away_list m y u [] h = refl
away_list m y u (f ∷ fs) h = λ i. away m y u f (neither_first _ _ h) i ∷ away_list m y u fs (neither_second (is_free_in y f) _ h) i

pub away_sequent : (m : Map) (y : Var) (u : Term) (s : Sequent) → is_free_in_sequent y s ≡ false → image_sequent (fin.get (fin.insert m y u)) s ≡ image_sequent (fin.get m) s
away_sequent m y u s h = λ i. record {
  left = set.of_list (away_list m y u (set.listing s.left) (neither_first _ _ h) i);
  right = set.of_list (away_list m y u (set.listing s.right) (neither_second (list_any (is_free_in y) (set.listing s.left)) _ h) i);
}

pub same_conclusion : (m : Map) (r : Rule) (e s : Sequent) → eigen_free r s ≡ false → image_sequent (fin.get (premise_map m r e)) s ≡ image_sequent (fin.get m) s
same_conclusion m (AllR a y) e s h = away_sequent m y (free (renamed y e)) s h
same_conclusion m (ExL a y) e s h = away_sequent m y (free (renamed y e)) s h
same_conclusion m r e s h = refl
