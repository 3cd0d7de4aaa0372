-- The walk over a proof, step by step.
use Rattle.std.proofs.Common.{◌≡◌, ℕ, ◌<◌, Bool, true, false, ◌&&◌, cond, List, length, Option, Some, None, IfSome, refl, sym, ap, ◌∙◌, subst, arith}
use Rattle.std.specs.Prelude.{not, nat_eq}
use Rattle.std.specs.HashMap as hash
use Rattle.std.specs.FinMap as fin
use Rattle.fol.specs.declared.symbols.Var.{Var}
use Rattle.fol.specs.Syntax.{Formula}
use Rattle.finite.specs.Finite as set
use Rattle.substitution.specs.Closed.{IsClosedMap}
use Rattle.substitution.specs.Maps.{Map}
use Rattle.lk_rules.specs.declared.sequent.Sequent.{Sequent}
use Rattle.lk_rules.specs.declared.sequent.Side.{Side}
use Rattle.lk_rules.specs.declared.rule.Rule.{Rule}
use Rattle.lk_rules.specs.Sequents.{side_of}
use Rattle.lk_rules.specs.Rules.{Row}
use Rattle.proof_trees.specs.Trees.{Tree, node, Trees, none, more, concl, rule_of, below, count, first_end, second_end, is_cut, cut_free, cut_free_all, IsValid}
use Rattle.proof_trees.proofs.Verdicts.{row_of_verdict}
use Rattle.cut_laws.proofs.Cuts.{main_in_end}
use Rattle.proof_graph.specs.declared.graph.Graph.{Graph}
use Rattle.proof_graph.specs.References.{Reference}
use Rattle.proof_graph.specs.Graphs.{IsOf}
use Rattle.extraction_laws.specs.Addresses.{Address}
use Rattle.extraction_laws.specs.States.{State, Includes}
use Rattle.extraction_laws.specs.Extraction.{Context, main_address, met, inner_map, inner_context, inner_variable, walked}
use Rattle.extraction_laws.specs.Images.{HasImage, HaveImages}
use Rattle.extraction_laws.proofs.Again.{walked_again}
use Rattle.extraction_laws.proofs.Contexts.{walked_agrees}
use Rattle.extraction_laws.proofs.Growing.{includes-met}
use Rattle.extraction_laws.proofs.Fitting.{fits_inner}
use Rattle.extraction_laws.proofs.Marks.{itself}
use Rattle.exp_extract.specs.declared.sides.Sides.{Sides}
use Rattle.exp_extract.specs.declared.inferences.Inner.{Inner}
use Rattle.exp_extract.specs.declared.visits.Visit.{Visit}
use Rattle.exp_extract.specs.declared.visits.Visits.{Visits}
use Rattle.exp_extract.specs.Marked.{Marked}
use Rattle.exp_extract.specs.Entries.{IsChild}
use Rattle.exp_extract.specs.Quantifiers.{Grows}
use Rattle.exp_extract.specs.MapList.{map_in, KeepsMaps}
use Rattle.exp_extract.specs.Sides.{context_in, AreAuxiliaries, auxiliary_place, AreInner, IsKnownDistinct}
use Rattle.exp_extract.specs.Inferences.{IsMet}
use Rattle.exp_extract.specs.Visits.{IsDone, IsVisit, AreVisits}
use Rattle.exp_extract.specs.Walking.{IsPlainTree, IsReady, IsRight, IsPremise, IsInner, IsAfter}
use Rattle.exp_extract.proofs.Paired.{grows_next, child_grown}
use Rattle.exp_extract.proofs.NumberedFormulas.{inner_areSides, inner_addresses, sides_grown, context_grown}

pub keeps_next : (ks ms ns : List Map) → KeepsMaps ks ms → KeepsMaps ms ns → KeepsMaps ks ns
keeps_next ks ms ns g h n l =
    let there : n < length ms = (g n l).0 in
    ((h n there).0, (h n there).1 ∙ (g n l).1)

-- the same walk
same_walk : (vs ws : List Var) (t : Tree) (f g : Map) (c d : Context) (st : State) → IsValid t → ws ≡ vs → g ≡ f → ((side : Side) (h : Formula) → set.has (side_of (concl t) side) h ≡ true → d side h ≡ c side h) → walked ws t g d st ≡ walked vs t f c st
same_walk vs ws t f g c d st valid names maps agree = (λ i. walked (names i) t (maps i) d st) ∙ walked_agrees vs t f d c st valid agree

-- visits

module _ (g : Graph) (ms ns : List Map) (m n : Marked) (grown : Grows m.addresses n.addresses) (outside : n.outside ≡ m.outside) (more_marks : Includes m.state n.state) (kept : KeepsMaps ms ns) where
  visit_stays : (v : Visit) → IsVisit g ms m v → IsVisit g ns n v
  visit_stays v h =
      let t : Tree = v.proof.tree in
      let old : Context = context_in m.addresses (concl t) v.sides in
      record {
        of = h.of;
        valid = h.valid;
        map = (kept v.map h.map).0;
        sides = sides_grown m.addresses n.addresses (concl t) v.sides grown h.sides;
        done = same_walk m.outside n.outside t (map_in ms v.map) (map_in ns v.map) old (context_in n.addresses (concl t) v.sides) n.state h.valid outside (kept v.map h.map).1
            (λ side f there. context_grown m.addresses n.addresses (concl t) v.sides grown h.sides side f)
            ∙ walked_again m.outside t (map_in ms v.map) old m.state n.state (subst (λ z. Includes z n.state) (sym h.done) more_marks);
      }

  found_stays : (o : Option Visit) → IfSome o (IsVisit g ms m) → IfSome o (IsVisit g ns n)
  found_stays None h = tt
  found_stays (Some v) h = visit_stays v h

  pub visits_stay : (t : Visits) → AreVisits g ms m t → AreVisits g ns n t
  visits_stay t h = record { visits = λ q. found_stays (hash.get nat_eq t.visits q) (h.visits q) }

-- a proof that was gone through is done
pub done_after : (ms ns : List Map) (m n : Marked) (t : Tree) (k : ℕ) (x : Sides) → IsReady ms m t k x → IsAfter ms ns m n t (map_in ms k) (context_in m.addresses (concl t) x) → IsDone ns n t k x
done_after ms ns m n t k x ready h =
    let c : Context = context_in m.addresses (concl t) x in
    let f : Map = map_in ms k in
    let after : State = walked m.outside t f c m.state in
    same_walk m.outside n.outside t f (map_in ns k) c (context_in n.addresses (concl t) x) n.state ready.tree.valid h.outside (h.kept k ready.map).1
    (λ side g there. context_grown m.addresses n.addresses (concl t) x h.grown ready.sides side g)
    ∙ (ap (walked m.outside t f c) h.state ∙ (walked_again m.outside t f c m.state after (itself after) ∙ sym h.state))

pub met_includes : (m n : Marked) (ms ns : List Map) (r : Rule) (s : Sequent) (x : Sides) (k : ℕ) (inner : Inner) → IsMet m n ms ns r s x k inner → Includes m.state n.state
met_includes m n ms ns r s x k inner h = subst (λ z. Includes m.state z) (sym h.state) (includes-met m.outside r (map_in ms k) (context_in m.addresses s x) m.state)

-- premises

module _ (ms : List Map) (m : Marked) (r : Rule) (s : Sequent) (x y : Sides) (k i : ℕ) (inner : Inner) (t : Tree) (c : Context) (v : Var)
    (right : IsRight r s) (premise : IsPremise r s i t) (is : IsInner ms m r s x k inner c v) (numbers : AreInner s x inner.auxiliary i (concl t) y) (distinct : IsKnownDistinct (concl t) y) where
  addresses : (side : Side) (h : Formula) → set.has (side_of (concl t) side) h ≡ true → context_in m.addresses (concl t) y side h ≡ inner_context r s (map_in ms k) c v i side h
  addresses = inner_addresses m.addresses s (concl t) x y inner.auxiliary i premise.small r (map_in ms k) v c is.sides is.agree numbers is.auxiliaries

  images : HaveImages (inner_map r (map_in ms k) v) (inner_context r s (map_in ms k) c v i) (concl t)
  images = fits_inner (map_in ms k) is.closed c s v is.images r i (concl t) right.no_cut right.no_unfolding right.stands right.eigenvariable premise.within

  pub premise_ready : IsReady ms m t inner.map y
  premise_ready = record {
    map = is.there;
    sides = inner_areSides m.addresses s (concl t) x y inner.auxiliary i premise.small r (map_in ms k) v c is.sides is.agree numbers is.auxiliaries distinct;
    images = λ side h there.
        subst (λ (f : Map). HasImage f (context_in m.addresses (concl t) y side h) side h) (sym is.map)
        (subst (λ (a : Address). HasImage (inner_map r (map_in ms k) v) a side h) (sym (addresses side h there)) (images side h there));
    tree = premise.tree;
  }

  pub premise_after : (ns : List Map) (n : Marked) → IsAfter ms ns m n t (map_in ms inner.map) (context_in m.addresses (concl t) y) → IsAfter ms ns m n t (inner_map r (map_in ms k) v) (inner_context r s (map_in ms k) c v i)
  premise_after ns n h = record {
    state = h.state ∙ same_walk m.outside m.outside t (inner_map r (map_in ms k) v) (map_in ms inner.map) (inner_context r s (map_in ms k) c v i) (context_in m.addresses (concl t) y) m.state premise.tree.valid refl is.map addresses;
    outside = h.outside;
    grown = h.grown;
    kept = h.kept;
  }

child_stays : (bs cs : List Address) (a : Address) (o : Option ℕ) → Grows bs cs → IfSome o (IsChild bs a) → IfSome o (IsChild cs a)
child_stays bs cs a None g h = tt
child_stays bs cs a (Some n) g h = child_grown bs cs a n g h

-- what the premises get stays
pub inner_grown : (ms ns : List Map) (m n : Marked) (r : Rule) (s : Sequent) (x : Sides) (k : ℕ) (inner : Inner) (c : Context) (v : Var) → Grows m.addresses n.addresses → KeepsMaps ms ns → IsInner ms m r s x k inner c v → IsInner ns n r s x k inner c v
inner_grown ms ns m n r s x k inner c v grown kept h =
    let same : map_in ns k ≡ map_in ms k = (kept k h.outer).1 in
    record {
      outer = (kept k h.outer).0;
      there = (kept inner.map h.there).0;
      map = (kept inner.map h.there).1 ∙ (h.map ∙ ap (λ f. inner_map r f v) (sym same));
      closed = subst (λ (f : Map). IsClosedMap (fin.get f)) (sym same) h.closed;
      sides = sides_grown m.addresses n.addresses s x grown h.sides;
      agree = λ side f there. context_grown m.addresses n.addresses s x grown h.sides side f ∙ h.agree side f there;
      images = subst (λ (f : Map). HaveImages f c s) (sym same) h.images;
      auxiliaries = subst (λ (f : Map). AreAuxiliaries n.addresses inner.auxiliary r f v (main_address r c)) (sym same)
          (λ i side f small. child_stays m.addresses n.addresses _ (auxiliary_place inner.auxiliary i side f) grown (h.auxiliaries i side f small));
    }

-- what an inference gives its premises
pub met_inner : (ms ns : List Map) (m n : Marked) (t : Tree) (x : Sides) (k : ℕ) (inner : Inner) → IsReady ms m t k x → IsClosedMap (fin.get (map_in ms k)) → IsMet m n ms ns (rule_of t) (concl t) x k inner
    → IsInner ns n (rule_of t) (concl t) x k inner (context_in m.addresses (concl t) x) (inner_variable m.outside (rule_of t) (map_in ms k) (context_in m.addresses (concl t) x) m.state)
met_inner ms ns m n t x k inner ready closed h =
    let s : Sequent = concl t in
    let r : Rule = rule_of t in
    let c : Context = context_in m.addresses s x in
    let v : Var = inner_variable m.outside r (map_in ms k) c m.state in
    let same : map_in ns k ≡ map_in ms k = (h.kept k ready.map).1 in
    record {
      outer = (h.kept k ready.map).0;
      there = h.there;
      map = h.map ∙ ap (λ f. inner_map r f v) (sym same);
      closed = subst (λ (f : Map). IsClosedMap (fin.get f)) (sym same) closed;
      sides = sides_grown m.addresses n.addresses s x h.grown ready.sides;
      agree = λ side f there. context_grown m.addresses n.addresses s x h.grown ready.sides side f;
      images = subst (λ (f : Map). HaveImages f c s) (sym same) ready.images;
      auxiliaries = subst (λ (f : Map). AreAuxiliaries n.addresses inner.auxiliary r f v (main_address r c)) (sym same) h.auxiliaries;
    }

-- the tree at its root

one_walked : (vs : List Var) (t p : Tree) (f : Map) (c : Context) (st : State) → below t ≡ more p none
    → let v : Var = inner_variable vs (rule_of t) f c st in walked vs t f c st ≡ walked vs p (inner_map (rule_of t) f v) (inner_context (rule_of t) (concl t) f c v 0) (met vs (rule_of t) f c st)
one_walked vs (node r s ts) p f c st e = ap (λ us. walked vs (node r s us) f c st) e

two_walked : (vs : List Var) (t p q : Tree) (f : Map) (c : Context) (st : State) → below t ≡ more p (more q none)
    → let v : Var = inner_variable vs (rule_of t) f c st in
    walked vs t f c st ≡ walked vs q (inner_map (rule_of t) f v) (inner_context (rule_of t) (concl t) f c v 1) (walked vs p (inner_map (rule_of t) f v) (inner_context (rule_of t) (concl t) f c v 0) (met vs (rule_of t) f c st))
two_walked vs (node r s ts) p q f c st e = ap (λ us. walked vs (node r s us) f c st) e

free_of_cut : (b c : Bool) → (not b && c) ≡ true → b ≡ false
free_of_cut true c e = cc
free_of_cut false c e = refl

rest_free : (b c : Bool) → (not b && c) ≡ true → c ≡ true
rest_free true c e = cc
rest_free false c e = e

first_free : (b c : Bool) → (b && c) ≡ true → b ≡ true
first_free true c e = refl
first_free false c e = cc

second_free : (b c : Bool) → (b && c) ≡ true → c ≡ true
second_free true c e = e
second_free false c e = cc

pub row_at : (t : Tree) → IsValid t → Row (rule_of t) (concl t) (count (below t)) (first_end (below t)) (second_end (below t))
row_at (node r s ts) h = row_of_verdict r s (count ts) (first_end ts) (second_end ts) h.0.right

pub right_at : (t : Tree) → IsPlainTree t → IsRight (rule_of t) (concl t)
right_at (node r s ts) h = record {
  no_cut = free_of_cut (is_cut r) (cut_free_all ts) h.cut_free;
  no_unfolding = h.plain.0.rule;
  formed = h.valid.0.formed;
  shape = (row_at (node r s ts) h.valid).shape;
  stands = main_in_end (node r s ts) h.valid;
  eigenvariable = (row_at (node r s ts) h.valid).eigenvariable;
}

pub first_premise : (t p : Tree) (ps : Trees) → more p ps ≡ below t → IsPlainTree t → IsPremise (rule_of t) (concl t) 0 p
first_premise (node r s ts) p ps e h = by_trees ts e h
  where
    by_trees : (ts : Trees) → more p ps ≡ ts → IsPlainTree (node r s ts) → IsPremise r s 0 p
    by_trees none e h = absurd (cc)
    by_trees (more q qs) e h =
        let same : q ≡ p = cc in
        subst (λ (u : Tree). IsPremise r s 0 u) same (record {
          small = omega arith;
          counted = omega (arith, (row_at (node r s (more q qs)) h.valid).premises);
          within = (row_at (node r s (more q qs)) h.valid).first_premise;
          tree = record { valid = h.valid.1.0; cut_free = first_free (cut_free q) (cut_free_all qs) (rest_free (is_cut r) _ h.cut_free); plain = h.plain.1.0 };
        })

pub second_premise : (t p q : Tree) (ps : Trees) → more p (more q ps) ≡ below t → IsPlainTree t → IsPremise (rule_of t) (concl t) 1 q
second_premise (node r s ts) p q ps e h = by_trees ts e h
  where
    by_trees : (ts : Trees) → more p (more q ps) ≡ ts → IsPlainTree (node r s ts) → IsPremise r s 1 q
    by_trees none e h = absurd (cc)
    by_trees (more u none) e h = absurd (cc)
    by_trees (more u (more w ws)) e h =
        let same : w ≡ q = cc in
        subst (λ (z : Tree). IsPremise r s 1 z) same (record {
          small = omega arith;
          counted = omega (arith, (row_at (node r s (more u (more w ws))) h.valid).premises);
          within = (row_at (node r s (more u (more w ws))) h.valid).second_premise;
          tree = record {
            valid = h.valid.1.1.0;
            cut_free = first_free (cut_free w) (cut_free_all ws) (second_free (cut_free u) _ (rest_free (is_cut r) _ h.cut_free));
            plain = h.plain.1.1.0;
          };
        })

-- the marks after the inference and its premises

module _ (ms ns : List Map) (m n : Marked) (t : Tree) (x : Sides) (k : ℕ) (inner : Inner) (ready : IsReady ms m t k x) (h : IsMet m n ms ns (rule_of t) (concl t) x k inner) where
  abbrev c : Context
  c = context_in m.addresses (concl t) x

  abbrev v : Var
  v = inner_variable m.outside (rule_of t) (map_in ms k) c m.state

  pub one_after : (p : Tree) (os : List Map) (o : Marked) → more p none ≡ below t → IsAfter ns os n o p (inner_map (rule_of t) (map_in ns k) v) (inner_context (rule_of t) (concl t) (map_in ns k) c v 0) → IsAfter ms os m o t (map_in ms k) c
  one_after p os o e after = record {
    state = after.state
        ∙ ((λ i. walked (h.outside i) p (inner_map (rule_of t) ((h.kept k ready.map).1 i) v) (inner_context (rule_of t) (concl t) ((h.kept k ready.map).1 i) c v 0) (h.state i))
        ∙ sym (one_walked m.outside t p (map_in ms k) c m.state (sym e)));
    outside = after.outside ∙ h.outside;
    grown = grows_next m.addresses n.addresses o.addresses h.grown after.grown;
    kept = keeps_next ms ns os h.kept after.kept;
  }

  pub two_after : (p q : Tree) (os us : List Map) (o u : Marked) → more p (more q none) ≡ below t
      → IsAfter ns os n o p (inner_map (rule_of t) (map_in ns k) v) (inner_context (rule_of t) (concl t) (map_in ns k) c v 0)
      → IsAfter os us o u q (inner_map (rule_of t) (map_in os k) v) (inner_context (rule_of t) (concl t) (map_in os k) c v 1)
      → IsAfter ms us m u t (map_in ms k) c
  two_after p q os us o u e first second =
      let kept : KeepsMaps ms os = keeps_next ms ns os h.kept first.kept in
      record {
        state = second.state
            ∙ ((λ i. walked ((first.outside ∙ h.outside) i) q (inner_map (rule_of t) ((kept k ready.map).1 i) v) (inner_context (rule_of t) (concl t) ((kept k ready.map).1 i) c v 1) (first.state i))
            ∙ ((λ i. walked m.outside q (inner_map (rule_of t) (map_in ms k) v) (inner_context (rule_of t) (concl t) (map_in ms k) c v 1)
            (walked (h.outside i) p (inner_map (rule_of t) ((h.kept k ready.map).1 i) v) (inner_context (rule_of t) (concl t) ((h.kept k ready.map).1 i) c v 0) (h.state i)))
            ∙ sym (two_walked m.outside t p q (map_in ms k) c m.state (sym e))));
        outside = second.outside ∙ (first.outside ∙ h.outside);
        grown = grows_next m.addresses o.addresses u.addresses (grows_next m.addresses n.addresses o.addresses h.grown first.grown) second.grown;
        kept = keeps_next ms os us kept second.kept;
      }

-- one more visit

pub if_visit : (g : Graph) (ms : List Map) (m : Marked) (b : Bool) (v : Visit) (o : Option Visit) → IsVisit g ms m v → IfSome o (IsVisit g ms m) → IfSome (cond b (Some v) o) (IsVisit g ms m)
if_visit g ms m true v o h old = h
if_visit g ms m false v o h old = old

-- a proof that was gone through has a visit
pub visit_after : (g : Graph) (ms ns : List Map) (m n : Marked) (p q : Reference) (k : ℕ) (x : Sides) → q ≡ p → IsOf g p → IsReady ms m p.tree k x → IsAfter ms ns m n p.tree (map_in ms k) (context_in m.addresses (concl p.tree) x)
    → IsVisit g ns n (record { proof = q; map = k; sides = x })
visit_after g ms ns m n p q k x same of ready h =
    subst (λ (r : Reference). IsVisit g ns n (record { proof = r; map = k; sides = x })) (sym same) (record {
      of = of;
      valid = ready.tree.valid;
      map = (h.kept k ready.map).0;
      sides = sides_grown m.addresses n.addresses (concl p.tree) x h.grown ready.sides;
      done = done_after ms ns m n p.tree k x ready h;
    })
