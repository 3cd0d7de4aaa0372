-- The search over the literals of a clause, in any order, finds a map exactly where the clause subsumes the other one.
use Rattle.std.proofs.Common.{◌≡◌, Bool, true, false, List, [], ◌∷◌, Option, Some, None, refl, sym, ap, subst, ◌∙◌}
use Rattle.std.specs.Prelude.{Contains}
use Rattle.std.specs.FinMap as fin
use Rattle.std.proofs.lemmas.Bool.{both_ways}
use Rattle.std.proofs.lemmas.Cmp.{eq_by_cmp_equiv}
use Rattle.std.proofs.lemmas.Map.Views.{Contains-from_any, list_any-from_Contains}
use Rattle.fol.specs.declared.symbols.Var.{Var}
use Rattle.fol.specs.Syntax.{Term, Formula}
use Rattle.fol.specs.Order.{var_cmp}
use Rattle.fol.specs.OrderLaws.{formula_total}
use Rattle.finite.specs.Finite as set
use Rattle.finite.proofs.Finite.{has-listing}
use Rattle.substitution.specs.Image.{image}
use Rattle.substitution.specs.Maps.{Map}
use Rattle.lk_rules.specs.declared.sequent.Sequent.{Sequent}
use Rattle.lk_rules.specs.declared.sequent.Side.TheVariants.{Left, Right}
use Rattle.lk_rules.specs.Formulas.{FormulaSet}
use Rattle.proof_trees.specs.FormulaSets.{is_atom}
use Rattle.proof_trees.proofs.Members.{from_some, some_passes, image_member}
use Rattle.proof_trees.proofs.FormulaSets.{equal}
use Rattle.unify_laws.specs.Matching.{IsWithin}
use Rattle.unify_laws.proofs.Images.{split}
use Rattle.unify_laws.proofs.Matched.{within_itself}
use Rattle.clause_laws.specs.Subsumption.{IsClause, Subsumes}
use Rattle.clause_laws.specs.Searching.{match_atom, goes_on, subsumes}
use Rattle.clause_laws.proofs.Sets.{is_in, images_within}
use Rattle.clause_laws.proofs.Lists.{contains_head, contains_later, contains_none, from_contains}
use Rattle.clause_laws.proofs.Searched.{Finds, finds_atom, subsumes-tested}
use Rattle.res_prover.specs.declared.literals.Literal.{Literal}
use Rattle.res_prover.specs.Sending.{side_at, sends_literals, AreLiteralsOf}

abbrev Replacing : Type 0
Replacing = Var → Option Term

-- a map that does what m does and sends each literal to an atom on its side of d

abbrev SendsAll : List Literal → Sequent → Replacing → Type 0
SendsAll [] d h = Unit {0}
SendsAll (l ∷ ls) d h = (is_in (set.listing (side_at l.is_left d)) (image h l.atom.now) ≡ true) × SendsAll ls d h

record IsSent (ls : List Literal) (d : Sequent) (m : Map) : Type 0 where
  pub map : Replacing
  pub within : IsWithin m map
  pub all : SendsAll ls d map

record Tells (ls : List Literal) (d : Sequent) : Type 0 where
  pub sound : (m : Map) → sends_literals ls d m ≡ true → IsSent ls d m
  pub complete : (m : Map) (h : Replacing) → IsWithin m h → SendsAll ls d h → sends_literals ls d m ≡ true

module _ (d : Sequent) (l : Literal) (ls : List Literal) (later : Tells ls d) (m : Map) where
  sound_at : (g : Formula) → is_in (set.listing (side_at l.is_left d)) g ≡ true → (o : Option Map) → Finds l.atom.now g m o → goes_on (sends_literals ls d) o ≡ true → IsSent (l ∷ ls) d m
  sound_at g member None finds e = cc
  sound_at g member (Some n) finds e =
      let more = later.sound n e in
      let both = (finds more.map).0 more.within in
      record { map = more.map; within = both.0; all = (ap (is_in (set.listing (side_at l.is_left d))) both.1 ∙ member, more.all) }

  complete_at : (h : Replacing) → IsWithin m h → SendsAll ls d h → (o : Option Map) → Finds l.atom.now (image h l.atom.now) m o → goes_on (sends_literals ls d) o ≡ true
  complete_at h within rest None finds = absurd (finds h within refl)
  complete_at h within rest (Some n) finds = later.complete n h ((finds h).1 (within, refl)) rest

tells_literals : (d : Sequent) (ls : List Literal) → ((l : Literal) → Contains ls l → is_atom l.atom.now ≡ true) → Tells ls d
tells_literals d [] atoms = record {
  sound = λ m e. record { map = fin.get m; within = within_itself m; all = tt };
  complete = λ m h within all. refl;
}
tells_literals d (l ∷ ls) atoms =
    let later = tells_literals d ls (λ k at. atoms k (contains_later l ls k at)) in
    let is = atoms l (contains_head l ls) in
    record {
      sound = λ m. from_some (λ g. goes_on (sends_literals ls d) (match_atom l.atom.now g m)) (set.listing (side_at l.is_left d))
          (λ g member. sound_at d l ls later m g member (match_atom l.atom.now g m) (finds_atom l.atom.now g m is));
      complete = λ m h within all.
          some_passes (λ g. goes_on (sends_literals ls d) (match_atom l.atom.now g m)) (set.listing (side_at l.is_left d)) (image h l.atom.now) all.0
          (complete_at d l ls later m h within all.1 (match_atom l.atom.now (image h l.atom.now) m) (finds_atom l.atom.now (image h l.atom.now) m is));
    }

some_apart : (s : Term) → ◌≡◌ {A = Option Term} None (Some s) → ⊥
some_apart s e = cc

-- sets and lists

listed : (s : FormulaSet) (f : Formula) → set.has s f ≡ true → Contains (set.listing s) f
listed s f e = Contains-from_any equal f (set.listing s) (sym (has-listing s f) ∙ e)

unlisted : (s : FormulaSet) (f : Formula) → Contains (set.listing s) f → set.has s f ≡ true
unlisted s f at = has-listing s f ∙ list_any-from_Contains (eq_by_cmp_equiv formula_total) f (set.listing s) at

sends_each : (ls : List Literal) (d : Sequent) (h : Replacing) → ((l : Literal) → Contains ls l → set.has (side_at l.is_left d) (image h l.atom.now) ≡ true) → SendsAll ls d h
sends_each [] d h each = tt
sends_each (l ∷ ls) d h each = (
  sym (has-listing (side_at l.is_left d) (image h l.atom.now)) ∙ each l (contains_head l ls),
  sends_each ls d h (λ k at. each k (contains_later l ls k at)),
)

module _ (d : Sequent) (h : Replacing) where
  sent : (ls : List Literal) → SendsAll ls d h → (l : Literal) → Contains ls l → set.has (side_at l.is_left d) (image h l.atom.now) ≡ true
  sent [] all l at = absurd (contains_none l at)
  sent (k ∷ ls) all l at =
      from_contains k ls l
      (λ here. subst (λ (j : Literal). set.has (side_at j.is_left d) (image h j.atom.now) ≡ true) here (has-listing (side_at k.is_left d) (image h k.atom.now) ∙ all.0))
      (sent ls all.1 l)
      at

module _ (c d : Sequent) (clause : IsClause c) (ls : List Literal) (are : AreLiteralsOf c ls) where
  atom_at : (b : Bool) (f : Formula) → set.has (side_at b c) f ≡ true → is_atom f ≡ true
  atom_at true f e = clause Left f e
  atom_at false f e = clause Right f e

  tells : Tells ls d
  tells = tells_literals d ls (λ l at. atom_at l.is_left l.atom.now (unlisted (side_at l.is_left c) l.atom.now (are.of l at)))

  within_at : (h : Subsumes c d) (b : Bool) (f : Formula) → set.has (side_at b c) f ≡ true → set.has (side_at b d) (image h.map f) ≡ true
  within_at h true f e = h.within.left (image h.map f) (image_member h.map c.left f e)
  within_at h false f e = h.within.right (image h.map f) (image_member h.map c.right f e)

  each_at : (h : Replacing) → SendsAll ls d h → (b : Bool) (f : Formula) → set.has (side_at b c) f ≡ true → set.has (side_at b d) (image h f) ≡ true
  each_at h all b f e =
      let at = are.has b f (listed (side_at b c) f e) in
      subst (λ a. set.has (side_at a d) (image h f) ≡ true) at.side
      (subst (λ g. set.has (side_at at.literal.is_left d) (image h g) ≡ true) at.is_atom (sent d h ls all at.literal at.is_there))

  found_map : IsSent ls d fin.empty → Subsumes c d
  found_map s = record {
    map = s.map;
    within = record {
      left = images_within s.map c.left d.left (each_at s.map s.all true);
      right = images_within s.map c.right d.right (each_at s.map s.all false);
    };
  }

  finds_map : Subsumes c d → sends_literals ls d fin.empty ≡ true
  finds_map h =
      tells.complete fin.empty h.map (λ v s is. absurd (some_apart s (sym (fin.get-empty var_cmp v) ∙ is)))
      (sends_each ls d h.map (λ l at. within_at h l.is_left l.atom.now (unlisted (side_at l.is_left c) l.atom.now (are.of l at))))

  pub searched : sends_literals ls d fin.empty ≡ subsumes c d
  searched =
      split (subsumes c d)
      (λ yes. finds_map ((subsumes-tested c d clause).0 yes) ∙ sym yes)
      (λ out. split (sends_literals ls d fin.empty)
      (λ yes. absurd (both_ways (subsumes c d) out ((subsumes-tested c d clause).1 (found_map (tells.sound fin.empty yes)))))
      (λ gone. gone ∙ sym out))
