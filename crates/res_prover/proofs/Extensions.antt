-- Lists of choices that have a unifier grow with each atom that is looked at.
use Rattle.std.proofs.Common.{◌≡◌, ◌⊎◌, inl, inr, ⊎_elim, List, [], ◌∷◌, ◌++◌, map, length, refl, sym, ap, subst, ◌∙◌, append_assoc, arith}
use Rattle.std.specs.Prelude.{Contains}
use Rattle.std.specs.List.{All}
use Rattle.std.proofs.lemmas.List.Elements.{All-contains, All-tail, All-append, Contains-append_left, Contains-append_right, Contains-append_cases}
use Rattle.fol.specs.Syntax.{Formula}
use Rattle.substitution.specs.Image.{image}
use Rattle.clause_laws.specs.Choices.{sublists, choices}
use Rattle.clause_laws.proofs.Lists.{contains_head, contains_none, only_one, from_both, all_contained, contains-map, from_map}
use Rattle.clause_laws.proofs.Sublists.{with_front, without_front}
use Rattle.clause_laws.proofs.Atomic.{makes-listed}
use Rattle.res_prover.specs.Choosing.{IsUnified, IsExtension, AddsExtensions, AddsChoices, AreUnifiedChoices}

append_none : (fs : List Formula) → fs ++ [] ≡ fs
append_none [] = refl
append_none (f ∷ fs) = ap (λ gs. f ∷ gs) (append_none fs)

pub unified_front : (fs gs : List Formula) → IsUnified (fs ++ gs) → IsUnified fs
unified_front fs gs u =
    let P : Formula → Type 0 = λ f. image u.map f ≡ u.atom in
    let all : All P (fs ++ gs) = (makes-listed u.map (fs ++ gs) u.atom).0 u.unifies in
    record {
      map = u.map;
      atom = u.atom;
      unifies = (makes-listed u.map fs u.atom).1 (all_contained P fs (λ f at. All-contains P (fs ++ gs) f all (Contains-append_left fs gs f at)));
    }

pub unified_back : (fs gs : List Formula) → IsUnified (fs ++ gs) → IsUnified gs
unified_back fs gs u =
    let P : Formula → Type 0 = λ f. image u.map f ≡ u.atom in
    let all : All P (fs ++ gs) = (makes-listed u.map (fs ++ gs) u.atom).0 u.unifies in
    record {
      map = u.map;
      atom = u.atom;
      unifies = (makes-listed u.map gs u.atom).1 (all_contained P gs (λ f at. All-contains P (fs ++ gs) f all (Contains-append_right fs gs f at)));
    }

-- what holds of the chosen atoms and of the others

module _ (P : Formula → Type 0) where
  each_front : (fs gs : List Formula) → All P (fs ++ gs) → All P fs
  each_front fs gs all = all_contained P fs (λ f at. All-contains P (fs ++ gs) f all (Contains-append_left fs gs f at))

  each_back : (fs gs : List Formula) → All P (fs ++ gs) → All P gs
  each_back fs gs all = all_contained P gs (λ f at. All-contains P (fs ++ gs) f all (Contains-append_right fs gs f at))

  module _ (chosen : List Formula) (f : Formula) (rest : List Formula) (all : All P (chosen ++ f ∷ rest)) where
    pub each_longer : All P ((chosen ++ f ∷ []) ++ rest)
    each_longer = subst (All P) (sym (append_assoc chosen (f ∷ []) rest)) all

    pub each_more : All P (chosen ++ f ∷ [])
    each_more = each_front (chosen ++ f ∷ []) rest each_longer

    pub each_shorter : All P (chosen ++ rest)
    each_shorter = All-append P chosen rest (each_front chosen (f ∷ rest) all) (All-tail P f rest (each_back chosen (f ∷ rest) all))

-- no other atom is left

pub no_others : (chosen : List Formula) (old : List (List Formula)) → AddsExtensions chosen [] old (old ++ chosen ∷ [])
no_others chosen old = record {
  stays = λ fs at. Contains-append_left old (chosen ∷ []) fs at;
  each = λ fs at. ⊎_elim {C = Contains old fs ⊎ IsExtension chosen [] fs}
      inl
      (λ last. inr (record { further = []; is_further = contains_head [] []; is = sym (only_one chosen fs last) ∙ sym (append_none chosen) }))
      (Contains-append_cases old (chosen ∷ []) fs at);
  has = λ fs ext u.
      let none : [] ≡ ext.further = only_one [] ext.further ext.is_further in
      let same : chosen ≡ fs = sym (ext.is ∙ ap (λ gs. chosen ++ gs) (sym none) ∙ append_none chosen) in
      subst (Contains (old ++ chosen ∷ [])) same (Contains-append_right old (chosen ∷ []) chosen (contains_head chosen []));
}

pub no_others_of : (chosen others : List Formula) (old new : List (List Formula)) → length others ≡ 0 → new ≡ old ++ chosen ∷ [] → AddsExtensions chosen others old new
no_others_of chosen [] old new none grown = subst (AddsExtensions chosen [] old) (sym grown) (no_others chosen old)
no_others_of chosen (f ∷ others) old new some grown = absurd (omega arith)

-- one more atom

module _ (chosen : List Formula) (f : Formula) (rest : List Formula) where
  regroup : (gs : List Formula) → (chosen ++ f ∷ []) ++ gs ≡ chosen ++ f ∷ gs
  regroup gs = append_assoc chosen (f ∷ []) gs

  later_extension : (fs : List Formula) → IsExtension chosen rest fs → IsExtension chosen (f ∷ rest) fs
  later_extension fs ext = record { further = ext.further; is_further = without_front f rest ext.further ext.is_further; is = ext.is }

  longer_extension : (fs : List Formula) → IsExtension (chosen ++ f ∷ []) rest fs → IsExtension chosen (f ∷ rest) fs
  longer_extension fs ext = record { further = f ∷ ext.further; is_further = with_front f rest ext.further ext.is_further; is = ext.is ∙ regroup ext.further }

  from_extension : {P : Type 0} (fs : List Formula) → (IsExtension (chosen ++ f ∷ []) rest fs → P) → (IsExtension chosen rest fs → P) → IsExtension chosen (f ∷ rest) fs → P
  from_extension fs longer later ext =
      from_both (map (λ gs. f ∷ gs) (sublists rest)) (sublists rest) ext.further
      (from_map (λ gs. f ∷ gs) (sublists rest) ext.further
      (λ gs at is. longer (record { further = gs; is_further = at; is = ext.is ∙ ap (λ hs. chosen ++ hs) (sym is) ∙ sym (regroup gs) })))
      (λ at. later (record { further = ext.further; is_further = at; is = ext.is }))
      ext.is_further

  pub with_next : (old mid new : List (List Formula)) → AddsExtensions (chosen ++ f ∷ []) rest old mid → AddsExtensions chosen rest mid new → AddsExtensions chosen (f ∷ rest) old new
  with_next old mid new one two = record {
    stays = λ fs at. two.stays fs (one.stays fs at);
    each = λ fs at. ⊎_elim {C = Contains old fs ⊎ IsExtension chosen (f ∷ rest) fs}
        (λ before. ⊎_elim {C = Contains old fs ⊎ IsExtension chosen (f ∷ rest) fs} inl (λ ext. inr (longer_extension fs ext)) (one.each fs before))
        (λ ext. inr (later_extension fs ext))
        (two.each fs at);
    has = λ fs ext u. from_extension fs (λ longer. two.stays fs (one.has fs longer u)) (λ later. two.has fs later u) ext;
  }

  pub without_next : (old new : List (List Formula)) → (IsUnified (chosen ++ f ∷ []) → ⊥) → AddsExtensions chosen rest old new → AddsExtensions chosen (f ∷ rest) old new
  without_next old new apart two = record {
    stays = two.stays;
    each = λ fs at. ⊎_elim {C = Contains old fs ⊎ IsExtension chosen (f ∷ rest) fs} inl (λ ext. inr (later_extension fs ext)) (two.each fs at);
    has = λ fs ext u. from_extension fs
        (λ longer. absurd (apart (unified_front (chosen ++ f ∷ []) longer.further (subst IsUnified longer.is u))))
        (λ later. two.has fs later u)
        ext;
  }

-- choices

pub no_atoms : (atoms : List Formula) (old : List (List Formula)) → length atoms ≡ 0 → AddsChoices atoms old old
no_atoms [] old none = record { stays = λ fs at. at; each = λ fs at. inl at; has = λ fs at u. contains_none fs at }
no_atoms (f ∷ atoms) old some = absurd (omega arith)

pub next_atom : (f : Formula) (rest : List Formula) (old mid new : List (List Formula)) → AddsExtensions (f ∷ []) rest old mid → AddsChoices rest mid new → AddsChoices (f ∷ rest) old new
next_atom f rest old mid new one two = record {
  stays = λ fs at. two.stays fs (one.stays fs at);
  each = λ fs at. ⊎_elim {C = Contains old fs ⊎ Contains (choices (f ∷ rest)) fs}
      (λ before. ⊎_elim {C = Contains old fs ⊎ Contains (choices (f ∷ rest)) fs}
      inl
      (λ ext. inr (subst (Contains (choices (f ∷ rest))) (sym ext.is)
      (Contains-append_left (map (λ gs. f ∷ gs) (sublists rest)) (choices rest) (f ∷ ext.further) (contains-map (λ gs. f ∷ gs) (sublists rest) ext.further ext.is_further))))
      (one.each fs before))
      (λ later. inr (Contains-append_right (map (λ gs. f ∷ gs) (sublists rest)) (choices rest) fs later))
      (two.each fs at);
  has = λ fs at u.
      from_both (map (λ gs. f ∷ gs) (sublists rest)) (choices rest) fs
      (from_map (λ gs. f ∷ gs) (sublists rest) fs (λ gs on is. two.stays fs (one.has fs (record { further = gs; is_further = on; is = sym is }) u)))
      (λ later. two.has fs later u)
      at;
}

pub all_choices : (atoms : List Formula) (lists : List (List Formula)) → AddsChoices atoms [] lists → AreUnifiedChoices atoms lists
all_choices atoms lists h = record {
  each = λ fs at. ⊎_elim {C = Contains (choices atoms) fs} (λ none. contains_none fs none) (λ on. on) (h.each fs at);
  has = h.has;
}
