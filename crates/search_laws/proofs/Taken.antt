-- The rule that a search takes fits the sequent; and what holds where there is none.
use Rattle.std.proofs.Common.{◌≡◌, Bool, true, false, ◌&&◌, if◌then◌else◌, cond, List, [], ◌∷◌, Option, Some, None, refl, sym, ap, subst, ◌∙◌}
use Rattle.std.specs.Prelude.{find, option_map, option_and_then}
use Rattle.fol.specs.Syntax.{Formula, top, bot, not, and, or, imp}
use Rattle.finite.specs.Finite as set
use Rattle.finite.proofs.Finite.{has-listing}
use Rattle.lk_rules.specs.declared.sequent.Sequent.{Sequent}
use Rattle.lk_rules.specs.declared.rule.Rule.{Rule}
use Rattle.lk_rules.specs.declared.rule.Rule.TheVariants.{Ax, TopR, BotL}
use Rattle.proof_trees.proofs.Booleans.{either}
use Rattle.search_laws.specs.Search.{left_rule, right_rule, is_compound, or_else, rule_at}
use Rattle.search_laws.proofs.Listed.{among, among_first, among_later}
use Rattle.proof_trees.proofs.FormulaSets.{equal}
use Rattle.search_laws.proofs.Searched.{Fits}

-- the first formula of a list that passes a test

-- it passes
pub found_passes : (p : Formula → Bool) (fs : List Formula) (f : Formula) → find p fs ≡ Some f → p f ≡ true
found_passes p [] f e = cc
found_passes p (g ∷ gs) f e =
    elim (p g) as (λ b. p g ≡ b → cond b (Some g) (find p gs) ≡ Some f → p f ≡ true) [
      | true ↦ λ h is. let same : g ≡ f = cc in ap p (sym same) ∙ h
      | false ↦ λ h later. found_passes p gs f later
    ] refl e

-- it is in the list
pub found_among : (p : Formula → Bool) (fs : List Formula) (f : Formula) → find p fs ≡ Some f → among fs f ≡ true
found_among p [] f e = cc
found_among p (g ∷ gs) f e =
    elim (p g) as (λ b. cond b (Some g) (find p gs) ≡ Some f → among (g ∷ gs) f ≡ true) [
      | true ↦ λ is. let same : g ≡ f = cc in subst (λ h. among (g ∷ gs) h ≡ true) same (among_first g gs)
      | false ↦ λ later. among_later f g gs (found_among p gs f later)
    ] e

-- where none is found, each formula fails
pub none_found : (p : Formula → Bool) (fs : List Formula) → find p fs ≡ None → (f : Formula) → among fs f ≡ true → p f ≡ false
none_found p [] e f m = cc
none_found p (g ∷ gs) e f m =
    elim (p g) as (λ b. p g ≡ b → cond b (Some g) (find p gs) ≡ None → p f ≡ false) [
      | true ↦ λ h no. cc
      | false ↦ λ h none. either _ _ (λ is. ap p (equal f g is) ∙ h) (none_found p gs none f) m
    ] refl e

-- the first of two rules that is there
either_rule : {P : Type 0} (x y : Option Rule) (r : Rule) → (x ≡ Some r → P) → (y ≡ Some r → P) → or_else x y ≡ Some r → P
either_rule None y r first second e = second e
either_rule (Some q) y r first second e = first e

-- where neither is there, the first is not
no_first : (x y : Option Rule) → or_else x y ≡ None → x ≡ None
no_first None y e = refl
no_first (Some q) y e = cc

-- nor is the second
no_second : (x y : Option Rule) → or_else x y ≡ None → y ≡ None
no_second None y e = e
no_second (Some q) y e = cc

-- a rule that is there is one
named : {r q : Rule} → Some r ≡ Some q → r ≡ q
named e = cc

-- the main formula stands on the left, on the right, or on both sides

stands_left : (b : Bool) → b ≡ true → ((b && true) && true) ≡ true
stands_left b e = rw e refl

stands_right : (b : Bool) → b ≡ true → (true && (b && true)) ≡ true
stands_right b e = rw e refl

stands_both : (b c : Bool) → b ≡ true → c ≡ true → ((b && true) && (c && true)) ≡ true
stands_both b c e h = rw (e, h) refl

-- the rule of a formula on the left fits
fits_left : (f : Formula) (r : Rule) (s : Sequent) → set.has s.left f ≡ true → left_rule f ≡ Some r → Fits r s
fits_left (not f) r s m e = subst (λ q. Fits q s) (named e) (record { searched = refl; stands = stands_left _ m })
fits_left (and f g) r s m e = subst (λ q. Fits q s) (named e) (record { searched = refl; stands = stands_left _ m })
fits_left (or f g) r s m e = subst (λ q. Fits q s) (named e) (record { searched = refl; stands = stands_left _ m })
fits_left (imp f g) r s m e = subst (λ q. Fits q s) (named e) (record { searched = refl; stands = stands_left _ m })
fits_left f r s m e = cc

-- the rule of a formula on the right fits
fits_right : (f : Formula) (r : Rule) (s : Sequent) → set.has s.right f ≡ true → right_rule f ≡ Some r → Fits r s
fits_right (not f) r s m e = subst (λ q. Fits q s) (named e) (record { searched = refl; stands = stands_right _ m })
fits_right (and f g) r s m e = subst (λ q. Fits q s) (named e) (record { searched = refl; stands = stands_right _ m })
fits_right (or f g) r s m e = subst (λ q. Fits q s) (named e) (record { searched = refl; stands = stands_right _ m })
fits_right (imp f g) r s m e = subst (λ q. Fits q s) (named e) (record { searched = refl; stands = stands_right _ m })
fits_right f r s m e = cc

module _ (s : Sequent) (r : Rule) where
  -- the axiom on the first formula on both sides fits
  fits_axiom : option_map Ax (find (set.has s.right) (set.listing s.left)) ≡ Some r → Fits r s
  fits_axiom =
      elim (find (set.has s.right) (set.listing s.left)) as (λ o. find (set.has s.right) (set.listing s.left) ≡ o → option_map Ax o ≡ Some r → Fits r s) [
        | None ↦ λ none e. cc
        | Some f ↦ λ found e. subst (λ q. Fits q s) (named e) (record {
          searched = refl;
          stands = stands_both _ _ (has-listing s.left f ∙ found_among (set.has s.right) (set.listing s.left) f found) (found_passes (set.has s.right) (set.listing s.left) f found);
        })
      ] refl

  -- truth on the right fits, where it is there
  fits_truth : (if set.has s.right top then Some TopR else None) ≡ Some r → Fits r s
  fits_truth =
      elim (set.has s.right top) as (λ b. set.has s.right top ≡ b → (if b then Some TopR else None) ≡ Some r → Fits r s) [
        | true ↦ λ m e. subst (λ q. Fits q s) (named e) (record { searched = refl; stands = stands_right _ m })
        | false ↦ λ m e. cc
      ] refl

  -- falsity on the left fits, where it is there
  fits_falsity : (if set.has s.left bot then Some BotL else None) ≡ Some r → Fits r s
  fits_falsity =
      elim (set.has s.left bot) as (λ b. set.has s.left bot ≡ b → (if b then Some BotL else None) ≡ Some r → Fits r s) [
        | true ↦ λ m e. subst (λ q. Fits q s) (named e) (record { searched = refl; stands = stands_left _ m })
        | false ↦ λ m e. cc
      ] refl

  -- the rule of the first compound formula on the left fits
  fits_compound_left : option_and_then left_rule (find is_compound (set.listing s.left)) ≡ Some r → Fits r s
  fits_compound_left =
      elim (find is_compound (set.listing s.left)) as (λ o. find is_compound (set.listing s.left) ≡ o → option_and_then left_rule o ≡ Some r → Fits r s) [
        | None ↦ λ none e. cc
        | Some f ↦ λ found. fits_left f r s (has-listing s.left f ∙ found_among is_compound (set.listing s.left) f found)
      ] refl

  -- and that on the right
  fits_compound_right : option_and_then right_rule (find is_compound (set.listing s.right)) ≡ Some r → Fits r s
  fits_compound_right =
      elim (find is_compound (set.listing s.right)) as (λ o. find is_compound (set.listing s.right) ≡ o → option_and_then right_rule o ≡ Some r → Fits r s) [
        | None ↦ λ none e. cc
        | Some f ↦ λ found. fits_right f r s (has-listing s.right f ∙ found_among is_compound (set.listing s.right) f found)
      ] refl

  -- the rule that is taken fits
  pub rule_fits : rule_at s ≡ Some r → Fits r s
  unfolding rule_at
  rule_fits = either_rule _ _ r fits_axiom (either_rule _ _ r fits_truth (either_rule _ _ r fits_falsity (either_rule _ _ r fits_compound_left fits_compound_right)))

-- where no rule is taken

-- no formula stands on both sides, truth isn't on the right nor falsity on the left, and no formula has a connective
pub record IsUntaken (s : Sequent) : Type 0 where
  pub apart : (f : Formula) → set.has s.left f ≡ true → set.has s.right f ≡ false
  pub no_truth : set.has s.right top ≡ false
  pub no_falsity : set.has s.left bot ≡ false
  pub atomic_left : (f : Formula) → set.has s.left f ≡ true → is_compound f ≡ false
  pub atomic_right : (f : Formula) → set.has s.right f ≡ true → is_compound f ≡ false

-- no axiom, so no formula on both sides
unmapped : (o : Option Formula) → option_map Ax o ≡ None → o ≡ None
unmapped None e = refl
unmapped (Some f) e = cc

-- no rule under a test, so the test fails
not_taken : (b : Bool) (r : Rule) → (if b then Some r else None) ≡ None → b ≡ false
not_taken true r e = cc
not_taken false r e = refl

-- each compound formula has a rule on the left
has_left_rule : (f : Formula) → is_compound f ≡ true → left_rule f ≡ None → Some f ≡ None
has_left_rule (not f) e h = cc
has_left_rule (and f g) e h = cc
has_left_rule (or f g) e h = cc
has_left_rule (imp f g) e h = cc
has_left_rule f e h = cc

-- and one on the right
has_right_rule : (f : Formula) → is_compound f ≡ true → right_rule f ≡ None → Some f ≡ None
has_right_rule (not f) e h = cc
has_right_rule (and f g) e h = cc
has_right_rule (or f g) e h = cc
has_right_rule (imp f g) e h = cc
has_right_rule f e h = cc

-- no rule of a compound formula, so there is no such formula
no_compound : (rule : Formula → Option Rule) → ((f : Formula) → is_compound f ≡ true → rule f ≡ None → Some f ≡ None) → (fs : List Formula) → option_and_then rule (find is_compound fs) ≡ None
    → find is_compound fs ≡ None
no_compound rule has_rule fs =
    elim (find is_compound fs) as (λ o. find is_compound fs ≡ o → option_and_then rule o ≡ None → o ≡ None) [
      | None ↦ λ none e. refl
      | Some f ↦ λ found. has_rule f (found_passes is_compound fs f found)
    ] refl

-- where no rule is taken, none could be
pub no_rule : (s : Sequent) → rule_at s ≡ None → IsUntaken s
unfolding rule_at
no_rule s e =
    let none : find (set.has s.right) (set.listing s.left) ≡ None = unmapped _ (no_first _ _ e) in
    let later = no_second (option_map Ax (find (set.has s.right) (set.listing s.left))) _ e in
    let later_still = no_second (if set.has s.right top then Some TopR else None) _ later in
    let compound = no_second (if set.has s.left bot then Some BotL else None) _ later_still in
    let none_left = no_compound left_rule has_left_rule (set.listing s.left) (no_first _ _ compound) in
    let none_right = no_compound right_rule has_right_rule (set.listing s.right) (no_second (option_and_then left_rule (find is_compound (set.listing s.left))) _ compound) in
    record {
      apart = λ f m. none_found (set.has s.right) (set.listing s.left) none f (sym (has-listing s.left f) ∙ m);
      no_truth = not_taken (set.has s.right top) TopR (no_first _ _ later);
      no_falsity = not_taken (set.has s.left bot) BotL (no_first _ _ later_still);
      atomic_left = λ f m. none_found is_compound (set.listing s.left) none_left f (sym (has-listing s.left f) ∙ m);
      atomic_right = λ f m. none_found is_compound (set.listing s.right) none_right f (sym (has-listing s.right f) ∙ m);
    }
