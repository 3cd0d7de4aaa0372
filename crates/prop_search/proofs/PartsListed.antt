-- Lists with the parts of their formulas: after one more formula whose parts are there.
use Rattle.std.proofs.Common.{◌≡◌, ℕ, ◌+◌, ◌<◌, true, cond, List, [], ◌∷◌, length, get_or, take, refl, sym, ap, subst, ◌∙◌}
use Rattle.std.specs.List.{list_all}
use Rattle.std.proofs.lemmas.Bool.{and_from}
use Rattle.std.proofs.lemmas.List.{take_more}
use Rattle.std.proofs.lemmas.List.Folds.{list_all-append}
use Rattle.std.specs.Ordering.{eq_by_cmp}
use Rattle.fol.specs.Syntax.{Formula, not, and, or, imp}
use Rattle.fol.specs.Order.{formula_cmp}
use Rattle.fol.specs.Formed.{is_formed, IsFormed}
use Rattle.proof_trees.proofs.FormulaSets.{equal}
use Rattle.search_laws.proofs.Listed.{passed, all_pass}
use Rattle.search_laws.proofs.Tests.{split}
use Rattle.prop_search.specs.Formulas.{is_listed}
use Rattle.prop_search.specs.Parts.{HasParts, IsClosed, Keeps}

has_parts : (old new : List Formula) → Keeps old new → (f : Formula) → HasParts old f → HasParts new f
has_parts old new k (not f) h = k.listed f h
has_parts old new k (and f g) h = (k.listed f h.0, k.listed g h.1)
has_parts old new k (or f g) h = (k.listed f h.0, k.listed g h.1)
has_parts old new k (imp f g) h = (k.listed f h.0, k.listed g h.1)
has_parts old new k f h = tt

module _ (old new : List Formula) (k : Formula) (updated : (q : Formula) → is_listed new q ≡ cond (eq_by_cmp formula_cmp k q) true (is_listed old q)) where
  pub kept_all : Keeps old new
  kept_all = record {
    listed = λ f m.
        split (eq_by_cmp formula_cmp k f)
        (λ e. updated f ∙ ap (λ b. cond b true (is_listed old f)) e)
        (λ e. updated f ∙ ap (λ b. cond b true (is_listed old f)) e ∙ m);
  }

  -- what is listed is the new one or was there
  new_or_old : {P : Type 0} (f : Formula) → is_listed new f ≡ true → (k ≡ f → P) → (is_listed old f ≡ true → P) → P
  new_or_old f m here there =
      split (eq_by_cmp formula_cmp k f)
      (λ e. here (equal k f e))
      (λ e. there (sym (ap (λ b. cond b true (is_listed old f)) e) ∙ sym (updated f) ∙ m))

  pub closed_more : IsClosed old → HasParts old k → IsClosed new
  closed_more h whole = record {
    parts = λ f m. new_or_old f m (λ e. subst (HasParts new) e (has_parts old new kept_all k whole)) (λ there. has_parts old new kept_all f (h.parts f there));
  }

  pub formed_more : list_all is_formed old ≡ true → IsFormed k → list_all is_formed new ≡ true
  formed_more h formed = all_pass is_formed new (λ f m. new_or_old f m (λ e. ap is_formed (sym e) ∙ formed) (passed is_formed old f h))

-- one keeping after another
pub keeps_through : (a b c : List Formula) → Keeps a b → Keeps b c → Keeps a c
keeps_through a b c h g = record { listed = λ f m. g.listed f (h.listed f m) }

pub keeps_each : (a b : List Formula) (fs : List Formula) → Keeps a b → list_all (is_listed a) fs ≡ true → list_all (is_listed b) fs ≡ true
keeps_each a b fs h all = all_pass (is_listed b) fs (λ f m. h.listed f (passed (is_listed a) fs f all m))

-- one more formula of a list
pub listed_more : (a b : List Formula) (fs : List Formula) (i : ℕ) (f : Formula) → i < length fs → f ≡ get_or fs i f → Keeps a b → list_all (is_listed a) (take i fs) ≡ true → is_listed b f ≡ true
    → list_all (is_listed b) (take (i + 1) fs) ≡ true
listed_more a b fs i f l is h before here =
    ap (list_all (is_listed b)) (take_more fs i f l) ∙ list_all-append (is_listed b) (take i fs) (get_or fs i f ∷ [])
    ∙ and_from _ _ (keeps_each a b (take i fs) h before) (and_from _ _ (subst (λ g. is_listed b g ≡ true) is here) refl)
