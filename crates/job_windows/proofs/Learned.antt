-- What the names know after one more job.
use Rattle.std.proofs.Common.{◌≡◌, ℕ, Bool, true, false, cond, List, [], ◌∷◌, ◌++◌, length, refl, sym, ap, ◌∙◌, subst}
use Rattle.std.specs.Prelude.{Option, Some, None, is_some, option_map, slice_get}
use Rattle.std.specs.Ordering.{eq_by_cmp}
use Rattle.std.specs.HashMap.{get_by_text}
use Rattle.std.specs.Str.{bytes_eq}
use Rattle.std.proofs.lemmas.Map.Text.{is_eq-slice_cmp}
use Rattle.std.proofs.lemmas.Slice.Eq.{bytes_eq-Decides}
use Rattle.fol.specs.Order.{text_cmp}
use Rattle.operation_laws.specs.Values.{Value}
use Rattle.operation_laws.specs.Given.{or_else}
use Rattle.session_laws.specs.Answers.{Past, name_of, named_value, held_of, value_of}
use Rattle.job_windows.specs.Names.{Knows}
use Rattle.job_windows.specs.declared.names.Names.{Names}
use Rattle.job_windows.proofs.Lists.{stays_there, stands_next}

same_text : (x q : List ℕ) → eq_by_cmp text_cmp x q ≡ true → x ≡ q
same_text x q same = (bytes_eq-Decides x q).0 (sym (is_eq-slice_cmp x q) ∙ same)

or_else-none : {A : Type 0} (v : Option A) → or_else v None ≡ v
or_else-none None = refl
or_else-none (Some a) = refl

-- at a place stands a value, or there is neither
abbrev pub IsMeant : List (Option Value) → Option ℕ → Option Value → Type 0
IsMeant held place v = option_map (slice_get held) place ≡ option_map (λ w. Some (Some w)) v

-- it does so too where more is held
meant_more : (held more : List (Option Value)) (place : Option ℕ) (v : Option Value) → IsMeant held place v → IsMeant (held ++ more) place v
meant_more held more None None is = refl
meant_more held more (Some i) (Some w) is =
    let there : slice_get held i ≡ Some (Some w) = cc in
    ap Some (stays_there held more i (Some w) there)
meant_more held more None (Some w) is = cc
meant_more held more (Some i) None is = cc

-- what is there stands before what comes later
meant_some : (held : List (Option Value)) (place : Option ℕ) (v : Option Value) (w : Option Value) → is_some place ≡ true → IsMeant held place v → IsMeant held place (or_else v w)
meant_some held (Some i) (Some v) w there is = is
meant_some held (Some i) None w there is = cc
meant_some held None v w there is = cc

meant_none : (held : List (Option Value)) (place : Option ℕ) (v : Option Value) (w : Value) → is_some place ≡ false → IsMeant held place v
    → IsMeant (held ++ Some w ∷ []) (Some (length held)) (or_else v (Some w))
meant_none held None None w none is = ap Some (stands_next held (Some w))
meant_none held None (Some v) w none is = cc
meant_none held (Some i) v w none is = cc

module _ (earlier : List Past) (job : Past) where
  abbrev value : Value
  value = value_of job.came

  -- a job without a name
  pub known_unnamed : (names : Names) (held : List (Option Value)) (x : Option Value) → name_of job.line ≡ None → Knows names held earlier → Knows names (held ++ x ∷ []) (job ∷ earlier)
  known_unnamed names held x unnamed known q =
      subst (IsMeant (held ++ x ∷ []) (get_by_text names.places q))
      (sym (ap (λ o. or_else (held_of earlier q) (named_value q o value)) unnamed ∙ or_else-none (held_of earlier q)))
      (meant_more held (x ∷ []) (get_by_text names.places q) (held_of earlier q) (known q))

  module _ (name : List ℕ) (named : name_of job.line ≡ Some name) where
    -- the value at another name and at this one
    other : (q : List ℕ) → eq_by_cmp text_cmp name q ≡ false → held_of (job ∷ earlier) q ≡ held_of earlier q
    other q differ =
        ap (λ o. or_else (held_of earlier q) (named_value q o value)) named
        ∙ ap (λ (b : Bool). or_else (held_of earlier q) (cond b (Some value) None)) differ ∙ or_else-none (held_of earlier q)

    this : (q : List ℕ) → eq_by_cmp text_cmp name q ≡ true → held_of (job ∷ earlier) q ≡ or_else (held_of earlier q) (Some value)
    this q same =
        ap (λ o. or_else (held_of earlier q) (named_value q o value)) named ∙ ap (λ (b : Bool). or_else (held_of earlier q) (cond b (Some value) None)) same

    -- a job whose name is taken
    pub known_already : (names : Names) (held : List (Option Value)) → Knows names held earlier → is_some (get_by_text names.places name) ≡ true
        → Knows names (held ++ Some value ∷ []) (job ∷ earlier)
    known_already names held known there q = by_test (eq_by_cmp text_cmp name q) refl
      where
        place : Option ℕ
        place = get_by_text names.places q

        more : List (Option Value)
        more = held ++ Some value ∷ []

        before : IsMeant more place (held_of earlier q)
        before = meant_more held (Some value ∷ []) place (held_of earlier q) (known q)

        by_test : (b : Bool) → eq_by_cmp text_cmp name q ≡ b → IsMeant more place (held_of (job ∷ earlier) q)
        by_test true same =
            subst (IsMeant more place) (sym (this q same))
            (meant_some more place (held_of earlier q) (Some value) (ap (λ (x : List ℕ). is_some (get_by_text names.places x)) (sym (same_text name q same)) ∙ there) before)
        by_test false differ = subst (IsMeant more place) (sym (other q differ)) before

    -- a job with a new name
    pub known_more : (old new : Names) (held : List (Option Value)) (at : ℕ) → Knows old held earlier → at ≡ length held
        → is_some (get_by_text old.places name) ≡ false
        → ((q : List ℕ) → get_by_text new.places q ≡ cond (bytes_eq name q) (Some at) (get_by_text old.places q))
        → Knows new (held ++ Some value ∷ []) (job ∷ earlier)
    known_more old new held at known next absent inserted q = by_test (eq_by_cmp text_cmp name q) refl
      where
        more : List (Option Value)
        more = held ++ Some value ∷ []

        found : (b : Bool) → eq_by_cmp text_cmp name q ≡ b → get_by_text new.places q ≡ cond b (Some (length held)) (get_by_text old.places q)
        found b is = inserted q ∙ (λ i. cond ((sym (is_eq-slice_cmp name q) ∙ is) i) (Some (next i)) (get_by_text old.places q))

        by_test : (b : Bool) → eq_by_cmp text_cmp name q ≡ b → IsMeant more (get_by_text new.places q) (held_of (job ∷ earlier) q)
        by_test true same =
            subst (λ place. IsMeant more place (held_of (job ∷ earlier) q)) (sym (found true same))
            (subst (IsMeant more (Some (length held))) (sym (this q same))
            (meant_none held (get_by_text old.places q) (held_of earlier q) value
            (ap (λ (x : List ℕ). is_some (get_by_text old.places x)) (sym (same_text name q same)) ∙ absent) (known q)))
        by_test false differ =
            subst (λ place. IsMeant more place (held_of (job ∷ earlier) q)) (sym (found false differ))
            (subst (IsMeant more (get_by_text old.places q)) (sym (other q differ)) (meant_more held (Some value ∷ []) (get_by_text old.places q) (held_of earlier q) (known q)))
