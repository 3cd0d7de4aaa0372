-- How expansion trees are coded as trees of numbers, so that a proof can tell them apart.
use Rattle.std.specs.Prelude.{◌≡◌, refl}
use Rattle.std.specs.Coded.{Coded}
use base.Stored.{Gv, gnil, gnum, gcons}
use Rattle.fol.specs.Codes.{coded_formula, coded_term}
use Rattle.free_variables.specs.Sets.{coded_var}
use Rattle.expansion_laws.specs.Expansions.{Exp, wk, leaf, neg, conj, disj, impl, weak, strong, Insts, none, more}

-- the number of the kind, then the parts
abbrev mutual
  pub exp_code : Exp → Gv
  exp_code (wk f) = gcons (gnum 0) (coded_formula.code f)
  exp_code (leaf f) = gcons (gnum 1) (coded_formula.code f)
  exp_code (neg e) = gcons (gnum 2) (exp_code e)
  exp_code (conj d e) = gcons (gnum 3) (gcons (exp_code d) (exp_code e))
  exp_code (disj d e) = gcons (gnum 4) (gcons (exp_code d) (exp_code e))
  exp_code (impl d e) = gcons (gnum 5) (gcons (exp_code d) (exp_code e))
  exp_code (weak f is) = gcons (gnum 6) (gcons (coded_formula.code f) (insts_code is))
  exp_code (strong f y e) = gcons (gnum 7) (gcons (coded_formula.code f) (gcons (coded_var.code y) (exp_code e)))

  pub insts_code : Insts → Gv
  insts_code none = gnil
  insts_code (more t e is) = gcons (coded_term.code t) (gcons (exp_code e) (insts_code is))

mutual
  pub same_exp : (d e : Exp) → exp_code d ≡ exp_code e → d ≡ e
  same_exp (wk f) (wk g) h =
      let same : coded_formula.code f ≡ coded_formula.code g = cc in
      λ i. wk (coded_formula.inj f g same i)
  same_exp (leaf f) (leaf g) h =
      let same : coded_formula.code f ≡ coded_formula.code g = cc in
      λ i. leaf (coded_formula.inj f g same i)
  same_exp (neg d) (neg e) h =
      let same : exp_code d ≡ exp_code e = cc in
      λ i. neg (same_exp d e same i)
  same_exp (conj a b) (conj c d) h =
      let first : exp_code a ≡ exp_code c = cc in
      let second : exp_code b ≡ exp_code d = cc in
      λ i. conj (same_exp a c first i) (same_exp b d second i)
  same_exp (disj a b) (disj c d) h =
      let first : exp_code a ≡ exp_code c = cc in
      let second : exp_code b ≡ exp_code d = cc in
      λ i. disj (same_exp a c first i) (same_exp b d second i)
  same_exp (impl a b) (impl c d) h =
      let first : exp_code a ≡ exp_code c = cc in
      let second : exp_code b ≡ exp_code d = cc in
      λ i. impl (same_exp a c first i) (same_exp b d second i)
  same_exp (weak f is) (weak g js) h =
      let formulas : coded_formula.code f ≡ coded_formula.code g = cc in
      let others : insts_code is ≡ insts_code js = cc in
      λ i. weak (coded_formula.inj f g formulas i) (same_insts is js others i)
  same_exp (strong f y d) (strong g z e) h =
      let formulas : coded_formula.code f ≡ coded_formula.code g = cc in
      let variables : coded_var.code y ≡ coded_var.code z = cc in
      let same : exp_code d ≡ exp_code e = cc in
      λ i. strong (coded_formula.inj f g formulas i) (coded_var.inj y z variables i) (same_exp d e same i)
  same_exp d e h = cc

  pub same_insts : (is js : Insts) → insts_code is ≡ insts_code js → is ≡ js
  same_insts none none h = refl
  same_insts none (more u e js) h = cc
  same_insts (more t d is) none h = cc
  same_insts (more t d is) (more u e js) h =
      let terms : coded_term.code t ≡ coded_term.code u = cc in
      let children : exp_code d ≡ exp_code e = cc in
      let others : insts_code is ≡ insts_code js = cc in
      λ i. more (coded_term.inj t u terms i) (same_exp d e children i) (same_insts is js others i)

abbrev pub coded_exp : Coded Exp
coded_exp = record { code = exp_code; inj = same_exp }
