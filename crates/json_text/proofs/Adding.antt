-- Tokens that are added one after another.
use Rattle.std.proofs.Common.{◌≡◌, cond, List, [], ◌∷◌, ◌++◌, sym, ap, ◌∙◌, subst, append_assoc, Result, Ok, Err, OnOk}
use Rattle.std.specs.Prelude.{Some, None, is_err}
use Rattle.json.specs.Token.{Token}
use Rattle.json_text.specs.Tokens.{Written, AddsTokens, Adds}

adds_both : (old mid new : Written) (s t : List Token) → AddsTokens old mid s → AddsTokens mid new t → AddsTokens old new (s ++ t)
adds_both old mid None s t first rest = tt
adds_both old None (Some n) s t first rest = absurd rest
adds_both None (Some m) (Some n) s t first rest = absurd first
adds_both (Some o) (Some m) (Some n) s t first rest = rest ∙ ap (λ ts. ts ++ t) first ∙ append_assoc o s t

-- these tokens, and then those
pub adds_then : {old mid new : Written} {s t : List Token} → Adds old mid s → Adds mid new t → Adds old new (s ++ t)
adds_then {old = old} {mid = mid} {new = new} {s = s} {t = t} first rest = record { added = adds_both old mid new s t first.added rest.added }

-- what lacks memory adds anything
pub lacks : (old new : Written) (tokens : List Token) → new ≡ None → Adds old new tokens
lacks old new tokens none = record { added = subst (λ (w : Written). AddsTokens old w tokens) (sym none) tt }

-- a call of the writer, after which memory has been lacking where it failed
pub one_more : {E : Type 0} (r : Result (Unit {0}) E) (old new : List Token) (t : Token) → OnOk r (new ≡ old ++ t ∷ [])
    → Adds (Some old) (cond (is_err r) None (Some new)) (t ∷ [])
one_more (Ok u) old new t is = record { added = is }
one_more (Err e) old new t is = record { added = tt }
