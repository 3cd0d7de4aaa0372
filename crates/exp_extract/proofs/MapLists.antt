-- Lists of maps, with one more map.
use Rattle.std.proofs.Common.{◌≡◌, ℕ, ◌<◌, Bool, true, false, cond, Option, Some, None, IfSome, List, [], ◌∷◌, ◌++◌, length, sym, ap, ◌∙◌, subst, arith, inl, inr}
use Rattle.std.proofs.lemmas.Bool.{cases_lt}
use Rattle.std.proofs.lemmas.List.{length_push}
use Rattle.std.proofs.Math.ListN.{get_or-append}
use Rattle.std.proofs.Math.Seq.{get_or-append_seam}
use Rattle.std.specs.FinMap as fin
use Rattle.fol.specs.declared.symbols.Var.{Var}
use Rattle.fol.specs.Syntax.{Term}
use Rattle.substitution.specs.Image.{IsFormedMap}
use Rattle.substitution.specs.Maps.{Map}
use Rattle.exp_extract.specs.declared.maps.Extension.{Extension}
use Rattle.exp_extract.specs.MapList.{map_in}
use Rattle.exp_extract.specs.Maps.{IsMade}

map_front : (ms : List Map) (x : Map) (n : ℕ) → n < length ms → map_in (ms ++ x ∷ []) n ≡ map_in ms n
map_front ms x n l = get_or-append ms (x ∷ []) fin.empty n l

map_last : (ms : List Map) (x : Map) → map_in (ms ++ x ∷ []) (length ms) ≡ x
map_last ms x = get_or-append_seam ms x [] fin.empty

pub made_stays : (ms ns : List Map) (x : Map) (e : Extension) → ns ≡ ms ++ x ∷ [] → IsMade ms e → IsMade ns e
made_stays ms ns x e is h =
    let long = length_push ms x in
    subst (λ (l : List Map). IsMade l e) (sym is) (record {
      parent = let p = h.parent in omega arith;
      number = let n = h.number in omega arith;
      map = map_front ms x e.number h.number ∙ (h.map ∙ ap (λ m. fin.insert m e.eigenvariable e.variable) (sym (map_front ms x e.parent h.parent)));
    })

pub made_new : (ms ns : List Map) (x : Map) (parent number : ℕ) (y : Var) (v : Term) → ns ≡ ms ++ x ∷ [] → number ≡ length ms → parent < length ms → x ≡ fin.insert (map_in ms parent) y v
    → IsMade ns (record { parent = parent; eigenvariable = y; variable = v; number = number })
made_new ms ns x parent number y v is last l made =
    let long = length_push ms x in
    subst (λ (k : List Map). IsMade k (record { parent = parent; eigenvariable = y; variable = v; number = number })) (sym is) (record {
      parent = omega arith;
      number = omega arith;
      map = ap (map_in (ms ++ x ∷ [])) last ∙ (map_last ms x ∙ (made ∙ ap (λ m. fin.insert m y v) (sym (map_front ms x parent l))));
    })

pub formed_more : (ms ns : List Map) (x : Map) → ns ≡ ms ++ x ∷ [] → ((n : ℕ) → n < length ms → IsFormedMap (fin.get (map_in ms n))) → IsFormedMap (fin.get x) → (n : ℕ) → n < length ns → IsFormedMap (fin.get (map_in ns n))
formed_more ms ns x is old new n l =
    let long = length_push ms x in
    let whole : length ns ≡ length (ms ++ x ∷ []) = ap length is in
    subst (λ (k : List Map). IsFormedMap (fin.get (map_in k n))) (sym is)
    (elim (cases_lt n (length ms)) [
      | inl before ↦ subst (λ (m : Map). IsFormedMap (fin.get m)) (sym (map_front ms x n before)) (old n before)
      | inr after ↦ let last : n ≡ length ms = omega arith in subst (λ (m : Map). IsFormedMap (fin.get m)) (sym (ap (map_in (ms ++ x ∷ [])) last ∙ map_last ms x)) new
    ])

-- what a table finds
pub old_made : (ms ns : List Map) (x : Map) → ns ≡ ms ++ x ∷ [] → (o : Option Extension) → IfSome o (IsMade ms) → IfSome o (IsMade ns)
old_made ms ns x is None h = tt
old_made ms ns x is (Some e) h = made_stays ms ns x e is h

pub if_some : (ns : List Map) (b : Bool) (e : Extension) (o : Option Extension) → IsMade ns e → IfSome o (IsMade ns) → IfSome (cond b (Some e) o) (IsMade ns)
if_some ns true e o h g = h
if_some ns false e o h g = g
