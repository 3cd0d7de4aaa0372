-- The place has the variable that was the next one.
use Rattle.std.proofs.Common.{◌≡◌, suc, ◌∷◌, ◌++◌, [], length, cond, Some, is_some, sym, ap, ◌∙◌, arith}
use Rattle.std.specs.Prelude.{nat_eq}
use Rattle.std.proofs.lemmas.List.{length_push}
use Rattle.fol.specs.declared.symbols.Var.TheVariants.{Num}
use Rattle.fol.specs.Syntax.{free}
use Rattle.finite.specs.Finite as set
use Rattle.extraction_laws.specs.States.{nth_outside, number_of}
use Rattle.extraction_laws.proofs.Variables.{nth_next}
use Rattle.exp_extract.specs.Names.{variable_in}
use Rattle.exp_extract.proofs.NamedPlaces.{variable_more, not_named}
use Rattle.exp_extract.proofs.names.Names.name.Goals as goal

pub invariant_of-self-2 : goal.invariant_of-self-2
invariant_of-self-2 c =
    let vs = set.listing c.self.inside.outside in
    let ns = c.self.inside.named.items in
    let p = c.args.place in
    let items : c.push_reserved.new.self.items ≡ ns ++ p ∷ [] = c.push_reserved.ensures.items ∙ ap (λ xs. xs ++ p ∷ []) c.reserve.ensures.items in
    let long : length c.push_reserved.new.self.items ≡ suc (length ns) = ap length items ∙ (length_push ns p ∙ omega arith) in
    let given : c.in_ok-term.term ≡ free (nth_outside vs (length ns)) = c.in_ok-term.ensures ∙ c.self.invariant.next in
    let last : number_of (nth_outside vs (length ns)) ≡ c.self.inside.number = sym c.self.invariant.number in
    let next : nth_outside vs (suc (length ns)) ≡ Num c.in_ok-number.number =
    nth_next vs (length ns) c.in_ok-number.number (omega (arith, c.in_ok-number.ensures.above)) c.in_ok-number.ensures.outside (λ j over under. c.in_ok-number.ensures.between j (omega arith) under) in
    record {
      variables = λ q.
          c.in_ok-insert.ensures.updates.0 q
          ∙ ((λ i. cond (nat_eq p q) (Some (given i)) (c.self.invariant.variables q i))
          ∙ (variable_more vs ns p (not_named vs ns p (sym (ap is_some (c.self.invariant.variables p)) ∙ (sym c.contains_key.ensures ∙ c.if-contains_key.false))) q
          ∙ ap (λ xs. variable_in vs xs q) (sym items)));
      next = c.in_ok-next.ensures ∙ (ap free (sym next) ∙ ap (λ n. free (nth_outside vs n)) (sym long));
      number = sym (ap number_of (ap (nth_outside vs) long ∙ next));
    }
