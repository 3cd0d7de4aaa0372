-- One more variable has its new name.
use Rattle.std.proofs.Common.{◌≡◌, ◌+◌, ◌++◌, ◌∷◌, [], take, sym, ap, subst, ◌∙◌, arith}
use Rattle.std.specs.FinMap as fin
use Rattle.std.proofs.lemmas.List.{take_more}
use Rattle.fol.specs.Syntax.{free}
use Rattle.free_variables.specs.Fresh.{is_among}
use Rattle.substitution.specs.Image.{IsFormedMap}
use Rattle.substitution.proofs.ImageLaws.{formed_insert, formed_empty}
use Rattle.res_prover.specs.Reached.{apart_by}
use Rattle.res_prover.proofs.Renamed.{more_named}
use Rattle.res_prover.proofs.renaming.new_names.Goals as goal

pub loop-place-init : goal.loop-place-init
loop-place-init c = record {
  names = λ v e. cc;
  formed = subst (λ m. IsFormedMap (fin.get m)) (sym c.new-map.ensures) formed_empty;
}

pub loop-place-preserved : goal.loop-place-preserved
loop-place-preserved c =
    let vars = c.args.vars.now in
    let k = c.loop-place.place in
    let w = c.index-vars-place.result in
    let m = c.loop-place.map in
    let name = c.in_ok-name.name in
    let next : take (k + 1) vars ≡ take k vars ++ w ∷ [] = take_more vars k w (omega arith) ∙ ap (λ y. take k vars ++ y ∷ []) (sym c.index-vars-place.is) in
    let set : c.set.new.self ≡ fin.insert m w (free name) = c.in_ok-set.ensures.ok ∙ ap (λ y. fin.insert m y c.in_ok-free.field-0) c.in_ok-copy.ensures ∙ ap (fin.insert m w) c.in_ok-free.ensures in
    record {
      names = λ v among. ap (λ n. fin.get n v) set ∙ more_named m w (free name) (take k vars) (apart_by c.args.is_second) c.loop-place.invariant.names c.in_ok-name.ensures.name v (ap (is_among v) (sym next) ∙ among);
      formed = subst (λ n. IsFormedMap (fin.get n)) (sym set) (formed_insert m w (free name) c.loop-place.invariant.formed c.in_ok-name.ensures.formed);
    }
