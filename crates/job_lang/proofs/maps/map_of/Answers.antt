use Rattle.std.proofs.Common.{◌≡◌, refl, sym, ap, ◌∙◌, subst, rules}
use Rattle.std.specs.FinMap as fin
use Rattle.substitution.specs.Maps.{Map}
use Rattle.substitution.specs.Image.{IsFormedMap}
use Rattle.substitution.proofs.ImageLaws.{formed_empty, formed_insert}
use Rattle.line_values.specs.View.{view, ordered_view}
use Rattle.job_lang.specs.Fields.{◌>>=◌}
use Rattle.job_lang.specs.Maps.{map_of}
use Rattle.job_lang.proofs.maps.map_of.Goals as goal

pub loop-name-init : goal.loop-name-init
loop-name-init c =
    let all : c.into_iter-name-iterator.result ≡ c.in_ok-ordered.ordered.entries = search rules in
    rw (all, c.in_ok-ordered.ensures, c.new-map.ensures) (refl, formed_empty)

pub loop-name-preserved : goal.loop-name-preserved
loop-name-preserved c =
    let l = c.loop-name in
    let place = c.args.place in
    let left = ordered_view c.next.new.self in (
      l.invariant.0
          ∙ ap (λ es. map_of place (ordered_view es) l.map) c.in-Some.ensures.steps
          ∙ ap (λ b. b >>= λ b. map_of place left (fin.insert l.map b.0 b.1)) c.in_ok-var.ensures.value
          ∙ ap (map_of place left) (sym c.in_ok-set.ensures.ok),
      subst (λ (m : Map). IsFormedMap (fin.get m)) (sym c.in_ok-set.ensures.ok) (formed_insert l.map c.in_ok-var.var c.in_ok-var.term l.invariant.1 c.in_ok-var.ensures.formed),
    )
