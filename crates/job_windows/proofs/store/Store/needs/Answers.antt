-- What the next name is given goes behind what the names before it are given.
use Rattle.std.proofs.Common.{sym, ap, ◌∙◌, arith}
use Rattle.std.specs.Prelude.{option_map, slice_get, vec_len}
use Rattle.std.proofs.lemmas.Option.{slice_get_within}
use Rattle.operation_laws.specs.Given.{names_in}
use Rattle.job_windows.specs.Windows.{needs_at, need_named}
use Rattle.job_windows.proofs.Lists.{found_next, found_all}
use Rattle.job_windows.proofs.store.Store.needs.Goals as goal

pub names-preserved : goal.names-preserved
names-preserved c =
    let names = names_in c.args.op.now in
    let there = ap (slice_get names) (sym c.len.ensures) ∙ (sym c.name_at.ensures ∙ ap (option_map (λ n. n.now)) c.in-Some.is) in
    let within = slice_get_within names (vec_len c.names.needs) c.in-Some.name.now there in (
      c.in_ok-push.ensures.items
          ∙ found_next _ names _ (vec_len c.names.needs) c.names.invariant.0 (vec_len c.push.new.self) c.in-Some.name.now _ c.in_ok-push.ensures.len there
          (c.in_ok-need.ensures ∙ ap (need_named c.args.self.now.names (needs_at c.args.self.now.held.items c.args.window.now.seats.items)) c.base_name.ensures),
      omega (arith, within, c.in_ok-push.ensures.len),
    )

pub returns : goal.returns
returns c =
    let names = names_in c.args.op.now in
    found_all _ names c.names.needs.items (vec_len c.names.needs) c.names.invariant.0
    (ap (slice_get names) (sym c.len.ensures) ∙ (sym c.name_at.ensures ∙ ap (option_map (λ n. n.now)) c.in_default.is))
