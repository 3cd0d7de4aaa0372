use Rattle.std.proofs.Common.{◌≡◌, List, [], ◌∷◌, ◌++◌, length, sym, ap, ◌∙◌, subst, arith, length-append}
use Rattle.job_windows.specs.Windows.{AreInOrder, IsPromised}
use Rattle.job_windows.specs.declared.seats.Seat.{Seat}
use Rattle.job_windows.proofs.Gathering.{ordered_more, promised_more}
use Rattle.job_windows.proofs.store.Store.gather.Goals as goal

pub returns-clause-gathered : goal.returns-clause-gathered
returns-clause-gathered c = λ desk earlier lines text gathered kept.
    let old = c.args.self.now in
    let before = c.args.window.now in
    let seat = c.in_ok-seat.seat in
    let tasks = c.seat.new.window.tasks.items in
    let seats : c.push.new.self.items ≡ before.seats.items ++ seat ∷ [] = c.in_ok-push.ensures.items ∙ ap (λ v. v.items ++ seat ∷ []) c.seat.ensures.seats in
    let named = c.in_ok-seat.ensures.named text kept in
    let adds = c.in_ok-seat.ensures.adds in
    record {
      holds = record { pass = gathered.holds.pass; sized = gathered.holds.sized; fits = gathered.holds.fits };
      runnable = c.in_ok-seat.ensures.runs desk (record { fits = gathered.holds.fits; ordered = gathered.ordered; tasks_are = gathered.runnable });
      ordered = subst (λ (ss : List Seat). AreInOrder 0 ss (length tasks)) (sym seats) (ordered_more before.seats.items seat before.tasks.items tasks gathered.ordered adds);
      counted = omega (arith, ap length seats, length-append before.seats.items (seat ∷ []), gathered.counted, length-append lines (text ∷ []));
      promised = λ done all.
          subst (λ (ss : List Seat). IsPromised done c.learn.new.self old.held.items earlier (lines ++ text ∷ []) ss) (sym seats)
          (promised_more old.names c.learn.new.self old.held.items before.seats.items seat text earlier lines before.tasks.items tasks named adds (c.in_ok-seat.ensures.asked text kept)
          (λ held last job known same sized. c.in_ok-learn.ensures held last job known (same ∙ sym named ∙ sym c.as_ref.ensures.value)
          (omega (arith, sized, c.len.ensures, c.len-2.ensures, old.held.ok.0, before.seats.ok.0)))
          gathered.promised done all);
    }
