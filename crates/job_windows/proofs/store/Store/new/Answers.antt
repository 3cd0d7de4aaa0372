-- A new store stands behind no job.
use Rattle.std.proofs.Common.{map, length, sym, ap, arith, subst}
use Rattle.std.specs.List.{All}
use Rattle.held_values.specs.Means.{sense}
use Rattle.job_windows.specs.Running.{FitsDesk}
use Rattle.job_windows.proofs.store.Store.new.Goals as goal

pub returns : goal.returns
returns c = λ desk of. record {
  holds = record {
    pass = of;
    sized = ap length c.new-2.ensures.items;
    fits = subst (All (FitsDesk desk)) (sym c.new-2.ensures.items) (λ k d within. absurd (omega arith));
  };
  known = c.new.ensures (map sense c.new-2.result.items);
}
