use Rattle.proof_server.proofs.generating.generated_counts.Goals as goal

pub count_replies-counts-requires-after_bounds : goal.count_replies-counts-requires-after_bounds
count_replies-counts-requires-after_bounds g c κs within = c.new-session.ensures c.in_ok-desk.desk c.in_ok-desk.ensures.pass
