use Rattle.house.proofs.Between.{begins_comes}
use Rattle.house.proofs.rounds.Goals as goal

pub serve-a-requires : goal.serve-a-requires
serve-a-requires g c =
    let b = begins_comes c.loop-t.invariant c.in-Some.ensures in
    record { soon = b.0; begins = b.1 }
