use Rattle.std.proofs.Common.{arith}
use Rattle.runs.proofs.running.play_all.Goals as goal

pub returns : goal.returns
returns g c =
    let start = c.in_ok-book.ensures.opens_an_empty_pool in
    let done = c.play_each.ensures.as_the_machine _ (start.1 g.V.Joining.joined) in
    record { plays_the_list_as_the_machine = (omega arith, start.0, done.0, done.1) }
