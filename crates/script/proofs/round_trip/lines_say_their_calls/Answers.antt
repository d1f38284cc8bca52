use Rattle.script.proofs.Rereading.{agrees}
use Rattle.script.proofs.round_trip.lines_say_their_calls.Goals as goal

pub returns : goal.returns
returns c = record { lines_say_their_calls = agrees }
