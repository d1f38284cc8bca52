use Rattle.std.proofs.Common.{◌≡◌, Ok, Some, string_bytes, ap, ◌∙◌, rules}
use Rattle.script.proofs.Rereading.{agrees}
use Rattle.script.proofs.round_trip.printed.Goals as goal
use Rattle.script.specs.Agreement.{Fitting}
use Rattle.script.specs.Forms.{said}
use Rattle.script.specs.Printing.{line_of}
use Rattle.std.proofs.lemmas.Result.{IfOk-weaker}

pub returns : goal.returns
returns c =
    let call = c.args.call in
    let fits : Fitting call = search rules in
    record {
      says_the_call = IfOk-weaker c.format.result (λ line. string_bytes line ≡ line_of call) (λ line. said (string_bytes line) ≡ Ok (Some call)) (λ line e. ap said e ∙ agrees call fits) c.format.ensures.ok;
    }
