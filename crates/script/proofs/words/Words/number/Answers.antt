use Rattle.std.proofs.Common.{◌^◌, sym, ap}
use Rattle.script.specs.Readings.{given}
use Rattle.script.proofs.Readers.{value_taken, value_none}
use Rattle.script.proofs.words.Words.number.Goals as goal

pub returns-in_err-next : goal.returns-in_err-next
returns-in_err-next g c = record { reads_a_number = rw (c.in_err-next.ensures.steps.0, value_none (2 ^ 32), c.from_residual.ensures) }

pub returns-in_err-spelled : goal.returns-in_err-spelled
returns-in_err-spelled g c =
    let none = value_taken (2 ^ 32) _ _ _ _ c.in_ok-next.ensures.steps c.in_err-spelled.ensures.is_the_number in
    record { reads_a_number = rw (none, c.from_residual-in_err-spelled.ensures) }

pub returns : goal.returns
returns g c =
    let some = value_taken (2 ^ 32) _ _ _ _ c.in_ok-next.ensures.steps c.in_ok-spelled.ensures.is_the_number in
    record { reads_a_number = rw some (c.try_from.result, c.try_from.ensures, ap (λ o. given o c.next.new.self) (sym c.ok.ensures.value)) }
