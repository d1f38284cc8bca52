use Rattle.std.proofs.Common.{Ok, ap}
use Rattle.std.proofs.lemmas.Result.{err_from_is_err_and}
use Rattle.pool.specs.Machine.{list_of, record_at, next_of, put_fits, after_put, after_remove, after_clear}
use Rattle.runs.specs.declared.answer.Answer.TheVariants.{Done, Found, Entry, Number}
use Rattle.runs.proofs.Saying.{asked_ok, asked_err, called_ok, called_err, grown_ok, grown_err, counted_ok, counted_err}
use Rattle.runs.proofs.playing.play.Goals as goal

pub returns-in_ok-put-in-Put : goal.returns-in_ok-put-in-Put
returns-in_ok-put-in-Put g c =
    let κ = g.K.KeyKind in
    let join = g.V.Joining.joined in
    record { answers_and_leaves_as_the_machine = λ m h. rw c.in-Put.is (grown_ok κ join _ _ _ _ _ (λ x. put_fits κ x c.in-Put.shelf c.in-Put.key) (λ x. after_put κ x c.in-Put.shelf c.in-Put.key c.in-Put.told) m h _ c.in_ok-put-in-Put.ensures.does_as_every_machine_held) }

pub returns-in_err-put-in-Put : goal.returns-in_err-put-in-Put
returns-in_err-put-in-Put g c =
    let κ = g.K.KeyKind in
    let join = g.V.Joining.joined in
    let p = err_from_is_err_and c.from_residual.result c.from_residual.ensures.1 in
    record { answers_and_leaves_as_the_machine = λ m h. rw (c.in-Put.is, p.1, p.2) (grown_err κ join _ _ _ _ _ (λ x. put_fits κ x c.in-Put.shelf c.in-Put.key) (λ x. after_put κ x c.in-Put.shelf c.in-Put.key c.in-Put.told) m h _ c.in_err-put-in-Put.ensures.does_as_every_machine_held) }

pub returns-in_ok-look-in-Look : goal.returns-in_ok-look-in-Look
returns-in_ok-look-in-Look g c =
    let κ = g.K.KeyKind in
    let join = g.V.Joining.joined in
    record { answers_and_leaves_as_the_machine = λ m h. rw c.in-Look.is (asked_ok κ join _ _ _ (λ x. record_at κ join (list_of x c.in-Look.shelf) c.in-Look.key) (λ a. Ok (Found a)) m h _ (c.in_ok-look-in-Look.ensures.answers_as_every_machine_held join), h) }

pub returns-in_err-look-in-Look : goal.returns-in_err-look-in-Look
returns-in_err-look-in-Look g c =
    let κ = g.K.KeyKind in
    let join = g.V.Joining.joined in
    let p = err_from_is_err_and c.from_residual-in_err-look-in-Look.result c.from_residual-in_err-look-in-Look.ensures.1 in
    record { answers_and_leaves_as_the_machine = λ m h. rw (c.in-Look.is, p.1, p.2) (asked_err κ join _ _ _ (λ x. record_at κ join (list_of x c.in-Look.shelf) c.in-Look.key) (λ a. Ok (Found a)) m h _ (c.in_err-look-in-Look.ensures.answers_as_every_machine_held join), h) }

pub returns-in_ok-next-in-Next : goal.returns-in_ok-next-in-Next
returns-in_ok-next-in-Next g c =
    let κ = g.K.KeyKind in
    let join = g.V.Joining.joined in
    record { answers_and_leaves_as_the_machine = λ m h. rw c.in-Next.is (asked_ok κ join _ _ _ (λ x. next_of κ join (list_of x c.in-Next.shelf) c.in-Next.bound) (λ a. Ok (Entry a)) m h _ (c.in_ok-next-in-Next.ensures.answers_as_every_machine_held join), h) }

pub returns-in_err-next-in-Next : goal.returns-in_err-next-in-Next
returns-in_err-next-in-Next g c =
    let κ = g.K.KeyKind in
    let join = g.V.Joining.joined in
    let p = err_from_is_err_and c.from_residual-in_err-next-in-Next.result c.from_residual-in_err-next-in-Next.ensures.1 in
    record { answers_and_leaves_as_the_machine = λ m h. rw (c.in-Next.is, p.1, p.2) (asked_err κ join _ _ _ (λ x. next_of κ join (list_of x c.in-Next.shelf) c.in-Next.bound) (λ a. Ok (Entry a)) m h _ (c.in_err-next-in-Next.ensures.answers_as_every_machine_held join), h) }

pub returns-in_ok-remove-in-Remove : goal.returns-in_ok-remove-in-Remove
returns-in_ok-remove-in-Remove g c =
    let κ = g.K.KeyKind in
    let join = g.V.Joining.joined in
    record { answers_and_leaves_as_the_machine = λ m h. rw c.in-Remove.is (called_ok κ join _ _ _ _ _ (λ x. record_at κ join (list_of x c.in-Remove.shelf) c.in-Remove.key) (λ x. after_remove κ x c.in-Remove.shelf c.in-Remove.key) (λ a. Ok (Found a)) m h _ (c.in_ok-remove-in-Remove.ensures.does_as_every_machine_held join)) }

pub returns-in_err-remove-in-Remove : goal.returns-in_err-remove-in-Remove
returns-in_err-remove-in-Remove g c =
    let κ = g.K.KeyKind in
    let join = g.V.Joining.joined in
    let p = err_from_is_err_and c.from_residual-in_err-remove-in-Remove.result c.from_residual-in_err-remove-in-Remove.ensures.1 in
    record { answers_and_leaves_as_the_machine = λ m h. rw (c.in-Remove.is, p.1, p.2) (called_err κ join _ _ _ _ _ (λ x. record_at κ join (list_of x c.in-Remove.shelf) c.in-Remove.key) (λ x. after_remove κ x c.in-Remove.shelf c.in-Remove.key) (λ a. Ok (Found a)) m h _ (c.in_err-remove-in-Remove.ensures.does_as_every_machine_held join)) }

pub returns-in_ok-clear-in-Clear : goal.returns-in_ok-clear-in-Clear
returns-in_ok-clear-in-Clear g c =
    let κ = g.K.KeyKind in
    let join = g.V.Joining.joined in
    record { answers_and_leaves_as_the_machine = λ m h. rw c.in-Clear.is (called_ok κ join _ _ _ _ _ (λ x. tt {0}) (λ x. after_clear κ x c.in-Clear.shelf) (λ _. Ok Done) m h _ (c.in_ok-clear-in-Clear.ensures.does_as_every_machine_held join)) }

pub returns-in_err-clear-in-Clear : goal.returns-in_err-clear-in-Clear
returns-in_err-clear-in-Clear g c =
    let κ = g.K.KeyKind in
    let join = g.V.Joining.joined in
    let p = err_from_is_err_and c.from_residual-in_err-clear-in-Clear.result c.from_residual-in_err-clear-in-Clear.ensures.1 in
    record { answers_and_leaves_as_the_machine = λ m h. rw (c.in-Clear.is, p.1, p.2) (called_err κ join _ _ _ _ _ (λ x. tt {0}) (λ x. after_clear κ x c.in-Clear.shelf) (λ _. Ok Done) m h _ (c.in_err-clear-in-Clear.ensures.does_as_every_machine_held join)) }

pub returns-in_ok-count-in-Count : goal.returns-in_ok-count-in-Count
returns-in_ok-count-in-Count g c =
    let κ = g.K.KeyKind in
    let join = g.V.Joining.joined in
    record { answers_and_leaves_as_the_machine = λ m h. rw c.in-Count.is (counted_ok κ join _ _ m _ h _ (c.in_ok-count-in-Count.ensures.answers_as_every_machine_held join), h) }

pub returns-in_err-count-in-Count : goal.returns-in_err-count-in-Count
returns-in_err-count-in-Count g c =
    let κ = g.K.KeyKind in
    let join = g.V.Joining.joined in
    let p = err_from_is_err_and c.from_residual-in_err-count-in-Count.result c.from_residual-in_err-count-in-Count.ensures.1 in
    record { answers_and_leaves_as_the_machine = λ m h. rw (c.in-Count.is, p.1, p.2) (counted_err κ join _ _ m _ h _ (c.in_err-count-in-Count.ensures.answers_as_every_machine_held join), h) }

pub returns-in-Free : goal.returns-in-Free
returns-in-Free g c =
    let join = g.V.Joining.joined in
    record { answers_and_leaves_as_the_machine = λ m h. rw c.in-Free.is (ap (λ n. Ok (Number n)) (c.free.ensures.answers_as_every_machine_held join _ m h), h) }
