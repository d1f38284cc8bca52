use Rattle.std.proofs.Common.{get_or, None, ◌∙◌}
use Rattle.std.proofs.lemmas.Result.{err_from_is_err_and}
use Rattle.keys.proofs.Laws.{key_laws}
use Rattle.pool.proofs.After.{beside_at}
use Rattle.maps.proofs.Rooting.{rooted_row}
use Rattle.maps.proofs.Changing.{removed}
use Rattle.maps.proofs.calls.remove.Goals as goal

pub returns : goal.returns
returns g c =
    let law = key_laws g.K.KeyKind g.met.K.KeyKind.places_bounded.1 g.met.K.KeyKind.same_bits in
    let row = c.in_ok-row.ensures.row_or_refusal in
    record {
      does_as_every_machine_held = λ join. (
        (row.0, tt),
        row.1,
        c.settle.ensures.other_rows_unchanged,
        λ m h.
            let done = c.in_ok-removal.ensures.drops_one_key (get_or h.maps c.args.shelf None) h.chain
            (rooted_row g.K.KeyKind law join _ _ m h c.args.shelf row.0 _ row.2) (beside_at g.K.KeyKind law join _ _ m h c.args.shelf row.0) in (
              done.0 ∙ h.found c.args.shelf row.0 c.args.key,
              removed g.K.KeyKind law join c.args.nodes.now c.args.book.now m h c.args.shelf row.0 _ c.settle.new.self _ _ c.remove.auto.nodes (c.settle.ensures.row_and_account_settled row.0) c.args.key done.1,
            ),
      );
    }

pub returns-in_err-removal : goal.returns-in_err-removal
returns-in_err-removal g c =
    let law = key_laws g.K.KeyKind g.met.K.KeyKind.places_bounded.1 g.met.K.KeyKind.same_bits in
    let row = c.in_ok-row.ensures.row_or_refusal in
    let p = err_from_is_err_and c.from_residual-in_err-removal.result c.from_residual-in_err-removal.ensures.1 in
    record {
      does_as_every_machine_held = λ join. rw (p.1, p.2) (
        (row.0, tt),
        (λ m h. c.in_err-removal.ensures.drops_one_key (get_or h.maps c.args.shelf None) h.chain
            (rooted_row g.K.KeyKind law join _ _ m h c.args.shelf row.0 _ row.2) (beside_at g.K.KeyKind law join _ _ m h c.args.shelf row.0)),
        λ other. absurd (other row.1),
      );
    }
