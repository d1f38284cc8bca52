use Rattle.std.proofs.Common.{get_or, None, refl}
use Rattle.std.proofs.lemmas.Result.{err_from_is_err_and}
use Rattle.keys.proofs.Laws.{key_laws}
use Rattle.pool.proofs.After.{beside_at}
use Rattle.maps.proofs.Rooting.{rooted_row}
use Rattle.maps.proofs.Changing.{cleared}
use Rattle.maps.proofs.calls.clear.Goals as goal

pub returns : goal.returns
returns g c =
    let law = key_laws g.K.KeyKind g.met.K.KeyKind.places_bounded.1 g.met.K.KeyKind.same_bits in
    let row = c.in_ok-row.ensures.row_or_refusal in
    record {
      does_as_every_machine_held = λ join. (
        (row.0, tt),
        row.1,
        c.settle.ensures.other_rows_unchanged,
        λ m h. (
          refl,
          cleared g.K.KeyKind law join c.args.nodes.now c.args.book.now m h c.args.shelf row.0 _ c.settle.new.self _ _ c.clear.auto.nodes (c.settle.ensures.row_and_account_settled row.0)
              (c.in_ok-account.ensures.gives_all_back (get_or h.maps c.args.shelf None) h.chain
              (rooted_row g.K.KeyKind law join _ _ m h c.args.shelf row.0 _ row.2) (beside_at g.K.KeyKind law join _ _ m h c.args.shelf row.0)),
        ),
      );
    }

pub returns-in_err-account : goal.returns-in_err-account
returns-in_err-account g c =
    let law = key_laws g.K.KeyKind g.met.K.KeyKind.places_bounded.1 g.met.K.KeyKind.same_bits in
    let row = c.in_ok-row.ensures.row_or_refusal in
    let p = err_from_is_err_and c.from_residual-in_err-account.result c.from_residual-in_err-account.ensures.1 in
    record {
      does_as_every_machine_held = λ join. rw (p.1, p.2) (
        (row.0, tt),
        (λ m h. c.in_err-account.ensures.gives_all_back (get_or h.maps c.args.shelf None) h.chain
            (rooted_row g.K.KeyKind law join _ _ m h c.args.shelf row.0 _ row.2) (beside_at g.K.KeyKind law join _ _ m h c.args.shelf row.0)),
        λ other. absurd (other row.1),
      );
    }
