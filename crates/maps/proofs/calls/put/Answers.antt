use Rattle.std.proofs.Common.{get_or, None, refl}
use Rattle.std.proofs.lemmas.Result.{err_from_is_err_and}
use Rattle.keys.proofs.Laws.{key_laws}
use Rattle.pool.proofs.After.{beside_at}
use Rattle.maps.proofs.Rooting.{rooted_row}
use Rattle.maps.proofs.Changing.{put_in, put_fitted}
use Rattle.maps.proofs.Refusing.{put_ends}
use Rattle.maps.proofs.calls.put.Goals as goal

pub returns : goal.returns
returns g c =
    let law = key_laws g.K.KeyKind g.met.K.KeyKind.places_bounded.1 g.met.K.KeyKind.same_bits in
    let row = c.in_ok-row.ensures.row_or_refusal in
    let join = g.V.Joining.joined in
    let associative = g.met.V.Joining.associative in
    record {
      does_as_every_machine_held = (
        (row.0, tt),
        row.1,
        c.settle.ensures.other_rows_unchanged,
        λ m h.
            let left = c.in_ok-root.ensures.adds_one_update (get_or h.maps c.args.shelf None) h.chain
            (rooted_row g.K.KeyKind law join _ _ m h c.args.shelf row.0 _ row.2) (beside_at g.K.KeyKind law join _ _ m h c.args.shelf row.0) in
            let settled = c.settle.ensures.row_and_account_settled row.0 in (
              put_fitted g.K.KeyKind law join c.args.nodes.now c.args.book.now m h c.args.shelf row.0 _ c.settle.new.self _ _ c.insert.auto.nodes settled associative c.args.key c.args.told left,
              refl,
              put_in g.K.KeyKind law join c.args.nodes.now c.args.book.now m h c.args.shelf row.0 _ c.settle.new.self _ _ c.insert.auto.nodes settled associative c.args.key c.args.told left,
            ),
      );
    }

pub returns-in_err-root : goal.returns-in_err-root
returns-in_err-root g c =
    let law = key_laws g.K.KeyKind g.met.K.KeyKind.places_bounded.1 g.met.K.KeyKind.same_bits in
    let row = c.in_ok-row.ensures.row_or_refusal in
    let p = err_from_is_err_and c.from_residual-in_err-root.result c.from_residual-in_err-root.ensures.1 in
    record {
      does_as_every_machine_held = rw (p.1, p.2)
          (put_ends g.K.KeyKind law g.V.Joining.joined c.args.nodes.now _ c.args.book.now c.args.shelf row.0 row.1 _ row.2 c.args.key c.args.told
          c.in_err-root.field-0.0 c.in_err-root.ensures.adds_one_update);
    }
