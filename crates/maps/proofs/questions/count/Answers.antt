use Rattle.std.proofs.Common.{rules, ◌≡◌, ◌<◌, slice_index_or}
use Rattle.pool.specs.GoodOrder.{empty_row}
use Rattle.maps.proofs.questions.count.Goals as goal

pub returns : goal.returns
returns g c =
    let low : c.args.shelf < 8 = search rules in
    let keys : c.in_ok-row.row.now.keys ≡ (slice_index_or c.args.book.now.shelves c.args.shelf empty_row).keys = search rules in
    record { answers_as_every_machine_held = λ join. (low, λ ns m h. c.the_book_tells.ensures.keys join ns m c.args.shelf _ h low keys) }
