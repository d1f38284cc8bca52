use Rattle.std.proofs.Common.{get_or, None, ◌∙◌}
use Rattle.keys.proofs.Laws.{key_laws}
use Rattle.trees.specs.Tree.{entries_if_any}
use Rattle.trees.proofs.Rising.{map_rises}
use Rattle.pool.proofs.Nexts.{next_told}
use Rattle.pool.specs.Machine.{list_of}
use Rattle.maps.proofs.Rooting.{ok_same, rooted_row}
use Rattle.maps.proofs.questions.next.Goals as goal

pub returns : goal.returns
returns g c =
    let law = key_laws g.K.KeyKind g.met.K.KeyKind.places_bounded.1 g.met.K.KeyKind.same_bits in
    let row = c.in_ok-row.ensures.row_or_refusal in
    record {
      answers_as_every_machine_held = λ join. (
        (row.0, tt),
        row.1,
        λ m h.
            let map = get_or h.maps c.args.shelf None in
            let rooted = rooted_row g.K.KeyKind law join _ _ m h c.args.shelf row.0 _ row.2 in
            ok_same _ _ (c.in_ok-next.ensures.finds_the_next_entry map rooted)
            ∙ next_told g.K.KeyKind law join c.args.bound (entries_if_any map) (list_of m c.args.shelf) (map_rises g.K.KeyKind map rooted.ordered) (h.found c.args.shelf row.0),
      );
    }
