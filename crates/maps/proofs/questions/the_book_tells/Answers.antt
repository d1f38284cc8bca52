use Rattle.std.proofs.Common.{◌∙◌}
use Rattle.keys.proofs.Laws.{key_laws}
use Rattle.pool.proofs.Told.{row_told, free_told}
use Rattle.maps.proofs.questions.the_book_tells.Goals as goal

pub returns : goal.returns
returns g c =
    let law = key_laws g.K.KeyKind g.met.K.KeyKind.places_bounded.1 g.met.K.KeyKind.same_bits in
    record {
      keys = λ join ns m s n h l e. e ∙ row_told g.K.KeyKind law join ns _ m h s l;
      free_nodes = λ join ns m h. free_told g.K.KeyKind law join ns _ m h;
    }
