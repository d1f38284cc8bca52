use Rattle.std.proofs.Common.{rules, refl, MatchResult}
use Rattle.keys.proofs.Laws.{key_laws}
use Rattle.walks.specs.Landings.{LandsIfAny}
use Rattle.walks.proofs.Growing.{rooted_grows}
use Rattle.walks.proofs.Descending.{landed_lands}
use Rattle.walks.proofs.descent.leaf_towards.Goals as goal

pub returns : goal.returns
returns g c =
    let law = key_laws g.K.KeyKind g.met.K.KeyKind.places_bounded.1 g.met.K.KeyKind.same_bits in
    record {
      by_own_places = c.descend.ensures.by_own_places;
      only_leaf_for_the_key = rooted_grows g.K.KeyKind c.args.nodes.now
          (λ map. MatchResult c.descend.result (λ d. LandsIfAny g.K.KeyKind c.args.key d map) (λ _. ⊥)) refl
          (λ t h. landed_lands g.K.KeyKind c.args.key law t h.ordered c.descend.result
          (c.descend.ensures.where_the_bits_lead (g.K.KeyKind.bit c.args.key) (λ p b e. search rules) t h));
    }
