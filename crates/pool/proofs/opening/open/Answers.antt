use Rattle.std.proofs.Common.{refl, arith}
use Rattle.pool.proofs.Opened.{opened_holds}
use Rattle.pool.proofs.opening.open.Goals as goal

pub returns : goal.returns
returns g c = record {
  opens_an_empty_pool = (
    omega arith,
    λ join.
        opened_holds g.K.KeyKind c.link_all.new.nodes c.link_all.ensures.each_names_the_next _ _ c.link_all.auto.nodes refl refl refl refl join,
  );
}
