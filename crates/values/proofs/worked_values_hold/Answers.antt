use Rattle.std.proofs.Common.{refl, lit<}
use Rattle.keys.specs.Bits.{binary}
use Rattle.keys.specs.Split.{split, split_from}
use Rattle.values.proofs.worked_values_hold.Goals as goal

pub returns : goal.returns
unfolding binary split split_from
returns c = record {
  computed = record {
    words_three_and_five_part = refl;
    cell_number = refl;
    cell_order = lit< tt;
    more_hours = refl;
    later_setting = refl;
    pair_of_tags_and_setting = refl;
    lamp_code = refl;
    lamp_width = refl;
    pool_of_three = refl;
    pool_of_none = refl;
  };
}
