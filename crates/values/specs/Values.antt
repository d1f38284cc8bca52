-- Worked values, as one theorem over the definitions that the contracts use.
use Rattle.std.specs.Prelude.{◌≡◌, ℕ, ◌^◌, ◌<◌, [], ◌∷◌, Ok, Err}
use Rattle.std.proofs.Common.{lit<}
use Rattle.keys.specs.Model.{number, Precedes}
use Rattle.keys.specs.Split.{split}
use Rattle.keys.specs.declared.values.Word.{Word}
use Rattle.keys.specs.declared.values.Cell.{Cell}
use Rattle.keys.specs.contracts.word.WordKeyKind.TheImpl.{ghosts as word_kind}
use Rattle.keys.specs.contracts.cell.CellKeyKind.TheImpl.{ghosts as cell_kind}
use Rattle.records.specs.Pairs.{pair_code, pair_width}
use Rattle.records.specs.declared.values.Hours.{Hours}
use Rattle.records.specs.declared.values.Setting.{Setting}
use Rattle.records.specs.contracts.hours.HoursRecordKind.TheImpl.{ghosts as hours_kind}
use Rattle.records.specs.contracts.tags.TagsRecordKind.TheImpl.{ghosts as tags_kind}
use Rattle.records.specs.contracts.setting.SettingRecordKind.TheImpl.{ghosts as setting_kind}
use Rattle.records.specs.contracts.hours.HoursJoining.TheImpl.{ghosts as hours_join}
use Rattle.records.specs.contracts.setting.SettingJoining.TheImpl.{ghosts as setting_join}
use Rattle.records.specs.declared.values.Mark.{Mark}
use Rattle.records.specs.contracts.mark.MarkJoining.TheImpl.{ghosts as mark_join}
use Rattle.causes.specs.declared.cause.Cause.TheVariants.{TooFewNodes}
use Rattle.pool.specs.Machine.{opened}
use Rattle.runs.specs.declared.call.Call.{Call}
use Rattle.runs.specs.declared.call.Call.TheVariants.{Put, Count, Free}
use Rattle.runs.specs.declared.answer.Answer.TheVariants.{Done, Number}
use Rattle.runs.specs.Runs.{told}

-- a word from its numbers
abbrev word : (n : ℕ) → n < 2 ^ 32 → Word
word n h = record { light = n; fits = h }

-- a cell from its numbers
abbrev cell : (r c : ℕ) → r < 2 ^ 16 → c < 2 ^ 16 → Cell
cell r c h g = record { row = r; column = c; fits = (h, g) }

-- a count of hours from its numbers
abbrev hours : (n : ℕ) → n < 2 ^ 32 → Hours
hours n h = record { count = n; fits = h }

-- a setting from its numbers
abbrev setting : (t s w : ℕ) → t < 2 ^ 32 → s < 2 ^ 16 → w < 2 ^ 16 → Setting
setting t s w h g f = record { stamp = t; source = s; word = w; fits = (h, g, f) }

-- the join of marks, of which there is one
abbrev marks : Mark → Mark → Mark
marks = mark_join.joined

-- a put of a mark at a word, on shelf 0
abbrev put_word : (n : ℕ) → n < 2 ^ 32 → Call Word Mark
put_word n h = Put 0 (word n h) (record {})

-- the values: words 3 and 5 part at place 29, cells (2, 3), (1, 1) and (0, 2), joins, codes and the width of the lamp record
pub record Values : Type 0 where
  pub words_three_and_five_part : split word_kind (word 3 (lit< tt)) (word 5 (lit< tt)) ≡ 29
  pub cell_number : number cell_kind (cell 2 3 (lit< tt) (lit< tt)) ≡ 13
  pub cell_order : Precedes cell_kind (cell 1 1 (lit< tt) (lit< tt)) (cell 0 2 (lit< tt) (lit< tt))
  pub more_hours : hours_join.joined (hours 120 (lit< tt)) (hours 90 (lit< tt)) ≡ hours 120 (lit< tt)
  pub later_setting : setting_join.joined (setting 10 1 7 (lit< tt) (lit< tt) (lit< tt)) (setting 10 2 3 (lit< tt) (lit< tt) (lit< tt)) ≡ setting 10 2 3 (lit< tt) (lit< tt) (lit< tt)
  pub pair_of_tags_and_setting : pair_code tags_kind.CODE setting_kind.CODE ≡ 291
  pub lamp_code : pair_code hours_kind.CODE (pair_code tags_kind.CODE setting_kind.CODE) ≡ 563
  pub lamp_width : pair_width hours_kind.WIDTH (pair_width tags_kind.WIDTH setting_kind.WIDTH) ≡ 14
  -- a pool of three: lights 3 and 5 leave no node free, a third light is refused, news of light 3 is not
  pub pool_of_three : told word_kind marks (opened 3) (put_word 3 (lit< tt) ∷ put_word 5 (lit< tt) ∷ Free ∷ put_word 9 (lit< tt) ∷ put_word 3 (lit< tt) ∷ Count 0 ∷ [])
      ≡ Ok Done ∷ Ok Done ∷ Ok (Number 0) ∷ Err TooFewNodes ∷ Ok Done ∷ Ok (Number 2) ∷ []
  -- a pool of none has no room for any light
  pub pool_of_none : told word_kind marks (opened 0) (put_word 3 (lit< tt) ∷ []) ≡ Err TooFewNodes ∷ []
