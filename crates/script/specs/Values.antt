-- How a key and a record are read and printed.
use Rattle.std.specs.Prelude.{ℕ, ◌^◌, List, [], ◌∷◌, decimal}
use Rattle.keys.specs.declared.values.Word.{Word}
use Rattle.records.specs.declared.values.Hours.{Hours}
use Rattle.records.specs.declared.values.Pair.{Pair}
use Rattle.records.specs.declared.values.Setting.{Setting}
use Rattle.records.specs.declared.values.Tags.{Tags}
use Rattle.script.specs.Readings.{Reading, return, ◌>>=◌, number}

-- a record: hours, and tags with a setting
abbrev pub Lamp : Type 0
Lamp = Pair Hours (Pair Tags Setting)

-- a key has 32 bits
unfoldable pub key : Reading Word
key = do
  n ← number (2 ^ 32)
  return (record { light = n.value; fits = n.fits })

-- the five numbers of a record, of 32, 16, 32, 16 and 16 bits
unfoldable pub lamp : Reading Lamp
lamp = do
  hours ← number (2 ^ 32)
  tags ← number (2 ^ 16)
  stamp ← number (2 ^ 32)
  source ← number (2 ^ 16)
  word ← number (2 ^ 16)
  return (
      record {
        first = record { count = hours.value; fits = hours.fits };
        second = record {
          first = record { bits = tags.value; fits = tags.fits };
          second = record {
            stamp = stamp.value;
            source = source.value;
            word = word.value;
            fits = (stamp.fits, source.fits, word.fits);
          };
        };
      }
      )

-- the word of a key
abbrev pub key_word : Word → List ℕ
key_word k = decimal k.light

-- the five words of a record
abbrev pub lamp_words : Lamp → List (List ℕ)
lamp_words r =
    decimal r.first.count
    ∷ decimal r.second.first.bits
    ∷ decimal r.second.second.stamp
    ∷ decimal r.second.second.source
    ∷ decimal r.second.second.word
    ∷ []
