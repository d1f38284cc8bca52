-- What two records of each kind join to.
use Rattle.std.specs.Prelude.{◌≡◌, ℕ, ◌+◌, ◌*◌, ◌<◌, ◌⊎◌, bit_or}
use Rattle.std.proofs.lemmas.Nat.{or_lt}
use Rattle.records.specs.declared.values.Hours.{Hours}
use Rattle.records.specs.declared.values.Pair.{Pair}
use Rattle.records.specs.declared.values.Setting.{Setting}
use Rattle.records.specs.declared.values.Tags.{Tags}
use Rattle.records.specs.Larger.{larger}

-- the larger count of hours
abbrev pub more_hours : Hours → Hours → Hours
more_hours a b = larger (λ h. h.count) a b

-- every tag of either
abbrev pub all_tags : Tags → Tags → Tags
all_tags a b = record { bits = bit_or a.bits b.bits; fits = or_lt 16 a.bits b.bits a.fits b.fits }

-- a pair joins part by part
abbrev pub parts_joined : {A B : Type 0} → (A → A → A) → (B → B → B) → Pair A B → Pair A B → Pair A B
parts_joined join_first join_second p q =
    record { first = join_first p.first q.first; second = join_second p.second q.second }

-- a setting's place in the order, as one number: the stamp counts most, then the source, then the word
abbrev pub setting_rank : Setting → ℕ
setting_rank s = (s.stamp * 65536 + s.source) * 65536 + s.word

-- the setting that stands later in the order
abbrev pub later_setting : Setting → Setting → Setting
later_setting a b = larger setting_rank a b

-- the order in words: by stamp, then by source, then by word
abbrev pub Before : Setting → Setting → Type 0
Before a b =
    (a.stamp < b.stamp)
    ⊎ ((a.stamp ≡ b.stamp) × ((a.source < b.source) ⊎ ((a.source ≡ b.source) × (a.word < b.word))))

-- r is the later of a and b in that order
abbrev pub Later : Setting → Setting → Setting → Type 0
Later a b r = (Before a b → r ≡ b) × ((Before a b → ⊥) → r ≡ a)
