-- The layout of values in words. An integer is a word whose low two bits are 0. Any other value is a reference, the
-- address of its first word plus 1; the number of its map is its first word, the number of an object its second, both
-- tagged as integers.
use Rattle.std.specs.Prelude.{ℕ, ◌+◌, ◌-◌, ◌/◌, ◌%◌, nat_eq, if◌then◌else◌}
use Rattle.sparc_store.specs.Words.{Words, word_at}

-- the number of a value's map; the integers have the map 0
abbrev pub map_at : Words → ℕ → ℕ
map_at mem value = if nat_eq (value % 4) 0 then 0 else word_at mem (value - 1) / 4

-- the number of an object
abbrev pub number_at : Words → ℕ → ℕ
number_at mem object = word_at mem (object + 3) / 4
