-- The turned layer: byte b is kept below as 255 - b.
use Rattle.std.specs.Prelude.{ℕ, ◌-◌, map}
use Rattle.pages.specs.Image.{Image}

abbrev pub turn : ℕ → ℕ
turn b = 255 - b

-- what the layer means over a store of meaning m
abbrev pub turned : Image → Image
turned m = record { pages = map (map turn) m.pages; charge = m.charge }
