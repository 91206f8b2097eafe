-- What an accepted reading can bring.
use Rattle.std.specs.Prelude.{◌≤◌, ℤ, pos, negsuc, ◌≤ℤ◌}
use Rattle.reading.specs.declared.reading.Reading.{Reading}

-- a signed number of sixteen bits
pub record Signed16 (z : ℤ) : Type 0 where
  pub low : negsuc 32767 ≤ℤ z
  pub high : z ≤ℤ pos 32767

-- the ranges of a record of the kind R
pub record InReadingRange (r : Reading) : Type 0 where
  pub earliest : 1 ≤ r.elapsed
  pub latest : r.elapsed ≤ 60000
  pub voltage : r.voltage ≤ 6000
  pub current : Signed16 r.current
  pub cell : Signed16 r.cell
  pub die : Signed16 r.die
