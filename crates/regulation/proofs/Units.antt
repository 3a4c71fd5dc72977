-- Document 01's units as fractions of the regulation's, millimetres and centimetres of a metre, hundredths of a degree; and the regulation's figures in those.
-- Assumes nothing.
use Prim.Native.Nat.{ℕ, ◌*◌}
use lib.Dec.{lit<}
use Rattle.laws.specs.Fraction.{◌over◌, whole, Is}
use Rattle.laws.proofs.Fraction.{is_over, is_whole, is_widened}
use Rattle.regulation.specs.RegulationIndex.{millimetres, centimetres, hundredths}

pub is_millimetres : (n : ℕ) → Is (millimetres n) n 0 1000
is_millimetres n = is_over n (lit< tt)

pub is_centimetres : (n : ℕ) → Is (centimetres n) n 0 100
is_centimetres n = is_over n (lit< tt)

pub is_hundredths : (n : ℕ) → Is (hundredths n) n 0 100
is_hundredths n = is_over n (lit< tt)

-- n hundredths of a metre in millimetres, and n degrees in hundredths of one
pub metres_in_millimetres : (n : ℕ) → Is (n over 100) (10 * n) 0 1000
metres_in_millimetres n = is_widened 10 (is_over n {d = 100} (lit< tt))

pub degrees_in_hundredths : (n : ℕ) → Is (whole n) (n * 100) 0 100
degrees_in_hundredths n = is_whole n (lit< tt)
