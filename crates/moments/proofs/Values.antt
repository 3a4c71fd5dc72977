-- Worked values of document 02's "Passenger ships": a ferry with a lever of 90 mm, a range of 16 degrees and no heel, whose final⁴ is 3/4, and one whose s-final
-- is one. Assumes nothing.
use Prim.Native.Nat.{◌*◌, ◌^◌}
use lib.Dec.{lit<}
use native.Mathlib.Omega.{arith}
use Rattle.moments.specs.Held.{Rooted, Held}
use Rattle.moments.proofs.Rooted.{rooted_exactly, rooted_between}

-- at 8,000 t and a heeling moment of 500 tm s-mom is 4/5: four fifths of 0.9306 and of 0.9307 have 0.7445 between them, and the survival is 0.74448
pub ferry : Held (record { bottom = 9306; top = 9307 }) (record { fourth = 90 * 1600 * 640000; caps = 12288000; righting = 50 * 8000; heeling = 500 }) ×
    Rooted (90 * 1600 * 640000 * (50 * 8000) ^ 4) (12288000 * 500 ^ 4) 7444 7445
ferry = (
  record {
    rooted = rooted_between 9306 (lit< tt) (lit< tt);
    at_most_one = omega arith;
    caps_positive = omega arith;
    caps_small = omega arith;
    heeling_positive = omega arith;
    heeling_small = omega arith;
    moment_at_most_one = omega arith;
  },
  rooted_between 7444 (lit< tt) (lit< tt),
)

-- with s-final one the survival is s-mom itself, here 1/2
pub half : Rooted (200 * 2000 * 640000 * (200 * 5000) ^ 4) (25600000 * 2000 ^ 4) 5000 5000
half = rooted_exactly 5000 (lit< tt) (omega arith) (omega arith)
