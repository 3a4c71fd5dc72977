-- A passenger ship's survival is told where lever, displacement and moment keep the limits of a case file. Assumes nothing.
use Prim.Native.Nat.{ℕ, ◌≤◌}
use mathlib.Core.Bool.{Bool, true, false, ◌&&◌}
use mathlib.Core.Path.{◌≡◌, refl}
use lib.Dec.{leb}
use borrow.Author.Tests.{leb-true}
use Rattle.laws.proofs.Tests.{both}
use Rattle.records.specs.declared.Finding.{Finding}
use Rattle.records.specs.declared.Flooding.{Flooding}
use Rattle.survival.specs.Survival.{no_survival, Loaded, passenger_survival}
use Rattle.casefile.specs.Limits.{between}
use Rattle.probes.specs.Passengers.{loads, survival_told}

module _ (f : Finding) (w : Flooding) where
  abbrev asked : Bool
  asked = loads f.lever w.displacement w.moment

  pub nothing_told : asked ≡ false → no_survival ≡ survival_told f w
  unfolding survival_told
  nothing_told e = rw e refl

  pub survival_told_lem : asked ≡ true → passenger_survival f w ≡ survival_told f w
  unfolding survival_told
  survival_told_lem e = rw e refl

  pub are_loaded : asked ≡ true → Loaded f w
  unfolding loads between
  are_loaded e =
      let (ab, c) = both (leb f.lever 5000 && between 1 300000 w.displacement) (between 1 2000000 w.moment) e in
      let (a, b) = both (leb f.lever 5000) (between 1 300000 w.displacement) ab in
      let (_, heavy) = both (leb 1 w.displacement) (leb w.displacement 300000) b in
      let (some, most) = both (leb 1 w.moment) (leb w.moment 2000000) c in
      record {
        lever = leb-true f.lever 5000 a;
        displacement = leb-true w.displacement 300000 heavy;
        some = leb-true 1 w.moment some;
        moment = leb-true w.moment 2000000 most;
      }
