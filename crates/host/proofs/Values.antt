-- The version's number, computed: of some version, where each place tells, and of this one. Assumes nothing.
use mathlib.Core.Path.{◌≡◌, refl}
use Rattle.host.specs.Version.{numbered, version}

-- 2.3.4 is 20304
pub of_three : numbered 2 3 4 ≡ 20304
unfolding numbered
of_three = refl

-- this version is 7.0.0
pub of_this : version ≡ 70000
unfolding version numbered
of_this = refl
