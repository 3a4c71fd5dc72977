-- The library's version, which a host can ask for: major, minor and patch as one number. Assumes nothing.
use Rattle.std.specs.Prelude.{ℕ, ◌+◌, ◌*◌}

-- three numbers as one: two decimal places each for minor and patch, so that a later version is a greater number
unfoldable pub numbered : ℕ → ℕ → ℕ → ℕ
numbered major minor patch = 10000 * major + 100 * minor + patch

-- this version
unfoldable pub version : ℕ
version = numbered 7 0 0
