-- How many numbers a host is told of any bytes. Assumes nothing.
use Rattle.std.specs.Prelude.{ℕ, List, Option, None}
use Rattle.casefile.specs.Reading.{Reading, refused, accepted}
use Rattle.printing.specs.Written.{length_in}

-- all of them, or nothing where the bytes are refused or there is too little room
unfoldable pub told_in : Reading → List ℕ → List ℕ → Option ℕ
told_in (refused k l) told lent = None
told_in (accepted c) told lent = length_in told lent
