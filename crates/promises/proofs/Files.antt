-- A file of a case is read as it, and what is read as a case is its file. Assumes nothing.
use Prim.Native.Nat.{ℕ}
use mathlib.Core.Path.{◌≡◌}
use mathlib.Core.List.{List}
use Rattle.casefile.specs.Record.{Case}
use Rattle.casefile.specs.Reading.{accepted, reading}
use Rattle.casefile.proofs.Soundness.{sound}
use Rattle.casefile.proofs.Completeness.{complete}
use Rattle.promises.specs.Service.{FileOf}

pub is_file : (f : List ℕ) (c : Case) → reading f ≡ accepted c → FileOf f c
is_file f c e = let (s, v, b) = sound f c e in record { short = s; valid = v; bytes = b }

pub file_is : (f : List ℕ) (c : Case) → FileOf f c → reading f ≡ accepted c
file_is f c k = let e = k.bytes in rw e (complete c k.valid (rw (← e) k.short))
