-- A refusal by its number, and what the code's results say tells which they are: no two say the same. Assumes nothing.
use Prim.Native.Nat.{ℕ}
use mathlib.Core.Path.{◌≡◌, refl, sym, ◌∙◌, ap}
use mathlib.Core.Bool.{cond}
use lib.Dec.{eqb}
use Rattle.std.specs.Prelude.{Option, Some, None, Result, Ok, Err}
use Rattle.std.proofs.lemmas.Option.{none-some}
use Rattle.casefile.specs.declared.Accepted.{Accepted}
use Rattle.casefile.specs.declared.Fault.{Fault}
use Rattle.casefile.specs.declared.Refused.{Refused}
use Rattle.casefile.specs.Judged.{Judgement}
use Rattle.casefile.specs.Told.{number_of_fault, judgement_told}

fault_of : ℕ → Option Fault
fault_of k =
    cond (eqb k 1) (Some Fault.TooLong)
    (cond (eqb k 2) (Some Fault.BadlyWritten)
    (cond (eqb k 3) (Some Fault.WrongFrame)
    (cond (eqb k 4) (Some Fault.Sizes)
    (cond (eqb k 5) (Some Fault.Zones)
    (cond (eqb k 6) (Some Fault.Count)
    (cond (eqb k 7) (Some Fault.Limits)
    (cond (eqb k 8) (Some Fault.OutOfOrder)
    (cond (eqb k 9) (Some Fault.LeftOpen)
    (cond (eqb k 10) (Some Fault.NoEnd)
    (cond (eqb k 11) (Some Fault.ShortSheet)
    (cond (eqb k 13) (Some Fault.PersonsBand) None)))))))))))

by_number : (f : Fault) → fault_of (number_of_fault f) ≡ Some f
unfolding fault_of
by_number Fault.TooLong = refl
by_number Fault.BadlyWritten = refl
by_number Fault.WrongFrame = refl
by_number Fault.Sizes = refl
by_number Fault.Zones = refl
by_number Fault.Count = refl
by_number Fault.Limits = refl
by_number Fault.OutOfOrder = refl
by_number Fault.LeftOpen = refl
by_number Fault.NoEnd = refl
by_number Fault.ShortSheet = refl
by_number Fault.PersonsBand = refl

-- a refusal has a number
pub some_number : (f : Fault) → number_of_fault f ≡ 0 → ⊥
unfolding fault_of
some_number f e = none-some f (ap fault_of (sym e) ∙ by_number f)

-- and no two have the same
pub number_tells : (f g : Fault) → number_of_fault f ≡ number_of_fault g → f ≡ g
number_tells f g e = let same : Some f ≡ Some g = sym (by_number f) ∙ ap fault_of e ∙ by_number g in cc

-- so that what is said of a file says which result it is
pub judgement_tells : (r s : Result Accepted Refused) → judgement_told r ≡ judgement_told s → r ≡ s
judgement_tells (Ok a) (Ok b) e = rw (ap (λ (j : Judgement). j.rows) e, ap (λ (j : Judgement). j.hull) e) refl
judgement_tells (Ok a) (Err q) e = absurd (some_number q.fault (sym (ap (λ (j : Judgement). j.number) e)))
judgement_tells (Err p) (Ok b) e = absurd (some_number p.fault (ap (λ (j : Judgement). j.number) e))
judgement_tells (Err p) (Err q) e = rw (number_tells p.fault q.fault (ap (λ (j : Judgement). j.number) e), ap (λ (j : Judgement). j.line) e) refl
