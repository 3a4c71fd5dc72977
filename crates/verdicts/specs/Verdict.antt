-- Document 01, "Height and survival": the verdict, from ends in billionths and the marks that they are held to. Assumes nothing.
use Rattle.std.specs.Prelude.{ℕ, ◌*◌, ◌^◌, Bool, cond, not, ◌&&◌, List, leb}
use Rattle.records.specs.declared.Ends.{Ends}
use Rattle.records.specs.Ends.{at}
use Rattle.records.specs.declared.Ratio.{Ratio}
use Rattle.verdicts.specs.declared.Compliance.{Compliance}

-- is an end not below the mark? "All compared exactly"
unfoldable pub reaches : ℕ → Ratio → Bool
reaches end mark = leb (10 ^ 9 * mark.num) (end * mark.den)

-- does A's end reach R, and each partial's its mark?
unfoldable pub all_reach : (Ends → ℕ) → Ends → List Ends → Ratio → Ratio → Bool
all_reach end index partials required mark =
    reaches (end index) required && reaches (end (at partials 0)) mark && reaches (end (at partials 1)) mark && reaches (end (at partials 2)) mark

-- the number of what is said
abbrev pub number_of : Compliance → ℕ
number_of Compliance.Meets = 1
number_of Compliance.Fails = 2
number_of Compliance.Unsettled = 3

-- "Verdict 1 meets: lower end of A at least R and each partial's at least R/2. 2 fails: some upper end below its mark. 3 unsettled: otherwise"
unfoldable pub verdict_of : Ends → List Ends → Ratio → Ratio → ℕ
verdict_of index partials required mark =
    cond (all_reach (λ e. e.lower) index partials required mark) 1
    (cond (not (all_reach (λ e. e.upper) index partials required mark)) 2 3)
