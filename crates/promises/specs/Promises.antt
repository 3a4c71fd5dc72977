-- WHAT A READER MAY RELY ON: the four promises of an accepted file, in the order of document 01's third demand. Assumes nothing.
use Rattle.std.specs.Prelude.{ℕ, ◌+◌, ◌*◌, ◌≤◌, ◌≡◌, List, ◌↔◌, ◌⊎◌, length}
use Rattle.laws.specs.Fraction.{Fraction, whole, ◌≈◌, ◌≼◌}
use Rattle.numbers.specs.Figures.{billionths}
use Rattle.records.specs.declared.Answer.{Answer}
use Rattle.records.specs.declared.Ends.{Ends}
use Rattle.records.specs.Ends.{at}
use Rattle.indices.specs.Exact.{RowAt, NoneAbove, NoneBelow, weighted_sum, Thrice, AtEach, exact_A}
use Rattle.verdicts.specs.Required.{required_of, mark_of}
use Rattle.verdicts.specs.Promises.{ByEnds, ReachAll, OneShort}
use Rattle.casefile.specs.Record.{Case}
use Rattle.casefile.specs.Reading.{accepted, reading}
use Rattle.answers.specs.Answer.{answer, answered}
use Rattle.promises.specs.Rows.{rows_of, chances, AllListed}

module _ (c : Case) (r : Answer) where
  -- what is said of the rows at a draught and of the ends of its partial index, said at the deepest, the partial and the light draught
  abbrev pub AtDraughts : (List RowAt → Ends → Type 0) → Type 0
  AtDraughts P = P (rows_of c).deepest (at r.partials 0) × P (rows_of c).partial (at r.partials 1) × P (rows_of c).light (at r.partials 2)

  -- ---- 1: the ends enclose. For "every list of fractions, none negative, one per row and draught": "where no fourth power is above its row's s⁴, the
  -- fractions weighted by exact share and v sum to no more than the upper end; where none is below, to no less than the lower"; "A with its own weights"
  pub record Enclosure : Type 0 where
    pub no_more : AtDraughts (λ rows ends. (xs : List Fraction) → NoneAbove rows xs → weighted_sum rows xs ≼ billionths ends.upper)
    pub no_less : AtDraughts (λ rows ends. (xs : List Fraction) → NoneBelow rows xs → billionths ends.lower ≼ weighted_sum rows xs)
    pub attained_no_more : (xs : Thrice (List Fraction)) → AtEach NoneAbove (rows_of c) xs → exact_A (rows_of c) xs ≼ billionths r.attained.upper
    pub attained_no_less : (xs : Thrice (List Fraction)) → AtEach NoneBelow (rows_of c) xs → billionths r.attained.lower ≼ exact_A (rows_of c) xs

  -- ---- 2: the ends are close: "at most 100,000 billionths apart plus 40 a row", the lower not above the upper
  pub record Near (e : Ends) : Type 0 where
    pub ordered : e.lower ≤ e.upper
    pub near : e.upper ≤ e.lower + (100000 + 40 * length c.rows)

  pub record Width : Type 0 where
    pub partials : AtDraughts (λ rows ends. Near ends)
    pub attained : Near r.attained

  -- ---- 3: "At each draught the exact chances of the listed cases total at most one, and one exactly when every zone group of non-zero share is listed"
  pub record Chances : Type 0 where
    pub at_most_one : AtDraughts (λ rows ends. chances rows ≼ whole 1)
    pub one : AtDraughts (λ rows ends. (chances rows ≈ whole 1) ↔ AllListed c)

  -- ---- 4: '"meets" is never said of a ship that falls short, nor "fails" of one that reaches'. 1 only if A reaches R and each partial index its mark for all
  -- lists with no fourth power below; 2 only if one of the four, fixed first, is below its mark for every list with none above. 1 exactly when each lower
  -- end reaches its mark, 2 exactly when not and some upper end is below its mark, 3 exactly when neither; and no other verdict is given
  pub record Verdict : Type 0 where
    pub meets : r.verdict ≡ 1 → (xs : Thrice (List Fraction)) → AtEach NoneBelow (rows_of c) xs → ReachAll (rows_of c) (required_of c.hull) (mark_of c.hull) xs
    pub fails : r.verdict ≡ 2 → OneShort (rows_of c) (required_of c.hull) (mark_of c.hull)
    pub by_ends_lem : ByEnds r.attained r.partials (required_of c.hull) (mark_of c.hull) r.verdict
    pub no_other : (r.verdict ≡ 1) ⊎ ((r.verdict ≡ 2) ⊎ (r.verdict ≡ 3))

  -- ---- all four; and no line, and the file's own row count
  pub record Kept : Type 0 where
    pub no_line : r.line ≡ 0
    pub rows : r.rows ≡ length c.rows
    pub enclosure : Enclosure
    pub width : Width
    pub chances : Chances
    pub verdict : Verdict

-- they are kept by the answer of every accepted file
abbrev pub Promise : Type 0
Promise = (f : List ℕ) (c : Case) → reading f ≡ accepted c → Kept c (answer c)

-- and so by what the entry returns: its contract says that its result r is `answered` of the reading of its input, for a sheet of so many numbers
abbrev pub PromiseOfTheEntry : Type 0
PromiseOfTheEntry = (f : List ℕ) (size : ℕ) (r : Answer) → r ≡ answered (reading f) size → r.number ≡ 0 → (c : Case) × (reading f ≡ accepted c) × Kept c r
