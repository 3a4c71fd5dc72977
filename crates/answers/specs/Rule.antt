-- What the rule of a passenger ship decides of its answer, the verdict and nothing else, and what its verdicts under both rules tell of each other. Assumes nothing.
use Rattle.std.specs.Prelude.{ℕ, ◌+◌, ◌≤◌, ◌≡◌}
use Rattle.solas.specs.Rules.{Within}
use Rattle.casefile.specs.Record.{Case}
use Rattle.casefile.specs.Reading.{accepted}
use Rattle.answers.specs.Answer.{answer, shares}
use Rattle.answers.specs.Report.{lines_in}

-- the same case, under a rule
abbrev pub under : ℕ → Case → Case
under rule c =
    let h = c.hull in
    record {
      hull = record { kind = h.kind; length = h.length; breadth = h.breadth; deepest = h.deepest; light = h.light; lifeboats = h.lifeboats; excess = h.excess; rule = rule; zones = h.zones; places = h.places };
      rows = c.rows;
    }

-- every other figure, the sheet, and what each row's line is printed from are the same
pub record RuleDecidesTheVerdictAlone : Type 0 where
  pub figures : (rule : ℕ) (c : Case) → answer (under rule c) ≡ record { number = 0; line = 0; verdict = (answer (under rule c)).verdict; rows = (answer c).rows; attained = (answer c).attained; partials = (answer c).partials }
  pub sheet : (rule : ℕ) (c : Case) → shares (under rule c) ≡ shares c
  pub lines : (rule : ℕ) (c : Case) → lines_in (accepted (under rule c)) ≡ lines_in (accepted c)

-- a rule asks for no more than another: a ship that meets the other meets it too, and one that fails it fails the other
pub record AsksNoMore (c : Case) (rule other : ℕ) : Type 0 where
  pub meets : (answer (under other c)).verdict ≡ 1 → (answer (under rule c)).verdict ≡ 1
  pub fails : (answer (under rule c)).verdict ≡ 2 → (answer (under other c)).verdict ≡ 2

-- a passenger ship of 20 to 400 m, with persons that a case file takes
pub record Compares (c : Case) : Type 0 where
  pub passengers : c.hull.kind ≡ 6
  pub within : Within c.hull.length c.hull.lifeboats c.hull.excess

-- the earlier rule asks for no more up to 1,350 persons and from 6,001 to 8,112; from 16,305 on that of 2020 asks for no more
pub record RulesByVerdict : Type 0 where
  pub few : (c : Case) → Compares c → c.hull.lifeboats + c.hull.excess ≤ 1350 → AsksNoMore c 0 1
  pub many : (c : Case) → Compares c → 6001 ≤ c.hull.lifeboats + c.hull.excess → c.hull.lifeboats + c.hull.excess ≤ 8112 → AsksNoMore c 0 1
  pub most : (c : Case) → Compares c → 16305 ≤ c.hull.lifeboats + c.hull.excess → AsksNoMore c 1 0
