-- Document 01, "Height and survival": the middle draught, the weights of the three draughts, R and the partial mark; and R and the mark of document 02's
-- passenger ships. Assumes nothing.
use Rattle.std.specs.Prelude.{ℕ, ◌+◌, ◌-◌, ◌*◌, ◌/◌, ◌≤◌, cond, List, [], ◌∷◌, ◌⊎◌, leb, ltb}
use Rattle.laws.specs.Fraction.{Fraction, ◌over◌, whole, ◌⊹◌, ◌⊛◌}
use Rattle.solas.specs.Span.{half}

-- the middle draught between the deepest, ds, and the light one, dl; whole where ds - dl is a multiple of 5
unfoldable pub dp : ℕ → ℕ → ℕ
dp ds dl = dl + 3 * (ds - dl) / 5

-- deepest, partial, light: the order in which the three draughts travel
abbrev pub draughts : ℕ → ℕ → List ℕ
draughts ds dl = ds ∷ dp ds dl ∷ dl ∷ []

-- A of the three partial indices
unfoldable pub attained : Fraction → Fraction → Fraction → Fraction
attained As Ap Al = (whole 2 ⊛ As ⊹ whole 2 ⊛ Ap ⊹ Al) ⊛ (1 over 5)

-- the required index of a cargo ship of L centimetres
unfoldable pub R : ℕ → Fraction
R L = cond (ltb 10000 L) ((L + 2400) over (L + 15200)) ((L * (L + 2400)) over (L * (L + 2400) + 128000000))

-- what each of its partial indices must reach
unfoldable pub partial_mark : ℕ → Fraction
partial_mark L = half (R L)

-- the persons counted, of n1 with a place in a lifeboat and n2 beyond them: document 003, 10.2, "N = N1 + 2N2"
unfoldable pub persons : ℕ → ℕ → ℕ
persons n1 n2 = n1 + 2 * n2

-- the required index of a passenger ship of L centimetres with n persons counted, by the earlier rule: document 003, 10.2
unfoldable pub passenger_R : ℕ → ℕ → Fraction
passenger_R L n = (L + 250 * n + 1022500) over (L + 250 * n + 1522500)

-- so many persons that the rule of 2020 has no logarithm of them
abbrev pub NoLogarithm : ℕ → Type 0
NoLogarithm n = (n ≤ 1350) ⊎ (6001 ≤ n)

-- its R, of n persons, each counted once: document 02, ticket 7; of others it says nothing
unfoldable pub R2020 : ℕ → Fraction
R2020 n = cond (ltb n 400) (722 over 1000) (cond (leb n 1350) ((5000 * n + 25363817) over 37900000) ((769 * n + 3318000) over (800 * (n + 5000))))

-- what each partial index of a passenger ship must reach, of whichever R: document 02, ticket 6, "each partial must reach 0.9 R"
unfoldable pub passenger_mark : Fraction → Fraction
passenger_mark r = (9 over 10) ⊛ r
