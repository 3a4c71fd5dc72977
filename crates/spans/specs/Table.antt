-- The span table: p's and P's ends of every span of a hull's zones, four numbers a span. Assumes nothing.
use Rattle.std.specs.Prelude.{ℕ, zero, suc, ◌+◌, ◌-◌, ◌*◌, List, [], ◌∷◌, ◌++◌, length, get_or, replicate}
use Rattle.records.specs.declared.Hull.{Hull}
use Rattle.spans.specs.declared.SpanEnds.{SpanEnds}
use Rattle.spans.specs.Span.{span_ends}

-- the zones from i to j, counted from 0
unfoldable pub span_at : Hull → ℕ → ℕ → SpanEnds
span_at h i j = span_ends h.length (get_or h.places i 0) (get_or h.places (j + 1) 0)

-- a span's four numbers
abbrev pub numbers_of : SpanEnds → List ℕ
numbers_of s = s.inner.lower ∷ s.inner.upper ∷ s.chance.lower ∷ s.chance.upper ∷ []

-- the numbers of g 0, .., g (n - 1), in turn
unfoldable pub joined : (ℕ → List ℕ) → ℕ → List ℕ
joined g zero = []
joined g (suc n) = joined g n ++ g n

-- the spans that end with zone j and begin with one of the first n zones, in turn
unfoldable pub ending_with : Hull → ℕ → ℕ → List ℕ
ending_with h j n = joined (λ i. numbers_of (span_at h i j)) n

-- the spans of the first n zones: by their last zone, and then by their first
unfoldable pub spans_of : Hull → ℕ → List ℕ
spans_of h n = joined (λ j. ending_with h j (j + 1)) n

-- 20 zones have 210 spans, and so 840 numbers; where a hull has fewer, zeros follow
unfoldable pub table_of : Hull → List ℕ
table_of h = spans_of h h.zones ++ replicate (840 - length (spans_of h h.zones)) 0

-- where the span of the zones from a to e, counted from 1, stands in it
abbrev pub place_of : ℕ → ℕ → ℕ
place_of a e = 2 * (e - 1) * e + 4 * (a - 1)

-- what is read there
unfoldable pub span_in : List ℕ → ℕ → ℕ → SpanEnds
span_in t a e =
    let k : ℕ = place_of a e in
    record {
      inner = record { lower = get_or t k 0; upper = get_or t (k + 1) 0 };
      chance = record { lower = get_or t (k + 2) 0; upper = get_or t (k + 3) 0 };
    }
