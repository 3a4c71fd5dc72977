-- Q of one span at a layer, put together from the ends of its p and P, and where b may be 0. Assumes nothing.
use mathlib.Core.Path.{◌≡◌, refl, ap}
use Prim.Native.Nat.{ℕ, zero, suc, ◌^◌, ◌≤◌, ◌<◌}
use native.Mathlib.Omega.{arith}
use Rattle.records.specs.declared.Ends.{Ends}
use Rattle.solas.specs.Ship.{Ship}
use Rattle.layers.specs.declared.Layer.{Layer}
use Rattle.spans.specs.declared.SpanEnds.{SpanEnds}
use Rattle.spans.specs.Rounded.{Probable}
use Rattle.spans.specs.Span.{PEnds}
use Rattle.solas.specs.Penetration.{c, d}
use Rattle.layers.specs.Layer.{layer_of}
use Rattle.penetration.specs.Penetration.{GEnds, mixed, QEnds}
use Rattle.penetration.specs.Reached.{Reached}
use Rattle.chances.specs.Share.{within_ends}
use Rattle.laws.proofs.Polynomial.{pow_two}
use Rattle.layers.proofs.Depth.{products, C_at_most_one}
use Rattle.spans.proofs.Enclosure.{P_probable}
use Rattle.penetration.proofs.Reached.{depths}
use Rattle.penetration.proofs.Enclosure.{G_probable, Q_probable}

-- ---- where b is 0, and where it is not

none_is : (s : Ship) (b a e : ℕ) → b ≡ 0 → record { lower = 0; upper = 0 } ≡ within_ends s b a e
unfolding within_ends
none_is s b a e z = rw z

some_is : (s : Ship) (b a e : ℕ) → (b ≡ 0 → ⊥) → QEnds s.L s.B (s.aft a) (s.fwd e) b ≡ within_ends s b a e
unfolding within_ends
some_is s zero a e f = absurd (f refl)
some_is s (suc b) a e f = refl

pub at_none : (s : Ship) (b a e : ℕ) → b ≡ 0 → (record { lower = 0; upper = 0 } ≡ within_ends s b a e) × Probable (record { lower = 0; upper = 0 })
at_none s b a e z = (none_is s b a e z, record { ordered = omega arith; at_most_one = omega arith })

-- ---- from P, G and C

module _ (h : Ship) {a e : ℕ} {s : SpanEnds} {y : Layer} (r : Reached h.L h.B (h.aft a) (h.fwd e) s.inner y) (p : s.chance ≡ PEnds h.L (h.aft a) (h.fwd e)) where
  c_is : y.c ≡ c h.B y.depth
  unfolding layer_of
  c_is = ap (λ z. z.c) r.layer

  d_is : y.d ≡ d h.B
  unfolding layer_of
  d_is = ap (λ z. z.d) r.layer

  weights : (0 < y.d) × (y.c ≤ y.d) × (y.d ≤ 10 ^ 9)
  unfolding d
  weights =
      let q = C_at_most_one h.B y.depth (depths r) in
      let n = products h.B y.depth (depths r) in
      rw (c_is, d_is) (q.0, q.1, rw (pow_two h.B) (omega arith))

  chance_fits : Probable s.chance
  chance_fits = rw p (P_probable h.L (h.aft a) (h.fwd e) r.long r.short r.within)

  module _ {g : Ends} (f : g ≡ GEnds h.L h.B (h.aft a) (h.fwd e) y.depth) where
    g_fits : Probable g
    g_fits = rw f (G_probable h.L (h.aft a) (h.fwd e) r.long r.short r.within h.B y.depth (depths r))

    pub mixes : (0 < y.d) × (y.c ≤ y.d) × (y.d ≤ 10 ^ 9) × Probable s.chance × Probable g
    mixes = let w = weights in (w.0, w.1, w.2, chance_fits, g_fits)

    q_is : mixed y.c y.d s.chance g ≡ QEnds h.L h.B (h.aft a) (h.fwd e) y.depth
    unfolding QEnds
    q_is = rw (f, p, c_is, d_is)

    pub at_some : {q : Ends} → (y.depth ≡ 0 → ⊥) → q ≡ mixed y.c y.d s.chance g → (q ≡ within_ends h y.depth a e) × Probable q
    at_some n i = (
      rw (i, q_is) (some_is h y.depth a e n),
      rw (i, q_is) (Q_probable h.L (h.aft a) (h.fwd e) r.long r.short r.within h.B y.depth (depths r)),
    )
