-- What is read of a subdivision's span table: the span of some of its zones, as a layer takes it. Assumes nothing.
use mathlib.Core.Path.{◌≡◌, ap, ◌∙◌}
use mathlib.Core.List.{List}
use Prim.Native.Nat.{ℕ, ◌-◌, ◌≤◌}
use native.Mathlib.Omega.{arith}
use lib.ListN.{length}
use Rattle.records.specs.declared.Hull.{Hull}
use Rattle.layers.specs.declared.Layer.{Layer}
use Rattle.spans.specs.declared.SpanEnds.{SpanEnds}
use Rattle.spans.specs.Span.{p_ends, PEnds, span_ends}
use Rattle.spans.specs.Hull.{ship_of, Hulled}
use Rattle.spans.specs.Table.{table_of, span_in}
use Rattle.penetration.specs.Reached.{Reached}
use Rattle.groups.specs.Layered.{Layered}
use Rattle.spans.proofs.Places.{place_below, place_within}
use Rattle.spans.proofs.Table.{table_long, span_read}

module _ (h : Hull) {t : List ℕ} (p : Hulled h) (i : t ≡ table_of h) (a e : ℕ) (from : 1 ≤ a) (order : a ≤ e) (to : e ≤ h.zones) where
  pub in_table : (1 ≤ a) × (a ≤ e) × (e ≤ 20) × (length t ≡ 840)
  in_table = (from, order, omega (arith, p.few, to), rw i (table_long h p))

  module _ {s : SpanEnds} {y : Layer} (v : Layered h.breadth y) (read : s ≡ span_in t a e) where
    span_is : s ≡ span_ends h.length ((ship_of h).aft a) ((ship_of h).fwd e)
    span_is = read ∙ rw i (span_read h p a e from order to)

    inner_is : s.inner ≡ p_ends h.length ((ship_of h).fwd e - (ship_of h).aft a)
    unfolding span_ends
    inner_is = ap (λ z. z.inner) span_is

    chance_is : s.chance ≡ PEnds h.length ((ship_of h).aft a) ((ship_of h).fwd e)
    unfolding span_ends
    chance_is = ap (λ z. z.chance) span_is

    reached : Reached h.length h.breadth ((ship_of h).aft a) ((ship_of h).fwd e) s.inner y
    reached = record {
      long = omega (arith, p.long);
      short = p.short;
      broad = omega (arith, p.broad);
      narrow = p.narrow;
      rising = place_below p (omega (arith, order)) to;
      within = place_within p to;
      deep = v.deep;
      inner = inner_is;
      layer = v.layer;
    }

    pub span_lent : Reached h.length h.breadth ((ship_of h).aft a) ((ship_of h).fwd e) s.inner y × (s.chance ≡ PEnds h.length ((ship_of h).aft a) ((ship_of h).fwd e))
    span_lent = (reached, chance_is)
