-- The order of a case's rows, from any row before them on. Assumes nothing.
use mathlib.Core.Path.{◌≡◌, refl}
use mathlib.Core.List.{List, [], ◌∷◌}
use mathlib.Core.Logic.{◌⊎◌, inl, inr, ⊎_elim}
use Rattle.laws.specs.Lists.{Every, last, Linked}
use Rattle.records.specs.declared.Hull.{Hull}
use Rattle.records.specs.declared.RowHead.{RowHead}
use Rattle.casefile.specs.Record.{Row}
use Rattle.casefile.specs.Reading.{start}
use Rattle.casefile.specs.Valid.{ClosesGroup, Follows, Ordered}

-- each row may follow the one before it, of which there may be none, and the last closes its group
abbrev pub OrderedFrom : Hull → RowHead → List Row → Type 0
OrderedFrom h b [] = (b.kind ≡ 0) ⊎ ClosesGroup h b
OrderedFrom h b (r ∷ rs) = ((b.kind ≡ 0) ⊎ Follows h b r.head) × OrderedFrom h r.head rs

abbrev pub Some : Row → Type 0
Some r = r.head.kind ≡ 0 → ⊥

or_else : {A B : Type 0} → (A → ⊥) → A ⊎ B → B
or_else n = ⊎_elim (λ a. absurd (n a)) (λ b. b)

module _ (h : Hull) where
  linked : (r : Row) (rs : List Row) → Some r → Every Some rs → OrderedFrom h r.head rs →
      Linked (λ (x : Row) (y : Row). Follows h x.head y.head) r rs × ClosesGroup h (last r rs).head
  linked r [] s ss o = (tt, or_else s o)
  linked r (x ∷ rs) s ss o = let (l, c) = linked x rs ss.0 ss.1 o.1 in ((or_else s o.0, l), c)

  chained : (r : Row) (rs : List Row) → Linked (λ (x : Row) (y : Row). Follows h x.head y.head) r rs → ClosesGroup h (last r rs).head → OrderedFrom h r.head rs
  chained r [] l c = inr c
  chained r (x ∷ rs) l c = (inr l.0, chained x rs l.1 c)

  pub ordered : (rs : List Row) → Every Some rs → OrderedFrom h start.last rs → Ordered h rs
  ordered [] ss o = tt
  ordered (r ∷ rs) ss o = linked r rs ss.0 ss.1 o.1

  pub from_start : (rs : List Row) → Ordered h rs → OrderedFrom h start.last rs
  from_start [] o = inl refl
  from_start (r ∷ rs) o = (inl refl, chained r rs o.0 o.1)
