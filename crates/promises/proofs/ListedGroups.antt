-- The groups that the rows of a case list: their numbers rise, so together they give at most what all groups give, and as much exactly when none that
-- gives is left out. Assumes nothing.
use Prim.Native.Nat.{ℕ, suc, ◌*◌, ◌≤◌, ◌<◌}
use mathlib.Core.Path.{◌≡◌, refl, sym, ◌∙◌, ap₂, subst}
use mathlib.Core.Bool.{Bool, true, false}
use mathlib.Core.List.{List, [], ◌∷◌, map, Memᴰ}
use mathlib.Core.Logic.{◌↔◌}
use native.Mathlib.Omega.{arith}
use Rattle.laws.specs.Lists.{Every, Rising}
use Rattle.laws.specs.Sums.{sum_of}
use Rattle.laws.proofs.Listed.{listed_not_above, listed_equal}
use Rattle.laws.proofs.Tests.{holds}
use Rattle.records.specs.declared.Hull.{Hull}
use Rattle.records.specs.declared.RowHead.{RowHead}
use Rattle.solas.specs.Ship.{Ship}
use Rattle.solas.specs.Count.{Group, groups}
use Rattle.spans.specs.Hull.{ship_of}
use Rattle.casefile.specs.Record.{Row}
use Rattle.casefile.specs.Limits.{row_fits}
use Rattle.casefile.specs.Order.{same_group}
use Rattle.casefile.specs.Valid.{SameGroup, Follows, higher, deeper, later, ValidRow, Ordered}
use Rattle.casefile.proofs.Limits.{row_is}
use Rattle.casefile.proofs.Order.{same_group_lem, is_same, not_same}
use Rattle.casefile.proofs.Groups.{After, after_linked}
use Rattle.promises.proofs.Numbered.{place, place_below, place_rises, place_tells, by_place, all_places, at_place, has_place}
use Rattle.promises.proofs.Weighed.{later_groups, groups_in}

module _ (h : Hull) where
  abbrev s : Ship
  s = ship_of h

  -- a head is of one of the ship's groups; its number
  abbrev pub OfGroup : RowHead → Type 0
  OfGroup k = Group s k.first k.count

  abbrev pub number_of : RowHead → ℕ
  number_of k = place s k.first k.count

  pub of_groups : (rs : List Row) → Every (ValidRow h) rs → Every (λ (r : Row). OfGroup r.head) rs
  of_groups [] v = tt
  of_groups (r ∷ rs) v =
      let fits = (row_is h r (holds (row_fits h r) v.0.limits)).0 in
      (record { from = fits.first; some = fits.count; fits = fits.within }, of_groups rs v.1)

  one_number : (b r : RowHead) → SameGroup b r → number_of r ≡ number_of b
  one_number b r (a, n) = rw (a, n) refl

  -- ---- their numbers rise
  abbrev RiseFrom : RowHead → List Row → Type 0
  RiseFrom b rs = Rising (suc (number_of b)) (s.m * s.m) (map number_of (later_groups b rs))

  one_row : (b : RowHead) (r : Row) (rs : List Row) → OfGroup b → OfGroup r.head → Follows h b r.head → RiseFrom r.head rs → RiseFrom b (r ∷ rs)
  one_row b r rs g e (higher k d l t) rest = rw (is_same b r.head k, ← one_number b r.head k) rest
  one_row b r rs g e (deeper k d t) rest = rw (is_same b r.head k, ← one_number b r.head k) rest
  one_row b r rs g e (later l c) rest = rw (not_same b r.head l) (place_rises s g e l, place_below s e, rest)

  numbers_rise : (b : RowHead) (rs : List Row) → OfGroup b → Every (λ (r : Row). OfGroup r.head) rs → After h b rs → RiseFrom b rs
  numbers_rise b [] g e a = tt
  numbers_rise b (r ∷ rs) g e a = one_row b r rs g e.0 a.0 (numbers_rise r.head rs e.0 e.1 a.1)

  pub listed_rise : (rs : List Row) → Ordered h rs → Every (λ (r : Row). OfGroup r.head) rs → Rising 0 (s.m * s.m) (map number_of (groups_in rs))
  listed_rise [] o e = tt
  listed_rise (r ∷ rs) o e = (omega arith, place_below s e.0, numbers_rise r.head rs e.0 e.1 (after_linked h r rs o.0 o.1))

  -- ---- each row's group is among them, and each of them is some row's
  abbrev Among : ℕ → List RowHead → Type 0
  Among k ks = Memᴰ k (map number_of ks)

  with_row_lem : (b : RowHead) (x : Row) (rs : List Row) (k : ℕ) (t : Bool) → same_group b x.head ≡ t → Among k (x.head ∷ later_groups x.head rs) → Among k (b ∷ later_groups b (x ∷ rs))
  with_row_lem b x rs k true t (Memᴰ.head e) = Memᴰ.head (e ∙ one_number b x.head (same_group_lem b x.head t))
  with_row_lem b x rs k true t (Memᴰ.tail n) = rw t (Memᴰ.tail n)
  with_row_lem b x rs k false t n = rw t (Memᴰ.tail n)

  in_later : (b : RowHead) (rs : List Row) (r : Row) → Memᴰ r rs → Among (number_of r.head) (b ∷ later_groups b rs)
  in_later b [] r x' = elim x' [ ]
  in_later b (x ∷ rs) r (Memᴰ.head e) = with_row_lem b x rs (number_of r.head) (same_group b x.head) refl (rw e (Memᴰ.head refl))
  in_later b (x ∷ rs) r (Memᴰ.tail n) = with_row_lem b x rs (number_of r.head) (same_group b x.head) refl (in_later x.head rs r n)

  pub row_listed : (rs : List Row) (r : Row) → Memᴰ r rs → Memᴰ (number_of r.head) (map number_of (groups_in rs))
  row_listed [] r x' = elim x' [ ]
  row_listed (x ∷ rs) r (Memᴰ.head e) = rw e (Memᴰ.head refl)
  row_listed (x ∷ rs) r (Memᴰ.tail m) = in_later x.head rs r m

  abbrev SomeRow : ℕ → List Row → Type 0
  SomeRow k rs = (r : Row) × Memᴰ r rs × (number_of r.head ≡ k)

  further : (k : ℕ) (x : Row) (rs : List Row) → SomeRow k rs → SomeRow k (x ∷ rs)
  further k x rs (r, i, e) = (r, Memᴰ.tail i, e)

  of_row : (b : RowHead) (x : Row) (rs : List Row) (k : ℕ) (t : Bool) → same_group b x.head ≡ t → (Among k (later_groups x.head rs) → SomeRow k rs) →
      Among k (later_groups b (x ∷ rs)) → SomeRow k (x ∷ rs)
  of_row b x rs k true t rest m = further k x rs (rest (rw t at m))
  of_row b x rs k false t rest m = here (rw t at m)
    where
      here : Among k (x.head ∷ later_groups x.head rs) → SomeRow k (x ∷ rs)
      here (Memᴰ.head e) = (x, Memᴰ.head refl, sym e)
      here (Memᴰ.tail n) = further k x rs (rest n)

  from_later : (b : RowHead) (rs : List Row) (k : ℕ) → Among k (later_groups b rs) → SomeRow k rs
  from_later b [] k m = elim m [ ]
  from_later b (x ∷ rs) k m = of_row b x rs k (same_group b x.head) refl (λ n. from_later x.head rs k n) m

  pub listed_row : (rs : List Row) (k : ℕ) → Memᴰ k (map number_of (groups_in rs)) → (r : Row) × Memᴰ r rs × (number_of r.head ≡ k)
  listed_row [] k x' = elim x' [ ]
  listed_row (x ∷ rs) k (Memᴰ.head e) = (x, Memᴰ.head refl, sym e)
  listed_row (x ∷ rs) k (Memᴰ.tail m) = let (r, i, e) = from_later x.head rs k m in (r, Memᴰ.tail i, e)

  -- ---- what they give together
  module _ (f : ℕ → ℕ → ℕ) where
    abbrev given : RowHead → ℕ
    given k = f k.first k.count

    abbrev GivenAlike : List RowHead → Type 0
    GivenAlike ks = sum_of given ks ≡ sum_of (by_place s f) (map number_of ks)

    one_given : (b : RowHead) (r : Row) (rs : List Row) (t : Bool) → same_group b r.head ≡ t → OfGroup r.head → GivenAlike (later_groups r.head rs) → GivenAlike (later_groups b (r ∷ rs))
    one_given b r rs true t g rest = rw t rest
    one_given b r rs false t g rest = rw t (omega (arith, rest, at_place s f g))

    later_given : (b : RowHead) (rs : List Row) → Every (λ (r : Row). OfGroup r.head) rs → GivenAlike (later_groups b rs)
    later_given b [] e = refl
    later_given b (r ∷ rs) e = one_given b r rs (same_group b r.head) refl e.0 (later_given r.head rs e.1)

    listed_given : (rs : List Row) → Every (λ (r : Row). OfGroup r.head) rs → GivenAlike (groups_in rs)
    listed_given [] e = refl
    listed_given (r ∷ rs) e = omega (arith, later_given r.head rs e.1, at_place s f e.0)

    module _ (rs : List Row) (o : Ordered h rs) (e : Every (λ (r : Row). OfGroup r.head) rs) where
      pub listed_at_most : sum_of given (groups_in rs) ≤ groups f s.m
      listed_at_most = omega (arith, listed_given rs e, all_places s f, listed_not_above (by_place s f) (s.m * s.m) (map number_of (groups_in rs)) (listed_rise rs o e))

      -- as much exactly when each group that gives is listed
      abbrev pub NoneLeftOut : Type 0
      NoneLeftOut = (a n : ℕ) → Group s a n → 0 < f a n → (r : Row) × Memᴰ r rs × (r.head.first ≡ a) × (r.head.count ≡ n)

      row_of : (r : Row) (qs : List Row) → Every (λ (r : Row). OfGroup r.head) qs → Memᴰ r qs → OfGroup r.head
      row_of r [] g m = elim m [ ]
      row_of r (x ∷ qs) g (Memᴰ.head i) = rw i g.0
      row_of r (x ∷ qs) g (Memᴰ.tail m) = row_of r qs g.1 m

      all_counted : sum_of given (groups_in rs) ≡ groups f s.m → NoneLeftOut
      all_counted t a n g p =
          let told = (listed_equal (by_place s f) (s.m * s.m) (map number_of (groups_in rs)) (listed_rise rs o e)).0 (omega (arith, listed_given rs e, all_places s f, t)) in
          let (r, m, q) = listed_row rs (place s a n) (told (place s a n) (place_below s g) (rw (at_place s f g) p)) in
          let (x, y) = place_tells s (row_of r rs e m) g q in
          (r, m, x, y)

      none_lost : NoneLeftOut → sum_of given (groups_in rs) ≡ groups f s.m
      none_lost t =
          let all = (listed_equal (by_place s f) (s.m * s.m) (map number_of (groups_in rs)) (listed_rise rs o e)).1 found in
          omega (arith, listed_given rs e, all_places s f, all)
        where
          found : (k : ℕ) → k < s.m * s.m → 0 < by_place s f k → Memᴰ k (map number_of (groups_in rs))
          found k l p =
              let (a, n, g, q) = has_place s f k l p in
              let (r, m, x, y) = t a n g (rw (← at_place s f g, q) p) in
              subst (λ i. Among i (groups_in rs)) (ap₂ (place s) x y ∙ q) (row_listed rs r m)

      pub all_exactly_when : (sum_of given (groups_in rs) ≡ groups f s.m) ↔ NoneLeftOut
      all_exactly_when = (all_counted, none_lost)
