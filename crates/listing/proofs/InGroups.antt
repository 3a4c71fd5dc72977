-- The groups' shares, group by group: those done, with those left, are those of all. Assumes nothing.
use Prim.Native.Nat.{ℕ, zero, suc, ◌+◌, ◌-◌, ◌*◌, ◌/◌, ◌≤◌, ◌<◌}
use mathlib.Core.Path.{◌≡◌, refl, sym, ◌∙◌, ap, subst}
use mathlib.Core.List.{List, [], ◌∷◌, ◌++◌}
use native.Mathlib.Omega.{arith}
use lib.ListN.{length, drop}
use lib.Seq.{sets}
use Rattle.laws.proofs.Pieces.{Put, put_none, put_more, put_all, put_in_front}
use Rattle.records.specs.declared.Ends.{Ends}
use Rattle.records.specs.declared.Hull.{Hull}
use Rattle.solas.specs.Count.{Group}
use Rattle.spans.specs.Hull.{ship_of}
use Rattle.chances.specs.Share.{row_ends}
use Rattle.rows.specs.Work.{numbers}
use Rattle.listing.specs.Hull.{group_ends, groups_at, groups_from, group_numbers}
use Rattle.listing.proofs.HullNumbers.{length_from, length_groups}

module _ (h : Hull) where
  -- from the group of n zones from zone a on
  unfoldable pub left : ℕ → ℕ → List Ends
  left a n = groups_at h a n (h.zones + 2 - (a + n)) ++ groups_from h (a + 1) (h.zones - a)

  -- from a zone's first group on
  zone_whole : (a k : ℕ) → groups_at h a 1 k ++ groups_from h (a + 1) (k - 1) ≡ groups_from h a k
  unfolding groups_at groups_from
  zone_whole a zero = refl
  zone_whole a (suc k) = let e : suc k - 1 ≡ k = omega arith in rw e refl

  from_zone : (a k : ℕ) → a + k ≡ h.zones + 1 → left a 1 ≡ groups_from h a k
  unfolding left
  from_zone a k e =
      let p : h.zones + 2 - (a + 1) ≡ k = omega (arith, e) in
      let q : h.zones - a ≡ k - 1 = omega (arith, e) in
      rw (p, q) (zone_whole a k)

  one_taken : (a n : ℕ) → a + n ≤ h.zones + 1 → left a n ≡ group_ends h a n ∷ left a (n + 1)
  unfolding left groups_at
  one_taken a n l =
      let e : h.zones + 2 - (a + n) ≡ suc (h.zones + 2 - (a + (n + 1))) = omega (arith, l) in
      rw e refl

  -- past a zone's last group: the next zone's follow
  last_passed : (a n : ℕ) → a ≤ h.zones → h.zones + 2 ≤ a + n → left a n ≡ left (a + 1) 1
  unfolding left groups_at
  last_passed a n l m =
      let p : h.zones + 2 - (a + n) ≡ zero = omega (arith, m) in
      sym (from_zone (a + 1) (h.zones - a) (omega (arith, l)) ∙ rw p refl)

  left_none : (a n : ℕ) → h.zones < a → 1 ≤ n → left a n ≡ []
  unfolding left groups_at groups_from
  left_none a n l k =
      let p : h.zones + 2 - (a + n) ≡ zero = omega (arith, l, k) in
      let q : h.zones - a ≡ zero = omega (arith, l) in
      rw (p, q) refl

  -- ---- the groups in turn

  module _ (first : List ℕ) where
    -- after i groups, before that of n zones from zone a: one of the hull's, or past the last
    pub record InGroups (out : List ℕ) (a n i : ℕ) : Type 0 where
      pub from : 1 ≤ a
      pub some : 1 ≤ n
      pub count : 2 * i + 2 * length (left a n) ≡ h.zones * (h.zones + 1)
      pub put : Put 2 0 first (group_numbers h) out (numbers (left a n)) i

    pub no_group : InGroups first 1 1 0
    unfolding group_numbers
    no_group =
        let e : left 1 1 ≡ groups_from h 1 h.zones = from_zone 1 h.zones (omega arith) in
        record {
          from = omega arith;
          some = omega arith;
          count = omega (arith, ap length e, length_from h 1 h.zones);
          put = rw e (put_none 2 0 first (group_numbers h));
        }

    module _ {out : List ℕ} {a n i : ℕ} (b : InGroups out a n i) where
      -- one that is the hull's
      module _ (l : a + n ≤ h.zones + 1) where
        pub group_is : Group (ship_of h) a n
        group_is = record { from = b.from; some = b.some; fits = l }

        pub room : 2 * i + 2 ≤ h.zones * (h.zones + 1)
        room = omega (arith, b.count, ap length (one_taken a n l))

        module _ {next : List ℕ} {e : Ends} (q : e ≡ row_ends (ship_of h) a n 0 (h.breadth / 2)) (w : next ≡ sets out (2 * i) (e.lower ∷ e.upper ∷ [])) where
          two_more : (rest : List Ends) → left a n ≡ group_ends h a n ∷ rest → Put 2 0 first (group_numbers h) next (numbers rest) (i + 1)
          unfolding group_ends
          two_more rest t =
              let g = group_ends h a n in
              let place : 0 + 2 * i ≡ 2 * i = omega arith in
              put_more 2 0 first (group_numbers h) (g.lower ∷ g.upper ∷ [])
              (subst (λ es. Put 2 0 first (group_numbers h) out (numbers es) i) t b.put)
              refl (w ∙ rw (q, place) refl)

          pub next_group : InGroups next a (n + 1) (i + 1)
          next_group =
              let t = one_taken a n l in
              record {
                from = b.from;
                some = omega arith;
                count = omega (arith, b.count, ap length t);
                put = two_more (left a (n + 1)) t;
              }

      -- past a zone's last group
      pub next_zone : a ≤ h.zones → h.zones + 2 ≤ a + n → InGroups out (a + 1) 1 i
      next_zone l m =
          let t = last_passed a n l m in
          record {
            from = omega arith;
            some = omega arith;
            count = omega (arith, b.count, ap length t);
            put = subst (λ es. Put 2 0 first (group_numbers h) out (numbers es) i) t b.put;
          }

      -- past the last
      pub all_groups : h.zones < a → h.zones * (h.zones + 1) ≤ length first → out ≡ group_numbers h ++ drop (h.zones * (h.zones + 1)) first
      all_groups l room =
          put_in_front first (group_numbers h)
          (put_all 2 0 first (group_numbers h) (subst (λ es. Put 2 0 first (group_numbers h) out (numbers es) i) (left_none a n l b.some) b.put))
          (length_groups h) room
