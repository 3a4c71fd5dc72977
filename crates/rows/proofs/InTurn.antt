-- The rows worked through in turn: after some of them, what is known and what is left come to what all of them come to. Assumes nothing.
use Prim.Native.Nat.{ℕ, suc, ◌+◌, ◌-◌, ◌*◌, ◌^◌, ◌≤◌, ◌<◌}
use mathlib.Core.Path.{◌≡◌, refl, sym, ◌∙◌, ap, subst}
use mathlib.Core.List.{List, [], ◌∷◌, ◌++◌, append_assoc, append-nil}
use native.Mathlib.Omega.{arith}
use lib.ListN.{length}
use Rattle.records.specs.declared.Hull.{Hull}
use Rattle.records.specs.declared.Ends.{Ends}
use Rattle.solas.specs.Count.{added, taken}
use Rattle.solas.specs.Index.{draughts}
use Rattle.chances.specs.Share.{within_ends, sums_of, nothing, Few, lowest, highest, row_of, row_ends}
use Rattle.chances.proofs.Ends.{few_none}
use Rattle.survival.specs.Survival.{survivals_of}
use Rattle.indices.specs.Index.{partials, plus, Share, Given, Within}
use Rattle.indices.proofs.Rows.{row_weights}
use Rattle.indices.proofs.Sums.{partials_snoc, row_within, plus_within, none_within, within_wider}
use Rattle.casefile.specs.Record.{Row}
use Rattle.casefile.specs.Kept.{place_width, kept_row, kept_rows}
use Rattle.rows.specs.declared.Standing.{Standing}
use Rattle.rows.specs.declared.Running.{Running}
use Rattle.rows.specs.Standing.{nowhere, stands}
use Rattle.rows.specs.Work.{share_at, sums_at, part_at, adds_at, adds_from}
use Rattle.rows.specs.Running.{begun, entered, Stood, Follow, SharesFit}

-- before the first row there is no part
no_part : (h : Hull) → record { group = nothing; share = record { lower = 0; upper = 0 } } ≡ part_at h nowhere
unfolding sums_at share_at row_ends row_of lowest highest sums_of added taken within_ends
no_part h = refl

-- ---- what is known of some rows, with what is left, comes to what all of them come to

module _ (kept : List ℕ) (rows : ℕ) where
  -- the rows that are left after i, and all of them
  abbrev pub left : ℕ → List Row
  left i = kept_rows (rows - i) kept i

  abbrev pub all : List Row
  all = kept_rows rows kept 0

  pub all_left : left 0 ≡ all
  all_left = ap (λ k. kept_rows k kept 0) (omega arith)

  pub one_of_them : (i : ℕ) → i < rows → left i ≡ kept_row kept i ∷ left (i + 1)
  unfolding kept_rows
  one_of_them i more = let e : rows - i ≡ suc (rows - (i + 1)) = omega arith in rw e refl

  pub none_left : (i : ℕ) → rows ≤ i → left i ≡ []
  unfolding kept_rows
  none_left i last = let e : rows - i ≡ 0 = omega arith in rw e refl

module _ (h : Hull) (kept : List ℕ) (rows : ℕ) where
  pub record Reached (s : Running) (i : ℕ) : Type 0 where
    pub within : i ≤ rows
    pub follow : Follow h s.standing (left kept rows i)
    pub part : s.part ≡ part_at h s.standing
    pub few : Few s.part.group
    pub small : Within (i * 10 ^ 9) s.sums
    pub done : List (List Ends)
    pub sums : s.sums ≡ partials done
    pub added : done ++ adds_from h s.standing (left kept rows i) ≡ adds_from h nowhere (all kept rows)

  -- before the first row
  pub starts : Follow h nowhere (all kept rows) → {s : Running} → s ≡ begun → Reached s 0
  unfolding begun
  starts w e =
      let none : 0 * 10 ^ 9 ≡ 0 = omega arith in
      rw e
      (record {
        within = omega arith;
        follow = rw (all_left kept rows) w;
        part = no_part h;
        few = few_none;
        small = rw none none_within;
        done = [];
        sums = refl;
        added = rw (all_left kept rows) refl;
      })

  -- ---- one row more

  module _ (s : Running) (i : ℕ) (g : Reached s i) (more : i < rows) where
    abbrev pub row : Row
    row = kept_row kept i

    abbrev pub there : Standing
    there = stands s.standing row.head

    abbrev pub others : List Row
    others = left kept rows (i + 1)

    next_is : left kept rows i ≡ row ∷ others
    next_is = one_of_them kept rows i more

    pub may_stand : Stood h there × Given row.results × Follow h there others
    may_stand = subst (Follow h s.standing) next_is g.follow

    pub may_enter : place_width * i + place_width ≤ length kept → rows ≤ 500 →
        (place_width * i + place_width ≤ length kept) × Stood h there × Given row.results × (s.part ≡ part_at h s.standing) × Few s.part.group × Within (2 ^ 61) s.sums
    may_enter room few = (room, may_stand.0, may_stand.1, g.part, g.few, within_wider (omega arith) g.small)

    module _ (fit : SharesFit h) {t : Running} (after : t ≡ entered h s row.head row.results) (still : Few t.part.group) where
      abbrev adds : List Ends
      adds = adds_at h there row.results

      pub stands_there : t.standing ≡ there
      unfolding entered
      stands_there = ap (λ u. u.standing) after

      pub part_there : t.part ≡ part_at h there
      unfolding entered
      part_there = ap (λ u. u.part) after

      pub survivals_there : t.survivals ≡ survivals_of row.head.kind row.results
      unfolding entered
      survivals_there = ap (λ u. u.survivals) after

      sums_there : t.sums ≡ plus s.sums adds
      unfolding entered
      sums_there = ap (λ u. u.sums) after

      adds_small : Within (10 ^ 9) adds
      unfolding adds_at
      adds_small = row_within (fit there may_stand.0) (row_weights there.below there.head.height (draughts h.deepest h.light) there.head.kind may_stand.1)

      pub goes_on : Reached t (i + 1)
      unfolding adds_from
      goes_on =
          let adding : adds_from h s.standing (left kept rows i) ≡ adds ∷ adds_from h there others = rw next_is refl in
          let far : (i + 1) * 10 ^ 9 ≡ i * 10 ^ 9 + 10 ^ 9 = omega arith in
          record {
            within = omega arith;
            follow = rw stands_there may_stand.2;
            part = part_there ∙ ap (part_at h) (sym stands_there);
            few = still;
            small = rw (far, sums_there) (plus_within g.small adds_small);
            done = g.done ++ adds ∷ [];
            sums = sums_there ∙ ap (λ u. plus u adds) g.sums ∙ sym (partials_snoc g.done adds);
            added = rw stands_there (append_assoc g.done (adds ∷ []) (adds_from h there others) ∙ ap (λ u. g.done ++ u) (sym adding) ∙ g.added);
          }

  -- ---- after the last row

  module _ (s : Running) (i : ℕ) (g : Reached s i) (last : rows ≤ i) where
    pub sums_are : s.sums ≡ partials (adds_from h nowhere (all kept rows))
    unfolding adds_from
    sums_are =
        let none : adds_from h s.standing (left kept rows i) ≡ [] = rw (none_left kept rows i last) refl in
        g.sums ∙ ap partials (sym (append-nil g.done) ∙ ap (λ u. g.done ++ u) (sym none) ∙ g.added)
