-- Document 01, "Limits", with its numbers, and document 02's of an opening and of passenger ships: what stands on each limit passes, and what stands past it does not. Assumes nothing.
use Prim.Native.Nat.{ℕ, ◌+◌, ◌-◌, ◌*◌}
use mathlib.Core.Path.{◌≡◌, refl}
use mathlib.Core.Bool.{Bool, true, false}
use mathlib.Core.List.{List, [], ◌∷◌}
use lib.IntN.{ℤ, pos, negsuc}
use lib.ListN.{length}
use Rattle.laws.specs.Lists.{tabulate}
use Rattle.records.specs.declared.Finding.{Finding}
use Rattle.records.specs.declared.Flooding.{Flooding}
use Rattle.records.specs.declared.Hull.{Hull}
use Rattle.lines.specs.Lines.{lines}
use Rattle.casefile.specs.declared.Progress.{Progress}
use Rattle.casefile.specs.Record.{Row}
use Rattle.casefile.specs.Limits.{between, sizes_fit, persons_fit, rising_to, zones_fit, head_fits, opening_fits, finding_fits, findings_fit, flooding_fits, floodings_fit, results_fit, row_fits}
use Rattle.casefile.specs.Order.{out_of_order, leaves_open, ends_open}
use Rattle.casefile.specs.Table.{first_holds, row_checks, end_checks}
use Rattle.casefile.specs.Reading.{refused, begin, start, read_from, reading}

-- passes from the one number to the other, and neither that far below nor that far above
abbrev Between : ℕ → (ℕ → Bool) → ℕ → ℕ → Type 0
Between far fits low high = (fits (low - far) ≡ false) × (fits low ≡ true) × (fits high ≡ true) × (fits (high + far) ≡ false)

abbrev UpTo : (ℕ → Bool) → ℕ → Type 0
UpTo fits high = (fits 0 ≡ true) × (fits high ≡ true) × (fits (high + 1) ≡ false)

-- ---- the hull

abbrev hull : ℕ → ℕ → ℕ → ℕ → ℕ → List ℕ → Hull
hull Ls B ds dl m places = record { kind = 1; length = Ls; breadth = B; deepest = ds; light = dl; lifeboats = 0; excess = 0; rule = 0; zones = m; places = places }

abbrev sized : ℕ → ℕ → ℕ → ℕ → Bool
sized Ls B ds dl = sizes_fit (hull Ls B ds dl 1 (0 ∷ Ls ∷ []))

-- a passenger ship, by its length, its breadth, the persons for whom there are lifeboats, those in excess, and its rule
abbrev passengers : ℕ → ℕ → ℕ → ℕ → ℕ → Hull
passengers Ls B n e r = record { kind = 6; length = Ls; breadth = B; deepest = 6000; light = 4000; lifeboats = n; excess = e; rule = r; zones = 1; places = 0 ∷ Ls ∷ [] }

abbrev ferry : ℕ → ℕ → ℕ → ℕ → Bool
ferry Ls B n e = sizes_fit (passengers Ls B n e 0)

-- by its rule and its persons
abbrev manned : ℕ → ℕ → ℕ → Bool
manned r n e = persons_fit (passengers 9900 1600 n e r)

-- so many zones of a metre
abbrev zoned : ℕ → Bool
zoned m = zones_fit (hull (100 * m) 1600 6000 4000 m (tabulate (λ k. 100 * k) (m + 1)))

-- three zones, with these bulkheads between 0 and 9,900
abbrev cut : ℕ → ℕ → Bool
cut x y = zones_fit (hull 9900 1600 6000 4000 3 (0 ∷ x ∷ y ∷ 9900 ∷ []))

pub record Hulls : Type 0 where
  pub length : Between 1 (λ Ls. sized Ls 1600 6000 4000) 8000 19800
  pub breadth : Between 2 (λ B. sized 9900 B 6000 4000) 1000 6000
  pub even : sized 9900 1601 6000 4000 ≡ false
  pub deepest : Between 1 (λ ds. sized 9900 1600 ds ds) 1000 30000
  pub light : (sized 9900 1600 1500 500 ≡ true) × (sized 9900 1600 1499 499 ≡ false) × (sized 9900 1600 6000 6001 ≡ false)
  pub fifths : (sized 9900 1600 6000 3995 ≡ true) × (sized 9900 1600 6000 3996 ≡ false)
  pub zones : Between 1 zoned 1 20
  pub bulkheads : (cut 1 9899 ≡ true) × (cut 0 9899 ≡ false) × (cut 4950 4950 ≡ false) × (cut 1 9900 ≡ false)
  pub ferry_length : Between 1 (λ Ls. ferry Ls 1600 0 0) 2000 19800
  pub ferry_breadth : Between 2 (λ B. ferry 9900 B 0 0) 400 6000
  pub ferry_even : ferry 9900 401 0 0 ≡ false
  pub lifeboats : UpTo (λ n. ferry 9900 1600 n 0) 10000
  pub excess : UpTo (λ e. ferry 9900 1600 0 e) 10000
  pub rule : UpTo (λ r. sizes_fit (passengers 9900 1600 0 0 r)) 1
  pub below_the_band : (manned 1 1350 0 ≡ true) × (manned 1 0 1350 ≡ true) × (manned 1 1000 351 ≡ false)
  pub above_the_band : (manned 1 3000 3000 ≡ false) × (manned 1 6001 0 ≡ true) × (manned 1 0 6001 ≡ true)
  pub no_band : (manned 0 1000 351 ≡ true) × (manned 0 3000 3000 ≡ true)

pub hulls : Hulls
unfolding between sizes_fit persons_fit rising_to zones_fit tabulate
hulls = record {
  length = (refl, refl, refl, refl);
  breadth = (refl, refl, refl, refl);
  even = refl;
  deepest = (refl, refl, refl, refl);
  light = (refl, refl, refl);
  fifths = (refl, refl);
  zones = (refl, refl, refl, refl);
  bulkheads = (refl, refl, refl, refl);
  ferry_length = (refl, refl, refl, refl);
  ferry_breadth = (refl, refl, refl, refl);
  ferry_even = refl;
  lifeboats = (refl, refl, refl);
  excess = (refl, refl, refl);
  rule = (refl, refl, refl);
  below_the_band = (refl, refl, refl);
  above_the_band = (refl, refl, refl);
  no_band = (refl, refl);
}

-- ---- a row, of a ship of two zones and 16 m breadth

abbrev pub found : ℕ → ℕ → ℕ → ℤ → Finding
found g t e o = record { lever = g; range = t; heel = e; opening = o; given = 0 }

abbrev pub survival : ℕ → Finding
survival s = record { lever = 0; range = 0; heel = 0; opening = pos 0; given = s }

abbrev pub row : ℕ → ℕ → ℕ → ℕ → ℕ → Finding → Row
row kind a n b H r = record { head = record { kind = kind; first = a; count = n; depth = b; height = H }; results = record { findings = r ∷ r ∷ r ∷ []; floodings = [] } }

abbrev two_zones : Hull
two_zones = hull 9900 1600 6000 4000 2 (0 ∷ 1500 ∷ 9900 ∷ [])

abbrev placed : ℕ → ℕ → ℕ → ℕ → Bool
placed a n b H = row_fits two_zones (row 2 a n b H (found 0 0 0 (pos 0)))

abbrev resulting : Finding → Bool
resulting r = row_fits two_zones (row 2 1 1 800 18500 r)

-- in a second set, after a first one that fits
abbrev seconding : Finding → Finding → Finding → Bool
seconding r s t =
    row_fits two_zones (record { head = record { kind = 5; first = 1; count = 1; depth = 800; height = 18500 }; results = record { findings = found 0 0 0 (pos 0) ∷ found 0 0 0 (pos 0) ∷ found 0 0 0 (pos 0) ∷ r ∷ s ∷ t ∷ []; floodings = [] } })

-- what a passenger ship's row tells besides, after findings that fit
abbrev pub flooded : ℕ → ℕ → ℕ → ℕ → ℕ → ℕ → Flooding
flooded d m g t e o = record { displacement = d; moment = m; lever = g; range = t; heel = e; roro = o }

abbrev flooding : Flooding → Flooding → Flooding → Bool
flooding u v w =
    row_fits two_zones (record { head = record { kind = 7; first = 1; count = 1; depth = 800; height = 18500 }; results = record { findings = found 0 0 0 (pos 0) ∷ found 0 0 0 (pos 0) ∷ found 0 0 0 (pos 0) ∷ []; floodings = u ∷ v ∷ w ∷ [] } })

-- at each of the three draughts
abbrev thrice : Flooding → Bool
thrice w = flooding w w w

pub record Rows : Type 0 where
  pub first : Between 1 (λ a. placed a 1 800 18500) 1 2
  pub count : Between 1 (λ n. placed 1 n 800 18500) 1 2
  pub group : placed 2 2 800 18500 ≡ false
  pub depth : Between 1 (λ b. placed 1 1 b 18500) 1 800
  pub height : Between 1 (λ H. placed 1 1 800 H) 1 60000
  pub lever : UpTo (λ g. resulting (found g 0 0 (pos 0))) 5000
  pub range : UpTo (λ t. resulting (found 0 t 0 (pos 0))) 9000
  pub heel : UpTo (λ e. resulting (found 0 0 e (pos 0))) 9000
  pub opening_above : UpTo (λ o. resulting (found 0 0 0 (pos o))) 30000
  pub opening_below : (resulting (found 0 0 0 (negsuc 0)) ≡ true) × (resulting (found 0 0 0 (negsuc 29999)) ≡ true) × (resulting (found 0 0 0 (negsuc 30000)) ≡ false)
  pub given : UpTo (λ s. resulting (survival s)) 10000
  pub second : seconding (found 5000 9000 9000 (pos 30000)) (found 5000 9000 9000 (negsuc 29999)) (found 0 0 0 (pos 0)) ≡ true
  pub second_lever : seconding (found 5001 0 0 (pos 0)) (found 0 0 0 (pos 0)) (found 0 0 0 (pos 0)) ≡ false
  pub second_range : seconding (found 0 0 0 (pos 0)) (found 0 9001 0 (pos 0)) (found 0 0 0 (pos 0)) ≡ false
  pub second_opening : seconding (found 0 0 0 (pos 0)) (found 0 0 0 (pos 0)) (found 0 0 0 (negsuc 30000)) ≡ false
  pub displacement : Between 1 (λ d. thrice (flooded d 1 0 0 0 0)) 1 300000
  pub moment : Between 1 (λ m. thrice (flooded 1 m 0 0 0 0)) 1 2000000
  pub stage_lever : UpTo (λ g. thrice (flooded 1 1 g 0 0 0)) 5000
  pub stage_range : UpTo (λ t. thrice (flooded 1 1 0 t 0 0)) 9000
  pub stage_heel : UpTo (λ e. thrice (flooded 1 1 0 0 e 0)) 9000
  pub roro : UpTo (λ o. thrice (flooded 1 1 0 0 0 o)) 1
  pub flooded_deepest : flooding (flooded 300001 1 0 0 0 0) (flooded 1 1 0 0 0 0) (flooded 1 1 0 0 0 0) ≡ false
  pub flooded_partial : flooding (flooded 1 1 0 0 0 0) (flooded 1 2000001 0 0 0 0) (flooded 1 1 0 0 0 0) ≡ false
  pub flooded_light : flooding (flooded 1 1 0 0 0 0) (flooded 1 1 0 0 0 0) (flooded 1 1 0 0 0 2) ≡ false

pub rows : Rows
unfolding between head_fits opening_fits finding_fits findings_fit flooding_fits floodings_fit results_fit row_fits
rows = record {
  first = (refl, refl, refl, refl);
  count = (refl, refl, refl, refl);
  group = refl;
  depth = (refl, refl, refl, refl);
  height = (refl, refl, refl, refl);
  lever = (refl, refl, refl);
  range = (refl, refl, refl);
  heel = (refl, refl, refl);
  opening_above = (refl, refl, refl);
  opening_below = (refl, refl, refl);
  given = (refl, refl, refl);
  second = refl;
  second_lever = refl;
  second_range = refl;
  second_opening = refl;
  displacement = (refl, refl, refl, refl);
  moment = (refl, refl, refl, refl);
  stage_lever = (refl, refl, refl);
  stage_range = (refl, refl, refl);
  stage_heel = (refl, refl, refl);
  roro = (refl, refl, refl);
  flooded_deepest = refl;
  flooded_partial = refl;
  flooded_light = refl;
}

-- ---- the file: how many bytes, how many rows, and the end's count of them

abbrev after : ℕ → Progress
after rows = record { rows = rows; last = start.last; ended = false }

abbrev at_row : ℕ → ℕ
at_row rows = first_holds (row_checks two_zones (after rows) (row 2 1 1 800 18500 (found 0 0 0 (pos 0))))

abbrev at_end : ℕ → ℕ
at_end count = first_holds (end_checks two_zones (after 3) count)

pub record Files : Type 0 where
  pub bytes : (f : List ℕ) → length f ≡ 65536 → reading f ≡ read_from begin 1 (lines f)
  pub byte_more : (f : List ℕ) → length f ≡ 65537 → reading f ≡ refused 1 0
  pub rows : (at_row 499 ≡ 0) × (at_row 500 ≡ 6)
  pub counted : (at_end 2 ≡ 6) × (at_end 3 ≡ 0) × (at_end 4 ≡ 6)

pub files : Files
unfolding reading first_holds row_checks end_checks between head_fits opening_fits finding_fits findings_fit flooding_fits floodings_fit results_fit row_fits out_of_order leaves_open ends_open
files = record { bytes = λ f e. rw e refl; byte_more = λ f e. rw e refl; rows = (refl, refl); counted = (refl, refl, refl) }
