-- The verdict is right: by its ends, and by every exact figure that the ends enclose. Assumes nothing.
use Prim.Native.Nat.{ℕ, ◌*◌, ◌^◌, ◌<◌}
use mathlib.Core.Bool.{Bool, true, false, cond, not, ◌&&◌}
use mathlib.Core.List.{List, []}
use mathlib.Core.Path.{◌≡◌, refl}
use native.Mathlib.Omega.{arith}
use lib.Dec.{leb, lit<}
use borrow.Author.Tests.{leb-true, leb-false}
use Rattle.laws.specs.Fraction.{Fraction, whole, Is, ◌≼◌, ◌≺◌}
use Rattle.laws.specs.Rounding.{ceil}
use Rattle.laws.proofs.Fraction.{is_over, ≈_sym, ≼_of_≈, ≼_trans, below_across, strictly_below_across}
use Rattle.laws.proofs.FractionCompare.{≼_of_≺, across_below, across_strictly_below, below_then_strictly, strictly_then_below}
use Rattle.numbers.specs.Figures.{billionths}
use Rattle.records.specs.declared.Ends.{Ends}
use Rattle.records.specs.declared.Hull.{Hull}
use Rattle.records.specs.Ends.{at}
use Rattle.numbers.specs.Ratio.{ratio_of}
use Rattle.numbers.proofs.Ratios.{ratio_positive, is_ratio}
use Rattle.indices.specs.Index.{partials, attained_of}
use Rattle.indices.specs.Exact.{partials_of}
use Rattle.indices.proofs.Enclosure.{billionths_none, no_more_than_upper, no_less_than_lower, attained_no_more, attained_no_less}
use Rattle.verdicts.specs.Required.{required_of, mark_of}
use Rattle.verdicts.specs.Verdict.{reaches, all_reach, verdict_of}
use Rattle.verdicts.specs.Promises.{AllFour, OneOfFour, attained, at_deepest, at_partial, at_light, Meets, Fails, ByEnds, VerdictByEnds, MeetsIsRight, OneShort, FailsIsRight}
use Rattle.verdicts.proofs.ByHull.{required_of_positive, mark_of_not_negative}
-- checked first, so that a definition that gives another verdict is refused there
use Rattle.verdicts.proofs.Values.{at_the_mark}

-- a test that tells which of two facts holds, of which only one can
data Tells (P Q : Type 0) : Bool → Type 0 where
  yes : P → (Q → ⊥) → Tells P Q true
  no : (P → ⊥) → Q → Tells P Q false

-- of four tests
four : {a b c d : Bool} {P Q P' Q' P'' Q'' P''' Q''' : Type 0} → Tells P Q a → Tells P' Q' b → Tells P'' Q'' c → Tells P''' Q''' d →
    Tells (AllFour P P' P'' P''') (OneOfFour Q Q' Q'' Q''') (a && b && c && d)
four (no n q) t u v = no (λ m. n m.attained) (attained q)
four (yes p r) (no n q) u v = no (λ m. n m.at_deepest) (at_deepest q)
four (yes p r) (yes p' r') (no n q) v = no (λ m. n m.at_partial) (at_partial q)
four (yes p r) (yes p' r') (yes p'' r'') (no n q) = no (λ m. n m.at_light) (at_light q)
four {Q = Q} {Q' = Q'} {Q'' = Q''} {Q''' = Q'''} (yes p r) (yes p' r') (yes p'' r'') (yes p''' r''') = yes (record { attained = p; at_deepest = p'; at_partial = p''; at_light = p''' }) none
  where
    none : OneOfFour Q Q' Q'' Q''' → ⊥
    none (attained q) = r q
    none (at_deepest q) = r' q
    none (at_partial q) = r'' q
    none (at_light q) = r''' q

reach_tells : (end : ℕ) {f : Fraction} → whole 0 ≼ f → Tells (f ≼ billionths end) (billionths end ≺ f) (reaches end (ratio_of f))
unfolding reaches
reach_tells end {f} h = by_test (leb (10 ^ 9 * (ratio_of f).num) (end * (ratio_of f).den)) refl
  where
    i : Is f (ratio_of f).num 0 (ratio_of f).den
    i = is_ratio h

    k : Is (billionths end) end 0 (10 ^ 9)
    k = is_over end (lit< tt)

    by_test : (b : Bool) → leb (10 ^ 9 * (ratio_of f).num) (end * (ratio_of f).den) ≡ b → Tells (f ≼ billionths end) (billionths end ≺ f) b
    by_test true e =
        let l = leb-true (10 ^ 9 * (ratio_of f).num) (end * (ratio_of f).den) e in
        yes (below_across i k (ratio_positive f) (lit< tt) (omega arith)) (λ m. omega (arith, across_strictly_below k i (lit< tt) (ratio_positive f) m))
    by_test false e =
        let l = leb-false (10 ^ 9 * (ratio_of f).num) (end * (ratio_of f).den) e in
        no (λ m. omega (arith, across_below i k m)) (strictly_below_across k i (omega arith))

-- ---- by its ends
verdict_tells : {a b : Bool} (index : Ends) (partials : List Ends) (required mark : Fraction) {P Q : Type 0} →
    Tells (Meets index partials required mark) P a → Tells Q (Fails index partials required mark) b → ByEnds index partials required mark (cond a 1 (cond (not b) 2 3))
verdict_tells index partials required mark (yes m r) t =
    record {
      one = (λ e. m, λ k. refl);
      two = (λ e. absurd (omega arith), λ k. absurd (k.0 m));
      three = (λ e. absurd (omega arith), λ k. absurd (k.0 m));
    }
verdict_tells index partials required mark (no n q) (no n' f) =
    record {
      one = (λ e. absurd (omega arith), λ m. absurd (n m));
      two = (λ e. (n, f), λ k. refl);
      three = (λ e. absurd (omega arith), λ k. absurd (k.1 f));
    }
verdict_tells index partials required mark (no n q) (yes p r) =
    record {
      one = (λ e. absurd (omega arith), λ m. absurd (n m));
      two = (λ e. absurd (omega arith), λ k. absurd (r k.1));
      three = (λ e. (n, r), λ k. refl);
    }

pub verdict_by_ends : VerdictByEnds
unfolding verdict_of all_reach
verdict_by_ends index partials required mark p q = verdict_tells index partials required mark (tell (λ e. e.lower)) (tell (λ e. e.upper))
  where
    tell : (end : Ends → ℕ) → Tells
        (AllFour (required ≼ billionths (end index)) (mark ≼ billionths (end (at partials 0))) (mark ≼ billionths (end (at partials 1))) (mark ≼ billionths (end (at partials 2))))
        (OneOfFour (billionths (end index) ≺ required) (billionths (end (at partials 0)) ≺ mark) (billionths (end (at partials 1)) ≺ mark) (billionths (end (at partials 2)) ≺ mark))
        (all_reach end index partials (ratio_of required) (ratio_of mark))
    tell end = four (reach_tells (end index) p) (reach_tells (end (at partials 0)) q) (reach_tells (end (at partials 1)) q) (reach_tells (end (at partials 2)) q)

-- ---- by exact figures
pub meets_is_right : MeetsIsRight
meets_is_right rs h required mark p q e xs k =
    let m = (verdict_by_ends (attained_of (partials_of rs)) (partials_of rs) required mark p q).one.0 e in
    record {
      attained = ≼_trans m.attained (attained_no_less rs h xs k);
      at_deepest = ≼_trans m.at_deepest (no_less_than_lower rs.deepest h.0 xs.deepest k.0);
      at_partial = ≼_trans m.at_partial (no_less_than_lower rs.partial h.1 xs.partial k.1);
      at_light = ≼_trans m.at_light (no_less_than_lower rs.light h.2 xs.light k.2);
    }

pub fails_is_right : FailsIsRight
fails_is_right rs h required mark p q e = fixed ((verdict_by_ends (attained_of (partials_of rs)) (partials_of rs) required mark p q).two.0 e).1
  where
    fixed : Fails (attained_of (partials_of rs)) (partials_of rs) required mark → OneShort rs required mark
    fixed (attained f) = attained (λ xs k. below_then_strictly (attained_no_more rs h xs k) f)
    fixed (at_deepest f) = at_deepest (λ xs k. below_then_strictly (no_more_than_upper rs.deepest h.0 xs k) f)
    fixed (at_partial f) = at_partial (λ xs k. below_then_strictly (no_more_than_upper rs.partial h.1 xs k) f)
    fixed (at_light f) = at_light (λ xs k. below_then_strictly (no_more_than_upper rs.light h.2 xs k) f)

-- ---- of two R and two marks, where neither of the first is above: who meets the second meets the first, and who fails the first fails the second
module _ (index : Ends) (ps : List Ends) {required mark required' mark' : Fraction} (p : whole 0 ≼ required) (q : whole 0 ≼ mark) (up : required ≼ required') (mark_up : mark ≼ mark') where
  abbrev lower : ByEnds index ps required mark (verdict_of index ps (ratio_of required) (ratio_of mark))
  lower = verdict_by_ends index ps required mark p q

  abbrev higher : ByEnds index ps required' mark' (verdict_of index ps (ratio_of required') (ratio_of mark'))
  higher = verdict_by_ends index ps required' mark' (≼_trans p up) (≼_trans q mark_up)

  meets_lower : Meets index ps required' mark' → Meets index ps required mark
  meets_lower m = record { attained = ≼_trans up m.attained; at_deepest = ≼_trans mark_up m.at_deepest; at_partial = ≼_trans mark_up m.at_partial; at_light = ≼_trans mark_up m.at_light }

  fails_higher : Fails index ps required mark → Fails index ps required' mark'
  fails_higher (attained f) = attained (strictly_then_below f up)
  fails_higher (at_deepest f) = at_deepest (strictly_then_below f mark_up)
  fails_higher (at_partial f) = at_partial (strictly_then_below f mark_up)
  fails_higher (at_light f) = at_light (strictly_then_below f mark_up)

  pub met_by_less : verdict_of index ps (ratio_of required') (ratio_of mark') ≡ 1 → verdict_of index ps (ratio_of required) (ratio_of mark) ≡ 1
  met_by_less e = lower.one.1 (meets_lower (higher.one.0 e))

  pub failed_by_more : verdict_of index ps (ratio_of required) (ratio_of mark) ≡ 2 → verdict_of index ps (ratio_of required') (ratio_of mark') ≡ 2
  failed_by_more e = let (n, f) = lower.two.0 e in higher.two.1 (λ m. n (meets_lower m), fails_higher f)

-- ---- with no rows every ship fails
nothing_fails : {required mark : Fraction} → whole 0 ≺ required → whole 0 ≼ mark → verdict_of (attained_of (partials [])) (partials []) (ratio_of required) (ratio_of mark) ≡ 2
unfolding attained_of partials ceil
nothing_fails {required} {mark} p q =
    (verdict_by_ends (attained_of (partials [])) (partials []) required mark (≼_of_≺ p) q).two.1
    (λ m. let never = below_then_strictly m.attained short in omega (arith, never.cross), attained short)
  where
    short : billionths 0 ≺ required
    short = below_then_strictly (≼_of_≈ (≈_sym billionths_none)) p

pub no_rows_fail : (h : Hull) → 0 < h.length → verdict_of (attained_of (partials [])) (partials []) (ratio_of (required_of h)) (ratio_of (mark_of h)) ≡ 2
no_rows_fail h l = nothing_fails (required_of_positive h l) (mark_of_not_negative h)
