-- The default values of the code: where no row stands, the sums of no group, and what is known before the first row. Assumes nothing.
use mathlib.Core.Path.{◌≡◌, refl}
use mathlib.Core.List.{List, [], ◌∷◌}
use native.Mathlib.Omega.{arith}
use lib.Dec.{lit<}
use Rattle.std.specs.Array.{AllOfLen}
use Rattle.records.specs.declared.Ends.{Ends}
use Rattle.records.specs.declared.Survival.{Survival}
use Rattle.chances.specs.declared.Sums.{Sums}
use Rattle.chances.specs.Share.{nothing}
use Rattle.survival.specs.Survival.{no_survival}
use Rattle.indices.specs.Index.{partials}
use Rattle.laws.proofs.Lists.{three_same}
use Rattle.rows.specs.declared.Standing.{Standing}
use Rattle.rows.specs.declared.Part.{Part}
use Rattle.rows.specs.declared.Running.{Running}
use Rattle.rows.specs.Standing.{nowhere}
use Rattle.rows.specs.Running.{begun}

pub three_default : {A : Type 0} {P : A → Type 0} {v : A} (xs : List A) → ((x : A) → P x → x ≡ v) → AllOfLen P xs 3 → xs ≡ (v ∷ v ∷ v ∷ [])
three_default [] is m = absurd (omega (arith, m.long))
three_default (x ∷ []) is m = absurd (omega (arith, m.long))
three_default (x ∷ y ∷ []) is m = absurd (omega (arith, m.long))
three_default (x ∷ y ∷ z ∷ []) is m = three_same (is x (m.at 0 x (lit< tt))) (is y (m.at 1 x (lit< tt))) (is z (m.at 2 x (lit< tt)))
three_default (x ∷ y ∷ z ∷ w ∷ xs) is m = absurd (omega (arith, m.long))

pub default_ends : (e : Ends) → (e.lower ≡ 0) × (e.upper ≡ 0) → e ≡ record { lower = 0; upper = 0 }
default_ends e h = rw (h.0, h.1) refl

pub default_sums : (s : Sums) → ((s.added.lower ≡ 0) × (s.added.upper ≡ 0)) × ((s.taken.lower ≡ 0) × (s.taken.upper ≡ 0)) → s ≡ nothing
default_sums s h = rw (h.0.0, h.0.1, h.1.0, h.1.1) refl

pub default_standing : (y : Standing) → ((y.head.kind ≡ 0) × ((y.head.first ≡ 0) × ((y.head.count ≡ 0) × ((y.head.depth ≡ 0) × (y.head.height ≡ 0))))) × ((y.before ≡ 0) × (y.below ≡ 0)) → y ≡ nowhere
default_standing y h = rw (h.0.0, h.0.1.0, h.0.1.1.0, h.0.1.1.1.0, h.0.1.1.1.1, h.1.0, h.1.1) refl

pub at_first : (s : Running) → s.standing ≡ nowhere → s.part.group ≡ nothing → s.part.share ≡ record { lower = 0; upper = 0 } → s.survivals ≡ (no_survival ∷ no_survival ∷ no_survival ∷ []) →
    s.sums ≡ (record { lower = 0; upper = 0 } ∷ record { lower = 0; upper = 0 } ∷ record { lower = 0; upper = 0 } ∷ []) → s ≡ begun
unfolding begun partials
at_first s a b d e f = rw (a, b, d, e, f) refl
