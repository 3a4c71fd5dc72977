-- Lists: one that a function gives place by place, what holds of every element and between neighbours, and numbers that rise. Assumes nothing.
use Rattle.std.specs.Prelude.{ℕ, zero, suc, ◌≤◌, ◌<◌, List, [], ◌∷◌, ◌++◌}

-- g 0, .., g (n - 1)
unfoldable pub tabulate : {A : Type 0} → (ℕ → A) → ℕ → List A
tabulate g zero = []
tabulate g (suc n) = tabulate g n ++ g n ∷ []

abbrev pub Every : {A : Type 0} → (A → Type 0) → List A → Type 0
Every P [] = Unit {0}
Every P (x ∷ xs) = P x × Every P xs

-- the last of a ∷ xs
abbrev pub last : {A : Type 0} → A → List A → A
last a [] = a
last a (x ∷ xs) = last x xs

-- R holds between the neighbours of a ∷ xs
abbrev pub Linked : {A : Type 0} → (A → A → Type 0) → A → List A → Type 0
Linked R a [] = Unit {0}
Linked R a (x ∷ xs) = R a x × Linked R x xs

-- the numbers of a list rise strictly, from a on and below n
abbrev pub Rising : ℕ → ℕ → List ℕ → Type 0
Rising a n [] = Unit {0}
Rising a n (x ∷ xs) = (a ≤ x) × (x < n) × Rising (suc x) n xs
