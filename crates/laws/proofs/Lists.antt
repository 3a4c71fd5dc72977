-- Lists that are made place by place, and parts of lists that the library has no law for. Assumes nothing.
use Prim.Native.Nat.{ℕ, zero, suc, ◌+◌, ◌-◌, ◌≤◌, ◌<◌}
use mathlib.Core.Path.{◌≡◌, refl, sym, ◌∙◌, ap, ap₂}
use mathlib.Core.List.{List, [], ◌∷◌, ◌++◌, append-nil, append_assoc}
use mathlib.Core.Logic.{⊎_elim}
use native.Mathlib.Nat.{add-zero, add-suc, suc-add, suc-sub-suc, sub-zero, zero-sub, eq-or-lt_of_le}
use native.Mathlib.Numerals.{add-one}
use native.Mathlib.Omega.{arith}
use lib.ListN.{length, get_or, take, drop, set, length-append, length-drop, length-set, get_or-append}
use lib.Seq.{take_all, take-take, drop-drop, take-suc-set, get_or_at, get_or-take, get_or-drop, ext_get_or, sets, length-take-le, take-nil}
use Rattle.laws.specs.Lists.{tabulate}

-- ---- a list place by place

module _ {A : Type 0} where
  pub length_tabulate : (g : ℕ → A) (n : ℕ) → length (tabulate g n) ≡ n
  unfolding tabulate
  length_tabulate g zero = refl
  length_tabulate g (suc n) = rw length-append (omega (arith, length_tabulate g n))

  pub get_d_tabulate : (g : ℕ → A) (n i : ℕ) (d : A) → i < n → get_or (tabulate g n) i d ≡ g i
  unfolding tabulate
  get_d_tabulate g zero i d h = absurd (omega arith)
  get_d_tabulate g (suc n) i d h =
      ⊎_elim
      (λ (e : suc i ≡ suc n). let f : i ≡ n = omega arith in rw f (get_or_at (tabulate g n) (g n) [] d n (length_tabulate g n)))
      (λ (l : suc i < suc n). get_or-append (tabulate g n) (g n ∷ []) d i (omega (arith, length_tabulate g n)) ∙ get_d_tabulate g n i d (omega arith))
      (eq-or-lt_of_le h)

  pub tabulate_same : (f g : ℕ → A) (n : ℕ) → ((i : ℕ) → i < n → f i ≡ g i) → tabulate f n ≡ tabulate g n
  unfolding tabulate
  tabulate_same f g zero h = refl
  tabulate_same f g (suc n) h = ap₂ (λ xs x. xs ++ x ∷ []) (tabulate_same f g n (λ i l. h i (omega arith))) (h n (omega arith))

  -- a table in two parts
  pub tabulate_add : (g : ℕ → A) (m n : ℕ) → tabulate g (m + n) ≡ tabulate g m ++ tabulate (λ i. g (m + i)) n
  unfolding tabulate
  tabulate_add g m zero = rw (add-zero m, append-nil (tabulate g m)) refl
  tabulate_add g m (suc n) = rw (add-suc m n, tabulate_add g m n, append_assoc (tabulate g m) (tabulate (λ i. g (m + i)) n) (g (m + n) ∷ [])) refl

  -- a list of three, and more; and of none
  pub three_of : (xs : List A) (n : ℕ) → length xs ≡ 3 + n → (x : A) × (y : A) × (z : A) × (rest : List A) × (xs ≡ x ∷ y ∷ z ∷ rest) × (length rest ≡ n)
  three_of [] n e = absurd (omega arith)
  three_of (x ∷ []) n e = absurd (omega arith)
  three_of (x ∷ y ∷ []) n e = absurd (omega arith)
  three_of (x ∷ y ∷ z ∷ rest) n e = (x, y, z, rest, refl, omega arith)

  pub none_of : (xs : List A) → length xs ≡ 0 → xs ≡ []
  none_of [] e = refl
  none_of (x ∷ xs) e = absurd (omega arith)

  pub three_alone : (xs : List A) → length xs ≡ 3 → (x : A) × (y : A) × (z : A) × (xs ≡ x ∷ y ∷ z ∷ [])
  three_alone xs e = let (x, y, z, rest, d, n) = three_of xs 0 e in (x, y, z, d ∙ ap (λ t. x ∷ y ∷ z ∷ t) (none_of rest n))

  pub three_parts : (a b c rest : List A) → (a ++ (b ++ (c ++ []))) ++ rest ≡ a ++ (b ++ (c ++ rest))
  three_parts a b c rest = rw (append_assoc a (b ++ (c ++ [])) rest, append_assoc b (c ++ []) rest, append_assoc c [] rest) refl

  pub three_same : {a b c a' b' c' : A} → a ≡ a' → b ≡ b' → c ≡ c' → ◌≡◌ {A = List A} (a ∷ b ∷ c ∷ []) (a' ∷ b' ∷ c' ∷ [])
  three_same p q r = rw (p, q, r) refl

  -- a list is the table of its places
  pub tabulate_places : (d : A) (xs : List A) → tabulate (λ i. get_or xs i d) (length xs) ≡ xs
  tabulate_places d xs =
      ext_get_or d (tabulate (λ i. get_or xs i d) (length xs)) xs (length_tabulate _ (length xs))
      (λ i h. get_d_tabulate (λ i. get_or xs i d) (length xs) i d (omega (arith, length_tabulate (λ i. get_or xs i d) (length xs))))

  -- ---- an array of n places that a loop fills with g: the first k are there
  pub record Filled (g : ℕ → A) (n : ℕ) (xs : List A) (k : ℕ) : Type 0 where
    pub within : k ≤ n
    pub long : length xs ≡ n
    pub front : take k xs ≡ tabulate g k

  pub none_filled : (g : ℕ → A) (n : ℕ) (xs : List A) → length xs ≡ n → Filled g n xs 0
  unfolding tabulate
  none_filled g n xs h = record { within = omega arith; long = h; front = refl }

  pub one_filled : (g : ℕ → A) (n : ℕ) (xs : List A) (k : ℕ) (x : A) → k < n → x ≡ g k → Filled g n xs k → Filled g n (set xs k x) (k + 1)
  unfolding tabulate
  one_filled g n xs k x h e f = record {
    within = omega arith;
    long = length-set xs k x ∙ f.long;
    front = rw (add-one k, take-suc-set xs k x (omega (arith, f.long)), f.front, e) refl;
  }

  pub all_filled : (g : ℕ → A) (n : ℕ) (xs : List A) (k : ℕ) → n ≤ k → Filled g n xs k → xs ≡ tabulate g n
  all_filled g n xs k h f =
      let e : k ≡ n = omega (arith, f.within) in
      sym (take_all k xs (omega (arith, f.long))) ∙ f.front ∙ ap (tabulate g) e

  -- ---- parts

  -- `&s[a..]` is read as a part with an end
  pub rest_of : (s : List A) (a : ℕ) → take (length s - a) (drop a s) ≡ drop a s
  rest_of s a = take_all (length s - a) (drop a s) (omega (arith, length-drop a s))

  pub drop_take : (m n : ℕ) (l : List A) → drop m (take n l) ≡ take (n - m) (drop m l)
  drop_take zero n l = rw (sub-zero n) refl
  drop_take (suc m) zero l = rw (zero-sub (suc m)) refl
  drop_take (suc m) (suc n) [] = sym (take-nil (suc n - suc m))
  drop_take (suc m) (suc n) (x ∷ l) = rw (suc-sub-suc n m) (drop_take m n l)

  pub length_part : (m n : ℕ) (l : List A) → m + n ≤ length l → length (take n (drop m l)) ≡ n
  length_part m n l h = length-take-le n (drop m l) (omega (arith, length-drop m l))

  pub get_d_part : (m n i : ℕ) (l : List A) (d : A) → i < n → get_or (take n (drop m l)) i d ≡ get_or l (m + i) d
  get_d_part m n i l d h = get_or-take n (drop m l) i d h ∙ get_or-drop m l i d

  pub part_of_part : (m n a k : ℕ) (l : List A) → m + n ≤ k → take n (drop m (take k (drop a l))) ≡ take n (drop (a + m) l)
  part_of_part m n a k l h = rw (drop_take m k (drop a l), drop-drop m a l) (take-take n (k - m) (drop (a + m) l) (omega arith))

  -- a run of stores in two parts
  pub sets_append : (l : List A) (i : ℕ) (vs ws : List A) → sets l i (vs ++ ws) ≡ sets (sets l i vs) (i + length vs) ws
  sets_append l i [] ws = rw (add-zero i) refl
  sets_append l i (v ∷ vs) ws = sets_append (set l i v) (suc i) vs ws ∙ rw (add-suc i (length vs), suc-add i (length vs)) refl
