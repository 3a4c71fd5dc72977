-- Document 01, "Height and survival", the height factor v in 916,500ths. Heights and draughts are in millimetres. Assumes nothing.
use Rattle.std.specs.Prelude.{ℕ, ◌+◌, ◌-◌, ◌*◌, cond, leb}

-- v of a height h above the draught
unfoldable pub v : ℕ → ℕ
v h = cond (leb h 7800) (94 * h) (cond (leb h 12500) (733200 + 39 * (h - 7800)) 916500)

-- v of a height H over the baseline at the draught d: 0 where H is not above d
unfoldable pub v_at : ℕ → ℕ → ℕ
v_at H d = v (H - d)

-- a row's v: that at its H less that at the row below it in its layer, H' (0 under the first)
unfoldable pub row_v : ℕ → ℕ → ℕ → ℕ
row_v H' H d = v_at H d - v_at H' d

-- the height from which v is 1 at the draught d; from that of the deepest draught a row is its layer's top
abbrev pub top : ℕ → ℕ
top d = d + 12500
