-- `read_full` keeps what it has read: a turn's bytes stand behind those before it. Assumes nothing.
use Rattle.std.proofs.Common.{ℕ, ◌+◌, ◌≤◌, ◌≡◌, List, ◌++◌, length, take, ap, sym, subst, rules, ◌∙◌, length-take-le}
use Rattle.std.proofs.Math.Seq.{take-append-add}
use Rattle.std.proofs.lemmas.List.{take-append-le}
use Rattle.std.proofs.KnownBytes.{Consumes-trans}
use Rattle.std.specs.Io.KnownBytes.{Consumes}
use Rattle.damindex.proofs.read_full.Goals as goal

-- the first a of a list, and behind them ys, of which n count
read_behind : (a n : ℕ) (xs ys after : List ℕ) → a ≤ length xs → n ≤ length ys → take a xs ++ take n ys ≡ take (a + n) (take a xs ++ (ys ++ after))
read_behind a n xs ys after h k =
    sym
    (ap (λ m. take (m + n) (take a xs ++ (ys ++ after))) (sym (length-take-le a xs h))
    ∙ take-append-add (take a xs) (ys ++ after) n
    ∙ ap (λ l. take a xs ++ l) (take-append-le n ys after k))

pub loop-done-preserved : goal.loop-done-preserved
loop-done-preserved g c = record {
  room = search rules;
  read =
      subst (Consumes _ _) (read_behind _ _ _ _ _ c.loop-done.invariant.room c.in-Ok.ensures.bound.0)
      (Consumes-trans _ _ _ _ _ c.loop-done.invariant.read c.in-Ok.ensures.bytes.0);
}
