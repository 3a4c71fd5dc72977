-- `is_rising` meets its contract. Assumes nothing.
use Rattle.std.proofs.Common.{rules, ltb}
use Rattle.std.proofs.lemmas.List.Sorted.{answers_always}
use Rattle.limits.proofs.CodeLimits.{rising_told}
use Rattle.limits.proofs.is_rising.Goals as goal

pub returns : goal.returns
returns c = rising_told c.args.places c.args.m _ (search rules) (c.is_sorted_by.ensures.cases (λ x y. ltb x y) (answers_always _ _ _ (λ f a r g h. search rules)))
