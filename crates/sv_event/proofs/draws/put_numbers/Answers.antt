use Rattle.std.proofs.Common.{◌≡◌, ℕ, List, [], ◌∷◌, length, map, refl, ap, ◌∙◌, arith}
use Rattle.std.specs.List.{range_with_len}
use Rattle.std.proofs.lemmas.List.FromFn.{fill_by_all}
use Rattle.sv_event.proofs.draws.put_numbers.Goals as goal

same_map : (xs : List ℕ) → map (λ k. k) xs ≡ xs
same_map [] = refl
same_map (x ∷ xs) = ap (λ ys. x ∷ ys) (same_map xs)

pub returns : goal.returns
returns c =
    let n = length c.args.order.now in
    fill_by_all (λ k. k) c.loop-k.order n 0 (omega (arith, c.loop-k.auto.order))
    (λ k inside. c.loop-k.invariant k (omega (arith, inside, c.loop-k-test.false)))
    ∙ same_map (range_with_len 0 n)
