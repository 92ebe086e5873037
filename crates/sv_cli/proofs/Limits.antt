-- What the limits on obligations say of a design.
use Rattle.std.proofs.Common.{◌≡◌, ℕ, zero, suc, ◌+◌, ◌<◌, Bool, true, false, cond, nat_lt}
use Rattle.std.proofs.Common.{[], length, flat_map, Option, Some, None, sym, subst, arith}
use Rattle.std.specs.List.{list_any, range_with_len}
use Rattle.sv_flat.specs.Design.{FlatDesign}
use Rattle.sv_flat.specs.Processes.{signal_numbers}
use Rattle.sv_paths.specs.Limits.{Excess, many_paths, large_path, many_obligations, target_paths}
use Rattle.sv_paths.specs.Limits.{first_excess, excess}
use Rattle.sv_obl.specs.Obligations.{selector_obligations}
use Rattle.sv_obl.specs.Paths.{Path}

-- the target that is told, if one is, is among so many
abbrev pub IsBelow : ℕ → Excess → Type 0
IsBelow n (many_paths s) = s < n
IsBelow n (large_path s) = s < n
IsBelow n many_obligations = Unit {0}

no_some : (e : Excess) → Some e ≡ None → ⊥
no_some e h = cc

some_is : (d e : Excess) → Some d ≡ Some e → d ≡ e
some_is d e h = cc

-- one of two is told
below_either : (n : ℕ) (b : Bool) (d e : Excess) (rest : Option Excess) → IsBelow n d
    → (rest ≡ Some e → IsBelow n e) → cond b (Some d) rest ≡ Some e → IsBelow n e
below_either n true d e rest first later h = subst (IsBelow n) (some_is d e h) first
below_either n false d e rest first later h = later h

module _ (design : FlatDesign) where
  abbrev large : ℕ → Bool
  large s = list_any (λ (path : Path). nat_lt 65536 path.nodes) (target_paths design s)

  abbrev count : ℕ → ℕ
  count s = length (target_paths design s)

  abbrev selectors : ℕ
  selectors = length (flat_map (selector_obligations [] design) (signal_numbers design))

  below_from : (total i k : ℕ) (e : Excess)
      → first_excess design total (range_with_len i k) ≡ Some e → IsBelow (i + k) e
  below_from total i zero e h =
      below_either (i + zero) (nat_lt 65536 (total + selectors)) many_obligations e None tt
      (λ none. absurd (no_some e (sym none))) h
  below_from total i (suc k) e h =
      let here : i < i + suc k = omega arith in
      below_either (i + suc k) (nat_lt 4096 (count i)) (many_paths i) e _ here
      (below_either (i + suc k) (large i) (large_path i) e _ here
      (below_either (i + suc k) (nat_lt 65536 (total + count i)) many_obligations e _ tt
      (λ rest. subst (λ n. IsBelow n e) (next i k)
      (below_from (total + count i) (i + 1) k e rest))))
      h
    where
      next : (i k : ℕ) → (i + 1) + k ≡ i + suc k
      next i k = omega arith

  -- a target that is told is a signal of the design
  pub told_below : (e : Excess) → excess design ≡ Some e → IsBelow (length design.signals) e
  told_below e h =
      subst (λ n. IsBelow n e) (plain (length design.signals))
      (below_from 0 0 (length design.signals) e h)
    where
      plain : (n : ℕ) → 0 + n ≡ n
      plain n = omega arith
