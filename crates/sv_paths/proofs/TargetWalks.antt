-- The targets one after the other, and the limit that the rest passes.
use Rattle.std.proofs.Common.{◌≡◌, ℕ, zero, suc, ◌+◌, ◌-◌, ◌<◌, ◌≤◌, Bool, true, false, cond}
use Rattle.std.proofs.Common.{nat_lt}
use Rattle.std.proofs.Common.{List, [], ◌∷◌, ◌++◌, length, flat_map, Option, Some, None}
use Rattle.std.proofs.Common.{refl, sym, ap, ◌∙◌, arith, ltb-false}
use Rattle.std.proofs.Common.{add-one, append-nil, append_assoc, zero-add}
use Rattle.std.specs.List.{list_any, range_with_len}
use Rattle.std.proofs.lemmas.List.Concat.{flat_map-append}
use Rattle.sv_flat.specs.Design.{FlatDesign}
use Rattle.sv_paths.specs.declared.faults.OblFault.{OblFault}
use Rattle.sv_paths.specs.declared.faults.OblFault.TheVariants.{Paths, Large, Many, OutOfMemory}
use Rattle.sv_paths.specs.Answers.{excess_at, Told}
use Rattle.sv_paths.specs.Limits.{Excess, many_paths, large_path, many_obligations, target_paths}
use Rattle.sv_paths.specs.Limits.{first_excess}
use Rattle.sv_obl.specs.Obligations.{Obligation}
use Rattle.sv_obl.specs.Paths.{Path}

-- ---- numbers in order

range_more : (a n : ℕ) → range_with_len a (suc n) ≡ range_with_len a n ++ (a + n) ∷ []
range_more a zero = ap (λ k. k ∷ []) (omega arith)
range_more a (suc n) =
    ap (λ ks. a ∷ ks) (range_more (a + 1) n)
    ∙ ap (λ k. a ∷ (range_with_len (a + 1) n ++ k ∷ [])) (omega arith)

-- what one more number gives
pub next_number : (f : ℕ → List Obligation) (start old new : List Obligation) (i : ℕ)
    → new ≡ old ++ f i → old ≡ start ++ flat_map f (range_with_len 0 i)
    → new ≡ start ++ flat_map f (range_with_len 0 (i + 1))
next_number f start old new i gains so =
    gains
    ∙ ap (λ os. os ++ f i) so
    ∙ append_assoc start (flat_map f (range_with_len 0 i)) (f i)
    ∙ ap (λ os. start ++ (flat_map f (range_with_len 0 i) ++ os)) (sym (append-nil (f i)))
    ∙ ap (λ os. start ++ os) (sym (flat_map-append f (range_with_len 0 i) (i ∷ [])))
    ∙ ap (λ ks. start ++ flat_map f ks) (sym (range_more 0 i
    ∙ ap (λ k. range_with_len 0 i ++ k ∷ []) (zero-add i)))
    ∙ ap (λ k. start ++ flat_map f (range_with_len 0 k)) (sym (add-one i))

module _ (design : FlatDesign) where
  abbrev n : ℕ
  n = length design.signals

  -- ---- limits

  module _ (total s : ℕ) (rest : List ℕ) where
    abbrev found : List Path
    found = target_paths design s

    abbrev count : ℕ
    count = length found

    abbrev large : Bool
    large = list_any (λ (path : Path). nat_lt 65536 path.nodes) found

    abbrev passes : Bool → Bool → Bool → Option Excess → Option Excess
    passes a b c next =
        cond a (Some (many_paths s)) (cond b (Some (large_path s))
        (cond c (Some many_obligations) next))

    none_by : (a b c : Bool) (next : Option Excess) → passes a b c None ≡ None
        → (c ≡ false) × (passes a b c next ≡ next)
    none_by true b c next h = absurd (no_some (many_paths s) h)
      where
        no_some : (x : Excess) → Some x ≡ None → ⊥
        no_some x e = cc
    none_by false true c next h = absurd (no_some (large_path s) h)
      where
        no_some : (x : Excess) → Some x ≡ None → ⊥
        no_some x e = cc
    none_by false false true next h = absurd (no_some many_obligations h)
      where
        no_some : (x : Excess) → Some x ≡ None → ⊥
        no_some x e = cc
    none_by false false false next h = (refl, refl)

    some_by : (a b c : Bool) (next : Option Excess) (e : Excess) → passes a b c None ≡ Some e
        → passes a b c next ≡ Some e
    some_by true b c next e h = h
    some_by false true c next e h = h
    some_by false false true next e h = h
    some_by false false false next e h = absurd (none_some e h)
      where
        none_some : (x : Excess) → None ≡ Some x → ⊥
        none_some x e = cc

    -- where the target passes none, the rest decides
    pub none_at : excess_at design total s ≡ None
        → (total + count ≤ 65536)
        × (first_excess design total (s ∷ rest) ≡ first_excess design (total + count) rest)
    none_at h =
        let by = none_by (nat_lt 4096 count) large (nat_lt 65536 (total + count))
        (first_excess design (total + count) rest) h in
        (ltb-false 65536 (total + count) by.0, by.1)

    -- where it passes one, that is it
    pub told_at : (fault : OblFault) → Told (excess_at design total s) fault →
        Told (first_excess design total (s ∷ rest)) fault
    told_at (Paths t) h =
        some_by (nat_lt 4096 count) large (nat_lt 65536 (total + count))
        (first_excess design (total + count) rest) (many_paths t.0) h
    told_at (Large t) h =
        some_by (nat_lt 4096 count) large (nat_lt 65536 (total + count))
        (first_excess design (total + count) rest) (large_path t.0) h
    told_at Many h =
        some_by (nat_lt 4096 count) large (nat_lt 65536 (total + count))
        (first_excess design (total + count) rest) many_obligations h
    told_at OutOfMemory h = tt

  pub range_at : (i : ℕ) → i < n →
      range_with_len i (n - i) ≡ i ∷ range_with_len (i + 1) (n - (i + 1))
  range_at i inside =
      let same : n - i ≡ suc (n - (i + 1)) = omega arith in
      ap (range_with_len i) same
