-- Names collected one part after the other.
use Rattle.std.proofs.Common.{◌≡◌, ℕ, suc, ◌+◌, ◌<◌, List, [], ◌++◌, length, map, flat_map}
use Rattle.std.proofs.Common.{get_or, drop, sym, ap, ◌∙◌, append_assoc, add-one}
use Rattle.std.proofs.Math.Seq.{drop-cons}
use Rattle.std.proofs.lemmas.List.{map-append}
use Rattle.sv_flat.specs.declared.expressions.FExpr.{FExpr}
use Rattle.sv_flat.specs.Readings.{ReadForm, reads, parts_reads}
use Rattle.sv_flat.specs.Views.{typed_tree}
use Rattle.sv_flat.proofs.Parts.{trees, parts_at}
use Rattle.sv_obl.specs.Routes.{signals_of_reads, names_in}

module _ {X Y : Type 0} (names : Y → List ℕ) (view : X → Y) where
  -- the names of one more element
  pub next_names : (xs : List X) (i : ℕ) (x : X) → i < length xs → x ≡ get_or xs i x
      → (done new whole : List ℕ) → new ≡ done ++ names (view x)
      → done ++ flat_map names (map view (drop i xs)) ≡ whole
      → new ++ flat_map names (map view (drop (i + 1) xs)) ≡ whole
  next_names xs i x inside is done new whole same here =
      ap (λ ns. ns ++ flat_map names (map view (drop (i + 1) xs))) same
      ∙ append_assoc done (names (view x)) (flat_map names (map view (drop (i + 1) xs)))
      ∙ ap (λ k. done ++ (names (view x) ++ flat_map names (map view (drop k xs)))) (add-one i)
      ∙ ap (λ y. done ++ (names (view y) ++ flat_map names (map view (drop (suc i) xs)))) is
      ∙ ap (λ ys. done ++ flat_map names (map view ys)) (sym (drop-cons xs i x inside))
      ∙ here

-- the names of one more part
pub next_part : (es : List FExpr) (i : ℕ) (e : FExpr) → i < length es → e ≡ get_or es i e
    → (done new whole : List ℕ) → new ≡ done ++ names_in [] (typed_tree e)
    → done ++ signals_of_reads (parts_reads [] (trees (drop i es))) ≡ whole
    → new ++ signals_of_reads (parts_reads [] (trees (drop (i + 1) es))) ≡ whole
next_part es i e inside is done new whole same here =
    let rest = parts_reads [] (trees (drop (i + 1) es)) in
    ap (λ ns. ns ++ signals_of_reads rest) same
    ∙ append_assoc done (names_in [] (typed_tree e)) (signals_of_reads rest)
    ∙ ap (λ ns. done ++ ns) (sym (map-append (λ (r : ReadForm). r.signal)
    (reads [] (typed_tree e)) rest))
    ∙ ap (λ t. done ++ signals_of_reads (parts_reads [] t)) (sym (parts_at es i e inside is))
    ∙ here
