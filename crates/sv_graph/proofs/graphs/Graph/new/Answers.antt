use Rattle.std.proofs.Common.{◌≡◌, ◌⊎◌, inl, inr, [], ◌∷◌, List, ap, refl, ◌∙◌, Vec, Global}
use Rattle.std.specs.List.{AllZip, AllByRecursion}
use Rattle.sv_flat.specs.declared.signals.SigId.{SigId}
use Rattle.sv_graph.specs.Numbers.{numbers}
use Rattle.sv_graph.proofs.GraphFacts.{empty_rows}
use Rattle.sv_graph.proofs.graphs.Graph.new.Goals as goal

module _ (R : SigId → SigId → Type 0) (S : Vec SigId Global → Type 0) where
  no_clones : (xs ys : List SigId) → xs ≡ [] → AllZip R xs ys → numbers ys ≡ []
  no_clones [] [] none clones = refl
  no_clones [] (y ∷ ys) none clones = absurd clones
  no_clones (x ∷ xs) ys none clones = cc

  -- clones of a list without signals have none
  each_empty : (empty : Vec SigId Global) → empty.items ≡ [] → (rows : List (Vec SigId Global))
      → AllByRecursion (λ row. (row ≡ empty) ⊎ (AllZip R empty.items row.items × S row)) rows
      → AllByRecursion (λ row. numbers row.items ≡ []) rows
  each_empty empty none [] all = tt
  each_empty empty none (row ∷ rows) (inl same, rest) = (
    ap (λ (v : Vec SigId Global). numbers v.items) same ∙ ap numbers none,
    each_empty empty none rows rest,
  )
  each_empty empty none (row ∷ rows) (inr clone, rest) =
      (no_clones empty.items row.items none clone.0, each_empty empty none rows rest)

pub returns-clause-edges : goal.returns-clause-edges
returns-clause-edges c =
    let rows = c.in_ok-rows.rows.items in
    empty_rows (λ (row : Vec SigId Global). numbers row.items) rows
    (each_empty _ _ c.new.result c.new.ensures.items rows c.in_ok-rows.ensures.items)
