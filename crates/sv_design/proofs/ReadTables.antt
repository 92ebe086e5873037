-- The graph of what is read for each signal of a design.
use Rattle.std.proofs.Common.{◌≡◌, ℕ, zero, suc, ◌<◌, List, [], ◌∷◌, length, map, get_or, sym, ap}
use Rattle.std.proofs.Common.{subst, ◌∙◌}
use Rattle.std.specs.Prelude.{IsTrue, Contains}
use Rattle.std.proofs.lemmas.Bool.{false≢true}
use Rattle.std.proofs.lemmas.List.FromFn.{length-map-range_with_len}
use Rattle.std.proofs.Math.ListN.{length-map}
use Rattle.sv_flat.specs.Design.{FlatDesign}
use Rattle.sv_flat.specs.Processes.{signal_numbers}
use Rattle.sv_flat.specs.Reads.{is_read_for, reads_for}
use Rattle.sv_flat.specs.Sets.{holds}
use Rattle.sv_flat.proofs.LeastSets.{Contains-from_holds, those_below}
use Rattle.sv_graph.specs.declared.graphs.Graph.{Graph}
use Rattle.sv_graph.specs.Graphs.{size, rows_of, IsWhole}
use Rattle.sv_design.specs.Numbers.{numbers}

-- what a row of a table has is below a bound where what every row has is
below_in : (f : ℕ → List ℕ) (n : ℕ) (all : (k b : ℕ) → Contains (f k) b → b < n) (ks : List ℕ)
    (a b : ℕ) → IsTrue (holds (get_or (map f ks) a []) b) → b < n
below_in f n all [] zero b h = absurd (false≢true h)
below_in f n all [] (suc a) b h = absurd (false≢true h)
below_in f n all (k ∷ ks) zero b h = all k b (Contains-from_holds (f k) b h)
below_in f n all (k ∷ ks) (suc a) b h = below_in f n all ks a b h

module _ (design : FlatDesign) (graph : Graph)
    (rows : rows_of graph ≡ map (reads_for design) (signal_numbers design)) where
  pub reads_size : size graph ≡ length design.signals
  reads_size =
      sym (length-map graph.rows.items (λ row. numbers row.items)) ∙ ap length rows
      ∙ length-map-range_with_len (reads_for design) 0 (length design.signals)

  pub reads_whole : IsWhole graph
  reads_whole a b edge =
      subst (λ n. b < n) (sym reads_size)
      (below_in (reads_for design) (length design.signals)
      (λ k c at. those_below (length design.signals) (is_read_for design k) c at)
      (signal_numbers design) a b
      (subst (λ rs. IsTrue (holds (get_or rs a []) b)) rows edge))
