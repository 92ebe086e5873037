-- How many processes of a design are clocked, and how many are not.
use Rattle.std.proofs.Common.{◌≡◌, ◌≤◌, ℕ, ◌+◌, ◌-◌, not, List, length, map, refl, sym, ap, ◌∙◌}
use Rattle.std.proofs.Common.{arith}
use Rattle.std.specs.Prelude.{filter}
use Rattle.std.proofs.lemmas.List.Filters.{length-filter_both}
use Rattle.std.proofs.Math.ListN.{length-map}
use Rattle.sv_flat.specs.declared.designs.Process.{Process}
use Rattle.sv_flat.specs.Clocks.{processes_of}
use Rattle.sv_flat.specs.Design.{ProcessForm, FlatDesign}
use Rattle.sv_flat.specs.FlatSystem.{combinational_processes, clocked_processes}
use Rattle.sv_flat.specs.Processes.{is_clocked}
use Rattle.sv_flat.specs.Views.{process_form}

module _ (design : FlatDesign) (processes : List Process) (clocked : ℕ)
    (same : map process_form processes ≡ processes_of design)
    (is : clocked ≡ length (filter (λ (p : ProcessForm).
    is_clocked p.kind) (map process_form processes))) where
  pub clocked_are : clocked ≡ length (clocked_processes design)
  clocked_are = is ∙ ap (λ ps. length (filter (λ (p : ProcessForm). is_clocked p.kind) ps)) same

  both_kinds : length (clocked_processes design) + length (combinational_processes design) ≡
      length processes
  both_kinds =
      length-filter_both (λ (p : ProcessForm). is_clocked p.kind) (λ (p : ProcessForm).
      not (is_clocked p.kind)) (λ p. refl) (processes_of design)
      ∙ ap length (sym same) ∙ length-map processes process_form

  pub clocked_fit : clocked ≤ length processes
  clocked_fit = let all = both_kinds in let are = clocked_are in omega arith

  pub others_are : length processes - clocked ≡ length (combinational_processes design)
  others_are = let all = both_kinds in let are = clocked_are in omega arith
