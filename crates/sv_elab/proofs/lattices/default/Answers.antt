use Rattle.std.proofs.Common.{ℕ, zero, suc, List, [], ◌∷◌, ap, ◌∙◌, arith}
use Rattle.std.specs.List.{All}
use Rattle.sv_lattice.specs.Flows.{IsKnown}
use Rattle.sv_elab_rules.specs.Lattices.{table_of}
use Rattle.sv_elab_rules.proofs.LatticeLemmas.{table_is_exact}
use Rattle.sv_elab.proofs.LatticeEnds.{one_table}
use Rattle.sv_elab.proofs.lattices.default.Goals as goal

two_known : All (IsKnown 2) ((0, 1) ∷ [])
two_known zero d h = (omega arith, omega arith)
two_known (suc k) d h = absurd (omega arith)

pub returns-in-Ok : goal.returns-in-Ok
returns-in-Ok c =
    ap (λ (ks : List (List ℕ)).
    record { points = ks; table = c.in-Ok.lattice }) c.in_ok-names.ensures
    ∙ ap (λ (t : List ℕ). record { points = _; table = t })
    (one_table 2 ((0, 1) ∷ []) c.in-Ok.lattice (table_of 2 ((0, 1) ∷ [])) c.in-Ok.ensures.flows
    (table_is_exact 2 ((0, 1) ∷ []) two_known))
