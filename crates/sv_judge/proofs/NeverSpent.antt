-- Where no budget is spent on an obligation of a design.
use Rattle.std.proofs.Common.{ℕ, ◌<◌, ◌≤◌, ◌^◌, List, [], arith}
use Rattle.std.specs.Prelude.{All}
use Rattle.std.proofs.Math.Nat.{pow-le-pow_right}
use Rattle.sv_obl.proofs.FormLists.{get_all}
use Rattle.sv_clause.specs.Logs.{Step, clauses_of}
use Rattle.sv_flat.specs.Design.{FlatDesign}
use Rattle.sv_obl.specs.DesignQueries.{IsQueryOf}
use Rattle.sv_obl.specs.Noninterference.{IsChecked}
use Rattle.sv_obl.specs.Obligations.{obligations}
use Rattle.sv_paths.proofs.DesignQueryFacts.{all_are}
use Rattle.sv_encoding.specs.Encoding.{encoding}
use Rattle.sv_encoding_laws.proofs.Wholeness.{encoding_is_whole}
use Rattle.sv_solve.proofs.Knowing.{conflict_more}
use Rattle.sv_decide.proofs.SpentSize.{spent_short}
use Rattle.sv_judge.specs.Answers.{HasAtMost, HasUnitConflict}
use Rattle.sv_judge.specs.Verdicts.{IsSpent}

module _ (design : FlatDesign) (budget number : ℕ) (steps : List Step)
    (spent : IsSpent design budget number steps) where
  pub large_not_spent : (most : ℕ) → IsChecked design
      → All (HasAtMost design most) (obligations [] design) → 3 ^ most ≤ budget → ⊥
  large_not_spent most checked few large =
      let o = spent.obligation in
      let query : IsQueryOf design o =
      get_all (IsQueryOf design) (obligations [] design) spent.before o
      (all_are design checked.is_sound checked.admitted) spent.numbered.among in
      let size : (encoding design o).variables ≤ most =
      get_all (HasAtMost design most) (obligations [] design) spent.before o few
      spent.numbered.among in
      let short : budget < 3 ^ (encoding design o).variables =
      spent_short (encoding design o).variables budget (encoding design o).clauses steps
      (encoding_is_whole design o checked query).within spent.spends in
      let three : 0 < 3 = omega arith in
      let more : 3 ^ (encoding design o).variables ≤ 3 ^ most = pow-le-pow_right three size in
      absurd (omega arith)

  pub units_not_spent : All (HasUnitConflict design) (obligations [] design) → ⊥
  units_not_spent units =
      let o = spent.obligation in
      let conflict = get_all (HasUnitConflict design) (obligations [] design) spent.before o units
      spent.numbered.among in
      spent.spends.no_conflict conflict.0
      (conflict_more (encoding design o).clauses (clauses_of steps) conflict.0 conflict.1)
