use mathlib.Core.Path.{fun_ext}
use Rattle.std.proofs.Common.{◌≡◌, ℕ, List, length, sym, ap, subst, ◌∙◌, rules}
use Rattle.std.specs.Prelude.{replicate}
use Rattle.std.proofs.lemmas.List.{length-map}
use Rattle.sv_design.specs.Numbers.{numbers}
use Rattle.sv_flat.specs.ByNumber.{by_number, FitSignals, signal_forms}
use Rattle.sv_flat.specs.Processes.{is_register}
use Rattle.sv_flat.specs.SignalLists.{registers}
use Rattle.sv_flat.specs.Views.{design_of, signal_form}
use Rattle.sv_flat.specs.Given.{with_given}
use Rattle.sv_sim.proofs.Simulated.{numbers_within, written, zeros_fit}
use Rattle.sv_sim_run.proofs.RunnerFacts.{all_zero}
use Rattle.sv_sim_run.proofs.runners.starting_table.Goals as goal

pub put_listed-requires-clause-known : goal.put_listed-requires-clause-known
put_listed-requires-clause-known c =
    numbers_within c.args.design.now c.signals-signals.result.now
    c.signals-signals.ensures.signals (is_register (design_of c.args.design.now))
    c.registers.result.now c.registers.ensures.registers

pub put_listed-requires-clause-fit : goal.put_listed-requires-clause-fit
put_listed-requires-clause-fit c =
    let ss = c.signals-signals.result.now in
    let zeros : c.in_ok-table.table.items ≡ replicate (length ss) 0 = search rules in
    subst (FitSignals (signal_forms ss))
    (sym (c.deref_mut.ensures.value ∙ zeros
    ∙ ap (λ n. replicate n 0) (sym (length-map ss signal_form))))
    (zeros_fit (signal_forms ss))

pub returns-clause-values : goal.returns-clause-values
returns-clause-values c =
    let design = design_of c.args.design.now in
    let ss = c.signals-signals.result.now in
    let start = c.args.start.now in
    let table = c.in_ok-table.table in
    let new = c.put_listed.new.values in
    let zeros : table.items ≡ replicate (length ss) 0 = search rules in
    ap by_number (written table.len new table.items
    (c.put_listed.auto.values ∙ c.deref_mut.ensures.len))
    ∙ c.put_listed.ensures.given
    ∙ ap (λ (vs : List ℕ). with_given (numbers c.registers.result.now) start (by_number vs))
    (c.deref_mut.ensures.value ∙ zeros)
    ∙ ap (λ (rs : List ℕ). with_given rs start (by_number (replicate (length ss) 0)))
    c.registers.ensures.registers
    ∙ ap (with_given (registers design) start) (fun_ext (all_zero (length ss)))
