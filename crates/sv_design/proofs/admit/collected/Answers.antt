use Rattle.std.proofs.Common.{◌≡◌, ◌≤◌, ◌-◌, ℕ, List, length, map, sym, ap, subst, ◌∙◌}
use Rattle.std.specs.Prelude.{filter}
use Rattle.sv_flat.specs.Design.{ProcessForm}
use Rattle.sv_flat.specs.Processes.{is_clocked}
use Rattle.sv_flat.specs.Views.{design_of, process_form}
use Rattle.sv_flat.specs.declared.designs.Process.{Process}
use Rattle.sv_design.proofs.FeedFacts.{drivers_unbroken}
use Rattle.sv_design.proofs.ProcessCounts.{clocked_are, clocked_fit, others_are}
use Rattle.sv_design.proofs.admit.collected.Goals as goal

abbrev count_of : List Process → ℕ
count_of ps = length (filter (λ (p : ProcessForm). is_clocked p.kind) (map process_form ps))

pub read_tables-requires-clause-drivers : goal.read_tables-requires-clause-drivers
read_tables-requires-clause-drivers c =
    drivers_unbroken (design_of c.args.flat.now) c.requires.unbroken

pub overflow_sub-combs : goal.overflow_sub-combs
overflow_sub-combs c =
    let processes = c.in_ok-processes.processes.items in
    subst (λ n. c.clocked_count-clocked.result ≤ n)
    (sym (c.len.ensures ∙ c.in_ok-processes.processes.ok.0))
    (clocked_fit (design_of c.args.flat.now) processes c.clocked_count-clocked.result
    c.in_ok-processes.ensures
    (c.clocked_count-clocked.ensures ∙ ap count_of c.deref-9.ensures.value))

pub returns-clause-tables : goal.returns-clause-tables
returns-clause-tables c =
    let design = design_of c.args.flat.now in
    let processes = c.in_ok-processes.processes.items in
    let clocked = c.clocked_count-clocked.result in
    let is : clocked ≡ count_of processes =
    c.clocked_count-clocked.ensures ∙ ap count_of c.deref-9.ensures.value in
    record {
      processes_are = c.in_ok-processes.ensures;
      clock_is = c.top_clock-clock.ensures;
      clocks_are = c.requires.clocks;
      seen_are = c.in_ok-seen.ensures;
      inputs_are = c.in_ok-inputs.ensures;
      registers_are = c.in_ok-registers.ensures;
      order_is = c.in_ok-order.ensures.order;
      combs_are = ap (λ n. n - clocked) (c.len.ensures ∙ c.in_ok-processes.processes.ok.0)
          ∙ others_are design processes clocked c.in_ok-processes.ensures is;
      clocked_are = clocked_are design processes clocked c.in_ok-processes.ensures is;
      drivers_are = c.in_ok-drivers.ensures design c.requires.drivers;
      reads_are = (c.in_ok-reads.ensures.reads).reads_are;
      wants_are = c.in_ok-reads.ensures.wants;
    }
