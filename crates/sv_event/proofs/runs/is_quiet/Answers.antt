use Rattle.std.proofs.Common.{◌<◌, ◌≤◌, sym, ap, subst, ◌∙◌}
use Rattle.std.proofs.lemmas.List.{take_all}
use Rattle.std.proofs.lemmas.Bool.Decides.{Decides-eqb}
use Rattle.std.proofs.lemmas.Slice.Eq.{slice_eq-Decides}
use Rattle.sv_flat.specs.ByNumber.{by_number}
use Rattle.sv_flat.specs.FlatSystem.{combinational_processes}
use Rattle.sv_flat.specs.Schedules.{numbered_run}
use Rattle.sv_flat.specs.Views.{design_of}
use Rattle.sv_event.proofs.PlaceFacts.{comb_count}
use Rattle.sv_event.proofs.QuietFacts.{quiet_is}
use Rattle.sv_event.proofs.RunFacts.{same_lists, after_processes, processes_more}
use Rattle.sv_event.proofs.runs.is_quiet.Goals as goal

pub run_numbered-requires-clause-process : goal.run_numbered-requires-clause-process
run_numbered-requires-clause-process c =
    subst (λ n. c.loop-k.k < n)
    (c.combs-k-end.ensures.combs
    ∙ sym (comb_count (design_of c.args.design.now) c.args.combs.now c.requires.combs))
    c.loop-k-test.true

pub loop-k-preserved : goal.loop-k-preserved
loop-k-preserved c =
    let design = design_of c.args.design.now in
    let k = c.loop-k.k in (
      c.run_numbered.ensures.fit,
      c.run_numbered.ensures.run
          ∙ ap (numbered_run design k) c.loop-k.invariant.1
          ∙ sym (processes_more design k (by_number c.args.values.now)
          (subst (λ n. k < n) c.combs-k-end.ensures.combs c.loop-k-test.true)),
    )

pub returns : goal.returns
returns c =
    let design = design_of c.args.design.now in
    let fine = c.combs-k-end.ensures.design in
    let ps = combinational_processes design in
    let e = by_number c.args.values.now in
    let k = c.loop-k.k in
    let all = take_all k ps (subst (λ n. n ≤ k) c.combs-k-end.ensures.combs c.loop-k-test.false) in
    let equal = slice_eq-Decides Decides-eqb c.args.values.now c.loop-k.other c.eq.result
    c.eq.ensures in
    record {
      quiet = quiet_is design fine.is_sound fine.is_admitted e (by_number c.loop-k.other)
          c.eq.result
          (c.loop-k.invariant.1 ∙ ap (λ qs. after_processes design qs e) all)
          (λ h. ap by_number (sym (equal.0 h)))
          (λ h. equal.1 (same_lists c.args.values.now c.loop-k.other
          (c.requires.fit.count ∙ sym (c.loop-k.invariant.0).count)
          (λ i. ap (λ f. f i) (sym h))));
    }
