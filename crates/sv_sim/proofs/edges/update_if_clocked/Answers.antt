use Rattle.std.proofs.Common.{◌≡◌, sym, ap, subst, ◌∙◌}
use Rattle.std.proofs.Common.{refl}
use Rattle.std.specs.Prelude.{IsTrue, IsFalse}
use Rattle.sv_flat.specs.declared.designs.ProcKind.{ProcKind}
use Rattle.sv_flat.specs.declared.designs.ProcKind.TheVariants as kind
use Rattle.sv_flat.specs.declared.signals.SigId.{SigId}
use Rattle.sv_flat.specs.Design.{ProcessForm}
use Rattle.sv_flat.specs.ByNumber.{by_number, updated}
use Rattle.sv_flat.specs.FlatSystem.{after_edge, all_updates}
use Rattle.sv_flat.specs.Processes.{is_clocked}
use Rattle.sv_flat.specs.Views.{design_of, process_form, process_kind}
use Rattle.sv_sim.specs.Settling.{clocked_before}
use Rattle.sv_sim.specs.Simulations.{process_at}
use Rattle.sv_sim.proofs.AtPlace.{process_there}
use Rattle.sv_sim.proofs.EdgeFacts.{clocked_more, clocked_same}
use Rattle.sv_sim.proofs.edges.update_if_clocked.Goals as goal
use Rattle.sv_sim.proofs.edges.update_if_clocked.Goals.{After-index-processes-place}

-- the process there
there : (c : After-index-processes-place) →
    process_form c.index-processes-place.result ≡
    process_at (design_of c.args.design.now) c.args.place
there c =
    process_there (design_of c.args.design.now) c.processes-processes.result.now
    c.processes-processes.ensures.processes c.args.place c.index-processes-place.result
    c.requires.place c.index-processes-place.is

-- what no clock's kind is
not_clocked : (k : ProcKind) → ((s : SigId) → k ≡ kind.Clocked s → ⊥) →
    IsFalse (is_clocked (process_kind k))
not_clocked kind.Assign no_clock = refl
not_clocked kind.PortIn no_clock = refl
not_clocked kind.PortOut no_clock = refl
not_clocked kind.Comb no_clock = refl
not_clocked (kind.Clocked s) no_clock = absurd (no_clock s refl)
not_clocked (kind.Release point) no_clock = refl

pub update_at-requires-clause-clocked : goal.update_at-requires-clause-clocked
update_at-requires-clause-clocked c =
    let is = there (goal.at.update_at-requires-clause-clocked c).After-index-processes-place in
    subst (λ (p : ProcessForm). IsTrue (is_clocked p.kind)) is
    (ap (λ (k : ProcKind). is_clocked (process_kind k)) c.in-Clocked.is)

pub returns-in-Clocked-clause-after : goal.returns-in-Clocked-clause-after
returns-in-Clocked-clause-after c =
    let design = design_of c.args.design.now in
    let fine = c.processes-processes.ensures.design in
    let e = by_number c.args.values.now in
    let is = there (goal.at.returns-in-Clocked-clause-after c).After-index-processes-place in
    let clock = subst (λ (p : ProcessForm). IsTrue (is_clocked p.kind)) is
    (ap (λ (k : ProcKind). is_clocked (process_kind k)) c.in-Clocked.is) in
    let before = all_updates design (clocked_before design c.args.place) e in
    c.update_at.ensures.run before c.requires.before
    ∙ ap (updated e)
    (clocked_more design fine.is_sound fine.is_admitted c.args.place c.requires.place clock e)

pub returns-in_default : goal.returns-in_default
returns-in_default c =
    let design = design_of c.args.design.now in
    let fine = c.processes-processes.ensures.design in
    let e = by_number c.args.values.now in
    let is = there (goal.at.returns-in_default c).After-index-processes-place in
    let no_clock = subst (λ (p : ProcessForm). IsFalse (is_clocked p.kind)) is
    (not_clocked c.index-processes-place.result.kind c.in_default.not-Clocked) in
    record {
      fit = c.requires.next_fit;
      after = c.requires.before ∙ ap (λ ps. after_edge design ps e)
          (sym (clocked_same design fine.is_sound fine.is_admitted c.args.place c.requires.place
          no_clock));
    }
