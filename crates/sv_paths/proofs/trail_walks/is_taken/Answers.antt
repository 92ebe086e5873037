use Rattle.std.proofs.Common.{ℕ, false, refl, sym, ap, subst, ◌∙◌}
use Rattle.sv_flat.specs.Assigned.{assigns}
use Rattle.sv_flat.specs.Design.{nothing}
use Rattle.sv_obl.specs.MarkedBodies.{marked_statement, TellsTargets}
use Rattle.sv_paths.specs.Trails.{wanted_signals, takes}
use Rattle.sv_paths.specs.TrailViews.{trail_form}
use Rattle.sv_paths.proofs.NameFacts.{any_alike, any_none}
use Rattle.sv_paths.proofs.trail_walks.is_taken.Goals as goal

pub returns-in-Nothing : goal.returns-in-Nothing
returns-in-Nothing c =
    let trail = trail_form c.args.trail.now in
    any_none (wanted_signals trail)
    ∙ any_alike (λ (t : ℕ). false) (assigns nothing) (λ t. refl) (wanted_signals trail)
    ∙ ap (λ x. takes (marked_statement x) trail) (sym c.in-Nothing.is)

pub returns-in-Assign : goal.returns-in-Assign
returns-in-Assign c =
    let trail = trail_form c.args.trail.now in
    c.wants_piece.ensures ∙ ap (λ x. takes (marked_statement x) trail) (sym c.in-Assign.is)

pub returns-in-Chain : goal.returns-in-Chain
returns-in-Chain c =
    let trail = trail_form c.args.trail.now in
    let tells = subst TellsTargets c.in-Chain.is c.requires in
    c.wants_some.ensures
    ∙ any_alike _ _ tells.0 (wanted_signals trail)
    ∙ ap (λ x. takes (marked_statement x) trail) (sym c.in-Chain.is)

pub returns-in-Branch : goal.returns-in-Branch
returns-in-Branch c =
    let trail = trail_form c.args.trail.now in
    let tells = subst TellsTargets c.in-Branch.is c.requires in
    c.wants_some-in-Branch.ensures
    ∙ any_alike _ _ tells.0 (wanted_signals trail)
    ∙ ap (λ x. takes (marked_statement x) trail) (sym c.in-Branch.is)
