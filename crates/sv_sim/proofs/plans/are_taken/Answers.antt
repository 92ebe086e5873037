use Rattle.std.proofs.Common.{ℕ, not, sym, ◌∙◌, rules, tests}
use Rattle.std.proofs.lemmas.Iterator.{YieldsList-from_slice}
use Rattle.std.proofs.lemmas.Iterator.Search.{all_from_yields_List}
use Rattle.std.proofs.lemmas.List.Folds.{list_all-map}
use Rattle.sv_flat.specs.declared.signals.SigId.{SigId}
use Rattle.sv_flat.proofs.AdmittedFacts.{negated_true}
use Rattle.sv_flat.proofs.Depths.{from_all}
use Rattle.sv_design.specs.Numbers.{numbers}
use Rattle.sv_graph.specs.Marks.{is_marked}
use Rattle.sv_sim.proofs.plans.are_taken.Goals as goal

pub returns : goal.returns
returns c = λ yes r at.
    let signals = c.args.signals.now in
    let test = λ (k : ℕ). not (is_marked c.args.left.now k) in
    let asked =
    all_from_yields_List (λ (s : SigId). test s.0) _ _ c.all.result c.all.ensures.ran
    (YieldsList-from_slice signals cc) (λ x b q k. search (rules, tests)) in
    negated_true (is_marked c.args.left.now r)
    (from_all test (numbers signals) r
    (list_all-map test (λ (s : SigId). s.0) signals ∙ sym asked ∙ yes) at)
