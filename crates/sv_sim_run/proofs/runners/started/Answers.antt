use Rattle.std.proofs.Common.{◌≡◌, ℕ, ◌<◌, List, ◌∷◌, [], ◌++◌, length, map, take, get_or}
use Rattle.std.proofs.Common.{sym, ap, subst, ◌∙◌}
use Rattle.std.specs.Prelude.{slice_index}
use Rattle.std.proofs.lemmas.List.{take_more, map-append, get_or_default}
use Rattle.sv_system.specs.System.{Environment}
use Rattle.sv_flat.specs.SignalLists.{system_signals, registers}
use Rattle.sv_flat.specs.Views.{design_of}
use Rattle.sv_flat.specs.Given.{given}
use Rattle.sv_sim.proofs.Simulated.{number_at}
use Rattle.sv_sim_run.proofs.GivenFacts.{listed_inside, seen_number}
use Rattle.sv_sim_run.proofs.runners.started.Goals as goal

pub index-requires : goal.index-requires
index-requires c =
    let design = design_of c.args.design.now in
    subst (λ n. (get_or c.seen-seen.result.now c.loop-s.s-index (record { 0 = 0 })).0 < n)
    (sym c.in_ok-table.ensures.count)
    (seen_number design c.seen-seen.result.now c.seen-seen.ensures.seen c.loop-s.s-index
    c.loop-s-test.true)

pub loop-s-preserved : goal.loop-s-preserved
loop-s-preserved c =
    let design = design_of c.args.design.now in
    let f : Environment ℕ = given (registers design) c.args.start.now in
    let ss = c.seen-seen.result.now in
    let k = c.loop-s.s-index in
    let s = (get_or ss k (record { 0 = 0 })).0 in
    let table = c.in_ok-table.table in
    let value = c.index.result.now in
    let known : s < length table.items =
    subst (λ n. s < n) (sym c.in_ok-table.ensures.count ∙ table.ok.0)
    (seen_number design ss c.seen-seen.ensures.seen k c.loop-s-test.true) in
    let is : value ≡ f (slice_index (system_signals design) k) =
    c.index.ensures
    ∙ get_or_default table.items s value 0 known
    ∙ ap (λ (e : Environment ℕ). e s) c.in_ok-table.ensures.values
    ∙ ap f (sym (number_at ss (system_signals design) c.seen-seen.ensures.seen k
    c.loop-s-test.true)) in
    c.in_ok-push.ensures.items
    ∙ ap (λ (vs : List ℕ). vs ++ value ∷ []) c.loop-s.invariant
    ∙ ap (λ v. map f (take k (system_signals design)) ++ v ∷ []) is
    ∙ sym (map-append f (take k (system_signals design))
    (slice_index (system_signals design) k ∷ []))
    ∙ ap (map f) (sym (take_more (system_signals design) k 0
    (listed_inside ss (system_signals design) c.seen-seen.ensures.seen k c.loop-s-test.true)))
