use Rattle.std.proofs.Common.{◌≡◌, ◌<◌, ◌∙◌, length, ap, sym, subst, arith}
use Rattle.std.specs.Prelude.{All}
use Rattle.std.proofs.lemmas.Result.{IfOk-weaker}
use Rattle.sv_lattice.specs.declared.labels.Label.TheVariants.{Table}
use Rattle.sv_flat.specs.Views.{design_of}
use Rattle.sv_gates.specs.Formulas.{Formula, most_variables}
use Rattle.sv_gates.specs.Gates.{true_literal}
use Rattle.sv_circuits.specs.Circuits.{IsWord}
use Rattle.sv_encoding.specs.Labels.{LabelForm, point_literals, signal_label}
use Rattle.sv_blast.specs.declared.labels.PointLiteral.{PointLiteral}
use Rattle.sv_blast.specs.LabelSteps.{points_below}
use Rattle.sv_blast.specs.WordTables.{words_of}
use Rattle.sv_blast.specs.LabelViews.{label_form, AreBelow}
use Rattle.sv_blast.proofs.SignalLabels.{map_read, point_read, selectors_read, selector_within}
use Rattle.sv_blast.proofs.SignalLabels.{rows_read, table_read, always_below, entries_below}
use Rattle.sv_blast.proofs.labels.signal_label.Goals as goal

pub bounds-maps-map : goal.bounds-maps-map
bounds-maps-map c =
    let inside = map_read c.args.design.now c.signals.ensures.design.is_sound c.args.signal.0
    c.requires.known c.signals.result.now c.signals.ensures.signals c.index-signals-signal.result
    c.in-Table.map c.in-Table.first c.in-Table.second c.in-Table.is in
    omega (arith, inside, ap length c.maps.ensures.maps)

pub point_literals-requires-clause-word : goal.point_literals-requires-clause-word
point_literals-requires-clause-word c =
    let label = Table c.in-Table.map c.in-Table.first c.in-Table.second in
    subst (IsWord c.args.gates.now.variables)
    (sym (c.deref.ensures.value ∙ c.in_ok-selector-in-Table.ensures))
    (selector_within (design_of c.args.design.now).signals c.args.gates.now.variables
    (words_of c.args.words.now) c.in-Table.map c.in-Table.first c.in-Table.second
    (λ t at. c.requires.words t
    (selectors_read c.args.design.now c.signals.ensures.design.is_sound c.args.signal.0
    c.requires.known c.signals.result.now c.signals.ensures.signals c.index-signals-signal.result
    label t c.in-Table.is at)))

pub returns-in_ok-declared_label-in-Point-clause-points : goal.returns-in_ok-declared_label-in-Point-clause-points
returns-in_ok-declared_label-in-Point-clause-points c =
    always_below (length c.args.design.now.lattice) c.in_ok-declared_label-in-Point.field-0.items
    c.in-Point.point true_literal c.in_ok-declared_label-in-Point.ensures.made
    (point_read c.args.design.now c.signals.ensures.design.is_sound c.args.signal.0
    c.requires.known c.signals.result.now c.signals.ensures.signals c.index-signals-signal.result
    c.in-Point.point c.in-Point.is)

pub returns-in_ok-selector-in-Table-clause-points : goal.returns-in_ok-selector-in-Table-clause-points
returns-in_ok-selector-in-Table-clause-points c =
    let n : c.size.result ≡ length c.args.design.now.lattice =
    c.size.ensures.size ∙ ap length c.lattice.ensures.lattice in
    IfOk-weaker c.point_literals.result (λ label. AreBelow c.size.result (label_form label.items))
    (λ label. All (λ (p : PointLiteral). p.point.0 < length c.args.design.now.lattice) label.items)
    (λ label below. entries_below (length c.args.design.now.lattice) label.items
    (subst (λ k. AreBelow k (label_form label.items)) n below))
    c.point_literals.ensures.below

-- the literals are those of the label's map
made : (c : goal.After-drop-selector) →
    signal_label (design_of c.args.design.now) (words_of c.args.words.now) c.args.signal.0
    c.args.gates.now
    ≡ point_literals c.index-maps-map.result c.deref.result.now
    (points_below c.size.result c.index-maps-map.result) c.args.gates.now
made c =
    let flat = c.args.design.now in
    let is_sound = c.signals.ensures.design.is_sound in
    let s = c.args.signal.0 in
    let items = c.signals.result.now in
    let same = c.signals.ensures.signals in
    let x = c.index-signals-signal.result in
    let k = c.in-Table.map in
    let inside = map_read flat is_sound s c.requires.known items same x k c.in-Table.first
    c.in-Table.second c.in-Table.is in
    table_read flat is_sound s c.requires.known items same x (words_of c.args.words.now) k
    c.in-Table.first c.in-Table.second c.index-maps-map.result c.deref.result.now c.size.result
    c.args.gates.now c.in-Table.is
    (rows_read flat is_sound s c.requires.known items same x c.maps.result.now k
    c.index-maps-map.result c.maps.ensures.maps inside c.index-maps-map.is)
    (c.deref.ensures.value ∙ c.in_ok-selector-in-Table.ensures)
    (c.size.ensures.size ∙ ap length c.lattice.ensures.lattice)

pub returns-in_ok-selector-in-Table-clause-made : goal.returns-in_ok-selector-in-Table-clause-made
returns-in_ok-selector-in-Table-clause-made c =
    IfOk-weaker c.point_literals.result
    (λ label. point_literals c.index-maps-map.result c.deref.result.now
    (points_below c.size.result c.index-maps-map.result) c.args.gates.now
    ≡ (c.point_literals.new.gates, label_form label.items))
    (λ label. signal_label (design_of c.args.design.now) (words_of c.args.words.now)
    c.args.signal.0 c.args.gates.now ≡ (c.point_literals.new.gates, label_form label.items))
    (λ label e. made c ∙ e) c.point_literals.ensures.made

pub returns-in_ok-selector-in-Table-clause-full : goal.returns-in_ok-selector-in-Table-clause-full
returns-in_ok-selector-in-Table-clause-full c =
    λ e. subst (λ (z : Formula × LabelForm). most_variables < (z.0).variables) (sym (made c))
    (c.point_literals.ensures.full e)
