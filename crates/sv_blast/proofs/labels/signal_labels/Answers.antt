use Rattle.std.proofs.Common.{◌≡◌, ℕ, ◌+◌, ◌<◌, ◌∷◌, ◌++◌, [], drop, length, map, get_or, ap, sym, ◌∙◌}
use Rattle.std.proofs.Common.{subst, rules, arith, List, Vec, Global}
use Rattle.std.specs.Prelude.{All, Contains}
use Rattle.std.specs.Result.{IsErrOf}
use Rattle.std.proofs.lemmas.List.{drop_more, length-map, get_or-map, map-append}
use Rattle.std.proofs.lemmas.List.Elements.{All-push, Contains-get_or}
use Rattle.sv_flat.specs.declared.signals.SigId.{SigId}
use Rattle.sv_flat.specs.Views.{design_of}
use Rattle.sv_design.specs.Numbers.{numbers}
use Rattle.sv_gates.specs.declared.gates.GateFault.TheVariants.{Full}
use Rattle.sv_encoding.specs.Labels.{LabelForm, signal_labels}
use Rattle.sv_blast.specs.declared.labels.PointLiteral.{PointLiteral}
use Rattle.sv_blast.specs.WordTables.{words_of}
use Rattle.sv_blast.specs.LabelViews.{label_form}
use Rattle.sv_blast.proofs.SignalLabels.{LabelsAt, labels_more, labels_full, stands_up}
use Rattle.sv_blast.proofs.labels.signal_labels.Goals as goal

abbrev none : SigId
none = record { 0 = 0 }

abbrev form : Vec PointLiteral Global → LabelForm
form label = label_form label.items

abbrev entries : Vec PointLiteral Global → List PointLiteral
entries label = label.items

-- a signal among the numbers of all
here : (signals : List SigId) (i : ℕ) → i < length signals →
    get_or (numbers signals) i 0 ≡ (get_or signals i none).0
here signals i inside = get_or-map (λ (s : SigId). s.0) signals i none 0 inside

listed : (signals : List SigId) (i : ℕ) → i < length signals → i < length (numbers signals)
listed signals i inside = omega (arith, inside, length-map signals (λ (s : SigId). s.0))

turn : (signals : List SigId) (i : ℕ) → i < length signals →
    numbers (drop i signals) ≡ (get_or signals i none).0 ∷ numbers (drop (i + 1) signals)
turn signals i inside = ap numbers (drop_more signals i none inside)

pub signal_label-requires-clause-known : goal.signal_label-requires-clause-known
signal_label-requires-clause-known c =
    subst (λ s. s < length c.args.design.now.signals.items)
    (here c.args.signals.now c.signals.signal-index c.signals-test.true)
    (c.requires.known c.signals.signal-index 0
    (listed c.args.signals.now c.signals.signal-index c.signals-test.true))

pub signal_label-requires-clause-words : goal.signal_label-requires-clause-words
signal_label-requires-clause-words c =
    let signals = c.args.signals.now in
    let i = c.signals.signal-index in
    let at : Contains (numbers signals) (get_or signals i none).0 =
    subst (Contains (numbers signals)) (here signals i c.signals-test.true)
    (Contains-get_or (numbers signals) i 0 (listed signals i c.signals-test.true)) in
    λ t selects. stands_up (design_of c.args.design.now).signals c.args.gates.now.variables
    c.signals.gates.variables (words_of c.args.words.now) t c.signals.invariant.at.begins.grows
    (c.requires.words (get_or signals i none).0 t at selects)

pub returns-in_err-label-clause-full : goal.returns-in_err-label-clause-full
returns-in_err-label-clause-full c =
    let same : IsErrOf c.from_residual-in_err-label.result Full →
    IsErrOf c.signal_label.result Full =
    search rules in
    let signals = c.args.signals.now in
    let i = c.signals.signal-index in
    λ e. labels_full (design_of c.args.design.now) (words_of c.args.words.now) _ _
    (numbers (drop (i + 1) signals)) _ c.signals.gates _ (get_or signals i none).0 _
    c.signals.invariant.at (turn signals i c.signals-test.true)
    (c.signal_label.ensures.full (same e))

pub signals-preserved : goal.signals-preserved
signals-preserved c =
    let design = design_of c.args.design.now in
    let words = words_of c.args.words.now in
    let signals = c.args.signals.now in
    let i = c.signals.signal-index in
    let labels = c.signals.labels.items in
    let label = c.in_ok-label.label in
    let more = c.in_ok-append_label.ensures in
    let forms : map form c.append_label.new.labels.items ≡ map form labels ++ form label ∷ [] =
    ap (map form) more ∙ map-append form labels (label ∷ []) in
    let lists : map entries c.append_label.new.labels.items
    ≡ map entries labels ++ entries label ∷ [] =
    ap (map entries) more ∙ map-append entries labels (label ∷ []) in
    record {
      at = subst (LabelsAt design words (signal_labels design words (numbers signals) c.args.gates.now)
          (numbers (drop (i + 1) signals)) c.args.gates.now c.signal_label.new.gates) (sym forms)
          (labels_more design words _ _ (numbers (drop (i + 1) signals)) c.args.gates.now
          c.signals.gates c.signal_label.new.gates (map form labels) (get_or signals i none).0
          (form label) c.signals.invariant.at (turn signals i c.signals-test.true)
          c.in_ok-label.ensures.made c.in_ok-label.ensures.begins c.in_ok-label.ensures.within);
      points = subst (All (All (λ (p : PointLiteral). p.point.0 < length c.args.design.now.lattice)))
          (sym lists)
          (All-push (All (λ (p : PointLiteral). p.point.0 < length c.args.design.now.lattice))
          (map entries labels) (entries label) c.signals.invariant.points
          c.in_ok-label.ensures.points);
    }
