use Rattle.std.proofs.Common.{◌≡◌, ◌<◌, ◌++◌, ℕ, List, Bool, Option, map, reverse, length}
use Rattle.std.proofs.Common.{All, sym, ap, subst, ◌∙◌}
use Rattle.std.specs.Prelude.{codes, decimal}
use Rattle.sv_num.specs.declared.faults.Place.{Place}
use Rattle.sv_flat.specs.declared.signals.SigId.{SigId}
use Rattle.sv_flat.specs.ByNumber.{signal_forms}
use Rattle.sv_flat.specs.Processes.{is_clocked}
use Rattle.sv_flat.specs.Sets.{holds, those}
use Rattle.sv_flat.specs.Views.{process_form}
use Rattle.sv_obl.specs.declared.frames.Frame.{Frame}
use Rattle.sv_paths.specs.declared.routes.StepRef.{StepRef}
use Rattle.sv_paths.specs.ListLines.{blanked, step_word}
use Rattle.sv_obl.specs.Obligations.{frame_of}
use Rattle.sv_paths.specs.RouteObligations.{names_on, route_obligation}
use Rattle.sv_paths.specs.RouteViews.{step_ref_form, route_form}
use Rattle.sv_obl.specs.Views.{number_of}
use Rattle.sv_paths.specs.Written.{mark_word}
use Rattle.sv_paths.proofs.ListLineFacts.{line_words, whole_line}
use Rattle.sv_paths.proofs.WrittenFacts.{route_among}
use Rattle.sv_paths.proofs.path_lines.push_path.Goals as goal

pub push_flow-requires-clause-reads : goal.push_flow-requires-clause-reads
push_flow-requires-clause-reads c =
    let n = length c.args.driven.signals.now in
    let s = c.args.driven.target.0 in
    let process = process_form c.args.driven.process.now in
    let route = route_form c.args.route.now in
    let found : map number_of c.in_ok-reads.reads.items
    ≡ those n (holds (names_on (is_clocked process.kind) s route)) =
    subst (λ (b : Bool). All (λ t. t < n) (names_on b s route)
    → map number_of c.in_ok-reads.reads.items ≡ those n (holds (names_on b s route)))
    c.is_clocked.ensures (c.in_ok-reads.ensures n) c.requires.names in
    subst (λ (rs : List SigId). All (λ t. t < n) (map number_of rs)) (sym c.deref-3.ensures.value)
    (subst (All (λ t. t < n)) (sym found) (route_among n process s route c.requires.known).reads)

pub returns : goal.returns
returns c =
    let n = length c.args.driven.signals.now in
    let s = c.args.driven.target.0 in
    let forms = signal_forms c.args.driven.signals.now in
    let process = process_form c.args.driven.process.now in
    let route = route_form c.args.route.now in
    let o = route_obligation n process s route in
    let text = c.args.text.now.items in
    let number = decimal c.args.number in
    let words = line_words forms s in
    let conditions = map step_word o.path in
    let marked : map mark_word c.deref-2.result.now ≡ conditions =
    ap (map mark_word) c.deref-2.ensures.value ∙ c.in_ok-marks.ensures
    ∙ ap (λ (refs : List StepRef). map step_word (reverse (map step_ref_form refs)))
    c.deref.ensures.value in
    let found : map number_of c.in_ok-reads.reads.items
    ≡ those n (holds (names_on (is_clocked process.kind) s route)) =
    subst (λ (b : Bool). All (λ t. t < n) (names_on b s route)
    → map number_of c.in_ok-reads.reads.items ≡ those n (holds (names_on b s route)))
    c.is_clocked.ensures (c.in_ok-reads.ensures n) c.requires.names in
    let written : words c.frame_of.result (map mark_word c.deref-2.result.now) c.place_of-right.result
    (map number_of c.deref-3.result.now)
    ≡ words (frame_of process.kind) conditions o.right o.reads =
    ap (λ (f : Frame). words f (map mark_word c.deref-2.result.now) c.place_of-right.result
    (map number_of c.deref-3.result.now)) c.frame_of.ensures
    ∙ ap (λ (ws : List (List ℕ)). words (frame_of process.kind) ws c.place_of-right.result
    (map number_of c.deref-3.result.now)) marked
    ∙ ap (λ (r : Option Place). words (frame_of process.kind) conditions r
    (map number_of c.deref-3.result.now)) c.place_of-right.ensures
    ∙ ap (λ (rs : List ℕ). words (frame_of process.kind) conditions o.right rs)
    (ap (map number_of) c.deref-3.ensures.value ∙ found) in
    let all = words (frame_of process.kind) conditions o.right o.reads in
    c.in_ok-push.ensures.items
    ∙ ap (λ (x : List ℕ). x ++ codes "\n") (c.in_ok-push_flow.ensures
    ∙ ap (λ (x : List ℕ). x ++ blanked (words c.frame_of.result
    (map mark_word c.deref-2.result.now) c.place_of-right.result (map number_of c.deref-3.result.now))) c.in_ok-push_number.ensures
    ∙ ap (λ (ws : List (List ℕ)). text ++ number ++ blanked ws) written)
    ∙ whole_line text number (blanked all) (codes "\n")
