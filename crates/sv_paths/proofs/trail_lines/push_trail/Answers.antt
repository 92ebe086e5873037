use Rattle.std.proofs.Common.{◌≡◌, ◌<◌, ◌++◌, ℕ, List, Option, Some, cond, map, reverse, length}
use Rattle.std.proofs.Common.{All, sym, ap, subst, ◌∙◌}
use Rattle.std.specs.Prelude.{codes, decimal}
use Rattle.sv_num.specs.declared.faults.Place.{Place}
use Rattle.sv_flat.specs.declared.signals.SigId.{SigId}
use Rattle.sv_flat.specs.ByNumber.{signal_forms}
use Rattle.sv_flat.specs.Views.{process_form}
use Rattle.sv_obl.specs.declared.frames.Frame.{Frame}
use Rattle.sv_paths.specs.declared.list_lines.StepMark.{StepMark}
use Rattle.sv_paths.specs.ListLines.{blanked}
use Rattle.sv_obl.specs.Obligations.{is_link, frame_of}
use Rattle.sv_paths.specs.TrailLines.{trail_words}
use Rattle.sv_paths.specs.TrailViews.{trail_form}
use Rattle.sv_obl.specs.Views.{number_of}
use Rattle.sv_paths.specs.Written.{mark_word}
use Rattle.sv_paths.proofs.ListLineFacts.{line_words, whole_line}
use Rattle.sv_paths.proofs.trail_lines.push_trail.Goals as goal

pub push_flow-requires-clause-reads : goal.push_flow-requires-clause-reads
push_flow-requires-clause-reads c =
    let n = length c.args.driven.signals.now in
    subst (λ (rs : List SigId). All (λ t. t < n) (map number_of rs)) (sym c.deref-3.ensures.value)
    (subst (All (λ t. t < n)) (sym c.in_ok-reads.ensures) c.requires.names)

pub returns : goal.returns
returns c =
    let s = c.args.driven.target.0 in
    let forms = signal_forms c.args.driven.signals.now in
    let process = process_form c.args.driven.process.now in
    let trail = trail_form c.args.trail.now in
    let text = c.args.text.now.items in
    let number = decimal c.args.number in
    let words = line_words forms s in
    let conditions = map mark_word (reverse trail.marks) in
    let right = c.place_of-right.result in
    let marked : map mark_word c.deref-2.result.now ≡ conditions =
    ap (map mark_word) c.deref-2.ensures.value ∙ c.in_ok-marks.ensures
    ∙ ap (λ (ms : List StepMark). map mark_word (reverse ms)) c.deref.ensures.value in
    let found : map number_of c.deref-3.result.now ≡ trail.names.settled =
    ap (map number_of) c.deref-3.ensures.value ∙ c.in_ok-reads.ensures in
    let written : words c.frame_of.result (map mark_word c.deref-2.result.now) right
    (map number_of c.deref-3.result.now) ≡ trail_words forms process s trail =
    ap (λ (f : Frame). words f (map mark_word c.deref-2.result.now) right
    (map number_of c.deref-3.result.now)) c.frame_of.ensures
    ∙ ap (λ (ws : List (List ℕ)). words (frame_of process.kind) ws right
    (map number_of c.deref-3.result.now)) marked
    ∙ ap (λ (r : Option Place). words (frame_of process.kind) conditions r
    (map number_of c.deref-3.result.now)) c.place_of-right.ensures
    ∙ ap (λ (rs : List ℕ). words (frame_of process.kind) conditions
    (cond (is_link process.kind) (Some process.place) trail.place) rs) found in
    c.in_ok-push.ensures.items
    ∙ ap (λ (x : List ℕ). x ++ codes "\n") (c.in_ok-push_flow.ensures
    ∙ ap (λ (x : List ℕ). x ++ blanked (words c.frame_of.result
    (map mark_word c.deref-2.result.now) right (map number_of c.deref-3.result.now)))
    c.in_ok-push_number.ensures
    ∙ ap (λ (ws : List (List ℕ)). text ++ number ++ blanked ws) written)
    ∙ whole_line text number (blanked (trail_words forms process s trail)) (codes "\n")
