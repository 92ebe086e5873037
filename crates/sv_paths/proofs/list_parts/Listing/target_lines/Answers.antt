use Rattle.std.proofs.Common.{◌<◌, ◌+◌, ◌++◌, [], ℕ, List, length, sym, ap, subst, ◌∙◌}
use Rattle.sv_flat.specs.Views.{design_of, signal_form}
use Rattle.sv_paths.specs.ListLines.{lines_from}
use Rattle.sv_obl.specs.Obligations.{target_obligations}
use Rattle.sv_obl.proofs.FormLists.{length_mapped}
use Rattle.sv_paths.proofs.WrittenFacts.{target_left}
use Rattle.sv_paths.proofs.list_parts.Listing.target_lines.Goals as goal

pub returns-clause-part : goal.returns-clause-part
returns-clause-part c =
    let design = design_of c.args.design.now in
    let total = c.args.self.now.count in
    let here = target_obligations [] design c.args.target.0 in
    let inside : c.args.target.0 < length design.signals =
    subst (λ n. c.args.target.0 < n)
    (sym (length_mapped signal_form c.args.design.now.signals.items)) c.requires.known in
    target_left design c.args.target.0 total c.push_paths.new.lines.text.items inside
    c.requires.at.counted
    (c.in_ok-push_paths.ensures.text
    ∙ ap (λ (x : List ℕ). x ++ lines_from design.signals (c.after-lines.result.count + 1) here)
    c.after-lines.ensures.text
    ∙ ap (λ n. lines_from design.signals (n + 1) here) c.after-lines.ensures.count)
