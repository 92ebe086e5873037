use Rattle.std.proofs.Common.{sym, ◌∙◌, get_or}
use Rattle.std.proofs.lemmas.Bool.{eqb-true}
use Rattle.sv_graph.proofs.BitRows.{clear_word}
use Rattle.sv_graph.proofs.bit_graphs.list_word.Goals as goal

pub returns-then-is_clear : goal.returns-then-is_clear
returns-then-is_clear c =
    let row = c.args.row.now in
    let place = c.args.place in
    c.requires.so_far
    ∙ clear_word row place c.args.end
    (eqb-true (get_or row place 0) 0 (sym c.is_clear.ensures ∙ c.if-is_clear.true))
    c.requires.order c.requires.here
