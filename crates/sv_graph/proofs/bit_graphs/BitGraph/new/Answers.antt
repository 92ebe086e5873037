use Rattle.std.proofs.Common.{ℕ, ◌+◌, ◌∷◌, [], map, sym, ap, subst, ◌∙◌, arith}
use Rattle.std.specs.Prelude.{replicate}
use Rattle.std.proofs.lemmas.List.{map-append}
use Rattle.sv_graph.specs.BitGraphs.{words}
use Rattle.sv_graph.proofs.BitRows.{words_of, fresh_over, fresh_edges}
use Rattle.sv_graph.proofs.FollowFacts.{RowsSoFar, rows_begin, rows_more}
use Rattle.sv_graph.proofs.bit_graphs.BitGraph.new.Goals as goal

pub rows-init : goal.rows-init
rows-init c =
    let all = λ (k : ℕ). replicate (words c.args.count) 0 in
    subst (λ rs. RowsSoFar rs 0 all) (sym (ap (map words_of) c.new-rows.ensures.items))
    (rows_begin all)

pub rows-preserved : goal.rows-preserved
rows-preserved c =
    let all = λ (k : ℕ). replicate (words c.args.count) 0 in
    let rows = c.rows.rows.items in
    subst (λ rs. RowsSoFar rs (c.rows.counter + 1) all)
    (sym (ap (map words_of) c.in_ok-push.ensures.items
    ∙ map-append words_of rows (c.in_ok-row.row ∷ [])))
    (rows_more (map words_of rows) c.rows.counter all c.in_ok-row.row.items c.in_ok-row.ensures
    c.rows.invariant)

pub returns-clause-over : goal.returns-clause-over
returns-clause-over c =
    fresh_over c.args.count (record { rows = c.rows.rows })
    (subst (λ n. RowsSoFar (map words_of c.rows.rows.items) n
    (λ (k : ℕ). replicate (words c.args.count) 0)) (omega arith) c.rows.invariant)

pub returns-clause-edges : goal.returns-clause-edges
returns-clause-edges c =
    fresh_edges c.args.count (record { rows = c.rows.rows })
    (subst (λ n. RowsSoFar (map words_of c.rows.rows.items) n
    (λ (k : ℕ). replicate (words c.args.count) 0)) (omega arith) c.rows.invariant)
