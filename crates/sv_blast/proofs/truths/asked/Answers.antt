use Rattle.std.proofs.Common.{◌≡◌, ◌-◌, ◌<◌, List, length, get_or, Some, sym, ap, ◌∙◌, arith}
use Rattle.sv_flat.specs.Views.{typed_tree}
use Rattle.sv_obl.specs.declared.queries.PathStep.{PathStep}
use Rattle.sv_blast.proofs.KeptTruths.{get_right, get_none}
use Rattle.sv_blast.proofs.truths.asked.Goals as goal

pub returns-then-behind-path : goal.returns-then-behind-path
returns-then-behind-path c =
    let facts = c.args.query.now.facts.items in
    let path = c.args.query.now.path.items in
    let behind = c.args.place - length c.as_slice-facts.result.now in
    let count = ap length c.as_slice-facts.ensures.value in
    let all = ap length c.as_slice-path.ensures.value in
    let inside : behind < length path = omega (arith, all) in
    let found : c.index-path-behind.result ≡ get_or path behind c.index-path-behind.result =
    c.index-path-behind.is
    ∙ ap (λ (z : List PathStep). get_or z behind c.index-path-behind.result)
    c.as_slice-path.ensures.value
    in
    ap (λ (step : PathStep). Some (typed_tree step.cond)) (sym c.index-path-behind.is)
    ∙ get_right facts path c.args.place behind c.index-path-behind.result (omega (arith, count))
    inside found

pub returns-else-behind-path : goal.returns-else-behind-path
returns-else-behind-path c =
    let count = ap length c.as_slice-facts.ensures.value in
    let all = ap length c.as_slice-path.ensures.value in
    get_none c.args.query.now.facts.items c.args.query.now.path.items c.args.place
    (c.args.place - length c.as_slice-facts.result.now) (omega (arith, count)) (omega (arith, all))
