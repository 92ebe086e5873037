use Rattle.std.proofs.Common.{◌≤◌, ◌++◌, [], ◌∷◌, length, map, take, sym, ap, ◌∙◌, arith}
use Rattle.std.proofs.Common.{append_assoc, append-nil}
use Rattle.std.proofs.lemmas.List.{map-append, take_all}
use Rattle.sv_flat.specs.Views.{design_of}
use Rattle.sv_paths.specs.ListParts.{obligations_on}
use Rattle.sv_obl.specs.Views.{obligation_of}
use Rattle.sv_obl.proofs.FormLists.{take_next}
use Rattle.sv_paths.proofs.listing.add_queries.Goals as goal

pub loop-place-init : goal.loop-place-init
loop-place-init c = sym (append-nil (map obligation_of c.args.queries.now.items))

pub loop-place-preserved : goal.loop-place-preserved
loop-place-preserved c =
    let before = map obligation_of c.args.queries.now.items in
    let os = obligations_on (design_of c.args.design.now) c.args.paths.now in
    let k = c.loop-place.place in
    let o = obligation_of c.in_ok-query.query in
    ap (map obligation_of) c.in_ok-push.ensures.items
    ∙ map-append obligation_of c.loop-place.queries.items (c.in_ok-query.query ∷ [])
    ∙ ap (λ front. front ++ o ∷ []) c.loop-place.invariant
    ∙ append_assoc before (take k os) (o ∷ [])
    ∙ ap (λ more. before ++ more) (sym (take_next os k o c.in_ok-query.ensures.listed))

pub query-requires-clause-there : goal.query-requires-clause-there
query-requires-clause-there c =
    let counted = c.len-place-end.ensures (design_of c.args.design.now) c.requires.paths in
    omega (arith, c.loop-place-test.true)

pub returns : goal.returns
returns c =
    let os = obligations_on (design_of c.args.design.now) c.args.paths.now in
    let counted = c.len-place-end.ensures (design_of c.args.design.now) c.requires.paths in
    let past : length os ≤ c.loop-place.place = omega (arith, c.loop-place-test.false) in
    c.loop-place.invariant
    ∙ ap (λ more. map obligation_of c.args.queries.now.items ++ more)
    (take_all c.loop-place.place os past)
