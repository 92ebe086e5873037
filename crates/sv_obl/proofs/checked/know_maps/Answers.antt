use Rattle.std.proofs.Common.{All, subst, arith}
use Rattle.std.proofs.lemmas.List.{take_all}
use Rattle.std.proofs.lemmas.List.Elements.{All-more}
use Rattle.sv_lattice.specs.Maps.{MapRows, IsMap}
use Rattle.sv_obl.proofs.checked.know_maps.Goals as goal

pub loop-map-preserved : goal.loop-map-preserved
loop-map-preserved c =
    let P : MapRows → Type 0 = λ m. IsMap m.first m.second m.rows in
    All-more P c.args.maps.now c.loop-map.map-index c.map-item.result c.loop-map-test.true
    c.loop-map.invariant (subst P c.map-item.is c.rows-rows.ensures.map)

pub returns : goal.returns
returns c =
    let P : MapRows → Type 0 = λ m. IsMap m.first m.second m.rows in
    let done = c.loop-map-test.false in
    subst (All P) (take_all c.loop-map.map-index c.args.maps.now (omega (arith, done)))
    c.loop-map.invariant
