use Rattle.std.proofs.Common.{◌≡◌, ◌++◌, take, drop}
use Rattle.sv_obl.specs.Views.{obligation_of}
use Rattle.sv_encoding.specs.Cones.{conditions_of}
use Rattle.sv_blast.specs.Framed.{trees_of}
use Rattle.sv_blast.proofs.truths.same_truths.Given as goal

abbrev pub invariant-truths : goal.invariant-truths
invariant-truths l =
    let es = conditions_of (obligation_of l.query) in
    es ≡ trees_of (take l.place l.truths) ++ drop l.place es
