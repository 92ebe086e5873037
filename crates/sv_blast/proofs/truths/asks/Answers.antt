use Rattle.std.proofs.Common.{Some, sym, ap, ◌∙◌}
use Rattle.sv_flat.specs.Views.{typed_tree}
use Rattle.sv_obl.specs.Views.{obligation_of}
use Rattle.sv_encoding.specs.Cones.{conditions_of}
use Rattle.sv_blast.proofs.KeptTruths.{drop_at}
use Rattle.sv_blast.proofs.truths.asks.Goals as goal

pub returns-in-Some : goal.returns-in-Some
returns-in-Some c =
    λ same. drop_at (conditions_of (obligation_of c.args.query.now)) c.args.place
    (typed_tree c.args.expr.now) (sym c.in-Some.ensures ∙ ap Some (c.is_same.ensures same))
