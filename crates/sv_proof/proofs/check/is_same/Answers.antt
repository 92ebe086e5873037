use Rattle.std.proofs.Common.{sym, ap, ◌∙◌}
use Rattle.std.specs.Cmp.Rules.{signed_items}
use Rattle.sv_clause.specs.Literals.{stands}
use Rattle.sv_clause.proofs.SameClause.{same_clause}
use Rattle.sv_proof.proofs.check.is_same.Goals as goal

pub returns : goal.returns
returns c =
    let xs = c.args.first.now in
    let ys = c.args.second.now in (
      λ yes l. ap (stands l) ((signed_items xs ys).0 (sym c.eq.ensures ∙ yes)),
      λ same. c.eq.ensures
          ∙ (signed_items xs ys).1 (same_clause xs ys c.requires.first c.requires.second same),
    )
