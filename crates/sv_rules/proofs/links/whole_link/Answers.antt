use Rattle.std.proofs.Common.{◌≡◌, List, [], ◌∷◌, None, refl, sym, ap, ◌∙◌}
use Rattle.sv_flat.specs.Clocks.{whole_link}
use Rattle.sv_flat.specs.Views.{flat_statements, chain_of}
use Rattle.sv_flat.specs.declared.statements.FStmt.{FStmt}
use Rattle.sv_rules.proofs.Sound.{block_is}
use Rattle.sv_rules.proofs.links.whole_link.Goals as goal

no_link : (stmts : List FStmt) → None ≡ whole_link (chain_of (flat_statements stmts))
no_link [] = refl
no_link (s ∷ stmts) = refl

pub returns-in-Block : goal.returns-in-Block
returns-in-Block c =
    no_link c.in-Block.field-0.items
    ∙ ap whole_link (sym
    (block_is c.args.body.now c.in-Block.field-0 c.in-Block.field-0.items c.in-Block.is refl))
