use Rattle.std.proofs.Common.{sym, ap, ◌∙◌, ◌<◌, length, arith, get_or, false, subst}
use Rattle.std.proofs.lemmas.List.{get_or_read}
use Rattle.sv_clause.specs.Literals.{stands}
use Rattle.sv_solve.specs.Codes.{code_of, IsOf}
use Rattle.sv_solve.proofs.Marks.{marked_in}
use Rattle.sv_solve.proofs.lists.LiteralList.contains.Goals as goal
use Rattle.sv_solve.proofs.lists.LiteralList.contains.Goals.{After-index}

small : (c : After-index) → code_of c.args.literal.now < length c.self.inside.marks.items
small c =
    marked_in _ _ _ _ c.args.literal.now c.self.invariant
    (subst (λ z. IsOf z.variables c.args.literal.now) (sym c.self.view_is) c.requires)

pub index-requires-2 : goal.index-requires-2
index-requires-2 c =
    let s = small (goal.at.index-requires-2 c).After-index in
    omega (arith, s, c.index.ensures, c.self.inside.marks.ok.0)

pub returns : goal.returns
returns c =
    let s = small (goal.at.returns c).After-index in
    get_or_read c.self.inside.marks.items c.index.result c.index-2.result.now
    (omega (arith, s, c.index.ensures)) c.index-2.ensures false
    ∙ ap (λ z. get_or c.self.inside.marks.items z false) c.index.ensures
    ∙ c.self.invariant.marked c.args.literal.now s
    ∙ ap (λ z. stands c.args.literal.now z.literals) c.self.view_is
