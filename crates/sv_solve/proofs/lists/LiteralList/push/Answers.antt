use Rattle.std.proofs.Common.{◌≡◌, sym, ap, ◌∙◌, ◌<◌, length, arith, subst}
use Rattle.sv_clause.specs.Literals.{stands}
use Rattle.sv_solve.specs.Codes.{code_of, IsOf}
use Rattle.sv_solve.proofs.Marks.{marked_in, marked_push}
use Rattle.sv_solve.proofs.lists.LiteralList.push.Goals as goal
use Rattle.sv_solve.proofs.lists.LiteralList.push.Goals.{After-index-index}

small : (c : After-index-index) → code_of c.args.literal.now < length c.self.inside.marks.items
small c =
    marked_in _ _ _ _ c.args.literal.now c.self.invariant
    (subst (λ z. IsOf z.variables c.args.literal.now) (sym c.self.view_is) c.requires.of)

pub index_mut-requires : goal.index_mut-requires
index_mut-requires c =
    let s = small (goal.at.index_mut-requires c).After-index-index in
    omega (arith, s, c.index-index.ensures, c.self.inside.marks.ok.0)

pub index_mut-requires-2 : goal.index_mut-requires-2
index_mut-requires-2 c =
    let s = small (goal.at.index_mut-requires-2 c).After-index-index in
    omega (arith, s, c.index-index.ensures, c.self.invariant.as_many, c.self.inside.places.ok.0)

pub invariant_of-self-2 : goal.invariant_of-self-2
invariant_of-self-2 c =
    let end : c.len-place.result ≡ length c.self.inside.literals.items =
    omega (arith, c.len-place.ensures, c.self.inside.literals.ok.0) in
    marked_push _ _ _ _ _ c.args.literal.now c.index-index.result c.len-place.result
    c.self.invariant
    (subst (λ z. IsOf z.variables c.args.literal.now) (sym c.self.view_is) c.requires.of)
    (ap (λ z. stands c.args.literal.now z.literals) c.self.view_is ∙ c.requires.new)
    c.in_ok-push.ensures.items c.index-index.ensures end
