use Rattle.std.proofs.Common.{rules, ◌≡◌, ◌≢◌, true, neg_ℤ}
use Rattle.std.proofs.iter.Serving.{serving}
use Rattle.std.proofs.lemmas.Iterator.{YieldsList-from_slice, first_from_find}
use Rattle.std.specs.Bool.{⊤}
use Rattle.sv_clause.specs.Literals.{stands}
use Rattle.sv_solve.proofs.Clauses.{of_each, others_false_from_All}
use Rattle.sv_solve.proofs.watches.next_watch.Goals as goal
use borrow.Author.Tests.{tests}

pub find-requires-clause-callable : goal.find-requires-clause-callable
find-requires-clause-callable c =
    let each = of_each c.args.trail.now.variables c.args.clause.now c.requires in
    grind (serving, each)

pub returns-clause-none : goal.returns-clause-none
returns-clause-none c =
    let literals = c.args.trail.now.literals in
    let kept = c.args.kept.now in
    let first = first_from_find _ _ c.find.result (λ _. ⊤)
    (λ l. l ≢ kept → stands (neg_ℤ l) literals ≡ true) c.find.ensures.ran
    (YieldsList-from_slice c.args.clause.now cc) (λ x q k. tt) (λ x q k. search (rules, tests)) in
    search (rules, first, others_false_from_All literals c.args.clause.now kept)
