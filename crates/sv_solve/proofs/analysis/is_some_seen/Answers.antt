use Rattle.std.proofs.Common.{rules, arith, tests, ◌≡◌, ℤ, neg_ℤ, ◌∙◌, sym}
use Rattle.std.specs.List.{list_any}
use Rattle.std.proofs.lemmas.Iterator.Adapters.{YieldsList-from_rev_slice, serves_from_places}
use Rattle.std.proofs.lemmas.Iterator.Search.{any_from_yields_List}
use Rattle.sv_clause.specs.Literals.{stands}
use Rattle.sv_solve.specs.Codes.{IsOf}
use Rattle.sv_solve.proofs.Clauses.{of_neg}
use Rattle.sv_solve.proofs.Between.{between, each_reversed, some_seen, none_seen}
use Rattle.sv_solve.proofs.analysis.is_some_seen.Goals as goal
use mathlib.Core.List.{reverse}

pub any-requires-clause-callable : goal.any-requires-clause-callable
any-requires-clause-callable c =
    serves_from_places (YieldsList-from_rev_slice c.between.result.now cc)
    (λ x q k. search rules)
    (λ x k small is.
    let of : IsOf c.args.seen.now.variables (neg_ℤ x.now) =
    rw c.requires.variables (of_neg _ x.now (each_reversed (IsOf c.args.trail.now.variables)
    c.between.result.now k x.now c.between.ensures.of small is)) in
    search (rules, of))

pub returns : goal.returns
returns c =
    let trail = c.args.trail.now.literals in
    let test = λ (l : ℤ). stands (neg_ℤ l) c.args.seen.now.literals in
    let found : c.any.result ≡ list_any test (reverse (between trail c.args.from c.args.to)) =
    any_from_yields_List test _ _ c.any.result c.any.ensures.ran
    (YieldsList-from_rev_slice (between trail c.args.from c.args.to) cc)
    (λ x b q k. search (rules, tests)) in
    record {
      some = λ is. some_seen trail c.args.from c.args.to (omega arith) (omega arith)
          c.args.seen.now.literals (sym found ∙ is);
      none = λ is. none_seen trail c.args.from c.args.to (omega arith) (omega arith)
          c.args.seen.now.literals (sym found ∙ is);
    }
