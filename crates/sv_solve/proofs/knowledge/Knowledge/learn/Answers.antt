use Rattle.std.proofs.Common.{subst, ap, ◌∙◌, ◌≡◌, ◌≤◌, ◌+◌, ◌++◌, ◌∷◌, [], take, map, length}
use Rattle.std.proofs.Common.{arith}
use Rattle.std.proofs.lemmas.List.{map_push, take-append-le, length_push}
use Rattle.sv_clause.specs.Logs.{plain_step}
use Rattle.sv_solve.specs.Known.{IsKnown, Known}
use Rattle.sv_solve.proofs.Knowing.{known_learn}
use Rattle.sv_solve.proofs.knowledge.Knowledge.learn.Goals as goal

pub invariant_of-result : goal.invariant_of-result
invariant_of-result c =
    let kept = c.self.inside.kept.items in
    let now = c.push.new.self.items in
    let next : Known = record {
      given = take c.self.inside.given now;
      steps = map plain_step c.push-2.new.self.items;
      variables = c.self.inside.variables;
    } in
    let known : IsKnown c.args.self kept =
    subst (λ z. IsKnown z kept) c.self.view_is c.self.invariant.1 in
    let low : c.self.inside.given ≤ length kept = c.self.invariant.0 in
    let longer : now ≡ kept ++ c.args.step.clause ∷ [] =
    c.in_ok-push.ensures.items ∙ ap (λ z. kept ++ z ∷ []) c.in_ok-new.ensures.value in
    let size : length now ≡ length kept + 1 =
    ap length longer ∙ length_push kept c.args.step.clause in (
      omega arith,
      known_learn c.args.self next kept now (plain_step c.args.step) known
          (ap (take c.self.inside.given) longer
          ∙ take-append-le c.self.inside.given kept (c.args.step.clause ∷ []) low
          ∙ ap (λ z. z.given) c.self.view_is)
          (ap (map plain_step) c.in_ok-push-2.ensures.items
          ∙ map_push plain_step c.self.inside.steps.items c.args.step
          ∙ ap (λ z. z.steps ++ plain_step c.args.step ∷ []) c.self.view_is)
          (ap (λ z. z.variables) c.self.view_is)
          longer c.requires.derived c.requires.new c.requires.of,
    )
