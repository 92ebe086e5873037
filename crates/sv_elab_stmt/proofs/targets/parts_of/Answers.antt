use Rattle.std.proofs.Common.{◌+◌, ◌∷◌, ◌++◌, drop, map, sym, ap, subst, ◌∙◌}
use Rattle.std.specs.List.{list_all}
use Rattle.std.proofs.lemmas.Bool.{and_parts}
use Rattle.std.proofs.lemmas.List.{append-nil}
use Rattle.sv_ast.specs.Shape.{is_shaped_target}
use Rattle.sv_ast.specs.Views.{target_tree}
use Rattle.sv_elab_rules.specs.Walks.{each}
use Rattle.sv_elab_rules.specs.Targets.{target_steps}
use Rattle.sv_width.specs.Answers.{IsBreach}
use Rattle.sv_width.specs.Scopes.{names_of}
use Rattle.sv_elab_stmt.specs.Targets.{piece_at, target_piece}
use Rattle.sv_elab_stmt.proofs.TargetFacts.{each_none, each_more, each_broken}
use Rattle.sv_elab_stmt.proofs.WalkFacts.{left_more, left_none, forms_more, handed_on}
use Rattle.sv_elab_stmt.proofs.targets.parts_of.Goals as goal

pub returns-in_err-part_of-clause-broken : goal.returns-in_err-part_of-clause-broken
returns-in_err-part_of-clause-broken c =
    let steps = target_steps (names_of c.args.scope.now) in
    let ts = c.args.targets.now in
    let i = c.loop-target.target-index in
    let t = c.target-item.result in
    let fault = c.in_err-part_of.field-0.0 in
    let split = left_more ts i t c.loop-target-test.true c.target-item.is in
    handed_on c.from_residual-in_err-part_of.result _ _ c.from_residual-in_err-part_of.ensures.1
    (subst (λ r. IsBreach r fault)
    (ap (λ rest. (each steps (map target_tree rest)).end) (sym split)
    ∙ c.loop-target.invariant.asks)
    (each_broken steps (target_tree t) (map target_tree (drop (i + 1) ts)) fault
    c.in_err-part_of.ensures.broken))

pub loop-target-preserved : goal.loop-target-preserved
loop-target-preserved c =
    let names = names_of c.args.scope.now in
    let steps = target_steps names in
    let ts = c.args.targets.now in
    let i = c.loop-target.target-index in
    let t = c.target-item.result in
    let parts = c.loop-target.parts.items in
    let part = c.in_ok-part_of.field-0 in
    let rest = map target_tree (drop (i + 1) ts) in
    let split = left_more ts i t c.loop-target-test.true c.target-item.is in
    record {
      asks = sym (each_more steps (target_tree t) rest c.in_ok-part_of.ensures.found.0)
          ∙ ap (λ rest. (each steps (map target_tree rest)).end) (sym split)
          ∙ c.loop-target.invariant.asks;
      gives =
          ap (λ ps. map (piece_at 0) ps ++ map (target_piece names 0) rest)
          c.in_ok-push.ensures.items
          ∙ forms_more (piece_at 0) parts part (map (target_piece names 0) rest)
          ∙ ap (λ x. map (piece_at 0) parts ++ x ∷ map (target_piece names 0) rest)
          c.in_ok-part_of.ensures.found.1
          ∙ ap (λ xs. map (piece_at 0) parts ++ map (target_piece names 0) (map target_tree xs))
          (sym split)
          ∙ c.loop-target.invariant.gives;
      shaped = (and_parts (is_shaped_target (target_tree t)) (list_all is_shaped_target rest)
          (ap (λ xs. list_all is_shaped_target (map target_tree xs)) (sym split)
          ∙ c.loop-target.invariant.shaped)).1;
    }

pub returns-clause-found : goal.returns-clause-found
returns-clause-found c =
    let names = names_of c.args.scope.now in
    let end = left_none c.args.targets.now c.loop-target.target-index c.loop-target-test.false in (
      sym c.loop-target.invariant.asks
          ∙ ap (λ rest. (each (target_steps names) (map target_tree rest)).end) end
          ∙ each_none (target_steps names),
      sym (append-nil (map (piece_at 0) c.loop-target.parts.items))
          ∙ ap (λ rest. map (piece_at 0) c.loop-target.parts.items
          ++ map (target_piece names 0) (map target_tree rest)) (sym end)
          ∙ c.loop-target.invariant.gives,
    )
