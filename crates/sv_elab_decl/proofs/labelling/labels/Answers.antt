use Rattle.std.proofs.Common.{◌≡◌, ℕ, ◌+◌, ◌<◌, ◌≤◌, length, get_or, set, List, [], ◌∷◌, ◌++◌, take}
use Rattle.std.proofs.Common.{drop, map, refl, sym, ap, subst, ◌∙◌, arith}
use Rattle.std.specs.Prelude.{Result, Ok, Err}
use Rattle.std.specs.Borrow.{Bor}
use Rattle.std.proofs.lemmas.List.{length-set, map-append, map_push, take-append-drop}
use Rattle.std.proofs.lemmas.List.{take_more_set, drop-set-lt}
use Rattle.std.proofs.lemmas.Result.{err_from_is_err_and}
use Rattle.sv_ast.specs.declared.declarations.Decl.{Decl}
use Rattle.sv_ast.specs.Tree.{DeclarationTree}
use Rattle.sv_ast.specs.Parts.{declarations}
use Rattle.sv_ast.specs.Views.{declaration_tree, module_tree}
use Rattle.sv_flat.specs.declared.signals.Signal.{Signal}
use Rattle.sv_flat.specs.Design.{SignalForm}
use Rattle.sv_flat.specs.Views.{signal_form}
use Rattle.sv_elab_rules.specs.LabelSteps.{given_label, labels_walk}
use Rattle.sv_width.specs.Scopes.{names_of}
use Rattle.sv_elab_decl.specs.Overridden.{declaration_trees}
use Rattle.sv_elab_decl.specs.Sites.{tables_of}
use Rattle.sv_elab_decl.proofs.Faults.{breach_on}
use Rattle.sv_elab_decl.proofs.Lists.{left_more, left_none}
use Rattle.sv_elab_decl.proofs.LabelEnds.{behind, labels_more, labels_stop, labels_none}
use Rattle.sv_elab_decl.proofs.labelling.labels.Goals as goal

pub returns-in_err-signal-clause-broken : goal.returns-in_err-signal-clause-broken
returns-in_err-signal-clause-broken c =
    let tables = tables_of c.args.tables.now in
    let names = names_of c.args.scope.now in
    let all = declarations (module_tree c.args.master.now) in
    let begin = map signal_form c.args.signals.items in
    let decls = c.deref-decl-items.result.now in
    let items = c.loop-index.signals.items in
    let i = c.loop-index.index in
    let decl = c.decl-item.result in
    let s = c.index_mut-signal.result.now in
    let within : i < length items =
    subst (λ n. i < n) (sym c.loop-index.invariant.size) c.loop-index-test.true in
    let front = map signal_form (take i items) in
    let listed : declaration_trees decls ≡ all =
    ap (λ (ds : List (Bor Decl)). declaration_trees ds) c.deref-decl-items.ensures.value
    ∙ c.in_ok-decls.ensures in
    let q = err_from_is_err_and c.from_residual-in_err-signal.result
    c.from_residual-in_err-signal.ensures.1 in
    rw (q.1, q.2)
    (breach_on c.in_err-signal.field-0.0
    (given_label tables names (declaration_tree decl.now).label (signal_form s)).end
    (labels_walk tables names all begin).end
    (λ u e. ap (λ (ds : List DeclarationTree). (labels_walk tables names ds begin).end) (sym listed)
    ∙ sym c.loop-index.invariant.walk
    ∙ ap (λ (ds : List (Bor Decl)).
    behind front (labels_walk tables names (declaration_trees ds)
    (map signal_form (drop i items))).end)
    (left_more decls i decl c.loop-index-test.true c.decl-item.is)
    ∙ ap (λ (ss : List Signal).
    behind front (labels_walk tables names (declaration_trees (decl ∷ drop (i + 1) decls))
    (map signal_form ss)).end)
    (left_more items i s within c.index_mut-signal.ensures.value)
    ∙ labels_stop tables names front (declaration_tree decl.now)
    (declaration_trees (drop (i + 1) decls)) (signal_form s)
    (map signal_form (drop (i + 1) items)) u e)
    (c.in_err-signal.ensures.broken (signal_form s)))

pub loop-index-preserved : goal.loop-index-preserved
loop-index-preserved c =
    let tables = tables_of c.args.tables.now in
    let names = names_of c.args.scope.now in
    let decls = c.deref-decl-items.result.now in
    let items = c.loop-index.signals.items in
    let i = c.loop-index.index in
    let decl = c.decl-item.result in
    let s = c.index_mut-signal.result.now in
    let new : Signal = record s { label = c.in_ok-signal.field-0 } in
    let within : i < length items =
    subst (λ n. i < n) (sym c.loop-index.invariant.size) c.loop-index-test.true in
    let front = map signal_form (take i items) in
    let later : i < i + 1 = omega arith in
    let rest = declaration_trees (drop (i + 1) decls) in
    record {
      walk = ap (λ (xs : List Signal). behind (map signal_form xs)
          (labels_walk tables names rest (map signal_form (drop (i + 1) (set items i new)))).end)
          (take_more_set items i new within)
          ∙ ap (λ (xs : List Signal). behind (map signal_form (take i items ++ new ∷ []))
          (labels_walk tables names rest (map signal_form xs)).end)
          (drop-set-lt (i + 1) items i new later)
          ∙ ap (λ (xs : List SignalForm). behind xs
          (labels_walk tables names rest (map signal_form (drop (i + 1) items))).end)
          (map_push signal_form (take i items) new)
          ∙ sym (labels_more tables names front (declaration_tree decl.now) rest (signal_form s)
          (signal_form new)
          (map signal_form (drop (i + 1) items))
          (c.in_ok-signal.ensures.found (signal_form s) refl))
          ∙ ap (λ (ds : List (Bor Decl)).
          behind front (labels_walk tables names (declaration_trees ds)
          (signal_form s ∷ map signal_form (drop (i + 1) items))).end)
          (sym (left_more decls i decl c.loop-index-test.true c.decl-item.is))
          ∙ ap (λ (ss : List Signal).
          behind front (labels_walk tables names (declaration_trees (drop i decls))
          (map signal_form ss)).end)
          (sym (left_more items i s within c.index_mut-signal.ensures.value))
          ∙ c.loop-index.invariant.walk;
      size = length-set items i new ∙ c.loop-index.invariant.size;
    }

pub returns-clause-found : goal.returns-clause-found
returns-clause-found c =
    let tables = tables_of c.args.tables.now in
    let names = names_of c.args.scope.now in
    let all = declarations (module_tree c.args.master.now) in
    let decls = c.deref-decl-items.result.now in
    let items = c.loop-index.signals.items in
    let i = c.loop-index.index in
    let front = map signal_form (take i items) in
    let listed : declaration_trees decls ≡ all =
    ap (λ (ds : List (Bor Decl)). declaration_trees ds) c.deref-decl-items.ensures.value
    ∙ c.in_ok-decls.ensures in
    ap (λ (ds : List DeclarationTree).
    (labels_walk tables names ds (map signal_form c.args.signals.items)).end) (sym listed)
    ∙ sym c.loop-index.invariant.walk
    ∙ ap (λ (ds : List (Bor Decl)).
    behind front (labels_walk tables names (declaration_trees ds)
    (map signal_form (drop i items))).end)
    (left_none decls i c.loop-index-test.false)
    ∙ labels_none tables names front (map signal_form (drop i items))
    ∙ ap (λ (ss : List SignalForm).
    Ok ss) (sym (map-append signal_form (take i items) (drop i items))
    ∙ ap (λ (ss : List Signal). map signal_form ss) (take-append-drop i items))
