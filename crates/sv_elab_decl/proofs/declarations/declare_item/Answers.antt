use Rattle.std.proofs.Common.{◌≡◌, refl, sym, subst, ◌∙◌}
use Rattle.std.specs.Prelude.{Result}
use Rattle.std.proofs.lemmas.Result.{on_ok_weaker, err_from_is_err_and}
use Rattle.sv_ast.specs.declared.modules.Item.TheVariants as item
use Rattle.sv_ast.specs.Views.{item_tree, declaration_tree, module_tree}
use Rattle.sv_elab_rules.specs.Walks.{WalkStep}
use Rattle.sv_elab_rules.specs.Declarations.{Declared as WalkDeclared, declaration_walk}
use Rattle.sv_elab_rules.specs.Declarations.{signal_walk}
use Rattle.sv_elab_decl.specs.Sites.{site_of, declared_of}
use Rattle.sv_width.specs.Answers.{IsBreach}
use Rattle.sv_elab_decl.proofs.Faults.{err_each, stops_breach}
use Rattle.sv_elab_decl.proofs.SignalEnds.{is_ahead, none_broken}
use Rattle.sv_elab_decl.proofs.SiteLemmas.{item_parameter, item_signal, item_other}
use Rattle.sv_elab_decl.proofs.declarations.declare_item.Goals as goal
use Rattle.sv_elab_decl.proofs.declarations.declare_item.Goals.{In-Decl}

pub returns-in-Param-clause-found : goal.returns-in-Param-clause-found
returns-in-Param-clause-found c =
    let is : c.args.item.now ≡ item.Param c.in-Param.param = cc in
    on_ok_weaker c.declare_param.result
    (λ h. item_parameter c.args.site.now.base c.args.least.0 (site_of c.args.site.now)
    (declared_of c.args.declared.now)
    c.args.item.now c.in-Param.param is ∙ h) c.declare_param.ensures.found

pub returns-in-Param-clause-broken : goal.returns-in-Param-clause-broken
returns-in-Param-clause-broken c =
    let is : c.args.item.now ≡ item.Param c.in-Param.param = cc in
    let d = declared_of c.args.declared.now in
    err_each c.declare_param.result _ _
    (λ f h. subst (λ (e : Result WalkDeclared WalkStep). IsBreach e f)
    (sym (item_parameter c.args.site.now.base c.args.least.0 (site_of c.args.site.now) d
    c.args.item.now c.in-Param.param is))
    (stops_breach f _ d c.declare_param.new.declared h)) c.declare_param.ensures.stopped

pub declare_signal-requires-clause-ahead : goal.declare_signal-requires-clause-ahead
declare_signal-requires-clause-ahead c =
    is_ahead c.args.site.now.base (module_tree c.args.site.now.master.now) c.args.declared.now
    c.requires.so_far

-- a declaration is walked as its signal is
signal_end : (c : In-Decl) →
    (declaration_walk c.args.site.now.base c.args.least.0 (site_of c.args.site.now)
    (declared_of c.args.declared.now) (item_tree c.args.item.now)).end
    ≡ (signal_walk c.args.site.now.base c.args.least.0 (site_of c.args.site.now)
    (declared_of c.args.declared.now) (declaration_tree c.in-Decl.decl)).end
signal_end c =
    let is : c.args.item.now ≡ item.Decl c.in-Decl.decl = cc in
    item_signal c.args.site.now.base c.args.least.0 (site_of c.args.site.now)
    (declared_of c.args.declared.now) c.args.item.now c.in-Decl.decl is

pub returns-in_err-refusal-in-Decl-clause-broken :
    goal.returns-in_err-refusal-in-Decl-clause-broken
returns-in_err-refusal-in-Decl-clause-broken c =
    let old = c.args.declared.now in
    let f = c.in_err-refusal-in-Decl.field-0.0 in
    let a = (goal.at.returns-in_err-refusal-in-Decl-clause-broken c).In-Decl in
    let q = err_from_is_err_and c.from_residual.result c.from_residual.ensures.1 in
    rw (q.1, q.2)
    (subst (λ (e : Result WalkDeclared WalkStep). IsBreach e f) (sym (signal_end a))
    (none_broken c.args.site.now.base c.args.least.0 (site_of c.args.site.now)
    (declaration_tree c.in-Decl.decl) (declared_of old) old.scope
    c.declare_signal.new.declared.scope f refl c.in_err-refusal-in-Decl.ensures.stopped))

pub returns-in-Some-clause-broken : goal.returns-in-Some-clause-broken
returns-in-Some-clause-broken c =
    let found = rw c.in-Some.is at c.in_ok-refusal-in-Decl.ensures.found in
    signal_end (goal.at.returns-in-Some-clause-broken c).In-Decl ∙ found

pub returns-in-None-clause-found : goal.returns-in-None-clause-found
returns-in-None-clause-found c =
    let found = rw c.in-None.is at c.in_ok-refusal-in-Decl.ensures.found in
    signal_end (goal.at.returns-in-None-clause-found c).In-Decl ∙ found

pub returns-in_default : goal.returns-in_default
returns-in_default c = record {
  found =
      item_other c.args.site.now.base c.args.least.0 (site_of c.args.site.now)
      (declared_of c.args.declared.now)
      c.args.item.now c.in_default.not-Param c.in_default.not-Decl;
  so_far = c.requires.so_far;
  broken = tt;
}
