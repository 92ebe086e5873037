use Rattle.std.proofs.Common.{◌≡◌, ◌+◌, List, ◌∷◌, ◌++◌, Option, drop, map, subst, sym}
use Rattle.std.proofs.lemmas.Result.{err_from_is_err_and}
use Rattle.sv_num.specs.declared.faults.Refusal.{Refusal}
use Rattle.sv_ast.specs.declared.declarations.Decl.{Decl}
use Rattle.sv_ast.specs.declared.declarations.Param.{Param}
use Rattle.sv_ast.specs.Shape.{is_shaped_parameter, is_shaped_declaration}
use Rattle.sv_ast.specs.Tree.{ItemTree, parameter_item, declared}
use Rattle.sv_ast.specs.Views.{parameter_tree, declaration_tree, module_tree}
use Rattle.sv_elab_rules.specs.Declarations.{nothing_declared}
use Rattle.sv_elab_decl.specs.declared.sites.Declared.{Declared}
use Rattle.sv_elab_decl.specs.declared.sites.Header.{Header}
use Rattle.sv_elab_decl.specs.Sites.{site_of, header_items, IsAhead}
use Rattle.sv_elab_decl.proofs.Courses.{Headed, headed_more, headed_ahead, Ahead, ahead_ends}
use Rattle.sv_elab_decl.proofs.Headers.{Goes, goes_on, ports_more, port_stops, parameter_stops}
use Rattle.sv_elab_decl.proofs.Headers.{ports_end}
use Rattle.sv_elab_decl.proofs.SignalEnds.{is_ahead}
use Rattle.sv_elab_decl.proofs.SiteLemmas.{shaped_ports}
use Rattle.sv_elab_decl.proofs.Lists.{more_listed, none_listed, rest_passes}
use Rattle.sv_elab_decl.proofs.declarations.declare_header.Goals as goal
use Rattle.sv_elab_decl.proofs.declarations.declare_header.Goals.{After-declare_param}
use Rattle.sv_elab_decl.proofs.declarations.declare_header.Goals.{After-declare_signal}

-- ---- parameters

-- the parameter at hand and those behind it
split_param : (c : After-declare_param) →
    drop c.loop-param.param-index c.args.site.now.master.now.params.items
    ≡ c.param-item.result
    ∷ drop (c.loop-param.param-index + 1) c.args.site.now.master.now.params.items
split_param c =
    more_listed c.args.site.now.master.now.params.items c.deref-param-items.result.now
    c.loop-param.param-index c.param-item.result c.deref-param-items.ensures.value
    c.loop-param-test.true c.param-item.is

abbrev behind_param : After-declare_param → List ItemTree
behind_param c =
    map parameter_item (map parameter_tree
    (drop (c.loop-param.param-index + 1) c.args.site.now.master.now.params.items))
    ++ map declared (map declaration_tree c.args.site.now.master.now.ports.items)

-- the header has come to it
headed_here : (c : After-declare_param) →
    Headed c.args.site.now.base c.args.least.0 (site_of c.args.site.now) nothing_declared
    (header_items (module_tree c.args.site.now.master.now)) c.loop-param.header.declared
    (parameter_item (parameter_tree c.param-item.result) ∷ behind_param c)
headed_here c =
    subst (λ (ps : List Param).
    Headed c.args.site.now.base c.args.least.0 (site_of c.args.site.now) nothing_declared
    (header_items (module_tree c.args.site.now.master.now)) c.loop-param.header.declared
    (map parameter_item (map parameter_tree ps)
    ++ map declared (map declaration_tree c.args.site.now.master.now.ports.items)))
    (split_param c) c.loop-param.invariant.headed

pub returns-in_err-declare_param-clause-stopped : goal.returns-in_err-declare_param-clause-stopped
returns-in_err-declare_param-clause-stopped c =
    let a = (goal.at.returns-in_err-declare_param-clause-stopped c).After-declare_param in
    let h : Header = record {
      declared = c.declare_param.new.declared;
      broken = c.loop-param.header.broken;
    } in
    let p = err_from_is_err_and c.from_residual.result c.from_residual.ensures.1 in
    rw (p.1, p.2)
    (parameter_stops c.args.site.now.base c.args.least.0 (site_of c.args.site.now) h
    c.loop-param.header.declared (parameter_tree c.param-item.result) (behind_param a)
    c.in_err-declare_param.field-0.0 (headed_here a)
    c.loop-param.invariant.passed c.in_err-declare_param.ensures.stopped)

pub loop-param-preserved : goal.loop-param-preserved
loop-param-preserved c =
    let a = (goal.at.loop-param-preserved c).After-declare_param in
    record {
      headed =
          headed_more c.args.site.now.base c.args.least.0 (site_of c.args.site.now)
          nothing_declared (header_items (module_tree c.args.site.now.master.now))
          c.loop-param.header.declared c.declare_param.new.declared
          (parameter_tree c.param-item.result) (behind_param a) (headed_here a)
          c.in_ok-declare_param.ensures.found
          c.in_ok-declare_param.ensures.so_far;
      passed = c.loop-param.invariant.passed;
      shaped = rest_passes is_shaped_parameter parameter_tree _ _ c.param-item.result
          (split_param a) c.loop-param.invariant.shaped;
    }

pub loop-port-init : goal.loop-port-init
loop-port-init c =
    let base = c.args.site.now.base in
    let least = c.args.least.0 in
    let s = site_of c.args.site.now in
    let m = c.args.site.now.master.now in
    let all = header_items (module_tree m) in
    let d = c.loop-param.header.declared in
    let ports = map declared (map declaration_tree m.ports.items) in
    let none = none_listed m.params.items c.deref-param-items.result.now c.loop-param.param-index
    c.deref-param-items.ensures.value c.loop-param-test.false in
    let headed : Headed base least s nothing_declared all d ports =
    subst (λ (ps : List Param). Headed base least s nothing_declared all d
    (map parameter_item (map parameter_tree ps) ++ ports)) none c.loop-param.invariant.headed in
    record {
      names = headed_ahead base least s nothing_declared all d ports headed;
      ahead = is_ahead base (module_tree m) d headed.course.so_far;
      goes = subst (λ (b : Option Refusal). Goes base least s d ports b)
          (sym c.loop-param.invariant.passed) headed.course;
      shaped = shaped_ports (module_tree m) c.requires.shaped;
    }

-- ---- ports

-- the port at hand and those behind it
split_port : (c : After-declare_signal) →
    drop c.loop-port.port-index c.args.site.now.master.now.ports.items
    ≡ c.port-item.result
    ∷ drop (c.loop-port.port-index + 1) c.args.site.now.master.now.ports.items
split_port c =
    more_listed c.args.site.now.master.now.ports.items c.deref-port-items.result.now
    c.loop-port.port-index c.port-item.result c.deref-port-items.ensures.value
    c.loop-port-test.true c.port-item.is

abbrev behind_port : After-declare_signal → List ItemTree
behind_port c =
    map declared (map declaration_tree
    (drop (c.loop-port.port-index + 1) c.args.site.now.master.now.ports.items))

-- the header has come to it, by its names and by its rules
names_here : (c : After-declare_signal) →
    Ahead c.args.site.now.base c.args.least.0 (site_of c.args.site.now) nothing_declared
    (header_items (module_tree c.args.site.now.master.now)) c.loop-port.header.declared.scope
    (declared (declaration_tree c.port-item.result) ∷ behind_port c)
names_here c =
    subst (λ (ps : List Decl).
    Ahead c.args.site.now.base c.args.least.0 (site_of c.args.site.now) nothing_declared
    (header_items (module_tree c.args.site.now.master.now)) c.loop-port.header.declared.scope
    (map declared (map declaration_tree ps))) (split_port c) c.loop-port.invariant.names

goes_here : (c : After-declare_signal) →
    Goes c.args.site.now.base c.args.least.0 (site_of c.args.site.now) c.loop-port.header.declared
    (declared (declaration_tree c.port-item.result) ∷ behind_port c) c.loop-port.header.broken
goes_here c =
    subst (λ (ps : List Decl).
    Goes c.args.site.now.base c.args.least.0 (site_of c.args.site.now) c.loop-port.header.declared
    (map declared (map declaration_tree ps)) c.loop-port.header.broken)
    (split_port c) c.loop-port.invariant.goes

pub returns-in_err-over-clause-stopped : goal.returns-in_err-over-clause-stopped
returns-in_err-over-clause-stopped c =
    let a = (goal.at.returns-in_err-over-clause-stopped c).After-declare_signal in
    let h : Header = record {
      declared = c.declare_signal.new.declared;
      broken = c.loop-port.header.broken;
    } in
    let p = err_from_is_err_and c.from_residual-in_err-over.result
    c.from_residual-in_err-over.ensures.1 in
    rw (p.1, p.2)
    (port_stops c.args.site.now.base c.args.least.0 (site_of c.args.site.now) h
    c.loop-port.header.declared (declaration_tree c.port-item.result) (behind_port a)
    c.in_err-over.field-0.0 (names_here a) (goes_here a) c.in_err-over.ensures.stopped)

pub loop-port-preserved : goal.loop-port-preserved
loop-port-preserved c =
    let a = (goal.at.loop-port-preserved c).After-declare_signal in
    let base = c.args.site.now.base in
    let least = c.args.least.0 in
    let s = site_of c.args.site.now in
    let d = c.loop-port.header.declared in
    let new = c.declare_signal.new.declared in
    let port = c.port-item.result in
    let left = behind_port a in
    let all = header_items (module_tree c.args.site.now.master.now) in
    let kept : new ≡ c.keep.new.self.declared = sym c.keep.ensures.declared in
    record {
      names = subst (λ (e : Declared). Ahead base least s nothing_declared all e.scope left) kept
          (ports_more base least s d new (declaration_tree port) left (names_here a)
          c.in_ok-over.ensures.names);
      ahead = subst (λ (e : Declared).
          IsAhead base (module_tree c.args.site.now.master.now) e) kept
          c.in_ok-over.ensures.ahead;
      goes = subst (λ (e : Declared). Goes base least s e left c.keep.new.self.broken) kept
          (subst (λ (b : Option Refusal). Goes base least s new left b)
          (sym c.keep.ensures.broken)
          (goes_on base least s d (declaration_tree port) left new c.loop-port.header.broken
          c.in_ok-over.over (goes_here a)
          c.in_ok-over.ensures.found c.in_ok-over.ensures.so_far));
      shaped = rest_passes is_shaped_declaration declaration_tree _ _ port (split_port a)
          c.loop-port.invariant.shaped;
    }

pub returns-clause-names : goal.returns-clause-names
returns-clause-names c =
    let base = c.args.site.now.base in
    let s = site_of c.args.site.now in
    let m = c.args.site.now.master.now in
    let all = header_items (module_tree m) in
    let known = c.loop-port.header.declared.scope in
    let none = none_listed m.ports.items c.deref-port-items.result.now c.loop-port.port-index
    c.deref-port-items.ensures.value c.loop-port-test.false in
    ahead_ends base c.args.least.0 s nothing_declared all known
    (subst (λ (ps : List Decl). Ahead base c.args.least.0 s nothing_declared all known
    (map declared (map declaration_tree ps))) none c.loop-port.invariant.names)

pub returns-clause-ends : goal.returns-clause-ends
returns-clause-ends c =
    let m = c.args.site.now.master.now in
    let d = c.loop-port.header.declared in
    let none = none_listed m.ports.items c.deref-port-items.result.now c.loop-port.port-index
    c.deref-port-items.ensures.value c.loop-port-test.false in
    ports_end c.args.site.now.base c.args.least.0 (site_of c.args.site.now) d
    c.loop-port.header.broken
    (subst (λ (ps : List Decl). Goes c.args.site.now.base c.args.least.0 (site_of c.args.site.now)
    d (map declared (map declaration_tree ps)) c.loop-port.header.broken) none
    c.loop-port.invariant.goes)
