use Rattle.std.proofs.Common.{◌≡◌, ℕ, ◌+◌, ◌<◌, List, [], ◌∷◌, ◌++◌, length, map, true, false}
use Rattle.std.proofs.Common.{refl, sym, ap, subst, ◌∙◌, arith}
use Rattle.std.specs.Prelude.{Ok, Err, nat_lt}
use Rattle.std.proofs.lemmas.Bool.{lt-ltb, le-ltb}
use Rattle.std.proofs.lemmas.List.{length-map, length_push, map_push}
use Rattle.std.proofs.lemmas.Result.{err_from_is_err_and}
use Rattle.sv_ast.specs.Views.{declaration_tree, module_tree}
use Rattle.sv_flat.specs.declared.signals.SigId.{SigId}
use Rattle.sv_flat.specs.declared.signals.Signal.{Signal}
use Rattle.sv_flat.specs.Design.{SignalForm}
use Rattle.sv_flat.specs.Views.{signal_form}
use Rattle.sv_elab_rules.specs.Walks.{WalkStep}
use Rattle.sv_elab_rules.specs.Declarations.{Declared as WalkDeclared, declared_signal}
use Rattle.sv_elab_rules.specs.Declarations.{signal_ahead}
use Rattle.sv_elab_rules.specs.Names.{names_at}
use Rattle.sv_width.specs.Scopes.{Known, names_ahead}
use Rattle.sv_elab_decl.specs.Sites.{site_of, bindings_in, declared_of, signal_count}
use Rattle.sv_elab_decl.specs.Steps.{Binds, BindsNone}
use Rattle.sv_elab_decl.proofs.NameLemmas.{names_signal, count_with_signal}
use Rattle.sv_elab_decl.proofs.SignalEnds.{range_stops, name_stops, signal_made_so}
use Rattle.sv_elab_decl.proofs.StepLemmas.{signal_over, signal_within}
use Rattle.sv_elab_decl.proofs.signals.declare_signal.Goals as goal
use Rattle.sv_elab_decl.proofs.signals.declare_signal.Goals.{In_ok-add_signal}

pub returns-in_err-optional_width-clause-stopped : goal.returns-in_err-optional_width-clause-stopped
returns-in_err-optional_width-clause-stopped c =
    let q = err_from_is_err_and c.from_residual.result c.from_residual.ensures.1 in
    rw (q.1, q.2)
    (range_stops c.args.site.now.base c.args.least.0 (site_of c.args.site.now)
    c.args.declared.now.scope c.requires.ahead.announced (declaration_tree c.args.decl.now)
    c.in_err-optional_width.field-0.0 c.in_err-optional_width.ensures.broken)

pub returns-in_err-add_signal-clause-stopped : goal.returns-in_err-add_signal-clause-stopped
returns-in_err-add_signal-clause-stopped c =
    let base = c.args.site.now.base in
    let least = c.args.least.0 in
    let site = site_of c.args.site.now in
    let old = c.args.declared.now.scope in
    let t = declaration_tree c.args.decl.now in
    let f = c.in_err-add_signal.field-0.0 in
    let q = err_from_is_err_and c.from_residual-in_err-add_signal.result
    c.from_residual-in_err-add_signal.ensures.1 in
    rw (q.1, q.2)
    (subst (λ (k : Known). BindsNone (λ so_far. (signal_ahead base least site so_far t).end) old k f)
    (sym c.in_err-add_signal.ensures.unchanged)
    (name_stops base least site old c.requires.ahead.announced t
    c.in_ok-optional_width.field-0 c.in_ok-optional_width.ensures.found
    c.in_ok-name.name f c.in_ok-name.ensures c.in_err-add_signal.ensures.refusal))

-- what the walk has declared with the signal, from what it had declared so far
abbrev made : In_ok-add_signal → WalkDeclared → WalkDeclared
made c so_far = record {
  bindings = bindings_in c.add_signal.new.self;
  signals = so_far.signals
      ++ declared_signal (site_of c.args.site.now) c.unwrap_or-width.result c.args.least.0
      (declaration_tree c.args.decl.now) ∷ [];
}

made_so : (c : In_ok-add_signal) (so_far : WalkDeclared)
    → so_far.bindings ≡ bindings_in c.args.declared.now.scope
    → (signal_ahead c.args.site.now.base c.args.least.0 (site_of c.args.site.now) so_far
    (declaration_tree c.args.decl.now)).end ≡ Ok (made c so_far)
made_so c =
    signal_made_so c.args.site.now.base c.args.least.0 (site_of c.args.site.now)
    c.args.declared.now.scope c.requires.ahead.announced (declaration_tree c.args.decl.now)
    c.in_ok-optional_width.field-0 c.in_ok-optional_width.ensures.found c.add_signal.new.self
    c.in_ok-name.name c.in_ok-name.ensures _ c.unwrap_or-width.result c.unwrap_or-width.ensures
    c.in_ok-add_signal.ensures.added c.in_ok-add_signal.ensures.new

-- and so its names are those of the code
names_bound : (c : In_ok-add_signal) →
    Binds (λ so_far. (signal_ahead c.args.site.now.base c.args.least.0 (site_of c.args.site.now)
    so_far (declaration_tree c.args.decl.now)).end)
    c.args.declared.now.scope c.add_signal.new.self
names_bound c so_far same = (made c so_far, made_so c so_far same, refl)

pub returns-then-number-ge-MOST_SIGNALS-clause-found :
    goal.returns-then-number-ge-MOST_SIGNALS-clause-found
returns-then-number-ge-MOST_SIGNALS-clause-found c =
    let a = (goal.at.returns-then-number-ge-MOST_SIGNALS-clause-found c).In_ok-add_signal in
    let base = c.args.site.now.base in
    let d = declared_of c.args.declared.now in
    let size = length-map c.args.declared.now.signals.items signal_form in
    let over : nat_lt (base + length d.signals) 4096 ≡ false =
    le-ltb (base + length d.signals) 4096
    (omega (arith, size, c.if-number-ge-MOST_SIGNALS.true, c.len.ensures)) in
    signal_over base c.args.least.0 (site_of c.args.site.now) d (declaration_tree c.args.decl.now)
    (made a d) (made_so a d refl) over
    ∙ ap (λ (s : WalkStep). Err s) (sym c.too_many.ensures)

pub returns-then-number-ge-MOST_SIGNALS-clause-names :
    goal.returns-then-number-ge-MOST_SIGNALS-clause-names
returns-then-number-ge-MOST_SIGNALS-clause-names c =
    names_bound (goal.at.returns-then-number-ge-MOST_SIGNALS-clause-names c).In_ok-add_signal

pub returns-clause-found : goal.returns-clause-found
returns-clause-found c =
    let a = (goal.at.returns-clause-found c).In_ok-add_signal in
    let base = c.args.site.now.base in
    let old = c.args.declared.now in
    let d = declared_of old in
    let new = c.add_signal.new.self in
    let size = length-map old.signals.items signal_form in
    let within : nat_lt (base + length d.signals) 4096 ≡ true =
    lt-ltb (base + length d.signals) 4096
    (omega (arith, size, c.if-number-ge-MOST_SIGNALS.false, c.len.ensures)) in
    signal_within base c.args.least.0 (site_of c.args.site.now) d
    (declaration_tree c.args.decl.now) (made a d) (made_so a d refl) within
    ∙ ap (λ (ss : List SignalForm). Ok (record { bindings = bindings_in new; signals = ss }))
    (ap (λ (f : SignalForm). d.signals ++ f ∷ []) (sym c.in_ok-new_signal.ensures)
    ∙ sym (map_push signal_form old.signals.items c.in_ok-new_signal.field-0)
    ∙ ap (λ (ss : List Signal). map signal_form ss) (sym c.in_ok-push.ensures.items))

pub returns-clause-names : goal.returns-clause-names
returns-clause-names c = names_bound (goal.at.returns-clause-names c).In_ok-add_signal

pub returns-clause-so_far : goal.returns-clause-so_far
returns-clause-so_far c none so_far =
    let base = c.args.site.now.base in
    let m = module_tree c.args.site.now.master.now in
    let old = c.args.declared.now in
    let name = c.in_ok-name.name in
    let added = c.in_ok-add_signal.ensures.added in
    let id : added.0.signal.0 ≡ base + c.len.result = ap (λ (i : SigId). i.0) added.1 in
    let number : added.0.signal.0 ≡ base + signal_count (bindings_in old.scope) =
    omega (arith, id, so_far.counted, c.len.ensures) in
    let size : length c.push.new.self.items ≡ length old.signals.items + 1 =
    ap (λ (ss : List Signal). length ss) c.in_ok-push.ensures.items
    ∙ length_push old.signals.items c.in_ok-new_signal.field-0 in
    let few : base + length old.signals.items < 4096 =
    omega (arith, c.if-number-ge-MOST_SIGNALS.false, c.len.ensures) in
    record {
      names = subst (λ (k : Known). names_ahead k ≡ names_at base m (bindings_in k)) (sym added.4)
          (names_signal base m old.scope so_far.names name added.0
          c.in_ok-add_signal.ensures.new number);
      counted = ap (λ (k : Known). signal_count (bindings_in k)) added.4
          ∙ count_with_signal old.scope name added.0
          ∙ ap (λ (n : ℕ). n + 1) so_far.counted ∙ sym size;
      few = omega (arith, few, size);
    }
