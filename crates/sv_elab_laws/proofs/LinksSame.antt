-- Links and values of wires: one assignment to a whole signal.
use Rattle.std.proofs.Common.{◌≡◌, ℕ, ◌-◌, ◌/◌, ◌%◌, ◌^◌, ◌≤◌, max, Bool, true, false, List, []}
use Rattle.std.proofs.Common.{◌∷◌, refl, sym, ap, subst, ◌∙◌, arith}
use Rattle.std.specs.Prelude.{◌==◌, if◌then◌else◌, Option, Some, None, option_and_then, IsTrue, Ok}
use Rattle.sv_num.specs.declared.faults.Place.{Place}
use Rattle.sv_num.specs.Parts.{extended, replaced_bits}
use Rattle.sv_system.specs.System.{Environment, put}
use Rattle.sv_ast.specs.Scopes.{Scope, Binding, signal, width_of, is_signed, value_of}
use Rattle.sv_ast.specs.Tree.{ExpressionTree, named, whole, TargetTree, DeclarationTree}
use Rattle.sv_ast.specs.Values.{length_of, joined_length, signed_of, value as source_value}
use Rattle.sv_ast.specs.Values.{joined_value, assigned_value}
use Rattle.sv_ast.specs.Instances.{is_signal, whole_name, whole_signal}
use Rattle.sv_ast.specs.Runs.{Running, targets_width, run as source_run}
use Rattle.sv_ast.specs.Processes.{assigns as assigns_whole}
use Rattle.sv_ast.specs.GrammarModules.{place_of}
use Rattle.sv_flat.specs.Design.{SignalForm, TypedTree, ProcessKind, continuous, port_in, port_out}
use Rattle.sv_flat.specs.Design.{ProcessForm}
use Rattle.sv_flat.specs.Values.{signal_width, value}
use Rattle.sv_flat.specs.Runs.{Updates, run, run_alone}
use Rattle.sv_elab_rules.specs.Walks.{found}
use Rattle.sv_elab_rules.specs.Names.{Names}
use Rattle.sv_elab_rules.specs.Rules.{wrong_link}
use Rattle.sv_elab_rules.specs.ExpressionSteps.{expression_walk}
use Rattle.sv_elab_rules.specs.Links.{Ports, port_number, port_width, port_value, whole_assignment}
use Rattle.sv_elab_rules.specs.Links.{input_link, output_link}
use Rattle.sv_elab_rules.specs.InstanceSteps.{Built, with_process, value_walk}
use Rattle.sv_elab_rules.proofs.WalkLemmas.{parts_done, found_some}
use Rattle.sv_width.specs.Agreement.{AllDeclared, HaveSignals, HaveValues}
use Rattle.sv_elab_laws.specs.Numbering.{IsNumbering}
use Rattle.sv_elab_laws.specs.SameStates.{AreSame}
use Rattle.sv_elab_laws.proofs.PieceValues.{whole_replaced}
use Rattle.sv_elab_laws.proofs.SameUpdates.{signal_known, is_a_signal}
use Rattle.sv_elab_laws.proofs.AssignmentsSame.{right_same, assigned_same}

-- a whole signal gets the low bits of a value
pub whole_runs : (signals : List SignalForm) (p : Place) (kind : ProcessKind) (k width : ℕ)
    (right : TypedTree) → 1 ≤ width
    → signal_width signals k ≡ width → (e : Environment ℕ)
    → run_alone signals (whole_assignment p kind k width right).body e ≡
    put ◌==◌ k (value signals e right % 2 ^ width) e
whole_runs signals p kind k width right some is e =
    ap (λ v. put ◌==◌ k v e)
    (ap (λ w. replaced_bits w (width - 1) 0 (e k) (value signals e right / 2 ^ 0)) is
    ∙ whole_replaced width (e k) (value signals e right / 2 ^ 0) some
    ∙ ap (λ v. v % 2 ^ width) (over_one (value signals e right)))
  where
    over_one : (v : ℕ) → v / 2 ^ 0 ≡ v
    over_one v = omega arith

-- an input port gets the value of its expression
pub input_link_same : (signals : List SignalForm) (outer : Names) → AllDeclared outer
    → HaveSignals outer signals
    → (ports : Ports) (d : DeclarationTree) (e : ExpressionTree) (process : ProcessForm)
    → (input_link outer ports d e).end ≡ Ok process
    → 1 ≤ port_width ports d → signal_width signals (port_number ports d.name) ≡ port_width ports d
    → (by_name : Environment (List ℕ)) (by_num : Environment ℕ) → HaveValues outer by_name by_num
    → run_alone signals process.body by_num
    ≡ put ◌==◌ (port_number ports d.name)
    (assigned_value outer.scope by_name (port_width ports d) e) by_num
unfolding input_link
input_link_same signals outer declared listed ports d e process h some is by_name by_num values =
    let first = parts_done (expression_walk outer e (port_width ports d)) _ process h in
    let last : whole_assignment (place_of e) port_in (port_number ports d.name) (port_width ports d)
    first.0 ≡ process = cc first.2 in
    ap (λ (q : ProcessForm). run_alone signals q.body by_num) (sym last)
    ∙ whole_runs signals (place_of e) port_in (port_number ports d.name) (port_width ports d)
    first.0 some is by_num
    ∙ ap (λ v. put ◌==◌ (port_number ports d.name) (v % 2 ^ port_width ports d) by_num)
    (right_same outer signals declared listed by_name by_num values e (port_width ports d) first.0
    first.1)

some_same : (m k : List ℕ) → Some m ≡ Some k → m ≡ k
some_same m k h = cc h

-- a name that is linked is that of a signal
pub names_a_signal : (scope : Scope) (e : ExpressionTree) (n : List ℕ) →
    whole_signal scope e ≡ Some n → IsTrue (is_signal (scope n))
names_a_signal scope e n = by_name (whole_name e)
  where
    by_name : (o : Option (List ℕ)) →
        option_and_then (λ m. if is_signal (scope m) then Some m else None) o ≡ Some n →
        IsTrue (is_signal (scope n))
    by_name (Some m) h = by_test (is_signal (scope m)) refl h
      where
        by_test : (b : Bool) → is_signal (scope m) ≡ b → (if b then Some m else None) ≡ Some n →
            IsTrue (is_signal (scope n))
        by_test true is same = subst (λ k. IsTrue (is_signal (scope k))) (some_same m n same) is
        by_test false is none = absurd (cc none)
    by_name None h = absurd (cc h)

-- the value of a port
port_same : (signals : List SignalForm) (inner : Names) → HaveSignals inner signals
    → (ports : Ports) (d : DeclarationTree) (width : ℕ) (p : Place)
    → inner.scope d.name ≡ Some (signal (port_width ports d) d.signed)
    → inner.number d.name ≡ port_number ports d.name
    → (by_name : Environment (List ℕ)) (by_num : Environment ℕ) → HaveValues inner by_name by_num
    → value signals by_num (port_value ports d width p)
    ≡ source_value inner.scope by_name (named d.name d.place)
    (max (length_of inner.scope (named d.name d.place)) width)
    (signed_of inner.scope (named d.name d.place))
unfolding length_of joined_length signed_of source_value joined_value
port_same signals inner listed ports d width p port_is number_is by_name by_num values =
    let own : ℕ = port_width ports d in
    let k : ℕ = port_number ports d.name in
    let long : ℕ = max own width in
    ap (λ w. extended d.signed w long (by_num k)) (ap (signal_width signals) (sym number_is)
    ∙ (listed d.name own d.signed port_is).1)
    ∙ ap (λ v. extended d.signed own long v) (ap by_num (sym number_is)
    ∙ values d.name own d.signed port_is)
    ∙ ap (λ (b : Option Binding).
    extended (is_signed b) (width_of b) (max (width_of b) width) (value_of b (by_name d.name)))
    (sym port_is)

-- an output port gives its value to the signal that is linked to it
pub output_link_same : (signals : List SignalForm) (outer inner : Names) → IsNumbering outer signals
    → HaveSignals inner signals
    → (ports : Ports) (d : DeclarationTree) (e : ExpressionTree) (process : ProcessForm)
    → (output_link outer ports d e).end ≡ Ok process
    → inner.scope d.name ≡ Some (signal (port_width ports d) d.signed)
    → inner.number d.name ≡ port_number ports d.name
    → (by_name : Environment (List ℕ)) (by_num : Environment ℕ) → HaveValues inner by_name by_num
    → (n : List ℕ) × (whole_signal outer.scope e ≡ Some n)
    × (run_alone signals process.body by_num
    ≡ put ◌==◌ (outer.number n)
    (assigned_value inner.scope by_name (width_of (outer.scope n))
    (named d.name d.place)) by_num)
unfolding output_link
output_link_same signals outer inner numbering listed ports d e process h port_is number_is by_name
    by_num values =
    let first = parts_done (found (whole_signal outer.scope e) (wrong_link (place_of e) d.name)) _
    process h in
    let n : List ℕ = first.0 in
    let is : whole_signal outer.scope e ≡ Some n =
    found_some (whole_signal outer.scope e) _ n first.1 in
    let width : ℕ = width_of (outer.scope n) in
    let right : TypedTree = port_value ports d width (place_of e) in
    let last : whole_assignment (place_of e) port_out (outer.number n) width right ≡ process =
    cc first.2 in
    let known = signal_known outer.scope n (names_a_signal outer.scope e n is) in
    let width_is : width ≡ known.0 = ap width_of known.2 in (
      n,
      is,
      ap (λ (q : ProcessForm). run_alone signals q.body by_num) (sym last)
          ∙ whole_runs signals (place_of e) port_out (outer.number n) width right
          (subst (λ k. 1 ≤ k) (sym width_is) (numbering.widths n known.0 known.1 known.2))
          ((numbering.listed n known.0 known.1 known.2).1 ∙ sym width_is) by_num
          ∙ ap (λ v. put ◌==◌ (outer.number n) (v % 2 ^ width) by_num)
          (port_same signals inner listed ports d width (place_of e) port_is number_is by_name
          by_num values),
    )

abbrev whole_target : List ℕ → Place → TargetTree
whole_target n p = record { name = n; place = p; selection = whole }

one_target : (names : Names) (n : List ℕ) (p : Place) →
    targets_width names.scope (whole_target n p ∷ []) ≡ width_of (names.scope n)
unfolding length_of joined_length
one_target names n p = omega arith

-- a wire gets its value
pub wire_same : (names : Names) (signals : List SignalForm) → IsNumbering names signals →
    (d : DeclarationTree) (e : ExpressionTree)
    (built next : Built) → (value_walk names built d (Some e)).end ≡ Ok next
    → (width : ℕ) (signed : Bool)
    → names.scope d.name ≡ Some (signal width signed)
    → (process : ProcessForm) × (next ≡ with_process built process) × (process.kind ≡ continuous)
    × ((flat : Environment ℕ × Updates) (source : Running) → AreSame names flat source
    → AreSame names (run signals process.body flat)
    (source_run names.scope (assigns_whole d.name d.place e) source))
unfolding value_walk source_run
wire_same names signals numbering d e built next h width signed there =
    let own : ℕ = width_of (names.scope d.name) in
    let first = parts_done (expression_walk names e own) _ next h in
    let process : ProcessForm =
    whole_assignment d.place continuous (names.number d.name) own first.0 in
    let last : with_process built process ≡ next = cc first.2 in (
      process,
      sym last,
      refl,
      λ flat source before.
          assigned_same names signals numbering (whole_target d.name d.place ∷ []) d.place true
          e first.0
          ((is_a_signal names.scope d.name width signed there, tt), tt)
          (ap (λ k. (expression_walk names e k).end) (one_target names d.name d.place) ∙ first.1)
          flat source before,
    )
