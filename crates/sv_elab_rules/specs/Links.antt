-- The walk of an instance's links (IEEE 1364-2005, clause 12.3): an input link assigns its
-- expression to the port, an output link the port to the named signal.
use Rattle.std.specs.Prelude.{ℕ, ◌+◌, ◌-◌, max, true, false, not, List, [], ◌∷◌, ◌++◌, Option, Some}
use Rattle.std.specs.Prelude.{None, unwrap_or, position}
use Rattle.std.specs.List.{list_any}
use Rattle.std.specs.Str.{bytes_eq}
use Rattle.sv_num.specs.declared.faults.Place.{Place}
use Rattle.sv_ast.specs.ClockPaths.{is_input_kind}
use Rattle.sv_ast.specs.Scopes.{Scope, width_of}
use Rattle.sv_ast.specs.Tree.{ExpressionTree, DeclarationTree, NamedLink, LinkTrees, named_links}
use Rattle.sv_ast.specs.Tree.{ordered_links, ModuleTree}
use Rattle.sv_ast.specs.Instances.{port_named, whole_signal}
use Rattle.sv_ast.specs.GrammarModules.{place_of}
use Rattle.sv_flat.specs.Design.{TypedTree, typed, read, assign, ProcessKind, port_in, port_out}
use Rattle.sv_flat.specs.Design.{ProcessForm}
use Rattle.sv_elab_rules.specs.Walks.{Walk, done, ask, found, broken, ◌>>=◌}
use Rattle.sv_elab_rules.specs.Rules.{wrong_link, links_over}
use Rattle.sv_elab_rules.specs.Names.{Names}
use Rattle.sv_elab_rules.specs.ExpressionSteps.{expression_walk}

-- the ports of an instance, of which the first gets the number `base`, and what their declarations
-- say of their widths
pub record Ports : Type 0 where
  pub base : ℕ
  pub master : ModuleTree
  pub scope : Scope

-- the number of a port
abbrev pub port_number : Ports → List ℕ → ℕ
port_number ports n =
    ports.base + unwrap_or (position (λ (d : DeclarationTree).
    bytes_eq n d.name) ports.master.ports) 0

-- one assignment to a whole signal, as a process
abbrev pub whole_assignment : Place → ProcessKind → (signal width : ℕ) → TypedTree → ProcessForm
whole_assignment p kind signal width value = record {
  place = p;
  kind = kind;
  body =
      assign ((record { signal = signal; place = p; high = width - 1; low = 0; from = 0 }) ∷ []) p
      true value;
}

abbrev pub port_width : Ports → DeclarationTree → ℕ
port_width ports d = width_of (ports.scope d.name)

-- an input port gets the value of the expression
unfoldable pub input_link : (outer : Names) → Ports → DeclarationTree → ExpressionTree →
    Walk ProcessForm
input_link outer ports d e = do
  value ← expression_walk outer e (port_width ports d)
  done (whole_assignment (place_of e) port_in (port_number ports d.name) (port_width ports d) value)

-- the value of a port, for a signal of so many bits
abbrev pub port_value : Ports → DeclarationTree → (width : ℕ) → Place → TypedTree
port_value ports d width p =
    typed (max (port_width ports d) width) d.signed (read (port_number ports d.name) p)

-- an output port is linked to a whole signal, which gets its value
unfoldable pub output_link : (outer : Names) → Ports → DeclarationTree → ExpressionTree →
    Walk ProcessForm
output_link outer ports d e = do
  n ← found (whole_signal outer.scope e) (wrong_link (place_of e) d.name)
  let width = width_of (outer.scope n)
  done (whole_assignment (place_of e) port_out (outer.number n) width
      (port_value ports d width (place_of e)))

-- a link of a port with an expression
unfoldable pub link_walk : (outer : Names) → Ports → DeclarationTree → ExpressionTree →
    Walk ProcessForm
link_walk outer ports d e =
    elim (is_input_kind d.kind) [
      | true ↦ input_link outer ports d e
      | false ↦
          output_link outer ports d e
    ]

-- an empty link is no process
unfoldable pub optional_link : (outer : Names) → Ports → DeclarationTree → Option ExpressionTree
    → Walk (List ProcessForm)
optional_link outer ports d None = done []
optional_link outer ports d (Some e) = do
  process ← link_walk outer ports d e
  done (process ∷ [])

-- by name: each is a port that was not linked before
unfoldable pub named_links_walk : (outer : Names) → Ports → (linked : List (List ℕ))
    → (processes : List ProcessForm) → List NamedLink → Walk (List ProcessForm)
named_links_walk outer ports linked processes [] = done processes
named_links_walk outer ports linked processes (l ∷ ls) = do
  d ← found (port_named ports.master l.name) (wrong_link l.place l.name)
  _ ← ask (not (list_any (bytes_eq l.name) linked)) (wrong_link l.place l.name)
  more ← optional_link outer ports d l.value
  named_links_walk outer ports (linked ++ l.name ∷ []) (processes ++ more) ls

-- by place: there is a port for each expression
unfoldable pub ordered_links_walk : (outer : Names) → Ports → (free : List DeclarationTree)
    → (processes : List ProcessForm) → List ExpressionTree → Walk (List ProcessForm)
ordered_links_walk outer ports free processes [] = done processes
ordered_links_walk outer ports [] processes (e ∷ es) = broken (links_over (place_of e))
ordered_links_walk outer ports (d ∷ free) processes (e ∷ es) = do
  process ← link_walk outer ports d e
  ordered_links_walk outer ports free (processes ++ process ∷ []) es

-- after some processes, those of the links
unfoldable pub links_walk : (outer : Names) → Ports → (processes : List ProcessForm) → LinkTrees
    → Walk (List ProcessForm)
links_walk outer ports processes (named_links ls) = named_links_walk outer ports [] processes ls
links_walk outer ports processes (ordered_links es) =
    ordered_links_walk outer ports ports.master.ports processes es
