use Rattle.std.proofs.Common.{◌≡◌, ◌<◌, ℕ, Bool, Vec, Global, length, sym, subst}
use Rattle.std.specs.Prelude.{Contains, IsTrue, IfOk}
use Rattle.std.proofs.Math.ListN.{length-map}
use Rattle.sv_flat.specs.Assigned.{assigns}
use Rattle.sv_flat.specs.Clocks.{processes_of}
use Rattle.sv_flat.specs.Design.{ProcessForm}
use Rattle.sv_flat.specs.Reads.{followed}
use Rattle.sv_flat.specs.Views.{design_of, signal_form}
use Rattle.sv_flat.specs.declared.designs.Flat.{Flat}
use Rattle.sv_graph.specs.Marks.{followed_in}
use Rattle.sv_design.proofs.FollowTables.{starts_below, table_follows, table_size}
use Rattle.sv_design.proofs.design.Design.follows.Goals as goal

known : (flat now : Flat) (s : ℕ) → flat ≡ now → s < length now.signals.items
    → s < length (design_of flat).signals
known flat now s same below =
    subst (λ m. s < m) (sym (length-map flat.signals.items signal_form))
    (subst (λ (f : Flat). s < length f.signals.items) (sym same) below)

pub reached-requires-clause-whole : goal.reached-requires-clause-whole
reached-requires-clause-whole c = c.self.invariant.1.wants_are.1

pub reached-requires-clause-starts : goal.reached-requires-clause-starts
reached-requires-clause-starts c =
    starts_below (design_of c.self.inside.flat) c.self.inside.tables.wants
    c.self.invariant.1.wants_are c.args.s.0
    (known c.self.inside.flat c.args.self.now c.args.s.0 c.self.view_is c.requires)

pub returns-clause-follows : goal.returns-clause-follows
returns-clause-follows c =
    subst (λ (flat : Flat). IfOk c.reached.result (λ (table : Vec Bool Global).
    (p : ProcessForm) → Contains (processes_of (design_of flat)) p
    → IsTrue (assigns p.body c.args.s.0)
    → followed_in table.items ≡ followed (design_of flat) p c.args.s.0)) c.self.view_is
    (table_follows (design_of c.self.inside.flat) c.self.inside.tables.wants
    c.self.invariant.1.wants_are c.args.s.0 c.self.invariant.0
    (known c.self.inside.flat c.args.self.now c.args.s.0 c.self.view_is c.requires)
    c.reached.result c.reached.ensures)

pub returns-clause-size : goal.returns-clause-size
returns-clause-size c =
    subst (λ (flat : Flat). IfOk c.reached.result (λ (table : Vec Bool Global).
    length table.items ≡ length flat.signals.items)) c.self.view_is
    (subst (λ m. IfOk c.reached.result (λ (table : Vec Bool Global). length table.items ≡ m))
    (length-map c.self.inside.flat.signals.items signal_form)
    (table_size (design_of c.self.inside.flat) c.self.inside.tables.wants
    c.self.invariant.1.wants_are c.args.s.0
    (known c.self.inside.flat c.args.self.now c.args.s.0 c.self.view_is c.requires)
    c.reached.result c.reached.ensures))
