-- What the walk of instances adds to what was built: for each part of the source a signal or a
-- process, in order.
use Rattle.std.proofs.Common.{◌≡◌, ℕ, ◌+◌, ◌≤◌, Bool, true, false, List, []}
use Rattle.std.proofs.Common.{◌∷◌, ◌++◌, map, Option, Some, None, refl, sym, ap, subst, ◌∙◌}
use Rattle.std.proofs.Common.{arith, ⊎_elim}
use Rattle.std.specs.Prelude.{◌&&◌, flat_map, Contains, Ok, IsTrue}
use Rattle.std.specs.List.{slice_get, list_all, filter_map, AllZip}
use Rattle.std.proofs.lemmas.List.{append_assoc, append-nil}
use Rattle.std.proofs.lemmas.List.Concat.{flat_map-append}
use Rattle.sv_system.proofs.Lists.{Contains-nil}
use Rattle.sv_lattice.specs.declared.labels.Label.{Label}
use Rattle.sv_lattice.specs.declared.labels.Label.TheVariants.{Point as Declared_point}
use Rattle.sv_ast.specs.Scopes.{Binding, signal}
use Rattle.sv_ast.specs.Tree.{StatementTree, assignment, LabelTree, DeclarationTree}
use Rattle.sv_ast.specs.Tree.{InstanceTree, ItemTree}
use Rattle.sv_ast.specs.Shape.{is_shaped_statement, is_whole_target}
use Rattle.sv_ast.specs.Instances.{is_empty, is_signal, instance_of, instances}
use Rattle.sv_ast.specs.Parts.{Path, Part, within, child, PartSignal, signal_path, signal_width}
use Rattle.sv_ast.specs.Parts.{declarations, signals_of, PortLink}
use Rattle.sv_ast.specs.Processes.{Process, combinational, clocked, linking}
use Rattle.sv_flat.specs.Design.{SignalForm, ProcessKind}
use Rattle.sv_flat.specs.Design.{continuous, release}
use Rattle.sv_flat.specs.Design.{ProcessForm}
use Rattle.sv_flat.specs.Processes.{is_clocked}
use Rattle.sv_flat.specs.Clocks.{is_port_in, is_port_out}
use Rattle.sv_elab_rules.specs.Names.{Names}
use Rattle.sv_elab_rules.specs.Declarations.{kind_of}
use Rattle.sv_elab_rules.specs.LabelSteps.{SharedTables, label_walk}
use Rattle.sv_elab_rules.specs.Links.{Ports, port_number, link_walk}
use Rattle.sv_elab_rules.specs.Statements.{statement_walk}
use Rattle.sv_elab_rules.specs.InstanceSteps.{Built, with_process}
use Rattle.sv_elab_laws.specs.Numbers.{SelectorsFit}
use Rattle.sv_elab_laws.specs.SideBySide.{clock_of}
use Rattle.sv_elab_laws.proofs.PartsLists.{zip_append, filter_map_append, stands_get}
use Rattle.sv_elab_laws.proofs.PartsLists.{get_map, AllDiffer}
use Rattle.sv_flat.proofs.Members.{Contains-either as contains_either}
use Rattle.sv_elab_laws.proofs.PartsNamed.{IsNamed}

-- the names of the instances in some items
abbrev pub instance_names_in : List ItemTree → List (List ℕ)
instance_names_in items = map (λ (i : InstanceTree). i.name) (filter_map instance_of items)

module _ (tables : SharedTables) (sources : List PartSignal) (everything : List Part) where
  abbrev pub LabelFound : Names → Option LabelTree → Label → Type 0
  LabelFound names None l = l ≡ Declared_point (record { 0 = tables.least })
  LabelFound names (Some t) l = (label_walk tables names t).end ≡ Ok l

  -- a flat signal is that of a declaration in an instance
  pub record IsForm (s : PartSignal) (t : SignalForm) : Type 0 where
    pub names : Names
    pub named : IsNamed sources everything s.part names
    pub listed : Contains (declarations s.part.definition) s.declaration
    pub width : t.width ≡ signal_width s
    pub kind : t.kind ≡ kind_of (is_empty s.part.path) s.declaration.kind
    pub found : LabelFound names s.declaration.label t.label

  -- an `assign` or a `wire` is one assignment to whole signals, and nothing is released
  abbrev pub KindFits : ProcessKind → StatementTree → Type 0
  KindFits continuous (assignment ts p blocking e) =
      IsTrue (blocking && list_all is_whole_target ts)
  KindFits continuous s = ⊥
  KindFits (release p) s = ⊥
  KindFits k s = Unit {0}

  -- a flat body is that of a statement in an instance
  pub record IsBody (p : Part) (s : StatementTree) (f : ProcessForm) : Type 0 where
    pub names : Names
    pub named : IsNamed sources everything p names
    pub walked : (statement_walk names s).end ≡ Ok f.body
    pub shaped : IsTrue (is_shaped_statement s)
    pub fits : SelectorsFit s
    pub kind : KindFits f.kind s

  -- a flat process is that of a link
  pub record IsLink (l : PortLink) (f : ProcessForm) : Type 0 where
    pub outer : Names
    pub inner : Names
    pub outer_named : IsNamed sources everything l.outer outer
    pub inner_named : IsNamed sources everything l.inner inner
    pub ports : Ports
    pub number : port_number ports l.port.name ≡ inner.number l.port.name
    pub stands : ports.scope l.port.name ≡ inner.scope l.port.name
    pub listed : Contains l.inner.definition.ports l.port
    pub walked : (link_walk outer ports l.port l.expression).end ≡ Ok f

  abbrev pub IsNoLink : ProcessKind → Type 0
  IsNoLink k = (is_port_in k ≡ false) × (is_port_out k ≡ false)

  -- a flat process is that of a process of the source
  abbrev pub IsFlat : Process → ProcessForm → Type 0
  IsFlat (combinational p s) f = IsBody p s f × (is_clocked f.kind ≡ false) × IsNoLink f.kind
  IsFlat (clocked p s) f = IsBody p s f × (is_clocked f.kind ≡ true)
  IsFlat (linking l) f = IsLink l f

  -- the number is that of the signal at the path
  abbrev pub IsNumberOf : Path → ℕ → Type 0
  IsNumberOf path k = slice_get (map signal_path sources) k ≡ Some path

  pub signal_is : (b : Option Binding) → IsTrue (is_signal b) →
      (width : ℕ) × (signed : Bool) × (b ≡ Some (signal width signed))
  signal_is (Some (signal width signed)) h = (width, signed, refl)
  signal_is (Some (Rattle.sv_ast.specs.Scopes.parameter v)) h =
      absurd (Rattle.std.proofs.lemmas.Bool.false≢true h)
  signal_is None h = absurd (Rattle.std.proofs.lemmas.Bool.false≢true h)

  -- a declared signal stands at its number
  pub source_at : (p : Part) (names : Names) → (named : IsNamed sources everything p names)
      → (j : ℕ) (d : DeclarationTree)
      → slice_get (declarations p.definition) j ≡ Some d
      → slice_get sources (named.base + j) ≡ Some (record { part = p; declaration = d })
  source_at p names named j d at =
      stands_get sources named.base (signals_of p) named.placed j (record {
        part = p;
        declaration = d;
      })
      (get_map (λ (x : DeclarationTree).
      record { part = p; declaration = x }) (declarations p.definition) j d at)

  pub source_of_name : (p : Part) (names : Names) → IsNamed sources everything p names
      → (n : List ℕ) → IsTrue (is_signal (names.scope n))
      → (d : DeclarationTree) × (d.name ≡ n) × Contains (declarations p.definition) d
      × (slice_get sources (names.number n) ≡ Some (record { part = p; declaration = d }))
  source_of_name p names named n h =
      let b = signal_is (names.scope n) h in
      let found = named.only n b.0 b.1 b.2 in
      let j = found.0 in
      let d = found.1 in
      let number : names.number n ≡ named.base + j =
      ap names.number (sym found.3) ∙ (named.known j d found.2).1 in (
        d,
        found.3,
        Rattle.sv_elab_laws.proofs.PartsLists.get_contains (declarations p.definition) j d found.2,
        ap (slice_get sources) number ∙ source_at p names named j d found.2,
      )

  pub number_of_name : (p : Part) (names : Names) → IsNamed sources everything p names
      → (n : List ℕ) → IsTrue (is_signal (names.scope n))
      → IsNumberOf (within p n) (names.number n)
  number_of_name p names named n h =
      let s = source_of_name p names named n h in
      get_map signal_path sources (names.number n) (record { part = p; declaration = s.0 }) s.3
      ∙ ap (λ m. Some (within p m)) s.1

  -- each instance in a part is a part
  abbrev pub ChildrenIn : Part → Type 0
  ChildrenIn q = (i : InstanceTree) (c : Part) → Contains (instances q.definition) i
      → child tables.modules q i ≡ Some c → Contains everything c

  -- what was built before, with these parts, processes and clocks at its end
  pub record Grown (before after : Built) (ps : List Part) (qs : List Process) (es : List Path) :
      Type 0 where
    pub forms : List SignalForm
    pub signals : after.signals ≡ before.signals ++ forms
    pub each_form : AllZip IsForm (flat_map signals_of ps) forms
    pub bodies : List ProcessForm
    pub processes : after.processes ≡ before.processes ++ bodies
    pub each_body : AllZip IsFlat qs bodies
    pub each_edge : AllZip IsNumberOf es (filter_map clock_of bodies)
    pub differ : (q : Part) → Contains ps q → AllDiffer (instance_names_in q.definition.items)
    pub inner : (q : Part) → Contains ps q → ChildrenIn q
    pub more : before.instances ≤ after.instances

  pub grown_none : (a : Built) → Grown a a [] [] []
  grown_none a = record {
    forms = [];
    signals = sym (append-nil a.signals);
    each_form = tt;
    bodies = [];
    processes = sym (append-nil a.processes);
    each_body = tt;
    each_edge = tt;
    differ = λ q at. absurd (Contains-nil q at);
    inner = λ q at. absurd (Contains-nil q at);
    more = omega arith;
  }

  pub grown_join : (a b c : Built) (ps us : List Part) (qs vs : List Process) (es fs : List Path)
      → Grown a b ps qs es → Grown b c us vs fs
      → Grown a c (ps ++ us) (qs ++ vs) (es ++ fs)
  grown_join a b c ps us qs vs es fs h k = record {
    forms = h.forms ++ k.forms;
    signals =
        k.signals ∙ ap (λ xs. xs ++ k.forms) h.signals ∙ append_assoc a.signals h.forms k.forms;
    each_form =
        subst (λ xs. AllZip IsForm xs (h.forms ++ k.forms)) (sym (flat_map-append signals_of ps us))
        (zip_append IsForm (flat_map signals_of ps) (flat_map signals_of us) h.forms k.forms
        h.each_form k.each_form);
    bodies = h.bodies ++ k.bodies;
    processes =
        k.processes ∙ ap (λ xs. xs ++ k.bodies) h.processes
        ∙ append_assoc a.processes h.bodies k.bodies;
    each_body = zip_append IsFlat qs vs h.bodies k.bodies h.each_body k.each_body;
    each_edge =
        subst (λ xs. AllZip IsNumberOf (es ++ fs) xs)
        (sym (filter_map_append clock_of h.bodies k.bodies))
        (zip_append IsNumberOf es fs (filter_map clock_of h.bodies) (filter_map clock_of k.bodies)
        h.each_edge k.each_edge);
    differ = λ q at. ⊎_elim (h.differ q) (k.differ q) (contains_either ps us q at);
    inner = λ q at. ⊎_elim (h.inner q) (k.inner q) (contains_either ps us q at);
    more = let l = h.more in let r = k.more in omega arith;
  }

  -- one process more
  pub grown_one : (a : Built) (q : Process) (f : ProcessForm) (es : List Path) → IsFlat q f
      → AllZip IsNumberOf es (filter_map clock_of (f ∷ []))
      → Grown a (with_process a f) [] (q ∷ []) es
  grown_one a q f es flat edges = record {
    forms = [];
    signals = sym (append-nil a.signals);
    each_form = tt;
    bodies = f ∷ [];
    processes = refl;
    each_body = (flat, tt);
    each_edge = edges;
    differ = λ r at. absurd (Contains-nil r at);
    inner = λ r at. absurd (Contains-nil r at);
    more = omega arith;
  }
