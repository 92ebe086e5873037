-- The processes of a flat design that are not clocked, and those of its source, in order: each does
-- what the other does.
use Rattle.std.proofs.Common.{◌≡◌, ℕ, Bool, true, false, cond, List}
use Rattle.std.proofs.Common.{[], ◌∷◌, map, length, Option, Some, None, refl, sym, ap, subst}
use Rattle.std.proofs.Common.{◌∙◌, ⊎_elim}
use Rattle.std.specs.Prelude.{not, ◌==◌, filter, Contains, IsTrue}
use Rattle.std.specs.Prelude.{option_map}
use Rattle.std.specs.List.{list_any, filter_map, cons_option, AllZip}
use Rattle.std.proofs.lemmas.Bool.{false≢true, both_ways, and_parts, and_from, and_left}
use Rattle.std.proofs.lemmas.Bool.{or_left, or_cases, eqb-true, eq-eqb, cond-false}
use Rattle.std.proofs.lemmas.Bool.{ltb-true, false_from_ne_true, not-true}
use Rattle.sv_system.specs.System.{System, Environment, Run, put}
use Rattle.sv_system.specs.Joining.{SameRun}
use Rattle.sv_system.proofs.Lists.{Contains-head, Contains-later, Contains-map}
use Rattle.sv_system.proofs.Lists.{Contains-filter}
use Rattle.sv_ast.specs.Scopes.{width_of}
use Rattle.sv_ast.specs.Tree.{TextTree, named}
use Rattle.sv_ast.specs.Values.{assigned_value}
use Rattle.sv_ast.specs.Instances.{whole_signal}
use Rattle.sv_ast.specs.Reach.{holds}
use Rattle.sv_ast.specs.Parts.{Path, same_path, within, parts, PartSignal, signal_path}
use Rattle.sv_ast.specs.Parts.{PortLink, port_path, linked_path}
use Rattle.sv_ast.specs.ClockPaths.{is_input_kind}
use Rattle.sv_ast.specs.Processes.{Process, combinational, clocked, linking, processes, values_in}
use Rattle.sv_ast.specs.Processes.{changed_by, link_in as source_link_in}
use Rattle.sv_ast.specs.Processes.{link_out as source_link_out, value_for, change_of}
use Rattle.sv_ast.specs.Processes.{links_one_of}
use Rattle.sv_flat.specs.Design.{ProcessForm, FlatDesign}
use Rattle.sv_flat.specs.Assigned.{assigns}
use Rattle.sv_flat.specs.Admission.{IsAdmitted}
use Rattle.sv_flat.specs.Soundness.{sound}
use Rattle.sv_flat.specs.Values.{signal_width as flat_width}
use Rattle.sv_flat.specs.Runs.{run_alone}
use Rattle.sv_flat.specs.Processes.{is_clocked}
use Rattle.sv_flat.specs.Clocks.{is_clock, is_port_in, is_clock_link, clocks, processes_of}
use Rattle.sv_flat.specs.FlatSystem.{combinational_processes, run_of, flat_system}
use Rattle.sv_flat.proofs.LeastSets.{some_from, from_some, Contains-from_holds, holds-from_Contains}
use Rattle.sv_flat.proofs.LeastSets.{Contains-from_filter}
use Rattle.sv_flat.proofs.SameRuns.{run_leaves}
use Rattle.sv_flat.proofs.AdmittedFacts.{no_clock_link, body_is_sound}
use Rattle.sv_flat.proofs.AdmittedFacts.{assigned_is_signal, assigns_no_clock}
use Rattle.sv_flat.proofs.FlatScheduled.{in_processes, unclocked}
use Rattle.sv_elab_rules.specs.Links.{port_number, port_width}
use Rattle.sv_ast.specs.TextSystem.{text_clocks, unclocked as unclocked_run}
use Rattle.sv_elab_laws.proofs.PartsGrown.{IsLink, IsFlat}
use Rattle.sv_elab_laws.proofs.PartsTexts.{SideBySide, sources_of}
use Rattle.sv_elab_laws.proofs.JoinedLinks.{port_at, port_stands, some_bits, port_numbered}
use Rattle.sv_elab_laws.proofs.JoinedLinks.{outer_numbered}
use Rattle.sv_elab_laws.proofs.JoinedLinks.{IsInput, IsOutput, link_is}
use Rattle.sv_elab_laws.proofs.JoinedClocks.{IsNumber, number_same, same_clock, top_links_forth}
use Rattle.sv_elab_laws.proofs.JoinedClocks.{outer_clock, same_bool}
use Rattle.sv_elab_laws.proofs.JoinedNumbers.{to_is, At, at_number, flat_signals}
use Rattle.sv_elab_laws.proofs.JoinedNumbers.{same_signals, signal_below}
use Rattle.sv_elab_laws.proofs.JoinedNumbers.{is_flat_signal, same_paths, path_itself}
use Rattle.sv_elab_laws.proofs.JoinedRuns.{source_processes, source_system, path_to, unclocked_values}
use Rattle.sv_elab_laws.proofs.JoinedRuns.{numbered_values, unclocked_within, path_no_clock}
use Rattle.sv_elab_laws.proofs.JoinedRuns.{numbered_same}
use Rattle.sv_elab_laws.proofs.JoinedRuns.{have_signals, numbering, have_values, number_width}
use Rattle.sv_elab_laws.proofs.JoinedRuns.{flat_same, statement_runs}
use Rattle.sv_elab_laws.proofs.LinksSame.{input_link_same, output_link_same}

module _ (text : TextTree) (top : Option (List ℕ)) (design : FlatDesign)
    (side : SideBySide text top design)
    (is_sound : IsTrue (sound design)) (admitted : IsAdmitted design) where
  abbrev sources : List PartSignal
  sources = sources_of text top

  abbrev second : System Path (List ℕ)
  second = source_system text top design side

  abbrev toward : ℕ → Path
  toward = path_to text top design side

  -- a run of the source, where it sees no clock
  abbrev pub seen_run : Run Path → Run Path
  seen_run = unclocked_run (text_clocks text top)

  -- what a flat process assigns is a signal
  flat_assigned : (f : ProcessForm) → Contains (combinational_processes design) f → (k : ℕ)
      → assigns f.body k ≡ true
      → Contains (flat_signals text top design side) k
  flat_assigned f at k h =
      let inside = in_processes design is_sound admitted f at in
      is_flat_signal text top design side k
      (ltb-true k (length design.signals)
      (assigned_is_signal design.signals f.body
      (body_is_sound design is_sound admitted f inside) k h))
      (assigns_no_clock design is_sound admitted f k inside h)

  pub same_place : (x : Path) (n : ℕ) → IsNumber text top design side x n → (k : ℕ) →
      At text top design side k → (n == k) ≡ same_path x (toward k)
  same_place x n number k a = same_bool (n == k) (same_path x (toward k))
      (λ h. subst (λ y. same_path x y ≡ true) (sym (to_is text top design side x n number)
      ∙ ap toward (eqb-true n k h)) (path_itself x))
      (λ h.
      let path : x ≡ signal_path a.source =
      same_paths x (toward k) h
      ∙ to_is text top design side (signal_path a.source) k a.number in
      eq-eqb n k (number_same text top design side x n k number
      (subst (λ y. IsNumber text top design side y k) (sym path) a.number)))

  -- a flat process and a process of the source that each give one signal a value
  module _ (f : ProcessForm) (at : Contains (combinational_processes design) f)
      (other : Environment Path → Environment Path)
      (x : Path) (n : ℕ) (number : IsNumber text top design side x n)
      (assigned_n : assigns f.body n ≡ true)
      (value : Environment Path → ℕ) (other_is : (g : Environment Path) (y : Path) →
      other g y ≡ put same_path x (value g) g y)
      (flat_is : (g : Environment Path) →
      run_alone design.signals f.body (numbered_values text top design side g)
      ≡ put ◌==◌ n (value (unclocked_values text top design side g))
      (numbered_values text top design side g)) where
    put_runs : SameRun (flat_system design) second toward (run_of design f) (seen_run other)
    put_runs = record {
      same = λ e g agree k inside.
          let a = at_number text top design side k (signal_below text top design side k inside) in
          let free = unclocked_values text top design side g in
          flat_same text top design side is_sound admitted f at e
          (numbered_values text top design side g)
          (λ t t_in. numbered_same text top design side e g agree t t_in) k inside
          ∙ ap (λ r. r k) (flat_is g)
          ∙ ap (λ b. cond b (value free) (free (toward k))) (same_place x n number k a)
          ∙ sym (other_is free (toward k))
          ∙ sym (cond-false (holds same_path (text_clocks text top) (toward k)) (g (toward k))
          (other free (toward k)) (path_no_clock text top design side k inside));
      first_within = λ e k outside. run_leaves design.signals f.body k
          (false_from_ne_true (assigns f.body k) (λ h. outside (flat_assigned f at k h))) (e, []);
      second_within = λ g y outside. unclocked_within text top design side other (λ h.
          other_is h y ∙ cond-false (same_path x y) (value h) (h y)
          (false_from_ne_true (same_path x y) (λ hit.
          outside (subst (Contains second.signals) (to_is text top design side x n number
          ∙ same_paths x y hit)
          (subst (λ xs. Contains xs (toward n)) (sym (same_signals text top design side))
          (Contains-map toward (flat_signals text top design side) n
          (flat_assigned f at n assigned_n))))))) g;
    }

  abbrev Flat : Process → ProcessForm → Type 0
  Flat q f = IsFlat side.tables sources (parts text top) q f

  abbrev PairRuns : Process → ProcessForm → Type 0
  PairRuns q f = (other : Environment Path → Environment Path) × (change_of q ≡ Some other)
      × SameRun (flat_system design) second toward (run_of design f) (seen_run other)

  module _ (l : PortLink) (f : ProcessForm)
      (link : IsLink side.tables sources (parts text top) l f) where
    abbrev port : ℕ
    port = port_at side.tables sources (parts text top) l f link

    input_assigns : IsInput side.tables sources (parts text top) l f link →
        assigns f.body port ≡ true
    input_assigns input = ap (λ (z : ProcessForm). assigns z.body port) input.form
        ∙ or_left (port_number link.ports l.port.name == port) false
        (eq-eqb (port_number link.ports l.port.name) port link.number)

    output_assigns : (output : IsOutput side.tables sources (parts text top) l f link) →
        assigns f.body (link.outer.number output.name) ≡ true
    output_assigns output =
        ap (λ (z : ProcessForm). assigns z.body (link.outer.number output.name)) output.form
        ∙ or_left (link.outer.number output.name == link.outer.number output.name) false
        (eq-eqb (link.outer.number output.name) (link.outer.number output.name) refl)

    input_runs : IsInput side.tables sources (parts text top) l f link
        → is_input_kind l.port.kind ≡ true
        → Contains (combinational_processes design) f → PairRuns (linking l) f
    input_runs input kind at =
        let change : change_of (linking l) ≡ Some (source_link_in l) =
        ap (λ b. cond b (Some (source_link_in l))
        (option_map (source_link_out l) (whole_signal l.outer.scope l.expression))) kind in
        let bits : port_width link.ports l.port ≡ width_of (l.inner.scope l.port.name) =
        ap width_of link.stands ∙ ap (λ s. width_of (s l.port.name)) link.inner_named.scope in (
          source_link_in l,
          change,
          put_runs f at (source_link_in l) (port_path l) port
              (port_numbered side.tables sources (parts text top) l f link)
              (input_assigns input)
              (λ g. value_for l.outer g (width_of (l.inner.scope l.port.name)) l.expression)
              (λ g y. refl)
              (λ g.
              input_link_same design.signals link.outer link.outer_named.declared
              (have_signals text top design side l.outer link.outer link.outer_named)
              link.ports l.port l.expression f input.walked
              (some_bits side.tables sources (parts text top) l f link)
              (ap (flat_width design.signals) link.number
              ∙ (number_width text top design side l.inner link.inner link.inner_named l.port.name
              (port_width link.ports l.port) l.port.signed
              (port_stands side.tables sources (parts text top) l f link)).1)
              (values_in l.outer (unclocked_values text top design side g))
              (numbered_values text top design side g)
              (have_values text top design side l.outer link.outer link.outer_named g)
              ∙ ap (λ m. put ◌==◌ m
              (assigned_value link.outer.scope
              (values_in l.outer (unclocked_values text top design side g))
              (port_width link.ports l.port) l.expression)
              (numbered_values text top design side g)) link.number
              ∙ ap (λ s. put ◌==◌ port
              (assigned_value s (values_in l.outer (unclocked_values text top design side g))
              (port_width link.ports l.port) l.expression)
              (numbered_values text top design side g)) link.outer_named.scope
              ∙ ap (λ w. put ◌==◌ port
              (assigned_value l.outer.scope
              (values_in l.outer (unclocked_values text top design side g)) w l.expression)
              (numbered_values text top design side g)) bits),
        )

    output_runs : (output : IsOutput side.tables sources (parts text top) l f link)
        → is_input_kind l.port.kind ≡ false
        → Contains (combinational_processes design) f → PairRuns (linking l) f
    output_runs output kind at =
        let n = output.name in
        let whole : whole_signal l.outer.scope l.expression ≡ Some n =
        ap (λ s. whole_signal s l.expression) (sym link.outer_named.scope) ∙ output.whole in
        let change : change_of (linking l) ≡ Some (source_link_out l n) =
        ap (λ b. cond b (Some (source_link_in l))
        (option_map (source_link_out l) (whole_signal l.outer.scope l.expression))) kind
        ∙ ap (option_map (source_link_out l)) whole in
        let numbers =
        outer_numbered side.tables sources (parts text top) l f link n output.whole in (
          source_link_out l n,
          change,
          put_runs f at (source_link_out l n) (within l.outer n)
              (link.outer.number n) numbers.1 (output_assigns output)
              (λ g. value_for l.inner g (width_of (l.outer.scope n))
              (named l.port.name l.port.place))
              (λ g y. refl)
              (λ g.
              let run = output_link_same design.signals link.outer link.inner
              (numbering text top design side l.outer link.outer link.outer_named)
              (have_signals text top design side l.inner link.inner link.inner_named) link.ports
              l.port l.expression f output.walked
              (port_stands side.tables sources (parts text top) l f link)
              (sym link.number)
              (values_in l.inner (unclocked_values text top design side g))
              (numbered_values text top design side g)
              (have_values text top design side l.inner link.inner link.inner_named g) in
              let same : run.0 ≡ n = let e : Some run.0 ≡ Some n =
              sym run.1 ∙ output.whole in cc e in
              run.2
              ∙ ap (λ m. put ◌==◌ (link.outer.number m)
              (assigned_value link.inner.scope
              (values_in l.inner (unclocked_values text top design side g))
              (width_of (link.outer.scope m)) (named l.port.name l.port.place))
              (numbered_values text top design side g)) same
              ∙ ap (λ s. put ◌==◌ (link.outer.number n)
              (assigned_value s (values_in l.inner (unclocked_values text top design side g))
              (width_of (link.outer.scope n)) (named l.port.name l.port.place))
              (numbered_values text top design side g)) link.inner_named.scope
              ∙ ap (λ s. put ◌==◌ (link.outer.number n)
              (assigned_value l.inner.scope
              (values_in l.inner (unclocked_values text top design side g))
              (width_of (s n)) (named l.port.name l.port.place))
              (numbered_values text top design side g)) link.outer_named.scope),
        )

    -- ---- links to clocks

    -- a link that is a process links no clock
    links_no_clock : Contains (processes text top) (linking l) → Contains (processes_of design) f
        → holds same_path (text_clocks text top) (port_path l) ≡ false
    links_no_clock at inside =
        false_from_ne_true (holds same_path (text_clocks text top) (port_path l)) (λ h.
        let number = port_numbered side.tables sources (parts text top) l f link in
        let clock : is_clock design port ≡ true =
        same_clock text top design side (port_path l) port number ∙ h in
        ⊎_elim
        (λ input. both_ways (is_clock_link design f)
        (no_clock_link design is_sound admitted f inside)
        (and_from (is_port_in f.kind) (list_any (assigns f.body) (clocks design))
        (ap (λ (z : ProcessForm). is_port_in z.kind) input.1.form)
        (some_from (assigns f.body) (clocks design) port
        (Contains-from_holds (clocks design) port clock) (input_assigns input.1))))
        (λ output.
        let n = output.1.name in
        let outer = outer_numbered side.tables sources (parts text top) l f link n output.1.whole in
        let linked : linked_path l ≡ Some (within l.outer n) =
        ap (option_map (within l.outer))
        (ap (λ s. whole_signal s l.expression) (sym link.outer_named.scope)
        ∙ output.1.whole) in
        both_ways (is_clock design (link.outer.number n))
        (assigns_no_clock design is_sound admitted f (link.outer.number n) inside
        (output_assigns output.1))
        (same_clock text top design side (within l.outer n) (link.outer.number n) outer.1
        ∙ outer_clock text top design side l (top_links_forth text top design side l at)
        (within l.outer n) linked h))
        (link_is side.tables sources (parts text top) l f link))

    -- and the other way round
    is_no_clock_link : holds same_path (text_clocks text top) (port_path l) ≡ false →
        is_clock_link design f ≡ false
    is_no_clock_link free = false_from_ne_true (is_clock_link design f) (λ h.
        let both = and_parts (is_port_in f.kind) (list_any (assigns f.body) (clocks design)) h in
        ⊎_elim
        (λ input.
        let c = from_some (assigns f.body) (clocks design) both.1 in
        let hit = or_cases (port_number link.ports l.port.name == c.0) false
        (sym (ap (λ (z : ProcessForm). assigns z.body c.0) input.1.form) ∙ c.2) in
        let is : port ≡ c.0 =
        sym link.number ∙ ⊎_elim (λ e.
        eqb-true (port_number link.ports l.port.name) c.0 e) (λ none.
        absurd (false≢true none)) hit in
        both_ways (holds same_path (text_clocks text top) (port_path l)) free
        (sym (same_clock text top design side (port_path l) port
        (port_numbered side.tables sources (parts text top) l f link))
        ∙ subst (λ k. is_clock design k ≡ true) (sym is)
        (holds-from_Contains (clocks design) c.0 c.1)))
        (λ output. false≢true (sym (ap (λ (z : ProcessForm). is_port_in z.kind) output.1.form)
        ∙ both.0))
        (link_is side.tables sources (parts text top) l f link))

    pub link_unclocked : is_clocked f.kind ≡ false
    link_unclocked = ⊎_elim
        (λ input. ap (λ (z : ProcessForm). is_clocked z.kind) input.1.form)
        (λ output. ap (λ (z : ProcessForm). is_clocked z.kind) output.1.form)
        (link_is side.tables sources (parts text top) l f link)

    link_runs : Contains (combinational_processes design) f → PairRuns (linking l) f
    link_runs at = ⊎_elim
        (λ input. input_runs input.1 input.0 at)
        (λ output. output_runs output.1 output.0 at)
        (link_is side.tables sources (parts text top) l f link)

  pair_runs : (q : Process) (f : ProcessForm) → Flat q f
      → Contains (combinational_processes design) f → PairRuns q f
  pair_runs (combinational p s) f flat at = (
    changed_by p s,
    refl,
    statement_runs text top design side is_sound admitted p s f flat.0 at,
  )
  pair_runs (clocked p s) f flat at =
      absurd (both_ways (is_clocked f.kind) (unclocked design is_sound admitted f at) flat.1)
  pair_runs (linking l) f flat at = link_runs l f flat at

  -- the process of a flat process is none of the links that are left out
  pub kept_source : (q : Process) (f : ProcessForm) → Flat q f → Contains (processes text top) q
      → Contains (processes_of design) f
      → Contains (source_processes text top design side) q
  kept_source q f flat at inside =
      Contains-filter (λ p. not (links_one_of (text_clocks text top) p)) (processes text top) q at
      (ap not (by_process q f flat at inside))
    where
      by_process : (z : Process) (h : ProcessForm) → Flat z h → Contains (processes text top) z
          → Contains (processes_of design) h
          → links_one_of (text_clocks text top) z ≡ false
      by_process (combinational p s) h is z_at h_in = refl
      by_process (clocked p s) h is z_at h_in = refl
      by_process (linking l) h is z_at h_in = links_no_clock l h is z_at h_in

  pub kept_flat : (q : Process) (f : ProcessForm) → Flat q f → Contains design.processes f
      → Contains (source_processes text top design side) q
      → Contains (processes_of design) f
  kept_flat q f flat at listed =
      Contains-filter (λ z. not (is_clock_link design z)) design.processes f at
      (ap not (by_process q f flat (not-true (links_one_of (text_clocks text top) q)
      (Contains-from_filter (λ p. not (links_one_of (text_clocks text top) p)) (processes text top)
      q listed).0)))
    where
      by_process : (z : Process) (h : ProcessForm) → Flat z h →
          links_one_of (text_clocks text top) z ≡ false → is_clock_link design h ≡ false
      by_process (combinational p s) h is free =
          and_left (is_port_in h.kind) (list_any (assigns h.body) (clocks design)) is.2.0
      by_process (clocked p s) h is free =
          and_left (is_port_in h.kind) (list_any (assigns h.body) (clocks design))
          (Rattle.sv_elab_laws.proofs.JoinedClocks.clocked_no_link h.kind is.1).0
      by_process (linking l) h is free = is_no_clock_link l h is free

  -- ---- in order

  abbrev Same : Run ℕ → Run Path → Type 0
  Same run other = SameRun (flat_system design) second toward run other

  abbrev flat_runs : List ProcessForm → List (Run ℕ)
  flat_runs fs = map (run_of design) (filter (λ (p : ProcessForm). not (is_clocked p.kind)) fs)

  abbrev source_runs : List Process → List (Run Path)
  source_runs qs = map seen_run (filter_map change_of qs)

  -- a process of the text is left out just where the flat one is
  left_out : (q : Process) (f : ProcessForm) → Flat q f → Contains (processes text top) q
      → Contains design.processes f
      → not (links_one_of (text_clocks text top) q) ≡ not (is_clock_link design f)
  left_out q f flat at listed =
      same_bool (not (links_one_of (text_clocks text top) q)) (not (is_clock_link design f))
      (λ h.
      (Contains-from_filter (λ z. not (is_clock_link design z)) design.processes f
      (kept_flat q f flat listed
      (Contains-filter (λ p. not (links_one_of (text_clocks text top) p)) (processes text top) q
      at h))).0)
      (λ h.
      (Contains-from_filter (λ p. not (links_one_of (text_clocks text top) p))
      (processes text top) q
      (kept_source q f flat at
      (Contains-filter (λ z. not (is_clock_link design z)) design.processes f listed h))).0)

  module _ (q : Process) (f : ProcessForm) (fs : List ProcessForm) (qs : List Process)
      (rest : AllZip Same (flat_runs fs) (source_runs qs)) where
    abbrev OneMore : Bool → Option (Run Path) → Type 0
    OneMore b o =
        AllZip Same
        (map (run_of design)
        (cond b (f ∷ filter (λ (p : ProcessForm). not (is_clocked p.kind)) fs)
        (filter (λ (p : ProcessForm). not (is_clocked p.kind)) fs)))
        (map seen_run (cons_option o (filter_map change_of qs)))

    both_run : not (is_clocked f.kind) ≡ true → PairRuns q f
        → OneMore (not (is_clocked f.kind)) (change_of q)
    both_run free runs =
        subst (λ b. OneMore b (change_of q)) (sym free)
        (subst (OneMore true) (sym runs.1) (runs.2, rest))

    none_runs : not (is_clocked f.kind) ≡ false → change_of q ≡ None
        → OneMore (not (is_clocked f.kind)) (change_of q)
    none_runs clocked_f none =
        subst (λ b. OneMore b (change_of q)) (sym clocked_f) (subst (OneMore false) (sym none) rest)

  one_more : (q : Process) (f : ProcessForm) → Flat q f → Contains (processes_of design) f
      → (fs : List ProcessForm) (qs : List Process)
      → AllZip Same (flat_runs fs) (source_runs qs)
      → AllZip Same (flat_runs (f ∷ fs)) (source_runs (q ∷ qs))
  one_more (combinational p s) f flat inside fs qs rest =
      let free = ap not flat.1 in
      both_run (combinational p s) f fs qs rest free
      (pair_runs (combinational p s) f flat
      (Contains-filter (λ (z : ProcessForm). not (is_clocked z.kind)) (processes_of design) f inside
      free))
  one_more (clocked p s) f flat inside fs qs rest =
      none_runs (clocked p s) f fs qs rest (ap not flat.1) refl
  one_more (linking l) f flat inside fs qs rest =
      let free = ap not (link_unclocked l f flat) in
      both_run (linking l) f fs qs rest free
      (pair_runs (linking l) f flat
      (Contains-filter (λ (z : ProcessForm). not (is_clocked z.kind)) (processes_of design) f inside
      free))

  abbrev unlinked : List ProcessForm → List ProcessForm
  unlinked fs = filter (λ z. not (is_clock_link design z)) fs

  abbrev unlinked_sources : List Process → List Process
  unlinked_sources qs = filter (λ p. not (links_one_of (text_clocks text top) p)) qs

  module _ (q : Process) (f : ProcessForm) (flat : Flat q f)
      (in_text : Contains (processes text top) q) (in_design : Contains design.processes f)
      (fs : List ProcessForm) (qs : List Process)
      (rest : AllZip Same (flat_runs (unlinked fs)) (source_runs (unlinked_sources qs))) where
    abbrev OneKept : Bool → Bool → Type 0
    OneKept b c =
        AllZip Same (flat_runs (cond b (f ∷ unlinked fs) (unlinked fs)))
        (source_runs (cond c (q ∷ unlinked_sources qs) (unlinked_sources qs)))

    one_kept : (b : Bool) → not (is_clock_link design f) ≡ b → OneKept b b
    one_kept true e =
        one_more q f flat
        (Contains-filter (λ z. not (is_clock_link design z)) design.processes f in_design e)
        (unlinked fs) (unlinked_sources qs) rest
    one_kept false e = rest

    kept_alike : OneKept (not (is_clock_link design f))
        (not (links_one_of (text_clocks text top) q))
    kept_alike =
        subst (OneKept (not (is_clock_link design f))) (sym (left_out q f flat in_text in_design))
        (one_kept (not (is_clock_link design f)) refl)

  each_same : (qs : List Process) (fs : List ProcessForm) → AllZip Flat qs fs
      → ((q : Process) → Contains qs q → Contains (processes text top) q)
      → ((f : ProcessForm) → Contains fs f → Contains design.processes f)
      → AllZip Same (flat_runs (unlinked fs)) (source_runs (unlinked_sources qs))
  each_same [] [] h in_qs in_fs = tt
  each_same [] (f ∷ fs) h in_qs in_fs = absurd h
  each_same (q ∷ qs) [] h in_qs in_fs = absurd h
  each_same (q ∷ qs) (f ∷ fs) h in_qs in_fs =
      kept_alike q f h.0 (in_qs q (Contains-head q qs)) (in_fs f (Contains-head f fs)) fs qs
      (each_same qs fs h.1 (λ p at. in_qs p (Contains-later q qs p at))
      (λ p at. in_fs p (Contains-later f fs p at)))

  pub in_order : AllZip Same (flat_system design).processes second.processes
  in_order = each_same (processes text top) design.processes side.bodies (λ q at. at) (λ f at. at)
