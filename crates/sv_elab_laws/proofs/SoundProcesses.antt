-- The processes of the flat design of a text are sound, where its instances' names and its written
-- numbers have lengths of 1 to 64 bits.
use Rattle.std.proofs.Common.{◌≡◌, ℕ, ◌+◌, ◌-◌, ◌<◌, ◌≤◌, max, Bool, true, false, List, length}
use Rattle.std.proofs.Common.{Option, Some, refl, sym, ap, subst, ◌∙◌, arith, ⊎_elim}
use Rattle.std.specs.Prelude.{◌&&◌, nat_lt, nat_le, Contains, Ok, IsTrue}
use Rattle.std.specs.List.{list_all, filter_map}
use Rattle.std.proofs.lemmas.Bool.{and_parts, and_from, false≢true, eq-eqb, lt-ltb, le-leb}
use Rattle.sv_num.specs.declared.faults.Place.{Place}
use Rattle.sv_ast.specs.Scopes.{width_of}
use Rattle.sv_ast.specs.Tree.{ExpressionTree, StatementTree, null, assignment, block, if_only}
use Rattle.sv_ast.specs.Tree.{if_else, case_of, TargetTree, TextTree}
use Rattle.sv_ast.specs.Shape.{is_shaped_expression, is_whole_target}
use Rattle.sv_ast.specs.Parts.{Part, parts, PartSignal, PortLink}
use Rattle.sv_ast.specs.Processes.{Process, combinational, clocked, linking}
use Rattle.sv_ast.specs.GrammarModules.{place_of}
use Rattle.sv_flat.specs.Design.{SignalForm, TypedTree, FlatStatement, assign, ProcessKind}
use Rattle.sv_flat.specs.Design.{continuous, port_in, port_out, combinational as combinational_kind}
use Rattle.sv_flat.specs.Design.{clocked as clocked_kind, release, ProcessForm, FlatDesign}
use Rattle.sv_flat.specs.Values.{signal_width, expression_width}
use Rattle.sv_flat.specs.Soundness.{is_signal as is_number, is_part_of, well_formed}
use Rattle.sv_flat.specs.Soundness.{statement_sound, is_one_assignment, kind_sound, process_sound}
use Rattle.sv_flat.specs.Processes.{is_clocked}
use Rattle.sv_elab_rules.specs.Walks.{each}
use Rattle.sv_elab_rules.specs.Names.{Names}
use Rattle.sv_elab_rules.specs.ExpressionSteps.{expression_walk}
use Rattle.sv_elab_rules.specs.Targets.{target_steps, targets_steps, pieces_of, assignment_walk}
use Rattle.sv_elab_rules.specs.Statements.{statement_walk}
use Rattle.sv_elab_rules.specs.Links.{port_number, port_width, port_value, whole_assignment}
use Rattle.sv_elab_rules.proofs.WalkLemmas.{parts_done}
use Rattle.sv_width.specs.Agreement.{HaveLengths, HaveSignals, IsLength, NumbersHaveLengths}
use Rattle.sv_width.proofs.Sound.{both_pass}
use Rattle.sv_width.specs.WrittenLengths.{StatementHasLengths}
use Rattle.sv_elab_laws.proofs.PartsLists.{zip_right, contains_get, get_contains}
use Rattle.sv_elab_laws.proofs.PartsNamed.{IsNamed, to_filter_map}
use Rattle.sv_elab_laws.proofs.PartsGrown.{KindFits, IsBody, IsLink, IsFlat, IsNoLink, IsNumberOf}
use Rattle.sv_elab_laws.proofs.PartsGrown.{signal_is}
use Rattle.sv_elab_laws.specs.SideBySide.{made_of, edges_of, clock_of}
use Rattle.sv_elab_laws.proofs.PartsTexts.{MadeBeside, sources_of}
use Rattle.sv_elab_laws.proofs.JoinedLinks.{IsInput, IsOutput, link_is, port_is_signal}
use Rattle.sv_elab_laws.proofs.JoinedLinks.{outer_numbered}
use Rattle.sv_elab_laws.proofs.FormsBeside.{below_size, names_listed}
use Rattle.sv_width.proofs.SoundStatements.{expression_sound, pieces_whole, sound_of}
use Rattle.sv_elab_laws.proofs.SoundLabels.{all_from}

-- the numbers that a process of the source has written have lengths, and its link is shaped
abbrev pub ProcessHasLengths : Process → Type 0
ProcessHasLengths (combinational p s) = StatementHasLengths s
ProcessHasLengths (clocked p s) = StatementHasLengths s
ProcessHasLengths (linking l) =
    NumbersHaveLengths l.expression × IsTrue (is_shaped_expression l.expression)

-- one assignment to a whole signal is sound
whole_sound : (signals : List SignalForm) (p : Place) (kind : ProcessKind) (k width : ℕ)
    (value : TypedTree)
    → is_number signals k ≡ true → signal_width signals k ≡ width → 1 ≤ width
    → well_formed signals value ≡ true → width ≤ expression_width value
    → (statement_sound signals (whole_assignment p kind k width value).body ≡ true)
    × (is_one_assignment signals (whole_assignment p kind k width value).body ≡ true)
whole_sound signals p kind k width value there is some formed fits =
    let n : ℕ = signal_width signals k in
    let last : width - 1 + 1 ≡ n = omega (arith, is, some) in
    let below : width - 1 < n = omega (arith, is, some) in
    let few : width - 1 + 1 - 0 ≤ expression_width value - 0 = omega (arith, some, fits) in (
      and_from (well_formed signals value) _ formed
          (and_from _ true (and_from (is_number signals k)
          (is_part_of n (expression_width value - 0) (width - 1) 0) there
          (and_from (nat_le 0 (width - 1) && nat_lt (width - 1) n)
          (nat_le (width - 1 + 1 - 0) (expression_width value - 0))
          (and_from (nat_le 0 (width - 1)) (nat_lt (width - 1) n)
          (le-leb 0 (width - 1) (omega arith)) (lt-ltb (width - 1) n below))
          (le-leb (width - 1 + 1 - 0) (expression_width value - 0) few))) refl),
      and_from _ true (eq-eqb (width - 1 + 1) n last) refl,
    )

module _ (text : TextTree) (top : Option (List ℕ)) (design : FlatDesign)
    (side : MadeBeside text top design)
    (part_lengths : (p : Part) → Contains (parts text top) p → HaveLengths p.scope)
    (process_lengths : (q : Process) → Contains (made_of text top) q → ProcessHasLengths q) where
  abbrev sources : List PartSignal
  sources = sources_of text top

  abbrev Named : Part → Names → Type 0
  Named p names = IsNamed sources (parts text top) p names

  have_signals : (p : Part) (names : Names) → Named p names → HaveSignals names design.signals
  have_signals = names_listed side.tables sources (parts text top) design.signals side.forms

  name_lengths : (p : Part) (names : Names) → Named p names → HaveLengths names.scope
  name_lengths p names named = subst HaveLengths (sym named.scope) (part_lengths p named.member)

  body_sound : (p : Part) (s : StatementTree) (f : ProcessForm)
      → IsBody side.tables sources (parts text top) p s f
      → StatementHasLengths s → statement_sound design.signals f.body ≡ true
  body_sound p s f b numbers =
      sound_of b.names b.named.declared (name_lengths p b.names b.named) design.signals
      (have_signals p b.names b.named) s f.body b.shaped numbers b.walked

  -- what an `assign` runs is one assignment to whole signals
  whole_body : (p : Part) (names : Names) → Named p names →
      (ts : List TargetTree) (place : Place) (blocking : Bool) (e : ExpressionTree)
      (f : FlatStatement) → (assignment_walk names ts place blocking e).end ≡ Ok f
      → (blocking && list_all is_whole_target ts) ≡ true
      → is_one_assignment design.signals f ≡ true
  unfolding assignment_walk targets_steps
  whole_body p names named ts place blocking e f h whole =
      let both = and_parts blocking (list_all is_whole_target ts) whole in
      let first = parts_done (targets_steps names ts place) _ f h in
      let targets = both_pass (each (target_steps names) ts) _ first.1 in
      let second = parts_done (expression_walk names e _) _ f first.2 in
      let is : assign (pieces_of names ts) place blocking second.0 ≡ f = cc second.2 in
      subst (λ x. is_one_assignment design.signals x ≡ true) is
      (and_from blocking _ both.0
      (pieces_whole names named.declared (name_lengths p names named) design.signals
      (have_signals p names named) ts targets.0 both.1))

  module _ (p : Part) (f : ProcessForm) where
    continuous_sound : (s : StatementTree) (names : Names) → Named p names
        → (statement_walk names s).end ≡ Ok f.body
        → KindFits side.tables sources (parts text top) continuous s
        → is_one_assignment design.signals f.body ≡ true
    unfolding statement_walk
    continuous_sound (assignment ts place blocking e) names named walked fits =
        whole_body p names named ts place blocking e f.body walked fits
    continuous_sound null names named walked fits = absurd fits
    continuous_sound (block ss) names named walked fits = absurd fits
    continuous_sound (if_only q c a) names named walked fits = absurd fits
    continuous_sound (if_else q c a b) names named walked fits = absurd fits
    continuous_sound (case_of q e arms) names named walked fits = absurd fits

    combinational_sound :
        (s : StatementTree) (b : IsBody side.tables sources (parts text top) p s f)
        → (k : ProcessKind) → KindFits side.tables sources (parts text top) k s
        → is_clocked k ≡ false
        → IsNoLink side.tables sources (parts text top) k
        → kind_sound design k f.body ≡ true
    combinational_sound s b continuous fits still no_link =
        continuous_sound s b.names b.named b.walked fits
    combinational_sound s b combinational_kind fits still no_link = refl
    combinational_sound s b port_in fits still no_link = absurd (false≢true (sym no_link.0))
    combinational_sound s b port_out fits still no_link = absurd (false≢true (sym no_link.1))
    combinational_sound s b (clocked_kind c) fits still no_link = absurd (false≢true (sym still))
    combinational_sound s b (release q) fits still no_link = absurd fits

  -- the clock of a process is a signal
  clock_there : (f : ProcessForm) → Contains design.processes f → (k : ℕ) → clock_of f ≡ Some k →
      is_number design.signals k ≡ true
  clock_there f at k e =
      let listed = to_filter_map clock_of design.processes f k at e in
      let place = contains_get (filter_map clock_of design.processes) k listed in
      let path = zip_right (IsNumberOf side.tables sources (parts text top)) (edges_of text top)
      (filter_map clock_of design.processes)
      side.clocks place.0 k place.1 in
      lt-ltb k (length design.signals)
      (below_size side.tables sources (parts text top) design.signals side.forms path.0 k path.2)

  clocked_sound : (k : ProcessKind) (body : FlatStatement) → is_clocked k ≡ true
      → ((c : ℕ) → Rattle.sv_elab_laws.specs.SideBySide.kind_clock k ≡ Some c
      → is_number design.signals c ≡ true)
      → kind_sound design k body ≡ true
  clocked_sound (clocked_kind c) body is there = there c refl
  clocked_sound continuous body is there = absurd (false≢true is)
  clocked_sound port_in body is there = absurd (false≢true is)
  clocked_sound port_out body is there = absurd (false≢true is)
  clocked_sound combinational_kind body is there = absurd (false≢true is)
  clocked_sound (release q) body is there = absurd (false≢true is)

  module _ (l : PortLink) (f : ProcessForm)
      (link : IsLink side.tables sources (parts text top) l f) where
    abbrev port : ℕ
    port = port_number link.ports l.port.name

    abbrev port_bits : ℕ
    port_bits = port_width link.ports l.port

    -- a port is a signal with its length
    port_there : (is_number design.signals port ≡ true)
        × (signal_width design.signals port ≡ port_bits) × IsLength port_bits
    port_there =
        let inner = link.inner in
        let b = signal_is side.tables sources (parts text top) (inner.scope l.port.name)
        (port_is_signal side.tables sources (parts text top) l f link) in
        let there = have_signals l.inner inner link.inner_named l.port.name b.0
        b.1 b.2 in
        let width : port_bits ≡ b.0 = ap width_of link.stands ∙ ap width_of b.2 in (
          subst (λ k. is_number design.signals k ≡ true) (sym link.number) there.0,
          ap (signal_width design.signals) link.number ∙ there.1 ∙ sym width,
          subst IsLength (sym width) (link.inner_named.widths l.port.name b.0 b.1 b.2),
        )

    input_sound : ProcessHasLengths (linking l) →
        IsInput side.tables sources (parts text top) l f link → process_sound design f ≡ true
    input_sound numbers i =
        let there = port_there in
        let value = expression_sound link.outer link.outer_named.declared
        (name_lengths l.outer link.outer link.outer_named) design.signals
        (have_signals l.outer link.outer link.outer_named) l.expression
        numbers.1 numbers.0 port_bits there.2.1 i.value i.typed in
        let body = whole_sound design.signals (place_of l.expression) port_in port port_bits i.value
        there.0 there.1 there.2.0 value.0 value.1 in
        subst (λ g. process_sound design g ≡ true) (sym i.form) (and_from _ _ body.1 body.0)

    output_sound : IsOutput side.tables sources (parts text top) l f link →
        process_sound design f ≡ true
    output_sound o =
        let there = port_there in
        let outer = link.outer in
        let b = signal_is side.tables sources (parts text top) (outer.scope o.name)
        (outer_numbered side.tables sources (parts text top) l f link o.name o.whole).0 in
        let net = have_signals l.outer outer link.outer_named o.name b.0
        b.1 b.2 in
        let width : width_of (outer.scope o.name) ≡ b.0 = ap width_of b.2 in
        let long = link.outer_named.widths o.name b.0 b.1 b.2 in
        let bits : ℕ = width_of (outer.scope o.name) in
        let all : ℕ = max port_bits bits in
        let formed : well_formed design.signals
        (port_value link.ports l.port bits (place_of l.expression)) ≡ true =
        and_from (nat_le 1 all && nat_le all 64) _
        (and_from (nat_le 1 all) (nat_le all 64) (le-leb 1 all (omega (arith, there.2.0)))
        (le-leb all 64 (omega (arith, there.2.1, long.1, width))))
        (and_from (is_number design.signals port)
        (nat_le (signal_width design.signals port) all) there.0
        (le-leb (signal_width design.signals port) all (omega (arith, there.1)))) in
        let body = whole_sound design.signals (place_of l.expression) port_out
        (outer.number o.name) bits
        (port_value link.ports l.port bits (place_of l.expression)) net.0 (net.1 ∙ sym width)
        (omega (arith, long.0, width)) formed
        (omega arith) in
        subst (λ g. process_sound design g ≡ true) (sym o.form) (and_from _ _ body.1 body.0)

    link_sound : ProcessHasLengths (linking l) → process_sound design f ≡ true
    link_sound numbers = ⊎_elim (λ i. input_sound numbers i.1) (λ o. output_sound o.1)
        (link_is side.tables sources (parts text top) l f link)

  flat_sound : (q : Process) (f : ProcessForm) → Contains (made_of text top) q
      → Contains design.processes f
      → IsFlat side.tables sources (parts text top) q f → process_sound design f ≡ true
  flat_sound (combinational p s) f at listed is =
      and_from _ _ (combinational_sound p f s is.0 f.kind is.0.kind is.1 is.2)
      (body_sound p s f is.0 (process_lengths (combinational p s) at))
  flat_sound (clocked p s) f at listed is =
      and_from _ _ (clocked_sound f.kind f.body is.1 (λ c e. clock_there f listed c e))
      (body_sound p s f is.0 (process_lengths (clocked p s) at))
  flat_sound (linking l) f at listed is = link_sound l f is (process_lengths (linking l) at)

  pub processes_sound : list_all (process_sound design) design.processes ≡ true
  processes_sound = all_from (process_sound design) design.processes (λ f at.
      let place = contains_get design.processes f at in
      let q = zip_right (IsFlat side.tables sources (parts text top)) (made_of text top)
      design.processes side.bodies place.0 f place.1 in
      flat_sound q.0 f (get_contains (made_of text top) place.0 q.0 q.1) at q.2)
