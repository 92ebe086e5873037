-- A run of a flat process does what a run of its source process does.
use Rattle.std.proofs.Common.{◌≡◌, ℕ, ◌^◌, ◌<◌, Bool, true, false, List}
use Rattle.std.proofs.Common.{[], map, length, Option, Some, None, refl, sym, ap, subst}
use Rattle.std.proofs.Common.{◌∙◌, ⊎_elim}
use Rattle.std.specs.Prelude.{not, ◌==◌, filter, Contains, IsTrue}
use Rattle.std.specs.Prelude.{All}
use Rattle.std.specs.Option.{option_map_or}
use Rattle.std.proofs.lemmas.Bool.{cases_Bool}
use Rattle.std.proofs.lemmas.Bool.{eq-eqb, cond-true, cond-false}
use Rattle.std.proofs.lemmas.Bool.{ltb-true, false_from_ne_true}
use Rattle.std.proofs.lemmas.Nat.{pow_pos}
use Rattle.sv_system.specs.System.{System, Environment}
use Rattle.sv_system.specs.Schedules.{Block, Scheduled}
use Rattle.sv_system.proofs.Lists.{Contains-map, Contains-from_map}
use Rattle.sv_ast.specs.Scopes.{signal}
use Rattle.sv_ast.specs.Tree.{StatementTree, TextTree}
use Rattle.sv_ast.specs.Instances.{is_signal}
use Rattle.sv_ast.specs.Reach.{holds}
use Rattle.sv_ast.specs.Runs.{assigned, run as source_run}
use Rattle.sv_ast.specs.Parts.{Path, same_path, Part, within, parts, PartSignal, signal_path}
use Rattle.sv_ast.specs.Parts.{signal_width, declarations}
use Rattle.sv_ast.specs.Processes.{Process, processes, values_in}
use Rattle.sv_ast.specs.Processes.{name_in, run_in, changed_by}
use Rattle.sv_ast.specs.Processes.{links_one_of}
use Rattle.sv_ast.specs.Meaning.{system_of}
use Rattle.sv_system.specs.Joining.{Agree, SameRun}
use Rattle.sv_flat.specs.Design.{ProcessForm, FlatDesign}
use Rattle.sv_flat.specs.Assigned.{assigns}
use Rattle.sv_flat.specs.Admission.{IsAdmitted}
use Rattle.sv_flat.specs.Soundness.{sound}
use Rattle.sv_flat.specs.Values.{signal_width as flat_width}
use Rattle.sv_flat.specs.Runs.{run_alone}
use Rattle.sv_flat.specs.Clocks.{is_clock, processes_of}
use Rattle.sv_flat.specs.FlatSystem.{combinational_processes, run_of, flat_system}
use Rattle.sv_flat.proofs.LeastSets.{some_from}
use Rattle.sv_flat.proofs.SameRuns.{run_leaves}
use Rattle.sv_flat.proofs.AdmittedFacts.{body_is_sound}
use Rattle.sv_flat.proofs.AdmittedFacts.{assigned_is_signal, assigns_no_clock}
use Rattle.sv_flat.proofs.FlatScheduled.{in_processes, flat_is_scheduled}
use Rattle.sv_elab_rules.specs.Names.{Names}
use Rattle.sv_width.specs.Agreement.{HaveValues, HaveSignals}
use Rattle.sv_elab_laws.specs.Numbering.{IsNumbering}
use Rattle.sv_elab_laws.specs.SameStates.{ValuesFit}
use Rattle.sv_ast.specs.TextSystem.{text_clocks, without_clocks, unclocked, seeing_no_clock}
use Rattle.sv_ast.proofs.PathNames.{name_in-itself, path_of-name_in}
use Rattle.sv_ast.proofs.RunFrames.{run_keeps}
use Rattle.sv_elab_laws.proofs.PartsLists.{get_contains, contains_get}
use Rattle.sv_elab_laws.proofs.PartsNamed.{IsNamed}
use Rattle.sv_elab_laws.proofs.PartsGrown.{IsBody, number_of_name}
use Rattle.sv_elab_laws.proofs.PartsGrown.{signal_is}
use Rattle.sv_elab_laws.proofs.PartsPaths.{same_member, signal_in, within_same, path_of}
use Rattle.sv_elab_laws.proofs.PartsTexts.{SideBySide, sources_of, all_parts_differ}
use Rattle.sv_elab_laws.proofs.FormsBeside.{name_width, names_listed, names_number}
use Rattle.sv_elab_laws.proofs.JoinedClocks.{IsNumber, number_same}
use Rattle.sv_elab_laws.proofs.JoinedClocks.{same_clock}
use Rattle.sv_elab_laws.proofs.JoinedNumbers.{to, to_is, At, at_number, at_path_number, signal_at}
use Rattle.sv_elab_laws.proofs.JoinedNumbers.{clock_at, flat_signals, source_signals, same_signals}
use Rattle.sv_elab_laws.proofs.JoinedNumbers.{signal_below, signal_no_clock, is_flat_signal, said_at}
use Rattle.sv_elab_laws.proofs.StatementsSame.{body_same}
use Rattle.sv_elab_laws.proofs.AssignedNames.{assigned_name, assigned_same, assigned_are_signals}

module _ (text : TextTree) (top : Option (List ℕ)) (design : FlatDesign)
    (side : SideBySide text top design) where
  abbrev sources : List PartSignal
  sources = sources_of text top

  abbrev pub source_processes : List Process
  source_processes = filter (λ p. not (links_one_of (text_clocks text top) p)) (processes text top)

  abbrev pub source_system : System Path (List ℕ)
  source_system = seeing_no_clock (text_clocks text top)
      (system_of text (source_signals text top design side) source_processes)

  abbrev pub path_to : ℕ → Path
  path_to = to text top design side

  abbrev pub unclocked_values : Environment Path → Environment Path
  unclocked_values = without_clocks (text_clocks text top)

  -- the same by numbers
  abbrev pub numbered_values : Environment Path → Environment ℕ
  numbered_values f k = unclocked_values f (path_to k)

  pub agree_off : (f : Environment Path) (x : Path) →
      holds same_path (text_clocks text top) x ≡ false → f x ≡ unclocked_values f x
  agree_off f x no_clock =
      sym (cond-false (holds same_path (text_clocks text top) x) 0 (f x) no_clock)

  -- what a run leaves, it leaves where it sees no clock
  pub unclocked_within : (run : Environment Path → Environment Path) {x : Path}
      → ((g : Environment Path) → run g x ≡ g x) → (g : Environment Path)
      → unclocked (text_clocks text top) run g x ≡ g x
  unclocked_within run {x} leaves g = ⊎_elim
      (λ clock. cond-true (holds same_path (text_clocks text top) x) (g x)
      (run (unclocked_values g) x) clock)
      (λ no_clock. cond-false (holds same_path (text_clocks text top) x) (g x)
      (run (unclocked_values g) x) no_clock
      ∙ leaves (unclocked_values g) ∙ sym (agree_off g x no_clock))
      (cases_Bool (holds same_path (text_clocks text top) x))

  pub path_no_clock : (k : ℕ) → Contains (flat_signals text top design side) k →
      holds same_path (text_clocks text top) (path_to k) ≡ false
  path_no_clock k at =
      let a = at_number text top design side k (signal_below text top design side k at) in
      ap (holds same_path (text_clocks text top))
      (to_is text top design side (signal_path a.source) k a.number)
      ∙ sym (clock_at text top design side k a) ∙ signal_no_clock text top design side k at

  abbrev pub Joins : Environment ℕ → Environment Path → Type 0
  Joins e f = Agree (flat_system design) source_system path_to e f

  pub numbered_same : (e : Environment ℕ) (f : Environment Path) → Joins e f → (k : ℕ)
      → Contains (flat_signals text top design side) k
      → e k ≡ numbered_values f k
  numbered_same e f agree k at = agree.same k at ∙ agree_off f (path_to k) (path_no_clock k at)

  from_all_of : {X : Type 0} (P : X → Type 0) (xs : List X) (x : X) → All P xs → Contains xs x → P x
  from_all_of P xs x all at = subst P at.2 (all at.0 x at.1)

  -- ---- numberings

  width_at : (k : ℕ) (a : At text top design side k) →
      flat_width design.signals k ≡ signal_width a.source
  width_at k a = ap (λ s. s.width) (signal_at text top design side k a) ∙ a.is.width

  module _ (p : Part) (names : Names) (is_named : IsNamed sources (parts text top) p names) where
    pub number_width : (n : List ℕ) (width : ℕ) (signed : Bool)
        → names.scope n ≡ Some (signal width signed)
        → (names.number n < length design.signals)
        × (flat_width design.signals (names.number n) ≡ width)
    number_width =
        name_width side.tables sources (parts text top) design.signals side.forms p names is_named

    pub have_signals : HaveSignals names design.signals
    have_signals =
        names_listed side.tables sources (parts text top) design.signals side.forms p names is_named

    pub numbering : IsNumbering names design.signals
    numbering =
        names_number side.tables sources (parts text top) design.signals side.forms p names is_named

    pub to_name : (n : List ℕ) → IsTrue (is_signal (names.scope n)) →
        path_to (names.number n) ≡ within p n
    to_name n is =
        to_is text top design side (within p n) (names.number n)
        (number_of_name side.tables sources (parts text top) p names is_named n is)

    pub have_values : (f : Environment Path) →
        HaveValues names (values_in p (unclocked_values f)) (numbered_values f)
    have_values f n width signed e =
        ap (unclocked_values f) (to_name n (subst (λ b. IsTrue (is_signal b)) (sym e) refl))

    pub values_fit : (e : Environment ℕ) (f : Environment Path) → Joins e f →
        ValuesFit names.scope (values_in p (unclocked_values f))
    values_fit e f agree n width signed is = ⊎_elim
        (λ clock. subst (λ v.
        v < 2 ^ width) (sym (cond-true (holds same_path (text_clocks text top) (within p n)) 0
        (f (within p n)) clock)) (pow_pos width))
        (λ no_clock.
        let test = subst (λ b. IsTrue (is_signal b)) (sym is) refl in
        let k = names.number n in
        let number = number_of_name side.tables sources (parts text top) p names is_named n test in
        let a = at_path_number text top design side (within p n) k number in
        let flat_free : is_clock design k ≡ false =
        same_clock text top design side (within p n) k number ∙ no_clock in
        let w = number_width n width signed is in
        let at = is_flat_signal text top design side k w.0 flat_free in
        let path = to_name n test in
        let listed : Contains source_system.signals (within p n) =
        subst (Contains source_system.signals) path
        (subst (λ xs. Contains xs (path_to k)) (sym (same_signals text top design side))
        (Contains-map path_to (flat_signals text top design side) k at)) in
        let fit = from_all_of (λ s. f s < 2 ^ source_system.width s) source_system.signals
        (within p n) agree.second_fits listed in
        let width_is : source_system.width (within p n) ≡ width =
        ap source_system.width (sym path)
        ∙ said_at text top design side signal_width 0 k a flat_free ∙ sym (width_at k a)
        ∙ w.1 in
        subst (λ v. v < 2 ^ width) (agree_off f (within p n) no_clock)
        (subst (λ m. f (within p n) < 2 ^ m) width_is fit))
        (cases_Bool (holds same_path (text_clocks text top) (within p n)))

    -- the name of a signal of the instance by its number
    pub name_at : (k : ℕ) → (a : At text top design side k) → (n : List ℕ) → path_to k ≡ within p n
        → IsTrue (is_signal (names.scope n)) × (names.number n ≡ k)
    name_at k a n e =
        let path : signal_path a.source ≡ within p n =
        sym (to_is text top design side (signal_path a.source) k a.number) ∙ e in
        let parts_of_path = within_same a.source.part p a.source.declaration.name n path in
        let listed = signal_in (parts text top) a.source
        (get_contains sources k a.source a.source_at) in
        let same_part : a.source.part ≡ p =
        same_member path_of (parts text top) (all_parts_differ text top design side)
        a.source.part p listed.0
        is_named.member parts_of_path.0 in
        let in_part : Contains (declarations p.definition) a.source.declaration =
        subst (λ (x : Part). Contains (declarations x.definition) a.source.declaration) same_part
        listed.1 in
        let place = contains_get (declarations p.definition) a.source.declaration in_part in
        let is = subst (λ m.
        IsTrue (is_signal (names.scope m))) parts_of_path.1
        (is_named.known place.0 a.source.declaration place.1).0 in (
          is,
          number_same text top design side (within p n) (names.number n) k
              (number_of_name side.tables sources (parts text top) p names is_named n is)
              (subst (λ x. IsNumber text top design side x k) path a.number),
        )

  module _ (is_sound : IsTrue (sound design)) (admitted : IsAdmitted design) where
    -- a flat run does the same from environments that agree on all signals but clocks
    pub flat_same : (f : ProcessForm) → Contains (combinational_processes design) f
        → (d e : Environment ℕ)
        → ((k : ℕ) → Contains (flat_signals text top design side) k → d k ≡ e k)
        → (k : ℕ) → Contains (flat_signals text top design side) k
        → run_of design f d k ≡ run_of design f e k
    flat_same f at d e same k listed =
        let scheduled = flat_is_scheduled design is_sound admitted in
        let run_listed : Contains (map (λ (b : Block ℕ). b.run) scheduled.blocks)
        (run_of design f) =
        subst (λ rs. Contains rs (run_of design f)) scheduled.are_processes
        (Contains-map (run_of design) (combinational_processes design) f at) in
        let b = Contains-from_map (λ (x : Block ℕ).
        x.run) scheduled.blocks (run_of design f) run_listed in
        by_target scheduled b.0 b.1 b.2
      where
        by_target : (scheduled : Scheduled (flat_system design)) (b : Block ℕ)
            → Contains scheduled.blocks b → b.run ≡ run_of design f
            → run_of design f d k ≡ run_of design f e k
        by_target scheduled b inside is = ⊎_elim
            (λ target. ap (λ r. r d k) (sym is)
            ∙ scheduled.made_from_lower b inside k target d e
            (λ t input. same t (Rattle.sv_elab_laws.proofs.JoinedNumbers.input_within text top design
            side t input))
            (λ t register. same t (register_within t register))
            (λ t comb lower. same t comb.among)
            ∙ ap (λ r. r e k) is)
            (λ other. ap (λ r. r d k) (sym is) ∙ scheduled.leaves b inside d k other ∙ same k listed
            ∙ sym (scheduled.leaves b inside e k other)
            ∙ ap (λ r. r e k) is)
            (Rattle.sv_elab_laws.proofs.JoinedRegisters.contains_or_not b.targets k)
          where
            register_within : (t : ℕ) → IsTrue ((flat_system design).is_register t) →
                Contains (flat_signals text top design side) t
            register_within t register =
                Rattle.sv_elab_laws.proofs.JoinedRegisters.register_within text top design side
                is_sound admitted t register

    -- ---- statements

    module _ (p : Part) (s : StatementTree) (f : ProcessForm)
        (body : IsBody side.tables sources (parts text top) p s f)
        (at : Contains (combinational_processes design) f) where
      abbrev names : Names
      names = body.names

      in_all : Contains (processes_of design) f
      in_all = in_processes design is_sound admitted f at

      flat_assigned : (k : ℕ) → assigns f.body k ≡ true →
          Contains (flat_signals text top design side) k
      flat_assigned k h = is_flat_signal text top design side k
          (ltb-true k (length design.signals)
          (assigned_is_signal design.signals f.body
          (body_is_sound design is_sound admitted f in_all) k h))
          (assigns_no_clock design is_sound admitted f k in_all h)

      abbrev source_run_of : Environment Path → Environment Path
      source_run_of = changed_by p s

      statement_at : (e : Environment ℕ) (g : Environment Path) → Joins e g → (k : ℕ)
          → Contains (flat_signals text top design side) k
          → run_alone design.signals f.body (numbered_values g) k ≡
          source_run_of (unclocked_values g) (path_to k)
      statement_at e g agree k inside = by_name (name_in p.path (path_to k)) refl
        where
          a : At text top design side k
          a = at_number text top design side k (signal_below text top design side k inside)

          by_name : (o : Option (List ℕ)) → name_in p.path (path_to k) ≡ o
              → run_alone design.signals f.body (numbered_values g) k
              ≡ option_map_or (run_in p s (unclocked_values g)).environment
              (name_in p.path (path_to k)) (unclocked_values g (path_to k))
          by_name None none =
              run_leaves design.signals f.body k
              (false_from_ne_true (assigns f.body k) (λ h.
              let n = assigned_name names s f.body body.walked body.shaped k h in
              let path : path_to k ≡ within p n.0 =
              ap path_to (sym n.3) ∙ to_name p names body.named n.0 n.2 in
              let some : name_in p.path (path_to k) ≡ Some n.0 =
              ap (name_in p.path) path ∙ name_in-itself p.path n.0 in
              let c : None ≡ Some n.0 = sym none ∙ some in cc c)) (numbered_values g, [])
              ∙ sym (ap (λ o. option_map_or (run_in p s (unclocked_values g)).environment o
              (unclocked_values g (path_to k))) none)
          by_name (Some n) some =
              let path = path_of-name_in p.path (path_to k) n some in
              let here = name_at p names body.named k a n path in
              let after = body_same names design.signals (numbering p names body.named) s f.body
              body.walked body.fits
              (values_in p (unclocked_values g)) (numbered_values g)
              (have_values p names body.named g) (values_fit p names body.named e g agree) in
              let b = signal_is side.tables sources (parts text top) (names.scope n) here.0 in
              ap (run_alone design.signals f.body (numbered_values g)) (sym here.1)
              ∙ after.0 n b.0 b.1 b.2
              ∙ ap (λ sc.
              (source_run sc s (record {
                environment = values_in p (unclocked_values g);
                updates = [];
              })).environment n) body.named.scope
              ∙ sym (ap (λ o. option_map_or (run_in p s (unclocked_values g)).environment o
              (unclocked_values g (path_to k))) some)

      pub statement_runs :
          SameRun (flat_system design) source_system path_to (run_of design f)
          (unclocked (text_clocks text top) source_run_of)
      statement_runs = record {
        same = λ e g agree k inside.
            flat_same f at e (numbered_values g) (λ t t_in. numbered_same e g agree t t_in) k inside
            ∙ statement_at e g agree k inside
            ∙ sym (cond-false (holds same_path (text_clocks text top) (path_to k)) (g (path_to k))
            (source_run_of (unclocked_values g) (path_to k)) (path_no_clock k inside));
        first_within = λ e k outside. run_leaves design.signals f.body k
            (false_from_ne_true (assigns f.body k) (λ h. outside (flat_assigned k h))) (e, []);
        second_within = λ g x outside. unclocked_within source_run_of
            (λ h. by_path h x outside (name_in p.path x) refl) g;
      }
        where
          by_path : (g : Environment Path) (x : Path) → (Contains source_system.signals x → ⊥)
              → (o : Option (List ℕ)) → name_in p.path x ≡ o
              → changed_by p s g x ≡ g x
          by_path g x outside None none =
              ap (λ o. option_map_or (run_in p s g).environment o (g x)) none
          by_path g x outside (Some n) some =
              let path = path_of-name_in p.path x n some in
              ap (λ o. option_map_or (run_in p s g).environment o (g x)) some
              ∙ run_keeps p.scope s (record { environment = values_in p g; updates = [] }) n
              (λ inside.
              let is = assigned_are_signals names s f.body body.walked n inside in
              let k = names.number n in
              let h : assigns f.body k ≡ true =
              assigned_same names s f.body body.walked body.shaped k
              ∙ some_from (λ (m : List ℕ).
              names.number m == k) (assigned s) n inside (eq-eqb k k refl) in
              outside (subst (Contains source_system.signals) (to_name p names body.named n is
              ∙ sym path)
              (subst (λ xs. Contains xs (path_to k)) (sym (same_signals text top design side))
              (Contains-map path_to (flat_signals text top design side) k (flat_assigned k h)))))
              ∙ ap g (sym path)
