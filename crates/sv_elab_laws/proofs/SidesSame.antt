-- Each process of a flat design does what the process of the text beside it does.
use Rattle.std.proofs.Common.{◌≡◌, ℕ, ◌^◌, ◌<◌, ◌≤◌, true, false, cond, List, [], ◌∷◌, map}
use Rattle.std.proofs.Common.{length, Option, Some, None, refl, sym, ap, subst, ◌∙◌, arith, ⊎_elim}
use Rattle.std.specs.Prelude.{◌==◌, Contains, IsTrue, option_map, unwrap_or}
use Rattle.std.specs.List.{slice_get, AllZip}
use Rattle.std.specs.Option.{option_map_or}
use Rattle.std.proofs.lemmas.Bool.{cases_Bool, false≢true, or_cases, eqb-true, eq-eqb}
use Rattle.std.proofs.lemmas.Bool.{cond-true, cond-false, false_from_ne_true}
use Rattle.std.proofs.lemmas.Nat.{mod_below, pow_pos}
use Rattle.sv_system.specs.System.{Environment, put}
use Rattle.sv_ast.specs.Scopes.{width_of}
use Rattle.sv_ast.specs.Tree.{StatementTree, TextTree, named}
use Rattle.sv_ast.specs.Values.{assigned_value}
use Rattle.sv_ast.specs.Instances.{is_signal, whole_signal}
use Rattle.sv_ast.specs.Runs.{run as source_run}
use Rattle.sv_ast.specs.Parts.{Path, same_path, Part, within, parts, PartSignal, signal_path}
use Rattle.sv_ast.specs.Parts.{signal_width, declarations, PortLink}
use Rattle.sv_ast.specs.Processes.{Process, combinational, clocked, linking, values_in, name_in}
use Rattle.sv_ast.specs.Processes.{run_in, changed_by, updates_by, change_of, value_for}
use Rattle.sv_ast.specs.Processes.{link_in as source_link_in, link_out as source_link_out}
use Rattle.sv_ast.proofs.PathNames.{name_in-itself, path_of-name_in}
use Rattle.sv_ast.proofs.RunFrames.{run_keeps}
use Rattle.sv_flat.specs.Design.{ProcessForm, FlatDesign}
use Rattle.sv_flat.specs.Assigned.{assigns}
use Rattle.sv_flat.specs.Processes.{is_clocked}
use Rattle.sv_flat.specs.Runs.{run_alone, updates_of}
use Rattle.sv_flat.specs.Values.{signal_width as flat_width}
use Rattle.sv_flat.proofs.SameRuns.{run_leaves}
use Rattle.sv_elab_rules.specs.Links.{port_number, port_width}
use Rattle.sv_elab_rules.specs.Names.{Names}
use Rattle.sv_width.specs.Agreement.{HaveValues}
use Rattle.sv_elab_laws.specs.Numbering.{IsNumbering}
use Rattle.sv_elab_laws.specs.SameStates.{ValuesFit, by_number}
use Rattle.sv_elab_laws.specs.SideBySide.{made_of, path_at, AreAlike, SameChange}
use Rattle.sv_elab_laws.specs.SideBySide.{DoTheSame, ProcessesBeside}
use Rattle.sv_elab_laws.proofs.PartsLists.{get_contains, contains_get, get_map}
use Rattle.sv_elab_laws.proofs.PartsLists.{differ_places}
use Rattle.sv_elab_laws.proofs.PartsMaps.{map_twice_same}
use Rattle.sv_elab_laws.proofs.PartsNamed.{IsNamed}
use Rattle.sv_elab_laws.proofs.PartsGrown.{IsBody, IsLink, IsFlat, source_of_name, number_of_name}
use Rattle.sv_elab_laws.proofs.PartsGrown.{signal_is}
use Rattle.sv_elab_laws.proofs.PartsPaths.{same_member, signal_in, within_same, path_of}
use Rattle.sv_elab_laws.proofs.PartsTexts.{MadeBeside, sources_of, all_parts_differ, paths_differ}
use Rattle.sv_elab_laws.proofs.FormsBeside.{name_width, names_listed, names_number, below_size}
use Rattle.sv_elab_laws.proofs.FormsBeside.{same_size}
use Rattle.sv_elab_laws.proofs.StatementsSame.{body_same}
use Rattle.sv_elab_laws.proofs.LinksSame.{input_link_same, output_link_same}
use Rattle.sv_elab_laws.proofs.AssignedNames.{assigned_name, assigned_are_signals}
use Rattle.sv_elab_laws.proofs.JoinedLinks.{port_at, port_stands, some_bits, port_numbered}
use Rattle.sv_elab_laws.proofs.JoinedLinks.{outer_numbered}
use Rattle.sv_elab_laws.proofs.JoinedLinks.{IsInput, IsOutput, link_is}
use Rattle.sv_elab_laws.proofs.JoinedClocks.{same_bool}
use Rattle.sv_elab_laws.proofs.JoinedNumbers.{same_paths, path_itself}

module _ (text : TextTree) (top : Option (List ℕ)) (design : FlatDesign)
    (side : MadeBeside text top design) where
  abbrev sources : List PartSignal
  sources = sources_of text top

  abbrev Alike : Environment ℕ → Environment Path → Type 0
  Alike e g = AreAlike sources e g

  -- the number is that of the signal at the path
  abbrev Number : Path → ℕ → Type 0
  Number x k = slice_get (map signal_path sources) k ≡ Some x

  number_same : (x : Path) (j k : ℕ) → Number x j → Number x k → j ≡ k
  number_same x j k a b =
      differ_places (map signal_path sources) (paths_differ text top design side) j k x a b

  path_same : (x y : Path) (k : ℕ) → Number x k → Number y k → x ≡ y
  path_same x y k a b = let e : Some x ≡ Some y = sym a ∙ b in cc e

  number_below : (x : Path) (k : ℕ) → Number x k → k < length sources
  number_below x k at =
      let below = below_size side.tables sources (parts text top) design.signals side.forms x k at in
      let size = same_size side.tables sources (parts text top) design.signals side.forms in
      omega arith

  path_listed : (x : Path) (k : ℕ) → Number x k → Contains (map signal_path sources) x
  path_listed x k at = get_contains (map signal_path sources) k x at

  -- ---- the names of an instance

  module _ (p : Part) (names : Names) (is_named : IsNamed sources (parts text top) p names) where
    number_is : (n : List ℕ) → IsTrue (is_signal (names.scope n))
        → Number (within p n) (names.number n)
    number_is n is = number_of_name side.tables sources (parts text top) p names is_named n is

    -- a signal whose path is that of a name of the instance
    in_part : (k : ℕ) (s : PartSignal) → slice_get sources k ≡ Some s → (n : List ℕ)
        → signal_path s ≡ within p n
        → IsTrue (is_signal (names.scope n)) × (names.number n ≡ k)
        × (signal_width s ≡ width_of (p.scope n))
    in_part k s at n path =
        let halves = within_same s.part p s.declaration.name n path in
        let listed = signal_in (parts text top) s (get_contains sources k s at) in
        let same_part : s.part ≡ p =
        same_member path_of (parts text top) (all_parts_differ text top design side)
        s.part p listed.0 is_named.member halves.0 in
        let inside : Contains (declarations p.definition) s.declaration =
        subst (λ (x : Part). Contains (declarations x.definition) s.declaration) same_part
        listed.1 in
        let place = contains_get (declarations p.definition) s.declaration inside in
        let is = subst (λ m.
        IsTrue (is_signal (names.scope m))) halves.1
        (is_named.known place.0 s.declaration place.1).0 in (
          is,
          number_same (within p n) (names.number n) k (number_is n is)
              (get_map signal_path sources k s at ∙ ap Some path),
          ap (λ (x : Part). width_of (x.scope s.declaration.name)) same_part
              ∙ ap (λ m. width_of (p.scope m)) halves.1,
        )

    module _ (e : Environment ℕ) (g : Environment Path) (alike : Alike e g) where
      values_alike : HaveValues names (values_in p g) e
      values_alike n width signed is =
          let test = subst (λ b. IsTrue (is_signal b)) (sym is) refl in
          let s = source_of_name side.tables sources (parts text top) p names is_named n test in
          alike.same (names.number n) (record { part = p; declaration = s.0 }) s.3
          ∙ ap (λ m. g (within p m)) s.1

      values_fit : ValuesFit names.scope (values_in p g)
      values_fit n width signed is =
          let test = subst (λ b. IsTrue (is_signal b)) (sym is) refl in
          let s = source_of_name side.tables sources (parts text top) p names is_named n test in
          let d : PartSignal = record { part = p; declaration = s.0 } in
          let width_is : signal_width d ≡ width =
          ap (λ m. width_of (p.scope m)) s.1 ∙ ap (λ sc. width_of (sc n)) (sym is_named.scope)
          ∙ ap width_of is in
          subst (λ m. g (within p m) < 2 ^ width) s.1
          (subst (λ w. g (signal_path d) < 2 ^ w) width_is
          (alike.fits d (get_contains sources (names.number n) d s.3)))

  -- ---- statements

  module _ (p : Part) (s : StatementTree) (f : ProcessForm)
      (body : IsBody side.tables sources (parts text top) p s f) where
    abbrev names : Names
    names = body.names

    numbering : IsNumbering names design.signals
    numbering =
        names_number side.tables sources (parts text top) design.signals side.forms p names
        body.named

    module _ (e : Environment ℕ) (g : Environment Path) (alike : Alike e g) where
      abbrev ends : Environment (List ℕ)
      ends = (run_in p s g).environment

      same_after : (k : ℕ) (t : PartSignal) → slice_get sources k ≡ Some t
          → run_alone design.signals f.body e k ≡ changed_by p s g (signal_path t)
      same_after k t at = by_name (name_in p.path (signal_path t)) refl
        where
          number : Number (signal_path t) k
          number = get_map signal_path sources k t at

          by_name : (o : Option (List ℕ)) → name_in p.path (signal_path t) ≡ o
              → run_alone design.signals f.body e k ≡ option_map_or ends o (g (signal_path t))
          by_name None none =
              run_leaves design.signals f.body k
              (false_from_ne_true (assigns f.body k) (λ h.
              let n = assigned_name names s f.body body.walked body.shaped k h in
              let path : signal_path t ≡ within p n.0 =
              path_same (signal_path t) (within p n.0) k number
              (subst (Number (within p n.0)) n.3 (number_is p names body.named n.0 n.2)) in
              let some : name_in p.path (signal_path t) ≡ Some n.0 =
              ap (name_in p.path) path ∙ name_in-itself p.path n.0 in
              let c : None ≡ Some n.0 = sym none ∙ some in cc c)) (e, [])
              ∙ alike.same k t at
          by_name (Some n) some =
              let path = path_of-name_in p.path (signal_path t) n some in
              let here = in_part p names body.named k t at n path in
              let after = body_same names design.signals numbering s f.body body.walked
              body.fits (values_in p g) e (values_alike p names body.named e g alike)
              (values_fit p names body.named e g alike) in
              let b = signal_is side.tables sources (parts text top) (names.scope n) here.0 in
              ap (run_alone design.signals f.body e) (sym here.1)
              ∙ after.0 n b.0 b.1 b.2
              ∙ ap (λ sc.
              (source_run sc s (record {
                environment = values_in p g;
                updates = [];
              })).environment n) body.named.scope

      fits_after : (t : PartSignal) → Contains sources t
          → changed_by p s g (signal_path t) < 2 ^ signal_width t
      fits_after t inside = by_name (name_in p.path (signal_path t)) refl
        where
          by_name : (o : Option (List ℕ)) → name_in p.path (signal_path t) ≡ o
              → option_map_or ends o (g (signal_path t)) < 2 ^ signal_width t
          by_name None none = alike.fits t inside
          by_name (Some n) some =
              let path = path_of-name_in p.path (signal_path t) n some in
              let place = contains_get sources t inside in
              let here = in_part p names body.named place.0 t place.1 n path in
              let after = body_same names design.signals numbering s f.body body.walked
              body.fits (values_in p g) e (values_alike p names body.named e g alike)
              (values_fit p names body.named e g alike) in
              let b = signal_is side.tables sources (parts text top) (names.scope n) here.0 in
              let width : b.0 ≡ signal_width t =
              sym (ap width_of b.2) ∙ ap (λ sc. width_of (sc n)) body.named.scope
              ∙ sym here.2 in
              subst (λ w. ends n < 2 ^ w) width
              (subst (λ sc.
              (source_run sc s (record {
                environment = values_in p g;
                updates = [];
              })).environment n < 2 ^ b.0) body.named.scope (after.2 n b.0 b.1 b.2))

      abbrev source_updates : List (List ℕ × ℕ)
      source_updates =
          (source_run names.scope s (record {
            environment = values_in p g;
            updates = [];
          })).updates

      same_updates : map (λ (u : ℕ × ℕ). (path_at sources u.0, u.1))
          (updates_of design.signals f.body e) ≡ updates_by p s g
      same_updates =
          let after = body_same names design.signals numbering s f.body body.walked
          body.fits (values_in p g) e (values_alike p names body.named e g alike)
          (values_fit p names body.named e g alike) in
          ap (map (λ (u : ℕ × ℕ). (path_at sources u.0, u.1))) after.1
          ∙ map_twice_same (by_number names) (λ (u : ℕ × ℕ). (path_at sources u.0, u.1))
          (λ u. (within p u.0, u.1)) source_updates
          (λ u at. ap (λ (o : Option Path).
          (unwrap_or o [], u.1)) (number_is p names body.named u.0 (after.3 u at).0))
          ∙ ap (λ sc. map (λ (u : List ℕ × ℕ).
          (within p u.0, u.1))
          (source_run sc s (record { environment = values_in p g; updates = [] })).updates)
          body.named.scope

    body_within : (e : Environment ℕ) (k : ℕ) → length sources ≤ k
        → run_alone design.signals f.body e k ≡ e k
    body_within e k beyond =
        run_leaves design.signals f.body k
        (false_from_ne_true (assigns f.body k) (λ h.
        let n = assigned_name names s f.body body.walked body.shaped k h in
        let below = number_below (within p n.0) k
        (subst (Number (within p n.0)) n.3 (number_is p names body.named n.0 n.2)) in
        omega arith)) (e, [])

    statement_within : (g : Environment Path) (x : Path)
        → (Contains (map signal_path sources) x → ⊥)
        → changed_by p s g x ≡ g x
    statement_within g x outside = by_name (name_in p.path x) refl
      where
        by_name : (o : Option (List ℕ)) → name_in p.path x ≡ o
            → option_map_or (run_in p s g).environment o (g x) ≡ g x
        by_name None none = refl
        by_name (Some n) some =
            let path = path_of-name_in p.path x n some in
            run_keeps p.scope s (record { environment = values_in p g; updates = [] }) n
            (λ inside.
            let is = assigned_are_signals names s f.body body.walked n inside in
            outside (subst (Contains (map signal_path sources)) (sym path)
            (path_listed (within p n) (names.number n) (number_is p names body.named n is))))
            ∙ ap g (sym path)

    pub statement_changes : SameChange sources (run_alone design.signals f.body) (changed_by p s)
    statement_changes = record {
      alike = λ e g alike. record {
        same = same_after e g alike;
        fits = fits_after e g alike;
      };
      first_within = body_within;
      second_within = statement_within;
    }

  -- ---- links

  -- a flat process and a link that each give one signal a value
  module _ (f : ProcessForm) (p : Part) (names : Names)
      (is_named : IsNamed sources (parts text top) p names) (n : List ℕ) (m : ℕ)
      (number : Number (within p n) m)
      (assigned_one : (k : ℕ) → assigns f.body k ≡ true → m ≡ k)
      (value : Environment Path → ℕ)
      (value_fits : (g : Environment Path) → value g < 2 ^ width_of (p.scope n))
      (flat_is : (e : Environment ℕ) (g : Environment Path) → Alike e g
      → run_alone design.signals f.body e ≡ put ◌==◌ m (value g) e) where
    abbrev change : Environment Path → Environment Path
    change g = put same_path (within p n) (value g) g

    same_test : (k : ℕ) (t : PartSignal) → slice_get sources k ≡ Some t
        → (m == k) ≡ same_path (within p n) (signal_path t)
    same_test k t at =
        let there = get_map signal_path sources k t at in
        same_bool (m == k) (same_path (within p n) (signal_path t))
        (λ h. subst (λ y. same_path (within p n) y ≡ true)
        (path_same (within p n) (signal_path t) k (subst (Number (within p n)) (eqb-true m k h)
        number) there)
        (path_itself (within p n)))
        (λ h. eq-eqb m k (number_same (within p n) m k number
        (there ∙ ap Some (sym (same_paths (within p n) (signal_path t) h)))))

    pub put_changes : SameChange sources (run_alone design.signals f.body) change
    put_changes = record {
      alike = λ e g alike. record {
        same = λ k t at.
            ap (λ r. r k) (flat_is e g alike)
            ∙ ap (λ b. cond b (value g) (e k)) (same_test k t at)
            ∙ ap (cond (same_path (within p n) (signal_path t)) (value g)) (alike.same k t at);
        fits = λ t inside. ⊎_elim
            (λ hit.
            let place = contains_get sources t inside in
            let path = sym (same_paths (within p n) (signal_path t) hit) in
            let here = in_part p names is_named place.0 t place.1 n path in
            subst (λ v. v < 2 ^ signal_width t)
            (sym (cond-true (same_path (within p n) (signal_path t)) (value g)
            (g (signal_path t)) hit))
            (subst (λ w. value g < 2 ^ w) (sym here.2) (value_fits g)))
            (λ other. subst (λ v. v < 2 ^ signal_width t)
            (sym (cond-false (same_path (within p n) (signal_path t)) (value g)
            (g (signal_path t)) other))
            (alike.fits t inside))
            (cases_Bool (same_path (within p n) (signal_path t)));
      };
      first_within = λ e k beyond.
          run_leaves design.signals f.body k
          (false_from_ne_true (assigns f.body k) (λ h.
          let is = assigned_one k h in
          let below = number_below (within p n) m number in
          omega arith)) (e, []);
      second_within = λ g x outside.
          cond-false (same_path (within p n) x) (value g) (g x)
          (false_from_ne_true (same_path (within p n) x) (λ hit.
          outside (subst (Contains (map signal_path sources)) (same_paths (within p n) x hit)
          (path_listed (within p n) m number))));
    }

  module _ (l : PortLink) (f : ProcessForm)
      (link : IsLink side.tables sources (parts text top) l f) where
    abbrev port : ℕ
    port = port_at side.tables sources (parts text top) l f link

    abbrev port_bits : ℕ
    port_bits = port_width link.ports l.port

    port_length : flat_width design.signals (port_number link.ports l.port.name) ≡ port_bits
    port_length =
        ap (flat_width design.signals) link.number
        ∙ (name_width side.tables sources (parts text top) design.signals side.forms l.inner
        link.inner link.inner_named l.port.name port_bits l.port.signed
        (port_stands side.tables sources (parts text top) l f link)).1

    input_changes : IsInput side.tables sources (parts text top) l f link
        → SameChange sources (run_alone design.signals f.body) (source_link_in l)
    input_changes input =
        let bits : port_bits ≡ width_of (l.inner.scope l.port.name) =
        ap width_of link.stands ∙ ap (λ s. width_of (s l.port.name)) link.inner_named.scope in
        put_changes f l.inner link.inner link.inner_named l.port.name port
        (port_numbered side.tables sources (parts text top) l f link)
        (λ k h. sym link.number ∙ ⊎_elim
        (λ is. eqb-true (port_number link.ports l.port.name) k is)
        (λ none. absurd (false≢true none))
        (or_cases (port_number link.ports l.port.name == k) false
        (sym (ap (λ (z : ProcessForm). assigns z.body k) input.form) ∙ h)))
        (λ g. value_for l.outer g (width_of (l.inner.scope l.port.name)) l.expression)
        (λ g. mod_below _ (2 ^ width_of (l.inner.scope l.port.name))
        (pow_pos (width_of (l.inner.scope l.port.name))))
        (λ e g alike.
        input_link_same design.signals link.outer link.outer_named.declared
        (names_listed side.tables sources (parts text top) design.signals side.forms l.outer
        link.outer link.outer_named)
        link.ports l.port l.expression f input.walked
        (some_bits side.tables sources (parts text top) l f link)
        port_length (values_in l.outer g) e
        (values_alike l.outer link.outer link.outer_named e g alike)
        ∙ ap (λ m. put ◌==◌ m
        (assigned_value link.outer.scope (values_in l.outer g) port_bits l.expression) e)
        link.number
        ∙ ap (λ s. put ◌==◌ port (assigned_value s (values_in l.outer g) port_bits l.expression) e)
        link.outer_named.scope
        ∙ ap (λ w. put ◌==◌ port
        (assigned_value l.outer.scope (values_in l.outer g) w l.expression) e) bits)

    output_changes : (output : IsOutput side.tables sources (parts text top) l f link)
        → SameChange sources (run_alone design.signals f.body) (source_link_out l output.name)
    output_changes output =
        let n = output.name in
        put_changes f l.outer link.outer link.outer_named n (link.outer.number n)
        (outer_numbered side.tables sources (parts text top) l f link n output.whole).1
        (λ k h. ⊎_elim
        (λ is. eqb-true (link.outer.number n) k is)
        (λ none. absurd (false≢true none))
        (or_cases (link.outer.number n == k) false
        (sym (ap (λ (z : ProcessForm). assigns z.body k) output.form) ∙ h)))
        (λ g. value_for l.inner g (width_of (l.outer.scope n)) (named l.port.name l.port.place))
        (λ g. mod_below _ (2 ^ width_of (l.outer.scope n)) (pow_pos (width_of (l.outer.scope n))))
        (λ e g alike.
        let run = output_link_same design.signals link.outer link.inner
        (names_number side.tables sources (parts text top) design.signals side.forms l.outer
        link.outer link.outer_named)
        (names_listed side.tables sources (parts text top) design.signals side.forms l.inner
        link.inner link.inner_named)
        link.ports l.port l.expression f output.walked
        (port_stands side.tables sources (parts text top) l f link)
        (sym link.number) (values_in l.inner g) e
        (values_alike l.inner link.inner link.inner_named e g alike) in
        let same : run.0 ≡ n = let e : Some run.0 ≡ Some n = sym run.1 ∙ output.whole in cc e in
        run.2
        ∙ ap (λ m. put ◌==◌ (link.outer.number m)
        (assigned_value link.inner.scope (values_in l.inner g)
        (width_of (link.outer.scope m)) (named l.port.name l.port.place)) e) same
        ∙ ap (λ s. put ◌==◌ (link.outer.number n)
        (assigned_value s (values_in l.inner g)
        (width_of (link.outer.scope n)) (named l.port.name l.port.place)) e)
        link.inner_named.scope
        ∙ ap (λ s. put ◌==◌ (link.outer.number n)
        (assigned_value l.inner.scope (values_in l.inner g)
        (width_of (s n)) (named l.port.name l.port.place)) e) link.outer_named.scope)

    link_changes : (other : Environment Path → Environment Path)
        × (change_of (linking l) ≡ Some other)
        × SameChange sources (run_alone design.signals f.body) other
    link_changes = ⊎_elim
        (λ input. (
          source_link_in l,
          ap (λ b. cond b (Some (source_link_in l))
              (option_map (source_link_out l) (whole_signal l.outer.scope l.expression))) input.0,
          input_changes input.1,
        ))
        (λ output. (
          source_link_out l output.1.name,
          ap (λ b. cond b (Some (source_link_in l))
              (option_map (source_link_out l) (whole_signal l.outer.scope l.expression))) output.0
              ∙ ap (λ s. option_map (source_link_out l) (whole_signal s l.expression))
              (sym link.outer_named.scope)
              ∙ ap (option_map (source_link_out l)) output.1.whole,
          output_changes output.1,
        ))
        (link_is side.tables sources (parts text top) l f link)

    link_unclocked : is_clocked f.kind ≡ false
    link_unclocked = ⊎_elim
        (λ input. ap (λ (z : ProcessForm). is_clocked z.kind) input.1.form)
        (λ output. ap (λ (z : ProcessForm). is_clocked z.kind) output.1.form)
        (link_is side.tables sources (parts text top) l f link)

  -- ---- all processes

  abbrev Flat : Process → ProcessForm → Type 0
  Flat q f = IsFlat side.tables sources (parts text top) q f

  flat_same : (q : Process) (f : ProcessForm) → Flat q f → DoTheSame sources design.signals q f
  flat_same (combinational p s) f flat = record {
    clocked_alike = flat.1;
    changes = λ none. (changed_by p s, refl, statement_changes p s f flat.0);
    updates = λ some. absurd (false≢true (sym flat.1 ∙ some));
  }
  flat_same (clocked p s) f flat = record {
    clocked_alike = flat.1;
    changes = λ none. absurd (false≢true (sym none ∙ flat.1));
    updates = λ some e g alike. same_updates p s f flat.0 e g alike;
  }
  flat_same (linking l) f flat = record {
    clocked_alike = link_unclocked l f flat;
    changes = λ none. link_changes l f flat;
    updates = λ some. absurd (false≢true (sym (link_unclocked l f flat) ∙ some));
  }

  all_same : (qs : List Process) (fs : List ProcessForm) → AllZip Flat qs fs
      → AllZip (DoTheSame sources design.signals) qs fs
  all_same [] [] h = tt
  all_same [] (f ∷ fs) h = absurd h
  all_same (q ∷ qs) [] h = absurd h
  all_same (q ∷ qs) (f ∷ fs) h = (flat_same q f h.0, all_same qs fs h.1)

  pub processes_beside : ProcessesBeside text top design
  processes_beside = all_same (made_of text top) design.processes side.bodies
