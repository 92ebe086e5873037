-- The numbers of a flat design and the paths of its text: the same signals in the same order, of
-- the same kinds and widths.
use Rattle.std.proofs.Common.{◌≡◌, ℕ, zero, suc, ◌+◌, ◌<◌, ◌≤◌, Bool, true, false, cond, List, []}
use Rattle.std.proofs.Common.{◌∷◌, map, length, Option, Some, None, refl, sym, ap, subst, ◌∙◌}
use Rattle.std.proofs.Common.{arith, ⊎_elim}
use Rattle.std.specs.Prelude.{not, ◌==◌, ◌&&◌, filter, find, position, unwrap_or}
use Rattle.std.specs.Prelude.{slice_index_or, Contains}
use Rattle.std.specs.List.{slice_get, filter_map, range_with_len}
use Rattle.std.specs.Option.{option_map_or}
use Rattle.std.specs.Str.{bytes_eq}
use Rattle.std.proofs.lemmas.Bool.{false≢true, and_parts, and_from}
use Rattle.std.proofs.lemmas.Bool.{not-true, eqb-true, eq-eqb, cases_lt}
use Rattle.std.proofs.lemmas.Slice.Eq.{bytes_eq-Decides, slice_eq-Decides}
use Rattle.sv_system.proofs.Lists.{Contains-nil}
use Rattle.sv_system.proofs.Lists.{Contains-map, Contains-filter}
use Rattle.sv_ast.specs.declared.declarations.DeclKind.{DeclKind}
use Rattle.sv_ast.specs.declared.declarations.DeclKind.TheVariants as decl
use Rattle.sv_ast.specs.Tree.{StatementTree, ModuleTree, TextTree}
use Rattle.sv_ast.specs.Instances.{top_module, is_empty}
use Rattle.sv_ast.specs.Reach.{holds}
use Rattle.sv_ast.specs.Runs.{assigned}
use Rattle.sv_ast.specs.Parts.{Path, same_path, Part, part_with, parts_from, most_levels, parts}
use Rattle.sv_ast.specs.Parts.{PartSignal, signal_path, signal_width, within}
use Rattle.sv_ast.specs.ClockPaths.{is_input_kind}
use Rattle.sv_ast.specs.Processes.{Process, combinational, clocked, linking, clocked_body}
use Rattle.sv_ast.specs.Processes.{processes_from, processes}
use Rattle.sv_ast.specs.Meaning.{is_top_input, is_register, signals, at_path}
use Rattle.sv_ast.proofs.Reaching.{member_held, held_member}
use Rattle.sv_flat.specs.Design.{SignalForm, ProcessForm, FlatDesign}
use Rattle.sv_flat.specs.Assigned.{assigns}
use Rattle.sv_flat.specs.Values.{signal_of, signal_width as flat_width}
use Rattle.sv_flat.specs.Processes.{is_clocked, is_top_kind, is_top_input as is_top_number}
use Rattle.sv_flat.specs.Processes.{is_register as is_register_number, signals_that}
use Rattle.sv_flat.specs.Clocks.{is_clock}
use Rattle.sv_flat.proofs.LeastSets.{some_from, from_some, in_those, those_below, those_pass}
use Rattle.sv_flat.proofs.LeastSets.{Contains-from_filter}
use Rattle.sv_elab_rules.specs.Names.{Names}
use Rattle.sv_elab_rules.specs.Declarations.{kind_of}
use Rattle.sv_elab_laws.proofs.PartsLists.{zip_left, zip_right, get_contains, contains_get}
use Rattle.sv_elab_laws.proofs.PartsLists.{below_get, index_is, get_map}
use Rattle.sv_elab_laws.proofs.PartsMaps.{from_get_map, same_some}
use Rattle.sv_elab_laws.proofs.PartsNamed.{found_place, find_passes}
use Rattle.sv_elab_laws.proofs.PartsLinks.{find_some}
use Rattle.sv_elab_laws.proofs.PartsGrown.{IsBody, IsFlat, IsForm, source_of_name}
use Rattle.sv_elab_laws.proofs.PartsPaths.{same_member, signal_in}
use Rattle.sv_elab_laws.proofs.PartsTexts.{SideBySide, sources_of, paths_differ}
use Rattle.sv_elab_laws.proofs.JoinedBodies.{HasClocked, clocked_forth, clocked_back}
use Rattle.sv_elab_laws.proofs.JoinedLinks.{link_is}
use Rattle.sv_elab_laws.proofs.JoinedClocks.{IsNumber, number_same, sizes}
use Rattle.sv_elab_laws.proofs.JoinedClocks.{clocks_of_text, same_clock, same_bool}
use Rattle.sv_elab_laws.proofs.AssignedNames.{assigned_same, assigned_are_signals}

pub same_paths : (x y : Path) → same_path x y ≡ true → x ≡ y
same_paths x y h = (slice_eq-Decides bytes_eq-Decides x y (same_path x y) refl).0 h

pub path_itself : (x : Path) → same_path x x ≡ true
path_itself x = (slice_eq-Decides bytes_eq-Decides x x (same_path x x) refl).1 refl

-- a test passes at a number just where another does at what stands there
module _ {X Y : Type 0} (name : X → Y) (to : ℕ → Y) (keep : ℕ → Bool) (kept : X → Bool) where
  one_kept : (b c : Bool) (x : X) (k : ℕ) (xs : List X) (ks : List ℕ) → c ≡ b → to k ≡ name x
      → map name xs ≡ map to ks
      → map name (cond b (x ∷ xs) xs) ≡ map to (cond c (k ∷ ks) ks)
  one_kept true c x k xs ks e t rest =
      subst (λ z. name x ∷ map name xs ≡ map to (cond z (k ∷ ks) ks)) (sym e)
      (ap (λ v. v ∷ map name xs) (sym t) ∙ ap (λ vs. to k ∷ vs) rest)
  one_kept false c x k xs ks e t rest =
      subst (λ z. map name xs ≡ map to (cond z (k ∷ ks) ks)) (sym e) rest

  pub numbered_filter : (xs : List X) (k : ℕ)
      → ((j : ℕ) (x : X) → slice_get xs j ≡ Some x
      → (keep (k + j) ≡ kept x) × (to (k + j) ≡ name x))
      → map name (filter kept xs) ≡ map to (filter keep (range_with_len k (length xs)))
  numbered_filter [] k each = refl
  numbered_filter (x ∷ xs) k each =
      let first = each 0 x refl in
      let same : k + 0 ≡ k = omega arith in
      one_kept (kept x) (keep k) x k (filter kept xs)
      (filter keep (range_with_len (k + 1) (length xs)))
      (ap keep (sym same) ∙ first.0) (ap to (sym same) ∙ first.1)
      (numbered_filter xs (k + 1) (λ j y at. subst (λ m. (keep m ≡ kept y) × (to m ≡ name y))
      (let e : k + suc j ≡ k + 1 + j = omega arith in e) (each (suc j) y at)))

index_beyond : {X : Type 0} (xs : List X) (k : ℕ) (d : X) → length xs ≤ k →
    slice_index_or xs k d ≡ d
index_beyond [] k d h = refl
index_beyond (y ∷ xs) zero d h = absurd (omega arith)
index_beyond (y ∷ xs) (suc k) d h = index_beyond xs k d (omega arith)

top_kinds : (top : Bool) (k : DeclKind) → is_top_kind (kind_of top k) ≡ (top && is_input_kind k)
top_kinds true decl.Input = refl
top_kinds false decl.Input = refl
top_kinds true decl.OutputWire = refl
top_kinds false decl.OutputWire = refl
top_kinds true decl.OutputReg = refl
top_kinds false decl.OutputReg = refl
top_kinds true decl.Wire = refl
top_kinds false decl.Wire = refl
top_kinds true decl.Reg = refl
top_kinds false decl.Reg = refl

module _ (text : TextTree) (top : Option (List ℕ)) (design : FlatDesign)
    (side : SideBySide text top design) where
  abbrev sources : List PartSignal
  sources = sources_of text top

  abbrev paths : List Path
  paths = map signal_path sources

  abbrev pub to : ℕ → Path
  to k = unwrap_or (slice_get paths k) []

  abbrev pub from : Path → ℕ
  from x = unwrap_or (position (same_path x) paths) 0

  abbrev Number : Path → ℕ → Type 0
  Number x k = IsNumber text top design side x k

  pub to_is : (x : Path) (k : ℕ) → Number x k → to k ≡ x
  to_is x k at = ap (λ o. unwrap_or o []) at

  pub from_is : (x : Path) (k : ℕ) → Number x k → from x ≡ k
  from_is x k at =
      let some = find_some (same_path x) paths x (get_contains paths k x at) (path_itself x) in
      let place = found_place (same_path x) paths some.0 some.1 in
      let same : x ≡ some.0 = same_paths x some.0 (find_passes (same_path x) paths some.0 some.1) in
      ap (λ o. unwrap_or o 0) place.1
      ∙ number_same text top design side x place.0 k (place.2 ∙ ap Some (sym same)) at

  -- a number of a signal, with what stands there on both sides
  pub record At (k : ℕ) : Type 0 where
    pub source : PartSignal
    pub form : SignalForm
    pub source_at : slice_get sources k ≡ Some source
    pub form_at : slice_get design.signals k ≡ Some form
    pub is : IsForm side.tables sources (parts text top) source form
    pub number : Number (signal_path source) k

  at_source : (k : ℕ) (s : PartSignal) → slice_get sources k ≡ Some s → At k
  at_source k s at =
      let t = zip_left (IsForm side.tables sources (parts text top)) sources design.signals
      side.forms k s at in
      record {
        source = s;
        form = t.0;
        source_at = at;
        form_at = t.1;
        is = t.2;
        number = get_map signal_path sources k s at;
      }

  pub at_number : (k : ℕ) → k < length design.signals → At k
  at_number k below =
      let s = below_get sources k (subst (λ n. k < n) (sym (sizes text top design side)) below) in
      at_source k s.0 s.1

  pub at_path_number : (x : Path) (k : ℕ) → Number x k → At k
  at_path_number x k at = let s = from_get_map signal_path sources k x at in at_source k s.0 s.1

  pub signal_at : (k : ℕ) (a : At k) → signal_of design.signals k ≡ a.form
  signal_at k a = index_is design.signals k a.form _ a.form_at

  pub clock_at : (k : ℕ) (a : At k) →
      is_clock design k ≡ holds same_path (clocks_of_text text top design side)
      (signal_path a.source)
  clock_at k a = same_clock text top design side (signal_path a.source) k a.number

  abbrev pub flat_signals : List ℕ
  flat_signals = signals_that design (λ s. not (is_clock design s))

  abbrev pub source_signals : List PartSignal
  source_signals = signals (clocks_of_text text top design side) (parts text top)

  pub same_signals : map signal_path source_signals ≡ map to flat_signals
  unfolding at_source
  same_signals =
      numbered_filter signal_path to (λ k. not (is_clock design k)) (λ s.
      not (holds same_path (clocks_of_text text top design side) (signal_path s)))
      sources 0
      (λ j s at.
      let e : j ≡ 0 + j = omega arith in
      let a = at_source j s at in
      subst (λ k. (not (is_clock design k) ≡
      not (holds same_path (clocks_of_text text top design side) (signal_path s)))
      × (to k ≡ signal_path s)) e
      (ap not (clock_at j a), to_is (signal_path s) j a.number))
      ∙ ap (λ n. map to (filter (λ k. not (is_clock design k)) (range_with_len 0 n)))
      (sizes text top design side)

  pub signal_below : (k : ℕ) → Contains flat_signals k → k < length design.signals
  signal_below k at = those_below (length design.signals) (λ s. not (is_clock design s)) k at

  pub signal_no_clock : (k : ℕ) → Contains flat_signals k → is_clock design k ≡ false
  signal_no_clock k at =
      not-true (is_clock design k) (those_pass (length design.signals) (λ s.
      not (is_clock design s)) k at)

  pub is_flat_signal : (k : ℕ) → k < length design.signals → is_clock design k ≡ false →
      Contains flat_signals k
  is_flat_signal k below no_clock =
      in_those (length design.signals) (λ s. not (is_clock design s)) k below (ap not no_clock)

  source_kept : (k : ℕ) (a : At k) → is_clock design k ≡ false → Contains source_signals a.source
  source_kept k a no_clock =
      Contains-filter (λ s.
      not (holds same_path (clocks_of_text text top design side) (signal_path s))) sources a.source
      (get_contains sources k a.source a.source_at) (ap not (sym (clock_at k a) ∙ no_clock))

  -- what is said of the signal at a number's path
  pub said_at : {X : Type 0} (said : PartSignal → X) (otherwise : X) (k : ℕ) (a : At k)
      → is_clock design k ≡ false
      → at_path source_signals said otherwise (to k) ≡ said a.source
  said_at said otherwise k a no_clock =
      let x = signal_path a.source in
      let test = λ (s : PartSignal). same_path x (signal_path s) in
      let some = find_some test source_signals a.source (source_kept k a no_clock)
      (path_itself x) in
      let place = found_place test source_signals some.0 some.1 in
      let inside = (Contains-from_filter (λ s.
      not (holds same_path (clocks_of_text text top design side) (signal_path s)))
      sources some.0
      (get_contains source_signals place.0 some.0 place.2)).1 in
      let same : some.0 ≡ a.source =
      same_member signal_path sources (paths_differ text top design side) some.0 a.source inside
      (get_contains sources k a.source a.source_at)
      (sym (same_paths x (signal_path some.0)
      (find_passes test source_signals some.0 some.1))) in
      ap (at_path source_signals said otherwise) (to_is x k a.number)
      ∙ ap (λ o. option_map_or said o otherwise) some.1 ∙ ap said same

  -- of other paths nothing is said
  pub said_within : (said : PartSignal → Bool) (x : Path) →
      at_path source_signals said false x ≡ true → Contains (map signal_path source_signals) x
  said_within said x h = by_found (find (λ s. same_path x (signal_path s)) source_signals) refl h
    where
      by_found : (o : Option PartSignal)
          → find (λ s. same_path x (signal_path s)) source_signals ≡ o
          → option_map_or said o false ≡ true
          → Contains (map signal_path source_signals) x
      by_found None e said_true = absurd (false≢true said_true)
      by_found (Some s) e said_true =
          let place = found_place (λ (t : PartSignal).
          same_path x (signal_path t)) source_signals s e in
          subst (Contains (map signal_path source_signals))
          (sym (same_paths x (signal_path s)
          (find_passes (λ (t : PartSignal). same_path x (signal_path t)) source_signals s e)))
          (Contains-map signal_path source_signals s
          (get_contains source_signals place.0 s place.2))

  -- ---- inputs and widths

  pub same_inputs : (k : ℕ) → Contains flat_signals k
      → (is_top_number design k && not (is_clock design k)) ≡
      at_path source_signals is_top_input false (to k)
  same_inputs k at =
      let a = at_number k (signal_below k at) in
      let no_clock = signal_no_clock k at in
      ap (λ b. is_top_number design k && not b) no_clock
      ∙ and_yes (is_top_number design k)
      ∙ ap (λ (s : SignalForm). is_top_kind s.kind) (signal_at k a)
      ∙ ap is_top_kind a.is.kind
      ∙ top_kinds (is_empty a.source.part.path) a.source.declaration.kind
      ∙ sym (said_at is_top_input false k a no_clock)
    where
      and_yes : (b : Bool) → (b && not false) ≡ b
      and_yes true = refl
      and_yes false = refl

  pub same_widths : (k : ℕ) → Contains flat_signals k →
      flat_width design.signals k ≡ at_path source_signals signal_width 0 (to k)
  same_widths k at =
      let a = at_number k (signal_below k at) in
      ap (λ (s : SignalForm). s.width) (signal_at k a) ∙ a.is.width
      ∙ sym (said_at signal_width 0 k a (signal_no_clock k at))

  pub input_within : (k : ℕ) → (is_top_number design k && not (is_clock design k)) ≡ true →
      Contains flat_signals k
  input_within k h =
      let both = and_parts (is_top_number design k) (not (is_clock design k)) h in
      ⊎_elim
      (λ below. is_flat_signal k below (not-true (is_clock design k) both.1))
      (λ beyond.
      absurd (false≢true (ap (λ (s : SignalForm).
      is_top_kind s.kind) (sym (index_beyond design.signals k _ beyond)) ∙ both.0)))
      (cases_lt k (length design.signals))

  -- ---- registers

  clocked_listed : (q : Part) (s : StatementTree) → Contains (processes text top) (clocked q s) →
      HasClocked text.modules q s
  clocked_listed q s = by_top (top_module text.modules top)
    where
      by_top : (o : Option ModuleTree)
          → Contains (option_map_or (λ (m : ModuleTree).
          processes_from most_levels text.modules (part_with [] [] m)) o []) (clocked q s)
          → HasClocked text.modules q s
      by_top (Some m) at = clocked_forth text.modules most_levels (part_with [] [] m) q s at
      by_top None at = absurd (Contains-nil (clocked q s) at)

  listed_clocked : (q : Part) (s : StatementTree) → Contains (parts text top) q →
      HasClocked text.modules q s → Contains (processes text top) (clocked q s)
  listed_clocked q s = by_top (top_module text.modules top)
    where
      by_top : (o : Option ModuleTree)
          → Contains (option_map_or (λ (m : ModuleTree).
          parts_from most_levels text.modules (part_with [] [] m)) o []) q
          → HasClocked text.modules q s
          → Contains (option_map_or (λ (m : ModuleTree).
          processes_from most_levels text.modules (part_with [] [] m)) o []) (clocked q s)
      by_top (Some m) at has = clocked_back text.modules most_levels (part_with [] [] m) q s at has
      by_top None at has = absurd (Contains-nil q at)

  abbrev Flat : Process → ProcessForm → Type 0
  Flat q f = IsFlat side.tables sources (parts text top) q f

  -- a clocked flat process is that of a clocked statement
  pub clocked_of : (q : Process) (f : ProcessForm) → Flat q f → is_clocked f.kind ≡ true
      → (p : Part) × (s : StatementTree) × (q ≡ clocked p s)
      × IsBody side.tables sources (parts text top) p s f
  clocked_of (combinational p s) f flat h = absurd (false≢true (sym flat.1 ∙ h))
  clocked_of (clocked p s) f flat h = (p, s, refl, flat.0)
  clocked_of (linking l) f flat h = absurd (⊎_elim
      (λ input. false≢true (sym (ap (λ (z : ProcessForm). is_clocked z.kind) input.1.form) ∙ h))
      (λ output. false≢true (sym (ap (λ (z : ProcessForm). is_clocked z.kind) output.1.form) ∙ h))
      (link_is side.tables sources (parts text top) l f flat))

  number_one : (names : Names) (n : List ℕ) (k : ℕ) → Bool
  number_one names n k = names.number n == k

  pub same_registers : (k : ℕ) (a : At k) → is_register_number design k ≡ is_register a.source
  same_registers k a = same_bool (is_register_number design k) (is_register a.source)
      (λ h.
      let f = from_some (λ (p : ProcessForm).
      is_clocked p.kind && assigns p.body k) design.processes h in
      let both = and_parts (is_clocked f.0.kind) (assigns f.0.body k) f.2 in
      let place = contains_get design.processes f.0 f.1 in
      let q = zip_right Flat (processes text top) design.processes side.bodies place.0 f.0
      place.1 in
      let c = clocked_of q.0 f.0 q.2 both.0 in
      let p = c.0 in
      let s = c.1 in
      let body = c.3 in
      let names = body.names in
      let n = from_some (λ (m : List ℕ).
      names.number m == k) (assigned s)
      (sym (assigned_same names s f.0.body body.walked body.shaped k) ∙ both.1) in
      let source = source_of_name side.tables sources (parts text top) p names body.named n.0
      (assigned_are_signals names s f.0.body body.walked n.0 n.1) in
      let here : slice_get sources k ≡ Some (record { part = p; declaration = source.0 }) =
      ap (slice_get sources) (sym (eqb-true (names.number n.0) k n.2)) ∙ source.3 in
      let is : record { part = p; declaration = source.0 } ≡ a.source =
      same_some (slice_get sources k) (record { part = p; declaration = source.0 }) a.source here
      a.source_at in
      let listed = clocked_listed p s
      (subst (λ z. Contains (processes text top) z) c.2
      (get_contains (processes text top) place.0 q.0 q.1)) in
      subst (λ (z : PartSignal). is_register z ≡ true) is
      (some_from (λ (b : StatementTree).
      holds bytes_eq (assigned b) source.0.name) (filter_map clocked_body p.definition.items)
      s listed
      (member_held bytes_eq bytes_eq-Decides (assigned s) source.0.name
      (subst (Contains (assigned s)) (sym source.1) n.1))))
      (λ h.
      let p = a.source.part in
      let n = a.source.declaration.name in
      let s = from_some (λ (b : StatementTree).
      holds bytes_eq (assigned b) n) (filter_map clocked_body p.definition.items) h in
      let in_part =
      (signal_in (parts text top) a.source (get_contains sources k a.source a.source_at)).0 in
      let place = contains_get (processes text top) (clocked p s.0)
      (listed_clocked p s.0 in_part s.1) in
      let f = zip_left Flat (processes text top) design.processes side.bodies place.0
      (clocked p s.0) place.1 in
      let body = f.2.0 in
      let names = body.names in
      let assigns_name = held_member bytes_eq bytes_eq-Decides (assigned s.0) n s.2 in
      let source = source_of_name side.tables sources (parts text top) p names body.named n
      (assigned_are_signals names s.0 f.0.body body.walked n assigns_name) in
      let number : names.number n ≡ k =
      number_same text top design side (signal_path a.source) (names.number n) k
      (get_map signal_path sources (names.number n) (record { part = p; declaration = source.0 })
      source.3 ∙ ap (λ m. Some (within p m)) source.1) a.number in
      some_from (λ (z : ProcessForm). is_clocked z.kind && assigns z.body k) design.processes f.0
      (get_contains design.processes place.0 f.0 f.1)
      (and_from (is_clocked f.0.kind) (assigns f.0.body k) f.2.1
      (assigned_same names s.0 f.0.body body.walked body.shaped k
      ∙ some_from (λ (m : List ℕ).
      names.number m == k) (assigned s.0) n assigns_name (eq-eqb (names.number n) k number))))
