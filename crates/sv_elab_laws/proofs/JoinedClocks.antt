-- The clocks of a flat design are those of its text.
use Rattle.std.proofs.Common.{◌≡◌, ℕ, ◌<◌, Bool, true, false, cond, List, [], ◌∷◌}
use Rattle.std.proofs.Common.{map, length, Option, Some, None, refl, sym, ap, subst, ◌∙◌, ◌⊎◌, inl}
use Rattle.std.proofs.Common.{inr, ⊎_elim}
use Rattle.std.specs.Prelude.{◌==◌, ◌&&◌, ◌||◌, if◌then◌else◌, flat_map, Contains}
use Rattle.std.specs.Prelude.{option_map}
use Rattle.std.specs.List.{slice_get, filter_map}
use Rattle.std.specs.Option.{option_map_or}
use Rattle.std.proofs.lemmas.Bool.{false≢true, or_cases, or_left, or_right, and_parts}
use Rattle.std.proofs.lemmas.Bool.{and_from, eqb-true, eq-eqb}
use Rattle.sv_system.proofs.Lists.{Contains-head, Contains-later, Contains-cases, Contains-nil}
use Rattle.sv_ast.specs.Tree.{ModuleTree, TextTree}
use Rattle.sv_ast.specs.Instances.{top_module, whole_signal}
use Rattle.sv_ast.specs.Reach.{Leads, here, step, holds}
use Rattle.sv_ast.specs.Parts.{Path, same_path, part_with, parts_from, most_levels, parts}
use Rattle.sv_ast.specs.Parts.{within, PartSignal, signal_path, PortLink, port_path, linked_path}
use Rattle.sv_ast.specs.Parts.{links_of}
use Rattle.sv_ast.specs.ClockPaths.{is_input_kind, edges, clock_pairs, IsClock, clock_paths}
use Rattle.sv_ast.specs.Processes.{Process, combinational, clocked, linking, processes_from}
use Rattle.sv_ast.specs.Processes.{processes}
use Rattle.sv_ast.proofs.Reaching.{clocks_by_links}
use Rattle.sv_flat.specs.Design.{ProcessKind, continuous, port_in, port_out}
use Rattle.sv_flat.specs.Design.{combinational as combinational_kind, clocked as clocked_kind}
use Rattle.sv_flat.specs.Design.{release, ProcessForm, FlatDesign}
use Rattle.sv_flat.specs.Processes.{is_clocked, signals_that}
use Rattle.sv_flat.specs.Clocks.{whole_link, is_port_in, is_port_out, link_in, link_out, links_in}
use Rattle.sv_flat.specs.Clocks.{links_out, lists_pair, has_edge, is_edge, makes_clock, clocks}
use Rattle.sv_flat.specs.Clocks.{is_clock}
use Rattle.sv_flat.proofs.LeastSets.{some_from, from_some, holds-from_Contains, Contains-from_holds}
use Rattle.sv_flat.proofs.LeastSets.{in_those, those_below, those_pass, least_set_has}
use Rattle.sv_flat.proofs.LeastSets.{least_set_closed, least_set_least}
use Rattle.sv_elab_laws.proofs.PartsLists.{zip_left, zip_right, get_contains}
use Rattle.sv_elab_laws.proofs.PartsLists.{contains_get, differ_places}
use Rattle.sv_elab_laws.proofs.PartsNamed.{to_filter_map, from_filter_map}
use Rattle.sv_elab_laws.specs.SideBySide.{kind_clock, clock_of, edges_from, edges_of}
use Rattle.sv_elab_laws.proofs.PartsGrown.{IsLink, IsFlat, IsNumberOf}
use Rattle.sv_flat.proofs.Members.{from_flat_map, to_flat_map}
use Rattle.sv_elab_laws.proofs.PartsTexts.{SideBySide, sources_of, paths_differ}
use Rattle.sv_elab_laws.proofs.FormsBeside.{same_size, below_size}
use Rattle.sv_elab_laws.proofs.JoinedSources.{edges_forth, edges_back, links_forth, links_back}
use Rattle.sv_elab_laws.proofs.JoinedLinks.{port_at, port_numbered, outer_numbered, IsInput, IsOutput}
use Rattle.sv_elab_laws.proofs.JoinedLinks.{link_is}

pub same_bool : (a b : Bool) → (a ≡ true → b ≡ true) → (b ≡ true → a ≡ true) → a ≡ b
same_bool true b f g = sym (f refl)
same_bool false true f g = g refl
same_bool false false f g = refl

pub clocked_no_link : (k : ProcessKind) → is_clocked k ≡ true →
    (is_port_in k ≡ false) × (is_port_out k ≡ false)
clocked_no_link (clocked_kind c) h = (refl, refl)
clocked_no_link continuous h = absurd (false≢true h)
clocked_no_link port_in h = absurd (false≢true h)
clocked_no_link port_out h = absurd (false≢true h)
clocked_no_link combinational_kind h = absurd (false≢true h)
clocked_no_link (release p) h = absurd (false≢true h)

edge_clock : (s : ℕ) (k : ProcessKind) → has_edge s k ≡ true → kind_clock k ≡ Some s
edge_clock s (clocked_kind c) h = ap Some (eqb-true c s h)
edge_clock s continuous h = absurd (false≢true h)
edge_clock s port_in h = absurd (false≢true h)
edge_clock s port_out h = absurd (false≢true h)
edge_clock s combinational_kind h = absurd (false≢true h)
edge_clock s (release p) h = absurd (false≢true h)

clock_edge : (s : ℕ) (k : ProcessKind) → kind_clock k ≡ Some s → has_edge s k ≡ true
clock_edge s (clocked_kind c) h = eq-eqb c s (let e : c ≡ s = cc h in e)
clock_edge s continuous h = absurd (cc h)
clock_edge s port_in h = absurd (cc h)
clock_edge s port_out h = absurd (cc h)
clock_edge s combinational_kind h = absurd (cc h)
clock_edge s (release p) h = absurd (cc h)

some_when : {X : Type 0} (b : Bool) (o : Option X) (x : X) → cond b o None ≡ Some x → b ≡ true
some_when true o x h = refl
some_when false o x h = absurd (cc h)

mapped_some : {X Y : Type 0} (g : X → Y) (o : Option X) (y : Y) → option_map g o ≡ Some y →
    (x : X) × (o ≡ Some x) × (g x ≡ y)
mapped_some g (Some x) y h = (x, refl, cc h)
mapped_some g None y h = absurd (cc h)

lists_from : (pairs : List (ℕ × ℕ)) (a b : ℕ) → Contains pairs (a, b) → lists_pair pairs a b ≡ true
lists_from pairs a b at = some_from (λ (p : ℕ × ℕ). (p.0 == a) && (p.1 == b)) pairs (a, b) at
    (and_from (a == a) (b == b) (eq-eqb a a refl) (eq-eqb b b refl))

lists_to : (pairs : List (ℕ × ℕ)) (a b : ℕ) → lists_pair pairs a b ≡ true →
    (p : ℕ × ℕ) × Contains pairs p × (p.0 ≡ a) × (p.1 ≡ b)
lists_to pairs a b h =
    let found = from_some (λ (p : ℕ × ℕ). (p.0 == a) && (p.1 == b)) pairs h in
    let both = and_parts (found.0.0 == a) (found.0.1 == b) found.2 in
    (found.0, found.1, eqb-true found.0.0 a both.0, eqb-true found.0.1 b both.1)

leads_more : {X : Type 0} {pairs : List (X × X)} {a b c : X} → Leads pairs a b →
    Contains pairs (b, c) → Leads pairs a c
leads_more here pair = step pair here
leads_more (step first rest) pair = step first (leads_more rest pair)

module _ (l : PortLink) (o : Path) (linked : linked_path l ≡ Some o) where
  abbrev pairs_with : Path → List (Path × Path)
  pairs_with outer =
      (port_path l, outer) ∷ (if is_input_kind l.port.kind then (outer, port_path l) ∷ [] else [])

  first_pair : Contains {X = Path × Path} (clock_pairs l) (port_path l, o)
  first_pair =
      subst (λ z. Contains {X = Path × Path} (option_map_or pairs_with z []) (port_path l, o))
      (sym linked)
      (Contains-head (port_path l, o) (if is_input_kind l.port.kind then (o, port_path l) ∷ []
      else []))

  second_pair : is_input_kind l.port.kind ≡ true →
      Contains {X = Path × Path} (clock_pairs l) (o, port_path l)
  second_pair input =
      subst (λ z. Contains {X = Path × Path} (option_map_or pairs_with z []) (o, port_path l))
      (sym linked)
      (Contains-later (port_path l, o) (if is_input_kind l.port.kind then (o, port_path l) ∷ []
      else []) (o, port_path l)
      (subst (λ b. Contains {X = Path × Path} (cond b ((o, port_path l) ∷ []) []) (o, port_path l))
      (sym input) (Contains-head (o, port_path l) [])))

  pair_cases : (x y : Path) → Contains {X = Path × Path} (clock_pairs l) (x, y)
      → ((x ≡ port_path l) × (y ≡ o))
      ⊎ ((is_input_kind l.port.kind ≡ true) × (x ≡ o) × (y ≡ port_path l))
  pair_cases x y at = ⊎_elim
      (λ first. inl (
        ap (λ (p : Path × Path). p.0) (sym first),
        ap (λ (p : Path × Path).
            p.1) (sym first),
      ))
      (λ later. inr (by_kind (is_input_kind l.port.kind) later))
      (Contains-cases (port_path l, o) (if is_input_kind l.port.kind then (o, port_path l) ∷ []
      else []) (x, y)
      (subst (λ z. Contains {X = Path × Path} (option_map_or pairs_with z []) (x, y)) linked at))
    where
      by_kind : (b : Bool) → Contains {X = Path × Path} (cond b ((o, port_path l) ∷ []) []) (x, y) →
          (b ≡ true) × (x ≡ o) × (y ≡ port_path l)
      by_kind true inside = ⊎_elim
          (λ is. (
            refl,
            ap (λ (p : Path × Path). p.0) (sym is),
            ap (λ (p : Path × Path).
                p.1) (sym is),
          ))
          (λ none. absurd (Contains-nil (x, y) none))
          (Contains-cases (o, port_path l) [] (x, y) inside)
      by_kind false inside = absurd (Contains-nil (x, y) inside)

pub linked_somewhere : (l : PortLink) (x y : Path) →
    Contains {X = Path × Path} (clock_pairs l) (x, y) → (o : Path) × (linked_path l ≡ Some o)
linked_somewhere l x y = by_path (linked_path l) refl
  where
    by_path : (z : Option Path) → linked_path l ≡ z
        → Contains {X = Path
        × Path} (option_map_or (λ outer.
        (port_path l, outer) ∷ (if is_input_kind l.port.kind then (outer, port_path l) ∷ []
        else [])) z []) (x, y)
        → (o : Path) × (linked_path l ≡ Some o)
    by_path (Some o) e at = (o, e)
    by_path None e at = absurd (Contains-nil (x, y) at)

module _ (text : TextTree) (top : Option (List ℕ)) (design : FlatDesign)
    (side : SideBySide text top design) where
  abbrev pub sources : List PartSignal
  sources = sources_of text top

  abbrev pub all_links : List PortLink
  all_links = flat_map (links_of text.modules) (parts text top)

  -- the number of the signal at a path
  abbrev pub IsNumber : Path → ℕ → Type 0
  IsNumber x k = slice_get (map signal_path sources) k ≡ Some x

  pub number_same : (x : Path) (j k : ℕ) → IsNumber x j → IsNumber x k → j ≡ k
  number_same x j k a b =
      differ_places (map signal_path sources) (paths_differ text top design side) j k x a b

  pub path_same : (x y : Path) (k : ℕ) → IsNumber x k → IsNumber y k → x ≡ y
  path_same x y k a b = let e : Some x ≡ Some y = sym a ∙ b in cc e

  pub sizes : length sources ≡ length design.signals
  sizes = same_size side.tables sources (parts text top) design.signals side.forms

  pub number_below : (x : Path) (k : ℕ) → IsNumber x k → k < length design.signals
  number_below = below_size side.tables sources (parts text top) design.signals side.forms

  top_edges_forth : (x : Path) → Contains (edges_of text top) x →
      Contains (flat_map edges (parts text top)) x
  top_edges_forth x = by_top (top_module text.modules top)
    where
      by_top : (o : Option ModuleTree)
          → Contains (option_map_or (λ (m : ModuleTree).
          edges_from most_levels text.modules (part_with [] [] m)) o []) x
          → Contains (flat_map edges (option_map_or (λ (m : ModuleTree).
          parts_from most_levels text.modules (part_with [] [] m)) o [])) x
      by_top (Some m) at = edges_forth text.modules most_levels (part_with [] [] m) x at
      by_top None at = absurd (Contains-nil x at)

  top_edges_back : (x : Path) → Contains (flat_map edges (parts text top)) x →
      Contains (edges_of text top) x
  top_edges_back x = by_top (top_module text.modules top)
    where
      by_top : (o : Option ModuleTree)
          → Contains (flat_map edges (option_map_or (λ (m : ModuleTree).
          parts_from most_levels text.modules (part_with [] [] m)) o [])) x
          → Contains (option_map_or (λ (m : ModuleTree).
          edges_from most_levels text.modules (part_with [] [] m)) o []) x
      by_top (Some m) at = edges_back text.modules most_levels (part_with [] [] m) x at
      by_top None at = absurd (Contains-nil x at)

  pub top_links_forth : (l : PortLink) → Contains (processes text top) (linking l) →
      Contains all_links l
  top_links_forth l = by_top (top_module text.modules top)
    where
      by_top : (o : Option ModuleTree)
          → Contains (option_map_or (λ (m : ModuleTree).
          processes_from most_levels text.modules (part_with [] [] m)) o []) (linking l)
          → Contains (flat_map (links_of text.modules)
          (option_map_or (λ (m : ModuleTree).
          parts_from most_levels text.modules (part_with [] [] m)) o [])) l
      by_top (Some m) at = links_forth text.modules most_levels (part_with [] [] m) l at
      by_top None at = absurd (Contains-nil (linking l) at)

  pub top_links_back : (l : PortLink) → Contains all_links l →
      Contains (processes text top) (linking l)
  top_links_back l = by_top (top_module text.modules top)
    where
      by_top : (o : Option ModuleTree)
          → Contains (flat_map (links_of text.modules)
          (option_map_or (λ (m : ModuleTree).
          parts_from most_levels text.modules (part_with [] [] m)) o [])) l
          → Contains (option_map_or (λ (m : ModuleTree).
          processes_from most_levels text.modules (part_with [] [] m)) o []) (linking l)
      by_top (Some m) at = links_back text.modules most_levels (part_with [] [] m) l at
      by_top None at = absurd (Contains-nil l at)

  abbrev Flat : Process → ProcessForm → Type 0
  Flat q f = IsFlat side.tables sources (parts text top) q f

  abbrev Link : PortLink → ProcessForm → Type 0
  Link l f = IsLink side.tables sources (parts text top) l f

  -- a flat link is that of a link of the text
  link_of_flat : (q : Process) (f : ProcessForm) → Contains (processes text top) q → Flat q f
      → (is_port_in f.kind ≡ true) ⊎ (is_port_out f.kind ≡ true)
      → (l : PortLink) × Contains all_links l × Link l f
  link_of_flat (combinational p s) f at flat kind = absurd (⊎_elim
      (λ i. false≢true (sym flat.2.0 ∙ i))
      (λ o. false≢true (sym flat.2.1 ∙ o)) kind)
  link_of_flat (clocked p s) f at flat kind = absurd (⊎_elim
      (λ i. false≢true (sym (clocked_no_link f.kind flat.1).0 ∙ i))
      (λ o. false≢true (sym (clocked_no_link f.kind flat.1).1 ∙ o)) kind)
  link_of_flat (linking l) f at flat kind = (l, top_links_forth l at, flat)

  link_of : (f : ProcessForm) → Contains design.processes f
      → (is_port_in f.kind ≡ true) ⊎ (is_port_out f.kind ≡ true)
      → (l : PortLink) × Contains all_links l × Link l f
  link_of f at kind =
      let place = contains_get design.processes f at in
      let q = zip_right Flat (processes text top) design.processes side.bodies place.0 f place.1 in
      link_of_flat q.0 f (get_contains (processes text top) place.0 q.0 q.1) q.2 kind

  -- the flat process of a link
  flat_of_link : (l : PortLink) → Contains all_links l →
      (f : ProcessForm) × Contains design.processes f × Link l f
  flat_of_link l at =
      let place = contains_get (processes text top) (linking l) (top_links_back l at) in
      let f = zip_left Flat (processes text top) design.processes side.bodies place.0 (linking l)
      place.1 in
      (f.0, get_contains design.processes place.0 f.0 f.1, f.2)

  -- two numbers whose paths links join
  record ArePaired (a b : ℕ) : Type 0 where
    first : Path
    second : Path
    first_is : IsNumber first a
    second_is : IsNumber second b
    pair : Contains (flat_map clock_pairs all_links) (first, second)

  linked_at : (l : PortLink) (f : ProcessForm) → (link : Link l f) → (n : List ℕ)
      → whole_signal link.outer.scope l.expression ≡ Some n
      → linked_path l ≡ Some (within l.outer n)
  linked_at l f link n e =
      ap (option_map (within l.outer))
      (ap (λ s. whole_signal s l.expression) (sym link.outer_named.scope) ∙ e)

  input_pair : (f : ProcessForm) → Contains design.processes f → (a b : ℕ) → link_in f ≡ Some (a, b)
      → (l : PortLink) × Contains all_links l × (is_input_kind l.port.kind ≡ true) × (o : Path)
      × (linked_path l ≡ Some o)
      × IsNumber (port_path l) a × IsNumber o b
  input_pair f at a b e =
      let l = link_of f at (inl (some_when (is_port_in f.kind) (whole_link f.body) (a, b) e)) in
      let link = l.2 in
      ⊎_elim
      (λ input.
      let n = mapped_some (λ n.
      (port_at side.tables sources (parts text top) l.0 f link, link.outer.number n))
      (whole_signal link.outer.scope l.0.expression) (a, b) (sym input.1.linked ∙ e) in
      let numbers = outer_numbered side.tables sources (parts text top) l.0 f link n.0 n.1 in (
        l.0,
        l.1,
        input.0,
        within l.0.outer n.0,
        linked_at l.0 f link n.0 n.1,
        subst (IsNumber (port_path l.0)) (ap (λ (p : ℕ × ℕ). p.0) n.2)
            (port_numbered side.tables sources (parts text top) l.0 f link),
        subst (IsNumber (within l.0.outer n.0)) (ap (λ (p : ℕ × ℕ). p.1) n.2) numbers.1,
      ))
      (λ output. absurd (let c : None ≡ Some (a, b) = sym output.1.no_input ∙ e in cc c))
      (link_is side.tables sources (parts text top) l.0 f link)

  output_pair : (f : ProcessForm) → Contains design.processes f → (a b : ℕ)
      → link_out f ≡ Some (a, b)
      → (l : PortLink) × Contains all_links l × (o : Path) × (linked_path l ≡ Some o) × IsNumber o a
      × IsNumber (port_path l) b
  output_pair f at a b e =
      let l = link_of f at (inr (some_when (is_port_out f.kind) (whole_link f.body) (a, b) e)) in
      let link = l.2 in
      ⊎_elim
      (λ input. absurd (let c : None ≡ Some (a, b) = sym input.1.no_output ∙ e in cc c))
      (λ output.
      let n = output.1.name in
      let numbers = outer_numbered side.tables sources (parts text top) l.0 f link n
      output.1.whole in
      let same : (link.outer.number n, port_at side.tables sources (parts text top) l.0 f link) ≡
      (a, b) =
      let c : Some (
        link.outer.number n,
        port_at side.tables sources (parts text top) l.0 f
            link,
      ) ≡ Some (a, b) = sym output.1.linked ∙ e in cc c in (
        l.0,
        l.1,
        within l.0.outer n,
        linked_at l.0 f link n output.1.whole,
        subst (IsNumber (within l.0.outer n)) (ap (λ (p : ℕ × ℕ). p.0) same) numbers.1,
        subst (IsNumber (port_path l.0)) (ap (λ (p : ℕ × ℕ). p.1) same)
            (port_numbered side.tables sources (parts text top) l.0 f link),
      ))
      (link_is side.tables sources (parts text top) l.0 f link)

  link_listed : (link : ProcessForm → Option (ℕ × ℕ)) (a b : ℕ)
      → lists_pair (filter_map link design.processes) a b ≡ true
      → (f : ProcessForm) × Contains design.processes f × (link f ≡ Some (a, b))
  link_listed link a b h =
      let p = lists_to (filter_map link design.processes) a b h in
      let f = from_filter_map link design.processes p.0 p.1 in
      (f.0, f.1, f.2 ∙ ap (λ x. Some (x, p.0.1)) p.2 ∙ ap (λ y. Some (a, y)) p.3)

  paired_by : (a b : ℕ) (l : PortLink) → Contains all_links l → (x y : Path)
      → Contains {X = Path × Path} (clock_pairs l) (x, y) → IsNumber x a → IsNumber y b
      → ArePaired a b
  paired_by a b l at x y pair x_is y_is = record {
    first = x;
    second = y;
    first_is = x_is;
    second_is = y_is;
    pair = to_flat_map clock_pairs all_links l (x, y) at pair;
  }

  made_paired : (a b : ℕ) → makes_clock design a b ≡ true → ArePaired a b
  made_paired a b h = ⊎_elim
      (λ two. ⊎_elim
      (λ x.
      let f = link_listed link_in a b x in
      let l = input_pair f.0 f.1 a b f.2 in
      paired_by a b l.0 l.1 (port_path l.0) l.3 (first_pair l.0 l.3 l.4) l.5 l.6)
      (λ x.
      let f = link_listed link_out b a x in
      let l = output_pair f.0 f.1 b a f.2 in
      paired_by a b l.0 l.1 (port_path l.0) l.2 (first_pair l.0 l.2 l.3) l.5 l.4)
      (or_cases (lists_pair (links_in design) a b) (lists_pair (links_out design) b a) two))
      (λ x.
      let f = link_listed link_in b a x in
      let l = input_pair f.0 f.1 b a f.2 in
      paired_by a b l.0 l.1 l.3 (port_path l.0) (second_pair l.0 l.3 l.4 l.2) l.6 l.5)
      (or_cases (lists_pair (links_in design) a b || lists_pair (links_out design) b a)
      (lists_pair (links_in design) b a) h)

  -- the ways in which a clock makes another one
  by_input : (a b : ℕ) → lists_pair (links_in design) a b ≡ true → makes_clock design a b ≡ true
  by_input a b h =
      or_left (lists_pair (links_in design) a b || lists_pair (links_out design) b a)
      (lists_pair (links_in design) b a)
      (or_left (lists_pair (links_in design) a b) (lists_pair (links_out design) b a) h)

  by_output : (a b : ℕ) → lists_pair (links_out design) b a ≡ true → makes_clock design a b ≡ true
  by_output a b h =
      or_left (lists_pair (links_in design) a b || lists_pair (links_out design) b a)
      (lists_pair (links_in design) b a)
      (or_right (lists_pair (links_in design) a b) (lists_pair (links_out design) b a) h)

  by_outer : (a b : ℕ) → lists_pair (links_in design) b a ≡ true → makes_clock design a b ≡ true
  by_outer a b h =
      or_right (lists_pair (links_in design) a b || lists_pair (links_out design) b a)
      (lists_pair (links_in design) b a) h

  -- a number of a path is the one that it has there
  made_from_number : (x y : Path) (a here_at there : ℕ) → IsNumber x a → IsNumber x here_at
      → IsNumber y there → makes_clock design here_at there ≡ true
      → (b : ℕ) × IsNumber y b × (makes_clock design a b ≡ true)
  made_from_number x y a here_at there is x_is y_is made = (
    there,
    y_is,
    subst (λ z. makes_clock design z there ≡ true) (number_same x here_at a x_is is) made,
  )

  -- what links join has numbers, of which the first makes the second a clock
  paired_made : (x y : Path) → Contains (flat_map clock_pairs all_links) (x, y) → (a : ℕ)
      → IsNumber x a
      → (b : ℕ) × IsNumber y b × (makes_clock design a b ≡ true)
  paired_made x y at a is =
      let l = from_flat_map clock_pairs all_links (x, y) at in
      let o = linked_somewhere l.0 x y l.2 in
      let f = flat_of_link l.0 l.1 in
      let link = f.2 in
      let port = port_numbered side.tables sources (parts text top) l.0 f.0 link in
      let n = mapped_some (within l.0.outer) (whole_signal l.0.outer.scope l.0.expression)
      o.0 o.1 in
      let whole : whole_signal link.outer.scope l.0.expression ≡ Some n.0 =
      ap (λ s. whole_signal s l.0.expression) link.outer_named.scope ∙ n.1 in
      let outer = subst (λ z. IsNumber z (link.outer.number n.0)) n.2
      (outer_numbered side.tables sources (parts text top) l.0 f.0 link n.0 whole).1 in
      let here_at = port_at side.tables sources (parts text top) l.0 f.0 link in
      let there = link.outer.number n.0 in
      let listed_in : (input : IsInput side.tables sources (parts text top) l.0 f.0 link) →
      lists_pair (links_in design) here_at there ≡ true =
      λ input. lists_from (links_in design) here_at there
      (to_filter_map link_in design.processes f.0 (here_at, there) f.1
      (input.linked ∙ ap (option_map (λ z. (here_at, link.outer.number z))) whole)) in
      let listed_out : (output : IsOutput side.tables sources (parts text top) l.0 f.0 link) →
      lists_pair (links_out design) there here_at ≡ true =
      λ output. lists_from (links_out design) there here_at
      (to_filter_map link_out design.processes f.0 (there, here_at) f.1
      (output.linked ∙ ap (λ m. Some (link.outer.number m, here_at))
      (let e : Some output.name ≡ Some n.0 = sym output.whole ∙ whole in cc e))) in
      ⊎_elim
      (λ forth.
      made_from_number x y a here_at there is (subst (λ z. IsNumber z here_at) (sym forth.0) port)
      (subst (λ z. IsNumber z there) (sym forth.1) outer)
      (⊎_elim (λ input. by_input here_at there (listed_in input.1))
      (λ output. by_output here_at there (listed_out output.1))
      (link_is side.tables sources (parts text top) l.0 f.0 link)))
      (λ back.
      made_from_number x y a there here_at is (subst (λ z. IsNumber z there) (sym back.1) outer)
      (subst (λ z. IsNumber z here_at) (sym back.2) port)
      (⊎_elim (λ input. by_outer there here_at (listed_in input.1))
      (λ output. absurd (false≢true (sym output.0 ∙ back.0)))
      (link_is side.tables sources (parts text top) l.0 f.0 link)))
      (pair_cases l.0 o.0 o.1 x y l.2)

  -- ---- clocks

  abbrev Clock : Path → Type 0
  Clock x = IsClock (parts text top) all_links x

  -- the number is that of a clock of the text
  abbrev ClockAt : ℕ → Type 0
  ClockAt k = (x : Path) × IsNumber x k × Clock x

  edge_at : (k : ℕ) → is_edge design k ≡ true → (x : Path) × IsNumber x k
      × Contains (flat_map edges (parts text top)) x
  edge_at k h =
      let f = from_some (λ (p : ProcessForm). has_edge k p.kind) design.processes h in
      let listed = to_filter_map clock_of design.processes f.0 k f.1 (edge_clock k f.0.kind f.2) in
      let place = contains_get (filter_map clock_of design.processes) k listed in
      let x = zip_right (IsNumberOf side.tables sources (parts text top)) (edges_of text top)
      (filter_map clock_of design.processes) side.clocks
      place.0 k place.1 in
      (x.0, x.2, top_edges_forth x.0 (get_contains (edges_of text top) place.0 x.0 x.1))

  at_edge : (x : Path) → Contains (flat_map edges (parts text top)) x →
      (k : ℕ) × IsNumber x k × (is_edge design k ≡ true)
  at_edge x at =
      let place = contains_get (edges_of text top) x (top_edges_back x at) in
      let k = zip_left (IsNumberOf side.tables sources (parts text top)) (edges_of text top)
      (filter_map clock_of design.processes) side.clocks
      place.0 x place.1 in
      let f = from_filter_map clock_of design.processes k.0
      (get_contains (filter_map clock_of design.processes) place.0 k.0 k.1) in (
        k.0,
        k.2,
        some_from (λ (p : ProcessForm).
            has_edge k.0 p.kind) design.processes f.0 f.1 (clock_edge k.0 f.0.kind f.2),
      )

  first_clocks : (k : ℕ) → Contains (signals_that design (is_edge design)) k →
      k < length design.signals
  first_clocks k at = those_below (length design.signals) (is_edge design) k at

  clock_forth : (k : ℕ) → Contains (clocks design) k → ClockAt k
  clock_forth k at =
      least_set_least (length design.signals) (makes_clock design)
      (signals_that design (is_edge design)) first_clocks ClockAt
      (λ j inside.
      let e = edge_at j (those_pass (length design.signals) (is_edge design) j inside) in
      (e.0, e.1, (e.0, e.2, here)))
      (λ m j before makes below.
      let p = made_paired m j makes in
      let same : before.0 ≡ p.first = path_same before.0 p.first m before.1 p.first_is in
      let way = before.2 in (
        p.second,
        p.second_is,
        (
          way.0,
          way.1,
          leads_more way.2
              (subst (λ z. Contains (flat_map clock_pairs all_links) (z, p.second)) (sym same)
              p.pair),
        ),
      ))
      k at

  lead_back : {x y : Path} → Leads (flat_map clock_pairs all_links) x y → (j : ℕ) → IsNumber x j
      → Contains (clocks design) j
      → (k : ℕ) → IsNumber y k → Contains (clocks design) k
  lead_back (here {a = x}) j is at k too =
      subst (Contains (clocks design)) (number_same x j k is too) at
  lead_back (step {a = x} {b = y} pair rest) j is at k too =
      let made = paired_made x y pair j is in
      lead_back rest made.0 made.1
      (least_set_closed (length design.signals) (makes_clock design)
      (signals_that design (is_edge design)) first_clocks j made.0 at made.2
      (number_below y made.0 made.1)) k too

  clock_back : (x : Path) → Clock x → (k : ℕ) → IsNumber x k → Contains (clocks design) k
  clock_back x way k is =
      let e = at_edge way.0 way.1 in
      lead_back way.2 e.0 e.1
      (least_set_has (length design.signals) (makes_clock design)
      (signals_that design (is_edge design)) first_clocks e.0
      (in_those (length design.signals) (is_edge design) e.0 (number_below way.0 e.0 e.1) e.2)) k is

  abbrev pub clocks_of_text : List Path
  clocks_of_text = clock_paths (parts text top) all_links

  -- a number is a clock just where its path is one
  pub same_clock : (x : Path) (k : ℕ) → IsNumber x k →
      is_clock design k ≡ holds same_path clocks_of_text x
  same_clock x k is = same_bool (is_clock design k) (holds same_path clocks_of_text x)
      (λ h.
      let c = clock_forth k (Contains-from_holds (clocks design) k h) in
      (clocks_by_links (parts text top) all_links x).1 (subst Clock (path_same c.0 x k c.1 is) c.2))
      (λ h. holds-from_Contains (clocks design) k
      (clock_back x ((clocks_by_links (parts text top) all_links x).0 h) k is))

  -- where a port is a clock, so is the signal that is linked to it
  pub outer_clock : (l : PortLink) → Contains all_links l → (o : Path) → linked_path l ≡ Some o
      → holds same_path clocks_of_text (port_path l) ≡ true
      → holds same_path clocks_of_text o ≡ true
  outer_clock l at o linked h =
      let way = (clocks_by_links (parts text top) all_links (port_path l)).0 h in
      (clocks_by_links (parts text top) all_links o).1 (
        way.0,
        way.1,
        leads_more way.2
            (to_flat_map clock_pairs all_links l (port_path l, o) at (first_pair l o linked)),
      )
