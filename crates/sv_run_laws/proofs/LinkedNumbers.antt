-- What is linked by a whole name to an input port has a lower number than the port: the signals of
-- an instance follow those of the instance around it.
use Rattle.std.proofs.Common.{◌≡◌, ℕ, zero, suc, ◌+◌, ◌<◌, ◌≤◌, Bool, true, false, cond, List, []}
use Rattle.std.proofs.Common.{◌∷◌, ◌++◌, map, length, Option, Some, None, refl, sym, ap, subst}
use Rattle.std.proofs.Common.{◌∙◌, arith, ◌⊎◌, inl, inr, ⊎_elim}
use Rattle.std.specs.Prelude.{flat_map, Contains, option_map}
use Rattle.std.specs.List.{slice_get}
use Rattle.std.specs.Option.{option_map_or}
use Rattle.std.proofs.lemmas.Bool.{false≢true}
use Rattle.std.proofs.lemmas.List.{length-append}
use Rattle.sv_system.proofs.Lists.{Contains-head, Contains-cases, Contains-nil, Contains-map}
use Rattle.sv_ast.specs.Tree.{ExpressionTree, DeclarationTree, InstanceTree, ModuleTree, TextTree}
use Rattle.sv_ast.specs.Instances.{module_named, top_module, instances, settings, port_named}
use Rattle.sv_ast.specs.Instances.{linked_ports, whole_signal}
use Rattle.sv_ast.specs.Parts.{Part, part_with, within, child, children, parts_from, most_levels}
use Rattle.sv_ast.specs.Parts.{parts, PartSignal, signal_path, declarations, signals_of, PortLink}
use Rattle.sv_ast.specs.Parts.{port_link, links_to, links_of}
use Rattle.sv_ast.specs.Processes.{Process, combinational, clocked, linking}
use Rattle.sv_flat.specs.Design.{ProcessForm, FlatDesign}
use Rattle.sv_flat.specs.Clocks.{whole_link, is_port_in, link_in, links_in}
use Rattle.sv_elab_laws.proofs.PartsLists.{zip_right, get_contains, contains_get, get_left, get_map}
use Rattle.sv_elab_laws.proofs.PartsLists.{get_below, differ_places, StandsAt}
use Rattle.sv_flat.proofs.Members.{Contains-left as contains_left, from_flat_map, to_flat_map}
use Rattle.sv_elab_laws.proofs.PartsLists.{stands_whole, stands_split, stands_get}
use Rattle.sv_elab_laws.proofs.PartsNamed.{from_filter_map, to_filter_map}
use Rattle.sv_elab_laws.proofs.PartsGrown.{IsFlat, IsLink, source_of_name}
use Rattle.sv_elab_laws.proofs.PartsTexts.{Beside, sources_of, paths_differ}
use Rattle.sv_elab_laws.proofs.JoinedClocks.{clocked_no_link}
use Rattle.sv_elab_laws.proofs.JoinedLinks.{port_at, port_is_signal, outer_numbered, link_is}
use Rattle.sv_elab_laws.proofs.JoinedSources.{from_option}

-- ---- one after another

module _ {X : Type 0} where
  -- the second stands in the list somewhere after the first
  abbrev Follows : List X → (x y : X) → Type 0
  Follows [] x y = ⊥
  Follows (z ∷ zs) x y = ((z ≡ x) × Contains zs y) ⊎ Follows zs x y

  follows_right : (xs ys : List X) (x y : X) → Follows ys x y → Follows (xs ++ ys) x y
  follows_right [] ys x y h = h
  follows_right (z ∷ xs) ys x y h = inr (follows_right xs ys x y h)

  follows_left : (xs ys : List X) (x y : X) → Follows xs x y → Follows (xs ++ ys) x y
  follows_left [] ys x y h = absurd h
  follows_left (z ∷ xs) ys x y h = ⊎_elim
      (λ first. inl (first.0, contains_left xs ys y first.1))
      (λ later. inr (follows_left xs ys x y later)) h

  follows_flat : {Y : Type 0} (f : Y → List X) (ys : List Y) (y : Y) → Contains ys y
      → (a b : X) → Follows (f y) a b → Follows (flat_map f ys) a b
  follows_flat f [] y at a b h = absurd (Contains-nil y at)
  follows_flat f (z ∷ ys) y at a b h = ⊎_elim
      (λ is. follows_left (f z) (flat_map f ys) a b (subst (λ w. Follows (f w) a b) (sym is) h))
      (λ later. follows_right (f z) (flat_map f ys) a b (follows_flat f ys y later a b h))
      (Contains-cases z ys y at)

  -- two members at two places, the first before the second
  record Ahead (xs : List X) (x y : X) : Type 0 where
    first : ℕ
    second : ℕ
    lower : first < second
    first_is : slice_get xs first ≡ Some x
    second_is : slice_get xs second ≡ Some y

  get_right : (xs ys : List X) (k : ℕ) (y : X) → slice_get ys k ≡ Some y →
      slice_get (xs ++ ys) (length xs + k) ≡ Some y
  get_right xs ys k y at =
      stands_get (xs ++ ys) (length xs) ys
      (subst (λ n. StandsAt (xs ++ ys) n ys) (let e : 0 + length xs ≡ length xs = omega arith in e)
      (stands_split (xs ++ ys) 0 xs ys (stands_whole (xs ++ ys))).1) k y at

module _ {X Y : Type 0} where
  -- members of the images are ahead where what they come from follows
  ahead_flat : (f : Y → List X) (ys : List Y) (a b : Y) → Follows ys a b
      → (x y : X) → Contains (f a) x → Contains (f b) y → Ahead (flat_map f ys) x y
  ahead_flat f [] a b h x y left right = absurd h
  ahead_flat f (z ∷ ys) a b h x y left right = ⊎_elim
      (λ first.
      let j = contains_get (f z) x (subst (λ w. Contains (f w) x) (sym first.0) left) in
      let k = contains_get (flat_map f ys) y (to_flat_map f ys b y first.1 right) in
      let below = get_below (f z) j.0 x j.1 in
      record {
        first = j.0;
        second = length (f z) + k.0;
        lower = omega (arith, below);
        first_is = get_left (f z) (flat_map f ys) j.0 x j.1;
        second_is = get_right (f z) (flat_map f ys) k.0 y k.1;
      })
      (λ later.
      let rest = ahead_flat f ys a b later x y left right in
      let lower = rest.lower in
      record {
        first = length (f z) + rest.first;
        second = length (f z) + rest.second;
        lower = omega (arith, lower);
        first_is = get_right (f z) (flat_map f ys) rest.first x rest.first_is;
        second_is = get_right (f z) (flat_map f ys) rest.second y rest.second_is;
      }) h

-- ---- instances

module _ (modules : List ModuleTree) where
  child_length : (p : Part) (i : InstanceTree) (c : Part) → child modules p i ≡ Some c →
      length c.path ≡ suc (length p.path)
  child_length p i c = by_module (module_named modules i.master)
    where
      by_module : (o : Option ModuleTree)
          → option_map (λ (m : ModuleTree).
          part_with (within p i.name) (settings p.scope m i.overrides) m) o ≡ Some c
          → length c.path ≡ suc (length p.path)
      by_module None e = absurd (cc e)
      by_module (Some m) e =
          let is : c ≡ part_with (within p i.name) (settings p.scope m i.overrides) m = cc e in
          let long : length (p.path ++ i.name ∷ []) ≡ length p.path + 1 =
          length-append p.path (i.name ∷ []) in
          ap (λ (x : Part). length x.path) is
          ∙ (let more : length (p.path ++ i.name ∷ []) ≡ suc (length p.path) =
          omega (arith, long) in more)

  -- the levels bound how long paths are
  path_below : (n : ℕ) (p q : Part) → Contains (parts_from n modules p) q →
      length q.path < length p.path + n
  unfolding parts_from
  path_below zero p q at = absurd (Contains-nil q at)
  path_below (suc n) p q at = ⊎_elim
      (λ is. subst (λ (x : Part). length x.path < length p.path + suc n) is (omega arith))
      (λ later.
      let found = from_flat_map (parts_from n modules) (children modules p) q later in
      let i = from_filter_map (child modules p) (instances p.definition) found.0 found.1 in
      let longer = child_length p i.0 found.0 i.2 in
      let rest = path_below n found.0 q found.2 in
      omega (arith, longer, rest))
      (Contains-cases p (flat_map (parts_from n modules) (children modules p)) q at)

  starts : (n : ℕ) (p : Part) → 1 ≤ n → Contains (parts_from n modules p) p
  unfolding parts_from
  starts zero p low = absurd (omega (arith, low))
  starts (suc n) p low = Contains-head p (flat_map (parts_from n modules) (children modules p))

  -- an instance in a part follows it
  child_follows : (n : ℕ) (p q c : Part) (i : InstanceTree) → Contains (parts_from n modules p) q
      → Contains (instances q.definition) i → child modules q i ≡ Some c
      → length c.path < length p.path + n → Follows (parts_from n modules p) q c
  unfolding parts_from
  child_follows zero p q c i at listed is low = absurd (Contains-nil q at)
  child_follows (suc n) p q c i at listed is low = ⊎_elim
      (λ same.
      let child_is : child modules p i ≡ Some c =
      subst (λ x. child modules x i ≡ Some c) (sym same) is in
      let longer = child_length p i c child_is in
      inl (
        same,
        to_flat_map (parts_from n modules) (children modules p) c c
            (to_filter_map (child modules p) (instances p.definition) i c
            (subst (λ (x : Part). Contains (instances x.definition) i) (sym same) listed) child_is)
            (starts n c (omega (arith, longer, low))),
      ))
      (λ later.
      let found = from_flat_map (parts_from n modules) (children modules p) q later in
      let j = from_filter_map (child modules p) (instances p.definition) found.0 found.1 in
      let longer = child_length p j.0 found.0 j.2 in
      inr (follows_flat (parts_from n modules) (children modules p) found.0 found.1 q c
      (child_follows n found.0 q c i found.2 listed is (omega (arith, longer, low)))))
      (Contains-cases p (flat_map (parts_from n modules) (children modules p)) q at)

module _ (text : TextTree) (top : Option (List ℕ)) where
  part_follows : (q c : Part) (i : InstanceTree) → Contains (parts text top) q
      → Contains (parts text top) c → Contains (instances q.definition) i
      → child text.modules q i ≡ Some c → Follows (parts text top) q c
  part_follows q c i at there listed is =
      let under : ModuleTree → List Part =
      λ (m : ModuleTree). parts_from most_levels text.modules (part_with [] [] m) in
      let m = from_option under (top_module text.modules top) q at in
      let k = from_option under (top_module text.modules top) c there in
      let low = path_below text.modules most_levels (part_with [] [] k.0) c k.2 in
      subst (λ o. Follows (option_map_or under o []) q c) (sym m.1)
      (child_follows text.modules most_levels (part_with [] [] m.0) q c i m.2 listed is low)

  -- ---- links

  -- a link, and the instance that it links
  record LinkedChild (l : PortLink) : Type 0 where
    instance : InstanceTree
    listed : Contains (instances l.outer.definition) instance
    child_is : child text.modules l.outer instance ≡ Some l.inner

  ends : (outer inner : Part) (pair : List ℕ × Option ExpressionTree) (l : PortLink) →
      port_link outer inner pair ≡ Some l → (l.outer ≡ outer) × (l.inner ≡ inner)
  ends outer inner (n, None) l e = absurd (cc e)
  ends outer inner (n, Some x) l e = by_port (port_named inner.definition n) e
    where
      by_port : (o : Option DeclarationTree)
          → option_map (λ (d : DeclarationTree).
          record { outer = outer; inner = inner; port = d; expression = x }) o ≡ Some l
          → (l.outer ≡ outer) × (l.inner ≡ inner)
      by_port None same = absurd (cc same)
      by_port (Some d) same =
          let is : l ≡ record { outer = outer; inner = inner; port = d; expression = x } =
          cc same in (ap (λ (z : PortLink). z.outer) is, ap (λ (z : PortLink). z.inner) is)

  linked_child : (l : PortLink) → Contains (flat_map (links_of text.modules) (parts text top)) l →
      LinkedChild l
  linked_child l at =
      let p = from_flat_map (links_of text.modules) (parts text top) l at in
      let i = from_flat_map (λ (i : InstanceTree).
      option_map_or (λ inner. links_to p.0 inner i) (child text.modules p.0 i) [])
      (instances p.0.definition) l p.2 in
      let c = from_option (λ (inner : Part).
      links_to p.0 inner i.0) (child text.modules p.0 i.0) l i.2 in
      let pair = from_filter_map (port_link p.0 c.0) (linked_ports c.0.definition i.0.links) l
      c.2 in
      let both = ends p.0 c.0 pair.0 l pair.2 in
      record {
        instance = i.0;
        listed = subst (λ (x : Part). Contains (instances x.definition) i.0) (sym both.0) i.1;
        child_is =
            subst (λ x. child text.modules x i.0 ≡ Some l.inner) (sym both.0)
            (c.1 ∙ ap Some (sym both.1));
      }

module _ (text : TextTree) (top : Option (List ℕ)) (design : FlatDesign) (qs : List Process)
    (side : Beside text top qs design)
    (linked : (l : PortLink) → Contains qs (linking l) →
    Contains (flat_map (links_of text.modules) (parts text top)) l) where
  abbrev sources : List PartSignal
  sources = sources_of text top

  same_number : (s : PartSignal) (j k : ℕ) → slice_get sources j ≡ Some s →
      slice_get sources k ≡ Some s → j ≡ k
  same_number s j k a b =
      differ_places (map signal_path sources) (paths_differ text top design side) j k
      (signal_path s) (get_map signal_path sources j s a) (get_map signal_path sources k s b)

  name_lower : (l : PortLink) (f : ProcessForm)
      → Contains (flat_map (links_of text.modules) (parts text top)) l
      → (link : IsLink side.tables sources (parts text top) l f) → (n : List ℕ)
      → whole_signal link.outer.scope l.expression ≡ Some n
      → link.outer.number n < port_at side.tables sources (parts text top) l f link
  name_lower l f at link n whole =
      let tables = side.tables in
      let everything = parts text top in
      let name = source_of_name tables sources everything l.outer link.outer link.outer_named n
      (outer_numbered tables sources everything l f link n whole).0 in
      let port = source_of_name tables sources everything l.inner link.inner link.inner_named
      l.port.name (port_is_signal tables sources everything l f link) in
      let i = linked_child text top l at in
      let follows = part_follows text top l.outer l.inner i.instance link.outer_named.member
      link.inner_named.member i.listed i.child_is in
      let ahead = ahead_flat signals_of everything l.outer l.inner follows
      (record { part = l.outer; declaration = name.0 })
      (record { part = l.inner; declaration = port.0 })
      (Contains-map (λ (d : DeclarationTree). record { part = l.outer; declaration = d })
      (declarations l.outer.definition) name.0 name.2)
      (Contains-map (λ (d : DeclarationTree). record { part = l.inner; declaration = d })
      (declarations l.inner.definition) port.0 port.2) in
      let low : ahead.first ≡ link.outer.number n =
      same_number (record { part = l.outer; declaration = name.0 }) ahead.first
      (link.outer.number n) ahead.first_is name.3 in
      let high : ahead.second ≡ link.inner.number l.port.name =
      same_number (record { part = l.inner; declaration = port.0 }) ahead.second
      (link.inner.number l.port.name) ahead.second_is port.3 in
      subst (λ k. link.outer.number n < k) high (subst (λ k. k < ahead.second) low ahead.lower)

  mapped : {X Y : Type 0} (g : X → Y) (o : Option X) (y : Y) → option_map g o ≡ Some y →
      (x : X) × (o ≡ Some x) × (g x ≡ y)
  mapped g (Some x) y h = (x, refl, cc h)
  mapped g None y h = absurd (cc h)

  input_when : (b : Bool) (o : Option (ℕ × ℕ)) (pair : ℕ × ℕ) → cond b o None ≡ Some pair →
      b ≡ true
  input_when true o pair h = refl
  input_when false o pair h = absurd (cc h)

  link_lower : (l : PortLink) (f : ProcessForm)
      → Contains (flat_map (links_of text.modules) (parts text top)) l
      → IsLink side.tables sources (parts text top) l f → (port name : ℕ)
      → link_in f ≡ Some (port, name) → name < port
  link_lower l f at link port name e = ⊎_elim
      (λ input.
      let here_at = port_at side.tables sources (parts text top) l f link in
      let n = mapped (λ n. (here_at, link.outer.number n))
      (whole_signal link.outer.scope l.expression) (port, name) (sym input.1.linked ∙ e) in
      subst (λ (pair : ℕ × ℕ). pair.1 < pair.0) n.2 (name_lower l f at link n.0 n.1))
      (λ output. absurd (let none : None ≡ Some (port, name) = sym output.1.no_input ∙ e in
      cc none))
      (link_is side.tables sources (parts text top) l f link)

  flat_lower : (q : Process) (f : ProcessForm) → Contains qs q
      → IsFlat side.tables sources (parts text top) q f → (port name : ℕ)
      → link_in f ≡ Some (port, name) → name < port
  flat_lower (combinational p s) f at flat port name e = absurd (false≢true
      (sym flat.2.0 ∙ input_when (is_port_in f.kind) (whole_link f.body) (port, name) e))
  flat_lower (clocked p s) f at flat port name e = absurd (false≢true
      (sym (clocked_no_link f.kind flat.1).0
      ∙ input_when (is_port_in f.kind) (whole_link f.body) (port, name) e))
  flat_lower (linking l) f at flat port name e = link_lower l f (linked l at) flat port name e

  -- what is linked by a whole name to an input port has a lower number
  pub links_lead_up : (port name : ℕ) → Contains (links_in design) (port, name) → name < port
  links_lead_up port name at =
      let f = from_filter_map link_in design.processes (port, name) at in
      let place = contains_get design.processes f.0 f.1 in
      let q = zip_right (IsFlat side.tables sources (parts text top)) qs design.processes
      side.bodies place.0 f.0 place.1 in
      flat_lower q.0 f.0 (get_contains qs place.0 q.0 q.1) q.2 port name f.2
