-- The clocks and links of a text's parts are those of its processes.
use Rattle.std.proofs.Common.{◌≡◌, ℕ, zero, suc, List, [], ◌∷◌, ◌++◌, map, Option, Some, None, refl}
use Rattle.std.proofs.Common.{sym, ap, subst, ⊎_elim}
use Rattle.std.specs.Prelude.{flat_map, Contains, option_map, option_to_list}
use Rattle.std.specs.Option.{option_map_or}
use Rattle.sv_system.proofs.Lists.{Contains-head, Contains-later, Contains-cases, Contains-nil}
use Rattle.sv_system.proofs.Lists.{Contains-map, Contains-from_map}
use Rattle.sv_ast.specs.Tree.{StatementTree, InstanceTree, ItemTree, parameter_item, declared}
use Rattle.sv_ast.specs.Tree.{memory_item, continuous, released, always_item, invariant_item}
use Rattle.sv_ast.specs.Tree.{instance_item, ModuleTree}
use Rattle.sv_ast.specs.Instances.{instance_of, instances}
use Rattle.sv_ast.specs.Parts.{Path, Part, within, child, children, parts_from, PortLink, links_to}
use Rattle.sv_ast.specs.Parts.{links_of}
use Rattle.sv_ast.specs.ClockPaths.{edge_of, edges}
use Rattle.sv_ast.specs.Processes.{combinational, clocked, linking, combinational_body}
use Rattle.sv_ast.specs.Processes.{clocked_body, item_processes, processes_from}
use Rattle.sv_flat.proofs.Members.{Contains-either as contains_either}
use Rattle.sv_flat.proofs.Members.{Contains-left as contains_left, Contains-right as contains_right}
use Rattle.sv_flat.proofs.Members.{from_flat_map, to_flat_map}
use Rattle.sv_elab_laws.proofs.PartsNamed.{from_filter_map, to_filter_map}
use Rattle.sv_elab_laws.specs.SideBySide.{item_edges, edges_from}

instance_is : (item : ItemTree) (i : InstanceTree) → instance_of item ≡ Some i →
    item ≡ instance_item i
instance_is (instance_item j) i e = ap instance_item (let s : j ≡ i = cc e in s)
instance_is (parameter_item p) i e = absurd (cc e)
instance_is (declared d) i e = absurd (cc e)
instance_is (memory_item m) i e = absurd (cc e)
instance_is (continuous ts p x) i e = absurd (cc e)
instance_is (released t x to) i e = absurd (cc e)
instance_is (always_item p c s) i e = absurd (cc e)
instance_is (invariant_item p x) i e = absurd (cc e)

pub from_some_list : {X : Type 0} (o : Option X) (x : X) → Contains (option_to_list o) x →
    o ≡ Some x
from_some_list (Some y) x at =
    ⊎_elim (λ is. ap Some is) (λ none. absurd (Contains-nil x none)) (Contains-cases y [] x at)
from_some_list None x at = absurd (Contains-nil x at)

pub to_some_list : {X : Type 0} (o : Option X) (x : X) → o ≡ Some x → Contains (option_to_list o) x
to_some_list o x e = subst (λ z. Contains (option_to_list z) x) (sym e) (Contains-head x [])

pub from_option : {X Y : Type 0} (f : X → List Y) (o : Option X) (y : Y) →
    Contains (option_map_or f o []) y → (x : X) × (o ≡ Some x) × Contains (f x) y
from_option f (Some x) y at = (x, refl, at)
from_option f None y at = absurd (Contains-nil y at)

pub to_option : {X Y : Type 0} (f : X → List Y) (o : Option X) (x : X) (y : Y) → o ≡ Some x →
    Contains (f x) y → Contains (option_map_or f o []) y
to_option f o x y e at = subst (λ z. Contains (option_map_or f z []) y) (sym e) at

module _ (modules : List ModuleTree) where
  abbrev pub inner_parts : ℕ → Part → List Part
  inner_parts n p = flat_map (parts_from n modules) (children modules p)

  -- a part inside an instance of another one is inside that one
  pub deeper : (n : ℕ) (p c q : Part) (i : InstanceTree)
      → Contains p.definition.items (instance_item i) → child modules p i ≡ Some c
      → Contains (parts_from n modules c) q → Contains (inner_parts n p) q
  deeper n p c q i at is inside =
      to_flat_map (parts_from n modules) (children modules p) c q
      (to_filter_map (child modules p) (instances p.definition) i c
      (to_filter_map instance_of p.definition.items (instance_item i) i at refl) is) inside

  pub inner_instance : (n : ℕ) (p q : Part) → Contains (inner_parts n p) q
      → (i : InstanceTree) × (c : Part) × Contains p.definition.items (instance_item i)
      × (child modules p i ≡ Some c) × Contains (parts_from n modules c) q
  inner_instance n p q at =
      let c = from_flat_map (parts_from n modules) (children modules p) q at in
      let i = from_filter_map (child modules p) (instances p.definition) c.0 c.1 in
      let item = from_filter_map instance_of p.definition.items i.0 i.1 in (
        i.0,
        c.0,
        subst (Contains p.definition.items) (instance_is item.0 i.0 item.2)
            item.1,
        i.2,
        c.2,
      )

  -- ---- clocks

  abbrev edge_at : Part → ItemTree → Option Path
  edge_at p item = option_map (within p) (edge_of item)

  own_edge : (p : Part) (item : ItemTree) (x : Path) → Contains p.definition.items item →
      Contains (option_to_list (edge_at p item)) x → Contains (edges p) x
  own_edge p item x listed at =
      to_filter_map (edge_at p) p.definition.items item x listed
      (from_some_list (edge_at p item) x at)

  pub edges_forth : (n : ℕ) (p : Part) (x : Path) → Contains (edges_from n modules p) x →
      Contains (flat_map edges (parts_from n modules p)) x
  unfolding edges_from parts_from
  edges_forth zero p x at = absurd (Contains-nil x at)
  edges_forth (suc n) p x at =
      let found = from_flat_map (item_edges (edges_from n modules) modules p)
      p.definition.items x at in
      by_item found.0 found.1 found.2 (edges_forth n)
    where
      by_item : (item : ItemTree) → Contains p.definition.items item
          → Contains (item_edges (edges_from n modules) modules p item) x
          → ((c : Part) (y : Path) → Contains (edges_from n modules c) y
          → Contains (flat_map edges (parts_from n modules c)) y)
          → Contains (flat_map edges (p ∷ inner_parts n p)) x
      by_item (instance_item i) listed inside rest =
          let c = from_option (edges_from n modules) (child modules p i) x inside in
          let q = from_flat_map edges (parts_from n modules c.0) x (rest c.0 x c.2) in
          to_flat_map edges (p ∷ inner_parts n p) q.0 x
          (Contains-later p (inner_parts n p) q.0 (deeper n p c.0 q.0 i listed c.1 q.1)) q.2
      by_item (always_item place clock s) listed inside rest =
          to_flat_map edges (p ∷ inner_parts n p) p x (Contains-head p (inner_parts n p))
          (own_edge p (always_item place clock s) x listed inside)
      by_item item listed inside rest = absurd (Contains-nil x inside)

  pub edges_back : (n : ℕ) (p : Part) (x : Path) →
      Contains (flat_map edges (parts_from n modules p)) x → Contains (edges_from n modules p) x
  unfolding edges_from parts_from
  edges_back zero p x at = absurd (Contains-nil x at)
  edges_back (suc n) p x at =
      let found = from_flat_map edges (p ∷ inner_parts n p) x at in
      ⊎_elim
      (λ is.
      let item = from_filter_map (edge_at p) p.definition.items x
      (subst (λ q. Contains (edges q) x) (sym is) found.2) in
      to_flat_map (item_edges (edges_from n modules) modules p) p.definition.items item.0 x item.1
      (by_item item.0 item.2))
      (λ later.
      let i = inner_instance n p found.0 later in
      to_flat_map (item_edges (edges_from n modules) modules p) p.definition.items
      (instance_item i.0) x i.2
      (to_option (edges_from n modules) (child modules p i.0) i.1 x i.3
      (edges_back n i.1 x (to_flat_map edges (parts_from n modules i.1) found.0 x i.4 found.2))))
      (Contains-cases p (inner_parts n p) found.0 found.1)
    where
      by_item : (item : ItemTree) → edge_at p item ≡ Some x →
          Contains (item_edges (edges_from n modules) modules p item) x
      by_item (instance_item i) e = absurd (cc e)
      by_item (always_item place clock s) e =
          to_some_list (edge_at p (always_item place clock s)) x e
      by_item item e = absurd (cc e)

  -- ---- links

  no_link : (p : Part) (a b : Option StatementTree) (l : PortLink)
      → Contains (map (combinational p) (option_to_list a) ++ map (clocked p) (option_to_list b))
      (linking l) → ⊥
  no_link p a b l at = ⊎_elim
      (λ left. let s = Contains-from_map (combinational p) (option_to_list a) (linking l) left in
      let e : combinational p s.0 ≡ linking l = s.2 in cc e)
      (λ right. let s = Contains-from_map (clocked p) (option_to_list b) (linking l) right in
      let e : clocked p s.0 ≡ linking l = s.2 in cc e)
      (contains_either (map (combinational p) (option_to_list a))
      (map (clocked p) (option_to_list b)) (linking l) at)

  abbrev links_at : Part → InstanceTree → List PortLink
  links_at p i = option_map_or (λ inner. links_to p inner i) (child modules p i) []

  pub links_forth : (n : ℕ) (p : Part) (l : PortLink)
      → Contains (processes_from n modules p) (linking l)
      → Contains (flat_map (links_of modules) (parts_from n modules p)) l
  unfolding processes_from parts_from
  links_forth zero p l at = absurd (Contains-nil (linking l) at)
  links_forth (suc n) p l at =
      let found = from_flat_map (item_processes (processes_from n modules) modules p)
      p.definition.items (linking l) at in
      by_item found.0 found.1 found.2 (links_forth n)
    where
      whole : List Part
      whole = p ∷ inner_parts n p

      by_item : (item : ItemTree) → Contains p.definition.items item
          → Contains (item_processes (processes_from n modules) modules p item) (linking l)
          → ((c : Part) (k : PortLink) → Contains (processes_from n modules c) (linking k)
          → Contains (flat_map (links_of modules) (parts_from n modules c)) k)
          → Contains (flat_map (links_of modules) (p ∷ inner_parts n p)) l
      by_item (instance_item i) listed inside rest =
          let c = from_option (λ q. map linking (links_to p q i) ++ processes_from n modules q)
          (child modules p i) (linking l) inside in
          ⊎_elim
          (λ mine.
          let k = Contains-from_map linking (links_to p c.0 i) (linking l) mine in
          let is : k.0 ≡ l = let e : linking k.0 ≡ linking l = k.2 in cc e in
          to_flat_map (links_of modules) (p ∷ inner_parts n p) p l
          (Contains-head p (inner_parts n p))
          (to_flat_map (links_at p) (instances p.definition) i l
          (to_filter_map instance_of p.definition.items (instance_item i) i listed refl)
          (to_option (λ inner.
          links_to p inner i) (child modules p i) c.0 l c.1
          (subst (Contains (links_to p c.0 i)) is k.1))))
          (λ later.
          let q = from_flat_map (links_of modules) (parts_from n modules c.0) l
          (rest c.0 l later) in
          to_flat_map (links_of modules) (p ∷ inner_parts n p) q.0 l
          (Contains-later p (inner_parts n p) q.0 (deeper n p c.0 q.0 i listed c.1 q.1)) q.2)
          (contains_either (map linking (links_to p c.0 i)) (processes_from n modules c.0)
          (linking l) c.2)
      by_item (always_item place clock s) listed inside rest =
          absurd (no_link p (combinational_body (always_item place clock s))
          (clocked_body (always_item place clock s)) l inside)
      by_item (declared d) listed inside rest =
          absurd (no_link p (combinational_body (declared d)) (clocked_body (declared d)) l inside)
      by_item (continuous ts place e) listed inside rest =
          absurd (no_link p (combinational_body (continuous ts place e))
          (clocked_body (continuous ts place e)) l inside)
      by_item (released t e to) listed inside rest =
          absurd (no_link p (combinational_body (released t e to)) (clocked_body (released t e to))
          l inside)
      by_item item listed inside rest = absurd (Contains-nil (linking l) inside)

  pub links_back : (n : ℕ) (p : Part) (l : PortLink)
      → Contains (flat_map (links_of modules) (parts_from n modules p)) l
      → Contains (processes_from n modules p) (linking l)
  unfolding processes_from parts_from
  links_back zero p l at = absurd (Contains-nil l at)
  links_back (suc n) p l at =
      let found = from_flat_map (links_of modules) (p ∷ inner_parts n p) l at in
      ⊎_elim
      (λ is.
      let i = from_flat_map (links_at p) (instances p.definition) l
      (subst (λ q. Contains (links_of modules q) l) (sym is) found.2) in
      let item = from_filter_map instance_of p.definition.items i.0 i.1 in
      let c = from_option (λ inner. links_to p inner i.0) (child modules p i.0) l i.2 in
      to_flat_map (item_processes (processes_from n modules) modules p) p.definition.items
      (instance_item i.0) (linking l)
      (subst (Contains p.definition.items) (instance_is item.0 i.0 item.2) item.1)
      (to_option (λ q. map linking (links_to p q i.0) ++ processes_from n modules q)
      (child modules p i.0) c.0 (linking l) c.1
      (contains_left (map linking (links_to p c.0 i.0)) (processes_from n modules c.0) (linking l)
      (Contains-map linking (links_to p c.0 i.0) l c.2))))
      (λ later.
      let i = inner_instance n p found.0 later in
      to_flat_map (item_processes (processes_from n modules) modules p) p.definition.items
      (instance_item i.0) (linking l) i.2
      (to_option (λ q. map linking (links_to p q i.0) ++ processes_from n modules q)
      (child modules p i.0) i.1 (linking l) i.3
      (contains_right (map linking (links_to p i.1 i.0)) (processes_from n modules i.1) (linking l)
      (links_back n i.1 l (to_flat_map (links_of modules) (parts_from n modules i.1) found.0 l i.4
      found.2)))))
      (Contains-cases p (inner_parts n p) found.0 found.1)
