-- The numbers that are written in the processes that the walk of a text makes have lengths where
-- those of its modules have, and the expressions of its links are shaped.
use Rattle.std.proofs.Common.{◌≡◌, ℕ, zero, suc, true, List, [], ◌∷◌, ◌++◌, map, Option, Some, None}
use Rattle.std.proofs.Common.{ap, subst, ⊎_elim}
use Rattle.std.specs.Prelude.{◌&&◌, zip, Contains, IsTrue, option_map, option_to_list}
use Rattle.std.specs.List.{list_all}
use Rattle.std.specs.Option.{option_map_or}
use Rattle.std.proofs.lemmas.Bool.{and_parts}
use Rattle.sv_system.proofs.Lists.{Contains-head, Contains-later, Contains-cases, Contains-nil}
use Rattle.sv_system.proofs.Lists.{Contains-from_map}
use Rattle.sv_ast.specs.Tree.{ExpressionTree, DeclarationTree, NamedLink, LinkTrees, named_links}
use Rattle.sv_ast.specs.Tree.{ordered_links, InstanceTree, ItemTree, parameter_item, declared}
use Rattle.sv_ast.specs.Tree.{memory_item, continuous, released, always_item, invariant_item}
use Rattle.sv_ast.specs.Tree.{instance_item, ModuleTree}
use Rattle.sv_ast.specs.Shape.{is_shaped_expression, is_shaped_item, is_shaped_parameter}
use Rattle.sv_ast.specs.Shape.{are_header_parameters, are_ports, is_shaped_declaration}
use Rattle.sv_ast.specs.Shape.{is_shaped_link, are_shaped_links, are_shaped_overrides}
use Rattle.sv_ast.specs.Shape.{is_shaped_module}
use Rattle.sv_ast.specs.Instances.{port_named, linked_ports}
use Rattle.sv_ast.specs.Parts.{Part, child, PortLink, port_link, links_to}
use Rattle.sv_ast.specs.Processes.{Process, combinational, clocked, linking, combinational_body}
use Rattle.sv_ast.specs.Processes.{clocked_body, own_processes}
use Rattle.sv_flat.proofs.Depths.{from_all}
use Rattle.sv_width.specs.Agreement.{NumbersHaveLengths}
use Rattle.sv_width.specs.WrittenLengths.{ValueHasLengths, LinksHaveLengths, ItemHasLengths}
use Rattle.sv_width.specs.WrittenLengths.{ModuleHasLengths}
use Rattle.sv_flat.proofs.Members.{Contains-right as contains_right}
use Rattle.sv_flat.proofs.Members.{Contains-either as contains_either, from_flat_map}
use Rattle.sv_elab_laws.proofs.PartsNamed.{from_filter_map}
use Rattle.sv_elab_laws.specs.SideBySide.{item_made, made_from}
use Rattle.sv_elab_laws.proofs.PartsMade.{mapped_from, child_listed}
use Rattle.sv_elab_laws.proofs.JoinedSources.{from_some_list, from_option}
use Rattle.sv_elab_laws.proofs.SoundProcesses.{ProcessHasLengths}

zip_second : {X Y : Type 0} (xs : List X) (ys : List Y) (a : X) (b : Y) →
    Contains {X = X × Y} (zip xs ys) (a, b) → Contains ys b
zip_second {X} {Y} [] ys a b at = absurd (Contains-nil {X = X × Y} (a, b) at)
zip_second {X} {Y} (x ∷ xs) [] a b at = absurd (Contains-nil {X = X × Y} (a, b) at)
zip_second {X} {Y} (x ∷ xs) (y ∷ ys) a b at = ⊎_elim
    (λ is. subst (Contains (y ∷ ys)) (ap (λ (p : X × Y). p.1) is) (Contains-head y ys))
    (λ inside. Contains-later y ys b (zip_second xs ys a b inside))
    (Contains-cases {X = X × Y} (x, y) (zip xs ys) (a, b) at)

-- a shaped expression whose written numbers have lengths
abbrev pub IsMeasured : ExpressionTree → Type 0
IsMeasured e = NumbersHaveLengths e × IsTrue (is_shaped_expression e)

value_measured : (o : Option ExpressionTree) (e : ExpressionTree) → o ≡ Some e → ValueHasLengths o
    → option_map_or is_shaped_expression o true ≡ true → IsMeasured e
value_measured (Some x) e is long shape =
    subst IsMeasured (let s : x ≡ e = cc is in s) (long, shape)
value_measured None e is long shape = absurd (cc is)

links_measured : (m : ModuleTree) (links : LinkTrees) → are_shaped_links links ≡ true
    → LinksHaveLengths links
    → (n : List ℕ) (e : ExpressionTree)
    → Contains {X = List ℕ × Option ExpressionTree} (linked_ports m links) (n, Some e)
    → IsMeasured e
links_measured m (named_links ls) shape long n e at =
    let from = Contains-from_map (λ (l : NamedLink). (l.name, l.value)) ls (n, Some e) at in
    value_measured from.0.value e (ap (λ (p : List ℕ × Option ExpressionTree). p.1) from.2)
    (long from.0 from.1)
    (from_all is_shaped_link ls from.0 shape from.1)
links_measured m (ordered_links es) shape long n e at =
    let from = Contains-from_map Some es (Some e)
    (zip_second (map (λ (d : DeclarationTree). d.name) m.ports) (map Some es) n (Some e) at) in
    let same : from.0 ≡ e = let q = from.2 in cc q in
    subst IsMeasured same (long from.0 from.1, from_all is_shaped_expression es from.0 shape from.1)

module _ (modules : List ModuleTree) (shaped : (m : ModuleTree) → Contains modules m →
    IsTrue (is_shaped_module m))
    (long : (m : ModuleTree) → Contains modules m → ModuleHasLengths m) where
  abbrev pub IsGood : ItemTree → Type 0
  IsGood item = IsTrue (is_shaped_item item) × ItemHasLengths item

  pub item_good : (m : ModuleTree) → Contains modules m → (item : ItemTree) →
      Contains m.items item → IsGood item
  item_good m listed item at = (
    from_all is_shaped_item m.items item
        (and_parts (are_header_parameters m.parameters && list_all is_shaped_parameter m.parameters
        && are_ports m.ports
        && list_all is_shaped_declaration m.ports) (list_all is_shaped_item m.items)
        (shaped m listed)).1 at,
    long m listed item (contains_right (map parameter_item m.parameters ++ map declared m.ports)
        m.items item at),
  )

  link_long : (p c : Part) (i : InstanceTree) → IsGood (instance_item i) → (l : PortLink)
      → Contains (links_to p c i) l
      → ProcessHasLengths (linking l)
  link_long p c i good l at =
      let from = from_filter_map (port_link p c) (linked_ports c.definition i.links) l at in
      by_pair from.0 from.1 from.2
    where
      by_pair : (pair : List ℕ × Option ExpressionTree)
          → Contains (linked_ports c.definition i.links) pair → port_link p c pair ≡ Some l
          → ProcessHasLengths (linking l)
      by_pair (n, None) inside e = absurd (cc e)
      by_pair (n, Some x) inside e =
          let d = mapped_from (λ (d : DeclarationTree).
          record { outer = p; inner = c; port = d; expression = x })
          (port_named c.definition n) l e in
          subst (λ (k : PortLink). IsMeasured k.expression) d.2
          (links_measured c.definition i.links
          (and_parts (are_shaped_overrides i.overrides) (are_shaped_links i.links) good.0).1
          good.1.1 n x inside)

  combinational_long : (item : ItemTree) → IsGood item → (p : Part) (s : _)
      → combinational_body item ≡ Some s
      → ProcessHasLengths (combinational p s)
  combinational_long (declared d) good p s e = by_value d.value good.1 e
    where
      by_value : (o : Option ExpressionTree) → ValueHasLengths o
          → option_map (Rattle.sv_ast.specs.Processes.assigns d.name d.place) o ≡ Some s
          → ProcessHasLengths (combinational p s)
      by_value (Some x) has is =
          subst (λ z. ProcessHasLengths (combinational p z))
          (let q : Rattle.sv_ast.specs.Processes.assigns d.name d.place x ≡ s = cc is in q) has
      by_value None has is = absurd (cc is)
  combinational_long (continuous ts place x) good p s e =
      subst (λ z. ProcessHasLengths (combinational p z))
      (let q : Rattle.sv_ast.specs.Tree.assignment ts place true x ≡ s = cc e in q) good.1
  combinational_long (released t x to) good p s e =
      subst (λ z. ProcessHasLengths (combinational p z))
      (let q : Rattle.sv_ast.specs.Processes.assigns t.name t.place x ≡ s = cc e in q) good.1
  combinational_long (always_item place None body) good p s e =
      subst (λ z. ProcessHasLengths (combinational p z)) (let q : body ≡ s = cc e in q) good.1
  combinational_long (always_item place (Some clock) body) good p s e = absurd (cc e)
  combinational_long (parameter_item x) good p s e = absurd (cc e)
  combinational_long (memory_item x) good p s e = absurd (cc e)
  combinational_long (invariant_item q x) good p s e = absurd (cc e)
  combinational_long (instance_item i) good p s e = absurd (cc e)

  clocked_long : (item : ItemTree) → IsGood item → (p : Part) (s : _) → clocked_body item ≡ Some s →
      ProcessHasLengths (clocked p s)
  clocked_long (always_item place (Some clock) body) good p s e =
      subst (λ z. ProcessHasLengths (clocked p z)) (let q : body ≡ s = cc e in q) good.1
  clocked_long (always_item place None body) good p s e = absurd (cc e)
  clocked_long (declared d) good p s e = absurd (cc e)
  clocked_long (continuous ts place x) good p s e = absurd (cc e)
  clocked_long (released t x to) good p s e = absurd (cc e)
  clocked_long (parameter_item x) good p s e = absurd (cc e)
  clocked_long (memory_item x) good p s e = absurd (cc e)
  clocked_long (invariant_item q x) good p s e = absurd (cc e)
  clocked_long (instance_item i) good p s e = absurd (cc e)

  own_long : (p : Part) (item : ItemTree) → IsGood item → (q : Process) →
      Contains (own_processes p item) q → ProcessHasLengths q
  own_long p item good q at = ⊎_elim
      (λ left. let x = Contains-from_map (combinational p)
      (option_to_list (combinational_body item)) q left in
      subst ProcessHasLengths x.2
      (combinational_long item good p x.0 (from_some_list (combinational_body item) x.0 x.1)))
      (λ right. let x = Contains-from_map (clocked p) (option_to_list (clocked_body item)) q
      right in
      subst ProcessHasLengths x.2
      (clocked_long item good p x.0 (from_some_list (clocked_body item) x.0 x.1)))
      (contains_either (map (combinational p) (option_to_list (combinational_body item)))
      (map (clocked p) (option_to_list (clocked_body item))) q at)

  pub processes_long : (n : ℕ) (p : Part) → Contains modules p.definition → (q : Process)
      → Contains (made_from n modules p) q
      → ProcessHasLengths q
  unfolding made_from
  processes_long zero p listed q at = absurd (Contains-nil q at)
  processes_long (suc n) p listed q at =
      let found = from_flat_map (item_made (made_from n modules) modules p)
      p.definition.items q at in
      by_item found.0 (item_good p.definition listed found.0 found.1) found.2
      (λ c at_c inside. processes_long n c at_c q inside)
    where
      by_item : (item : ItemTree) → IsGood item
          → Contains (item_made (made_from n modules) modules p item) q
          → ((c : Part) → Contains modules c.definition → Contains (made_from n modules c) q
          → ProcessHasLengths q)
          → ProcessHasLengths q
      by_item (instance_item i) good inside rest =
          let c = from_option (λ r. map linking (links_to p r i) ++ made_from n modules r)
          (child modules p i) q inside in
          ⊎_elim
          (λ mine. let k = Contains-from_map linking (links_to p c.0 i) q mine in
          subst ProcessHasLengths k.2 (link_long p c.0 i good k.0 k.1))
          (λ later. rest c.0 (child_listed modules p c.0 i c.1) later)
          (contains_either (map linking (links_to p c.0 i)) (made_from n modules c.0) q c.2)
      by_item (declared d) good inside rest = own_long p (declared d) good q inside
      by_item (continuous ts place e) good inside rest =
          own_long p (continuous ts place e) good q inside
      by_item (released t e to) good inside rest = absurd (Contains-nil q inside)
      by_item (always_item place clock s) good inside rest =
          own_long p (always_item place clock s) good q inside
      by_item (parameter_item x) good inside rest = absurd (Contains-nil q inside)
      by_item (memory_item x) good inside rest = absurd (Contains-nil q inside)
      by_item (invariant_item x e) good inside rest = absurd (Contains-nil q inside)
