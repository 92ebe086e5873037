-- All parts of a text have different paths, and so have all its signals.
use Rattle.std.proofs.Common.{◌≡◌, ℕ, zero, suc, List, [], ◌∷◌, ◌++◌, map, length}
use Rattle.std.proofs.Common.{Option, Some, None, refl, sym, ap, subst, ◌∙◌, arith}
use Rattle.std.proofs.Common.{⊎_elim}
use Rattle.std.specs.Prelude.{flat_map, Contains, option_map}
use Rattle.std.specs.List.{slice_get, filter_map, cons_option}
use Rattle.std.proofs.lemmas.List.{append_assoc, append_cancel_left, length-append, map-append}
use Rattle.sv_system.proofs.Lists.{Contains-head, Contains-later, Contains-cases, Contains-nil}
use Rattle.sv_system.proofs.Lists.{Contains-map, Contains-from_map}
use Rattle.sv_ast.specs.Tree.{DeclarationTree, InstanceTree, ModuleTree}
use Rattle.sv_ast.specs.Instances.{module_named, instances, settings}
use Rattle.sv_ast.specs.Parts.{Path, Part, part_with, within, child, children, parts_from}
use Rattle.sv_ast.specs.Parts.{PartSignal, signal_path, declarations, signals_of}
use Rattle.sv_elab_laws.proofs.PartsLists.{AllDiffer, differ_append}
use Rattle.sv_flat.proofs.Members.{Contains-left as contains_left, Contains-right as contains_right}
use Rattle.sv_elab_laws.proofs.PartsLists.{contains_get}
use Rattle.sv_flat.proofs.Members.{from_flat_map}
use Rattle.sv_elab_laws.proofs.PartsNamed.{from_filter_map}
use Rattle.sv_elab_laws.proofs.PartsGrown.{instance_names_in}

module _ {X Y : Type 0} where
  pub differ_map : (f : X → Y) (xs : List X) →
      ((x y : X) → Contains xs x → Contains xs y → f x ≡ f y → x ≡ y) → AllDiffer xs →
      AllDiffer (map f xs)
  differ_map f [] one h = tt
  differ_map f (x ∷ xs) one h = (
    λ at. let found = Contains-from_map f xs (f x) at in
        h.0 (subst (Contains xs)
        (one found.0 x (Contains-later x xs found.0 found.1) (Contains-head x xs) found.2)
        found.1),
    differ_map f xs (λ y z a b. one y z (Contains-later x xs y a) (Contains-later x xs z b)) h.1,
  )

  -- members with different images have different places
  pub same_member : (f : X → Y) (xs : List X) → AllDiffer (map f xs) → (x y : X) → Contains xs x →
      Contains xs y → f x ≡ f y → x ≡ y
  same_member f [] h x y a b e = absurd (Contains-nil x a)
  same_member f (z ∷ xs) h x y a b e = ⊎_elim
      (λ is. ⊎_elim
      (λ too. sym is ∙ too)
      (λ later.
      absurd (h.0 (subst (Contains (map f xs)) (sym (ap f is ∙ e))
      (Contains-map f xs y later))))
      (Contains-cases z xs y b))
      (λ inside. ⊎_elim
      (λ too.
      absurd (h.0 (subst (Contains (map f xs)) (e ∙ ap f (sym too))
      (Contains-map f xs x inside))))
      (λ later. same_member f xs h.1 x y inside later e)
      (Contains-cases z xs y b))
      (Contains-cases z xs x a)

module _ {X : Type 0} where
  pub places_differ : (xs : List X) →
      ((j k : ℕ) (x : X) → slice_get xs j ≡ Some x → slice_get xs k ≡ Some x → j ≡ k) → AllDiffer xs
  places_differ [] one = tt
  places_differ (x ∷ xs) one = (
    λ at. let found = contains_get xs x at in
        let e : 0 ≡ suc found.0 = one 0 (suc found.0) x refl found.1 in absurd (omega arith),
    places_differ xs (λ j k y a b. let e : suc j ≡ suc k = one (suc j) (suc k) y a b in
        omega arith),
  )

  pub last_same : (xs ys : List X) (x y : X) → xs ++ x ∷ [] ≡ ys ++ y ∷ [] → (xs ≡ ys) × (x ≡ y)
  last_same [] [] x y e = (refl, cc e)
  last_same [] (z ∷ ys) x y e =
      let l : length (x ∷ []) ≡ length (z ∷ (ys ++ y ∷ [])) = ap length e in
      let m = length-append ys (y ∷ []) in absurd (omega arith)
  last_same (z ∷ xs) [] x y e =
      let l : length (z ∷ (xs ++ x ∷ [])) ≡ length (y ∷ []) = ap length e in
      let m = length-append xs (x ∷ []) in absurd (omega arith)
  last_same (z ∷ xs) (w ∷ ys) x y e =
      let first : z ≡ w = cc e in
      let rest = last_same xs ys x y (let r : xs ++ x ∷ [] ≡ ys ++ y ∷ [] = cc e in r) in
      (ap (λ v. v ∷ xs) first ∙ ap (λ vs. w ∷ vs) rest.0, rest.1)

-- ---- parts

child_path : (modules : List ModuleTree) (p : Part) (i : InstanceTree) (c : Part) →
    child modules p i ≡ Some c → c.path ≡ p.path ++ i.name ∷ []
child_path modules p i c = by_module (module_named modules i.master)
  where
    by_module : (o : Option ModuleTree)
        → option_map (λ (m : ModuleTree).
        part_with (within p i.name) (settings p.scope m i.overrides) m) o ≡ Some c
        → c.path ≡ p.path ++ i.name ∷ []
    by_module None e = absurd (cc e)
    by_module (Some m) e =
        ap (λ (x : Part). x.path)
        (let s : c ≡ part_with (within p i.name) (settings p.scope m i.overrides) m = cc e in s)

-- a part stands below another one, in the instance of this name
abbrev IsBelow : Part → InstanceTree → Path → Type 0
IsBelow p i path = (rest : Path) × (path ≡ p.path ++ i.name ∷ rest)

abbrev kids : ℕ → List ModuleTree → Part → List InstanceTree → List Part
kids n modules p is = flat_map (parts_from n modules) (filter_map (child modules p) is)

below_child : (modules : List ModuleTree) (p : Part) (i : InstanceTree) (c : Part)
    → child modules p i ≡ Some c
    → (path rest : Path) → path ≡ c.path ++ rest → IsBelow p i path
below_child modules p i c e path rest is = (
  rest,
  is ∙ ap (λ x. x ++ rest) (child_path modules p i c e)
      ∙ append_assoc p.path (i.name ∷ []) rest,
)

pub begins : (n : ℕ) (modules : List ModuleTree) (p q : Part) →
    Contains (parts_from n modules p) q → (rest : Path) × (q.path ≡ p.path ++ rest)
unfolding parts_from
begins zero modules p q at = absurd (Contains-nil q at)
begins (suc n) modules p q at = ⊎_elim
    (λ is. (
      [],
      ap (λ (x : Part). x.path) (sym is)
          ∙ sym (Rattle.std.proofs.lemmas.List.append-nil p.path),
    ))
    (λ later.
    let found = from_flat_map (parts_from n modules) (children modules p) q later in
    let i = from_filter_map (child modules p) (instances p.definition) found.0 found.1 in
    let rest = begins n modules found.0 q found.2 in
    let below = below_child modules p i.0 found.0 i.2 q.path rest.0 rest.1 in
    (i.0.name ∷ below.0, below.1))
    (Contains-cases p (kids n modules p (instances p.definition)) q at)

kid_below : (n : ℕ) (modules : List ModuleTree) (p : Part) (is : List InstanceTree) (q : Part)
    → Contains (kids n modules p is) q
    → (i : InstanceTree) × Contains is i × IsBelow p i q.path
kid_below n modules p is q at =
    let found = from_flat_map (parts_from n modules) (filter_map (child modules p) is) q at in
    let i = from_filter_map (child modules p) is found.0 found.1 in
    let rest = begins n modules found.0 q found.2 in
    (i.0, i.1, below_child modules p i.0 found.0 i.2 q.path rest.0 rest.1)

-- the names of the instances in a part differ
abbrev pub InstancesDiffer : Part → Type 0
InstancesDiffer q = AllDiffer (instance_names_in q.definition.items)

abbrev pub path_of : Part → Path
path_of q = q.path

module _ (modules : List ModuleTree) (n : ℕ)
    (inner : (c : Part) → ((q : Part) → Contains (parts_from n modules c) q → InstancesDiffer q) →
    AllDiffer (map path_of (parts_from n modules c))) where
  kids_differ : (p : Part) (is : List InstanceTree)
      → AllDiffer (map (λ (i : InstanceTree). i.name) is)
      → ((q : Part) → Contains (kids n modules p is) q → InstancesDiffer q)
      → AllDiffer (map path_of (kids n modules p is))
  kids_differ p [] names each = tt
  kids_differ p (i ∷ is) names each =
      by_child (child modules p i) refl each (kids_differ p is names.1)
    where
      rest : List Part
      rest = kids n modules p is

      apart : (c : Part) → child modules p i ≡ Some c → (x : Path) →
          Contains (map path_of (parts_from n modules c)) x →
          Contains (map path_of (kids n modules p is)) x → ⊥
      apart c e x a b =
          let left = Contains-from_map path_of (parts_from n modules c) x a in
          let right = Contains-from_map path_of (kids n modules p is) x b in
          let l = begins n modules c left.0 left.1 in
          let mine = below_child modules p i c e left.0.path l.0 l.1 in
          let other = kid_below n modules p is right.0 right.1 in
          let same = append_cancel_left p.path (i.name ∷ mine.0) (other.0.name ∷ other.2.0)
          (sym mine.1 ∙ left.2 ∙ sym right.2 ∙ other.2.1) in
          let name : other.0.name ≡ i.name = cc same in
          names.0 (subst (Contains (map (λ (j : InstanceTree). j.name) is)) name
          (Contains-map (λ (j : InstanceTree). j.name) is other.0 other.1))

      by_child : (o : Option Part) → child modules p i ≡ o
          → ((q : Part) → Contains
          (flat_map (parts_from n modules) (cons_option o (filter_map (child modules p) is))) q
          → InstancesDiffer q)
          → (((q : Part) → Contains (kids n modules p is) q → InstancesDiffer q)
          → AllDiffer (map path_of (kids n modules p is)))
          → AllDiffer (map path_of
          (flat_map (parts_from n modules) (cons_option o (filter_map (child modules p) is))))
      by_child None e all deeper = deeper all
      by_child (Some c) e all deeper =
          subst AllDiffer (sym (map-append path_of (parts_from n modules c) (kids n modules p is)))
          (differ_append (map path_of (parts_from n modules c)) (map path_of (kids n modules p is))
          (inner c (λ q at. all q
          (contains_left (parts_from n modules c) (kids n modules p is) q at)))
          (deeper (λ q at. all q
          (contains_right (parts_from n modules c) (kids n modules p is) q at)))
          (apart c e))

pub parts_differ : (modules : List ModuleTree) (n : ℕ) (p : Part)
    → ((q : Part) → Contains (parts_from n modules p) q → InstancesDiffer q)
    → AllDiffer (map path_of (parts_from n modules p))
unfolding parts_from
parts_differ modules zero p each = tt
parts_differ modules (suc n) p each = (
  λ at.
      let is = instances p.definition in
      let found = Contains-from_map path_of (kids n modules p is) p.path at in
      let below = kid_below n modules p is found.0 found.1 in
      let e : p.path ≡ p.path ++ below.0.name ∷ below.2.0 = sym found.2 ∙ below.2.1 in
      let l : length p.path ≡ length (p.path ++ below.0.name ∷ below.2.0) = ap length e in
      let m = length-append p.path (below.0.name ∷ below.2.0) in
      absurd (omega arith),
  kids_differ modules n (parts_differ modules n) p (instances p.definition)
      (each p (Contains-head p (kids n modules p (instances p.definition))))
      (λ q at. each q (Contains-later p (kids n modules p (instances p.definition)) q at)),
)

-- ---- signals

pub within_same : (p q : Part) (n m : List ℕ) → within p n ≡ within q m →
    (p.path ≡ q.path) × (n ≡ m)
within_same p q n m e = last_same p.path q.path n m e

abbrev pub DeclaredDiffer : Part → Type 0
DeclaredDiffer q = AllDiffer (map (λ (d : DeclarationTree). d.name) (declarations q.definition))

part_signals_differ : (p : Part) (ds : List DeclarationTree)
    → AllDiffer (map (λ (d : DeclarationTree). d.name) ds)
    → AllDiffer (map signal_path (map (λ (d : DeclarationTree).
    record { part = p; declaration = d }) ds))
part_signals_differ p [] h = tt
part_signals_differ p (d ∷ ds) h = (
  λ at.
      let found = Contains-from_map signal_path (map (λ (x : DeclarationTree).
      record { part = p; declaration = x }) ds) (within p d.name) at in
      let other = Contains-from_map (λ (x : DeclarationTree).
      record { part = p; declaration = x }) ds found.0 found.1 in
      let same = within_same p p other.0.name d.name (ap signal_path other.2 ∙ found.2) in
      h.0 (subst (Contains (map (λ (x : DeclarationTree). x.name) ds)) same.1
      (Contains-map (λ (x : DeclarationTree). x.name) ds other.0 other.1)),
  part_signals_differ p ds h.1,
)

pub signal_in : (ps : List Part) (s : PartSignal) → Contains (flat_map signals_of ps) s →
    Contains ps s.part × Contains (declarations s.part.definition) s.declaration
signal_in ps s at =
    let found = from_flat_map signals_of ps s at in
    let d = Contains-from_map (λ (x : DeclarationTree).
    record { part = found.0; declaration = x }) (declarations found.0.definition) s found.2 in
    let is : found.0 ≡ s.part = ap (λ (x : PartSignal). x.part) d.2 in
    let declaration : d.0 ≡ s.declaration = ap (λ (x : PartSignal). x.declaration) d.2 in (
      subst (Contains ps) is found.1,
      subst (λ (x : Part). Contains (declarations x.definition) s.declaration) is
          (subst (Contains (declarations found.0.definition)) declaration d.1),
    )

pub signals_differ : (ps : List Part) → AllDiffer (map path_of ps)
    → ((q : Part) → Contains ps q → DeclaredDiffer q)
    → AllDiffer (map signal_path (flat_map signals_of ps))
signals_differ [] h each = tt
signals_differ (p ∷ ps) h each =
    subst AllDiffer (sym (map-append signal_path (signals_of p) (flat_map signals_of ps)))
    (differ_append (map signal_path (signals_of p)) (map signal_path (flat_map signals_of ps))
    (part_signals_differ p (declarations p.definition) (each p (Contains-head p ps)))
    (signals_differ ps h.1 (λ q at. each q (Contains-later p ps q at)))
    (λ x a b.
    let left = Contains-from_map signal_path (signals_of p) x a in
    let mine = Contains-from_map (λ (d : DeclarationTree).
    record { part = p; declaration = d }) (declarations p.definition) left.0 left.1 in
    let right = Contains-from_map signal_path (flat_map signals_of ps) x b in
    let member = signal_in ps right.0 right.1 in
    let path : right.0.part.path ≡ p.path =
    (within_same right.0.part p right.0.declaration.name mine.0.name (right.2 ∙ sym left.2
    ∙ ap signal_path (sym mine.2))).0 in
    h.0 (subst (Contains (map path_of ps)) path (Contains-map path_of ps right.0.part member.0))))
