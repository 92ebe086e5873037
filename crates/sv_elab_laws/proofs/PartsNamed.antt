-- The names of an instance as the walk has them: each declared signal has the number of its place
-- among all signals of the text.
use Rattle.std.proofs.Common.{◌≡◌, ℕ, ◌+◌, ◌^◌, ◌<◌, Bool, true, false, cond, List}
use Rattle.std.proofs.Common.{[], ◌∷◌, ◌++◌, map, length, Option, Some, None, refl, sym, ap, subst}
use Rattle.std.proofs.Common.{◌∙◌, arith, ◌⊎◌, inl, inr, ⊎_elim}
use Rattle.std.specs.Prelude.{not, filter, find, position, unwrap_or, Contains, Ok}
use Rattle.std.specs.Prelude.{IsTrue}
use Rattle.std.specs.List.{slice_get, filter_map, cons_option, position_or_len}
use Rattle.std.specs.Str.{bytes_eq}
use Rattle.std.proofs.lemmas.Bool.{cases_Bool, not-true, lt-ltb}
use Rattle.std.proofs.lemmas.List.Folds.{find_at}
use Rattle.std.proofs.lemmas.Option.{slice_get_within}
use Rattle.sv_system.proofs.Lists.{Contains-head, Contains-later, Contains-cases, Contains-nil}
use Rattle.sv_system.proofs.Lists.{Contains-map}
use Rattle.sv_ast.specs.Scopes.{Number, Binding, parameter, signal}
use Rattle.sv_ast.specs.Tree.{DeclarationTree, ParameterTree, ItemTree}
use Rattle.sv_ast.specs.Tree.{parameter_item, declared, ModuleTree}
use Rattle.sv_ast.specs.Shape.{are_header_parameters}
use Rattle.sv_ast.specs.Values.{constant_of}
use Rattle.sv_ast.specs.Instances.{entry, is_empty, is_signal, parameter_of}
use Rattle.sv_ast.specs.Instances.{open_parameters, all_items, port_named}
use Rattle.sv_ast.specs.Parts.{Part, part_with, PartSignal, declaration_of, declarations}
use Rattle.sv_ast.specs.Parts.{signals_of}
use Rattle.sv_elab_rules.specs.Names.{Names, names_of}
use Rattle.sv_elab_rules.specs.Declarations.{Site, Declared, override_of, nothing_declared}
use Rattle.sv_elab_rules.specs.Declarations.{declarations_walk}
use Rattle.sv_elab_rules.specs.Links.{port_number}
use Rattle.sv_elab_rules.specs.InstanceSteps.{ports_of}
use Rattle.sv_elab_rules.proofs.WalkLemmas.{parts_done}
use Rattle.sv_elab_rules.proofs.DeclarationLemmas.{declared_in_two, until_done}
use Rattle.sv_width.specs.Agreement.{AllDeclared, IsLength}
use Rattle.sv_flat.proofs.Depths.{from_all}
use Rattle.sv_elab_laws.proofs.PartsLists.{StandsAt, filter_map_append}
use Rattle.sv_flat.proofs.Members.{Contains-left as contains_left, Contains-right as contains_right}
use Rattle.sv_elab_laws.proofs.PartsBindings.{same_name, last_entry}
use Rattle.sv_elab_laws.proofs.PartsDeclared.{Declares, walked, known, only_declared, still_bound}
use Rattle.sv_elab_laws.proofs.PartsDeclared.{still_numbered, source_bindings, SetIsOpen, KnownAt}
use Rattle.sv_elab_laws.proofs.PartsDeclared.{value_after, with_parameter, with_signal, width_after}
use Rattle.sv_elab_laws.proofs.PartsOverrides.{AllOpen}
use Rattle.sv_elab_laws.proofs.ValuesLow.{constant_fits, in_range_fits}

-- ---- what a module's items declare

module _ {X Y : Type 0} (f : X → Option Y) where
  from_cons : (o : Option Y) (ys : List Y) (y : Y) → Contains (cons_option o ys) y →
      (o ≡ Some y) ⊎ Contains ys y
  from_cons (Some z) ys y at =
      ⊎_elim (λ e. inl (ap Some e)) (λ inside. inr inside) (Contains-cases z ys y at)
  from_cons None ys y at = inr at

  pub from_filter_map : (xs : List X) (y : Y) → Contains (filter_map f xs) y →
      (x : X) × Contains xs x × (f x ≡ Some y)
  from_filter_map [] y at = absurd (Contains-nil y at)
  from_filter_map (x ∷ xs) y at = ⊎_elim
      (λ here. (x, Contains-head x xs, here))
      (λ later. let found = from_filter_map xs y later in
      (found.0, Contains-later x xs found.0 found.1, found.2))
      (from_cons (f x) (filter_map f xs) y at)

  to_cons : (o : Option Y) (ys : List Y) (y : Y) → o ≡ Some y → Contains (cons_option o ys) y
  to_cons (Some z) ys y e = subst (Contains (z ∷ ys)) (let s : z ≡ y = cc in s) (Contains-head z ys)
  to_cons None ys y e = absurd (cc e)

  still_in : (o : Option Y) (ys : List Y) (y : Y) → Contains ys y → Contains (cons_option o ys) y
  still_in (Some z) ys y at = Contains-later z ys y at
  still_in None ys y at = at

  pub to_filter_map : (xs : List X) (x : X) (y : Y) → Contains xs x → f x ≡ Some y →
      Contains (filter_map f xs) y
  to_filter_map [] x y at e = absurd (Contains-nil x at)
  to_filter_map (z ∷ xs) x y at e = ⊎_elim
      (λ is. to_cons (f z) (filter_map f xs) y (ap f is ∙ e))
      (λ inside. still_in (f z) (filter_map f xs) y (to_filter_map xs x y inside e))
      (Contains-cases z xs x at)

no_declarations : (ps : List ParameterTree) → filter_map declaration_of (map parameter_item ps) ≡ []
no_declarations [] = refl
no_declarations (p ∷ ps) = no_declarations ps

all_declarations : (ds : List DeclarationTree) → filter_map declaration_of (map declared ds) ≡ ds
all_declarations [] = refl
all_declarations (d ∷ ds) = ap (λ es. d ∷ es) (all_declarations ds)

-- the items of a module's header
abbrev pub header_items : ModuleTree → List ItemTree
header_items m = map parameter_item m.parameters ++ map declared m.ports

header_declarations : (m : ModuleTree) → filter_map declaration_of (header_items m) ≡ m.ports
header_declarations m =
    filter_map_append declaration_of (map parameter_item m.parameters) (map declared m.ports)
    ∙ ap (λ ds. ds ++ filter_map declaration_of (map declared m.ports))
    (no_declarations m.parameters)
    ∙ all_declarations m.ports

pub item_declarations : (m : ModuleTree) → filter_map declaration_of (all_items m) ≡ declarations m
item_declarations m =
    filter_map_append declaration_of (header_items m) m.items
    ∙ ap (λ ds. ds ++ filter_map declaration_of m.items) (header_declarations m)

parameter_is : (item : ItemTree) (q : ParameterTree) → parameter_of item ≡ Some q →
    item ≡ parameter_item q
parameter_is (parameter_item p) q e = ap parameter_item (let s : p ≡ q = cc in s)
parameter_is _ q e = absurd (cc e)

-- a parameter that may be set is an item, and not local
pub open_listed : (m : ModuleTree) → IsTrue (are_header_parameters m.parameters)
    → (q : ParameterTree) → Contains (open_parameters m) q
    → Contains (all_items m) (parameter_item q) × (q.local ≡ false)
open_listed m header q = by_header (is_empty m.parameters)
  where
    by_header : (b : Bool)
        → Contains (cond b (filter (λ (p : ParameterTree).
        not p.local) (filter_map parameter_of m.items)) m.parameters) q
        → Contains (all_items m) (parameter_item q) × (q.local ≡ false)
    by_header true at =
        let kept = Rattle.sv_flat.proofs.LeastSets.Contains-from_filter (λ (p : ParameterTree).
        not p.local) (filter_map parameter_of m.items) q at in
        let found = from_filter_map parameter_of m.items q kept.1 in (
          contains_right (header_items m) m.items (parameter_item q)
              (subst (Contains m.items) (parameter_is found.0 q found.2) found.1),
          not-true q.local kept.0,
        )
    by_header false at = (
      contains_left (header_items m) m.items (parameter_item q)
          (contains_left (map parameter_item m.parameters) (map declared m.ports) (parameter_item q)
          (Contains-map parameter_item m.parameters q at)),
      not-true q.local (from_all (λ (p : ParameterTree). not p.local) m.parameters q header at),
    )

-- ---- what each declaration keeps

module _ (base least : ℕ) (site : Site) (P : List (List ℕ × Binding) → Type 0)
    (by_parameter : (a : Declared) (p : ParameterTree) → P a.bindings
    → P (with_parameter base least site a p).bindings)
    (by_signal : (a : Declared) (d : DeclarationTree) → IsLength (width_after base least site a d)
    → P a.bindings → P (with_signal base least site a d).bindings) where
  kept_by : (items : List ItemTree) (a w : Declared) → Declares base least site a w items
      → P a.bindings → P w.bindings
  kept_by [] a w h so_far = subst (λ (x : Declared). P x.bindings) h so_far
  kept_by (parameter_item p ∷ items) a w h so_far =
      kept_by items (with_parameter base least site a p) w h.1 (by_parameter a p so_far)
  kept_by (declared d ∷ items) a w h so_far =
      kept_by items (with_signal base least site a d) w h.2 (by_signal a d h.1 so_far)
  kept_by (item ∷ items) a w h so_far = kept_by items a w h so_far

-- ---- parameters fit

abbrev pub NumberFits : Number → Type 0
NumberFits v = v.value < 2 ^ v.width

abbrev pub SetFits : List (List ℕ × Number) → Type 0
SetFits set = (n : List ℕ) (v : Number) → entry set n ≡ Some v → NumberFits v

abbrev pub ParametersFit : List (List ℕ × Binding) → Type 0
ParametersFit bs = (n : List ℕ) (v : Number) → entry bs n ≡ Some (parameter v) → NumberFits v

module _ (base least : ℕ) (site : Site) (set_fits : SetFits site.set) where
  override_fits : (bs : List (List ℕ × Binding)) (p : ParameterTree) → (b : Bool)
      → (o : Option Number) → entry site.set p.name ≡ o
      → NumberFits (unwrap_or (cond b None o) (constant_of (entry bs) p.value))
  override_fits bs p true o e = constant_fits (entry bs) p.value
  override_fits bs p false None e = constant_fits (entry bs) p.value
  override_fits bs p false (Some v) e = set_fits p.name v e

  value_fits : (bs : List (List ℕ × Binding)) (p : ParameterTree) →
      NumberFits (value_after base least site bs p)
  value_fits bs p =
      in_range_fits (entry bs) p.signed p.span
      (unwrap_or (override_of site bs p) (constant_of (entry bs) p.value))
      (override_fits bs p _ (entry site.set p.name) refl)

  pub parameters_fit : (items : List ItemTree) (a w : Declared) → Declares base least site a w items
      → ParametersFit a.bindings
      → ParametersFit w.bindings
  parameters_fit =
      kept_by base least site ParametersFit
      (λ a p fits n v e. ⊎_elim
      (λ old. fits n v old)
      (λ new. subst NumberFits (let s : value_after base least site a.bindings p ≡
      v = let q = new.1 in cc in s) (value_fits a.bindings p))
      (last_entry a.bindings p.name (parameter (value_after base least site a.bindings p)) n
      (parameter v) e))
      (λ a d fit fits n v e. ⊎_elim
      (λ old. fits n v old)
      (λ new. absurd (let q : signal (width_after base least site a d) d.signed ≡
      parameter v = new.1 in cc q))
      (last_entry a.bindings d.name (signal (width_after base least site a d) d.signed) n
      (parameter v) e))

-- ---- lengths

abbrev pub LengthsFit : List (List ℕ × Binding) → Type 0
LengthsFit bs =
    (n : List ℕ) (width : ℕ) (signed : Bool) → entry bs n ≡ Some (signal width signed) →
    IsLength width

module _ (base least : ℕ) (site : Site) where
  pub lengths_fit : (items : List ItemTree) (a w : Declared) → Declares base least site a w items
      → LengthsFit a.bindings
      → LengthsFit w.bindings
  lengths_fit =
      kept_by base least site LengthsFit
      (λ a p fits n width signed e. ⊎_elim
      (λ old. fits n width signed old)
      (λ new. absurd (let q : parameter (value_after base least site a.bindings p) ≡
      signal width signed = new.1 in cc q))
      (last_entry a.bindings p.name (parameter (value_after base least site a.bindings p)) n
      (signal width signed) e))
      (λ a d fit fits n width signed e. ⊎_elim
      (λ old. fits n width signed old)
      (λ new. subst IsLength (let s : width_after base least site a d ≡ width = let q = new.1 in
      cc in s) fit)
      (last_entry a.bindings d.name (signal (width_after base least site a d) d.signed) n
      (signal width signed) e))

-- ---- names and places

module _ (sources : List PartSignal) (everything : List Part) where
  -- the names of an instance, whose signals stand among those of the text from the place `base` on
  pub record IsNamed (p : Part) (names : Names) : Type 0 where
    pub base : ℕ
    pub placed : StandsAt sources base (signals_of p)
    pub member : Contains everything p
    pub scope : names.scope ≡ p.scope
    pub declared : AllDeclared names
    pub known : (j : ℕ) (d : DeclarationTree) → slice_get (declarations p.definition) j ≡ Some d
        → IsTrue (is_signal (names.scope d.name)) × (names.number d.name ≡ base + j)
    pub signs : (j : ℕ) (d : DeclarationTree) → slice_get (declarations p.definition) j ≡ Some d
        → (width : ℕ) × (names.scope d.name ≡ Some (signal width d.signed))
    pub only : (n : List ℕ) (width : ℕ) (signed : Bool) → names.scope n ≡ Some (signal width signed)
        → (j : ℕ) × (d : DeclarationTree) × (slice_get (declarations p.definition) j ≡ Some d)
        × (d.name ≡ n)
    pub widths : (n : List ℕ) (width : ℕ) (signed : Bool) →
        names.scope n ≡ Some (signal width signed) → IsLength width
    pub parameters : (n : List ℕ) (v : Number) → names.scope n ≡ Some (parameter v) → NumberFits v

abbrev pub part_of : Site → Part
part_of site = part_with site.path site.set site.master

-- what is said of a site before it is walked
pub record IsSound (site : Site) : Type 0 where
  pub header : IsTrue (are_header_parameters site.master.parameters)
  pub open_set : AllOpen (open_parameters site.master) site.set
  pub fits : SetFits site.set

module _ (base least : ℕ) (site : Site) (w : Declared) (is : IsSound site)
    (declares : Declares base least site nothing_declared w (all_items site.master)) where
  start_open : SetIsOpen base least site nothing_declared (all_items site.master)
  start_open n v e =
      let q = is.open_set n v e in
      let listed = open_listed site.master is.header q.0 q.1 in
      inr (q.0, listed.0, listed.1, q.2)

  pub same_scope : entry w.bindings ≡ (part_of site).scope
  same_scope =
      ap entry (source_bindings base least site (all_items site.master) nothing_declared w declares
      start_open)

  pub known_signal : (j : ℕ) (d : DeclarationTree) →
      slice_get (declarations site.master) j ≡ Some d → KnownAt base least site w (0 + j) d
  known_signal j d at =
      known base least site (all_items site.master) nothing_declared w declares 0 refl j d
      (ap (λ ds. slice_get ds j) (item_declarations site.master) ∙ at)

  nothing_bound : (n : List ℕ) (b : Binding) → entry nothing_declared.bindings n ≡ Some b → ⊥
  nothing_bound n b e = cc e

  pub site_named : (sources : List PartSignal) (everything : List Part)
      → StandsAt sources base (signals_of (part_of site))
      → Contains everything (part_of site)
      → IsNamed sources everything (part_of site) (names_of base w.bindings)
  site_named sources everything placed member = record {
    base = base;
    placed = placed;
    member = member;
    scope = same_scope;
    declared = λ n. refl;
    known = λ j d at. let k = known_signal j d at in (
      subst (λ b. IsTrue (is_signal b)) (sym k.stands) refl,
      k.number ∙ (let e : base + (0 + j) ≡ base + j = omega arith in e),
    );
    signs = λ j d at. let k = known_signal j d at in (k.width, k.stands);
    only = λ n width signed e. ⊎_elim
        (λ old. absurd (nothing_bound n (signal width signed) old))
        (λ found. (
          found.0,
          found.1,
          sym (ap (λ ds. slice_get ds found.0) (item_declarations site.master))
              ∙ found.2,
          found.3,
        ))
        (only_declared base least site (all_items site.master) nothing_declared w declares n width
        signed e);
    widths = lengths_fit base least site (all_items site.master) nothing_declared w declares
        (λ n width signed e. absurd (nothing_bound n (signal width signed) e));
    parameters =
        parameters_fit base least site is.fits (all_items site.master) nothing_declared w declares
        (λ n v e. absurd (nothing_bound n (parameter v) e));
  }

-- ---- ports ahead of the declarations

module _ {X : Type 0} where
  pub found_place : (test : X → Bool) (xs : List X) (x : X) → find test xs ≡ Some x
      → (j : ℕ) × (position test xs ≡ Some j) × (slice_get xs j ≡ Some x)
  found_place test xs x e =
      let j = position_or_len test xs in
      let at : slice_get xs j ≡ Some x = sym (find_at test xs) ∙ e in
      (j, ap (λ b. cond b (Some j) None) (lt-ltb j (length xs) (slice_get_within xs j x at)), at)

  pub find_passes : (test : X → Bool) (xs : List X) (x : X) → find test xs ≡ Some x → test x ≡ true
  find_passes test [] x e = absurd (cc e)
  find_passes test (y ∷ xs) x e = ⊎_elim
      (λ yes'. ap test (let s : x ≡ y = let f : Some y ≡
      Some x = sym (ap (λ b. cond b (Some y) (find test xs)) yes') ∙ e in cc in s) ∙ yes')
      (λ no'. find_passes test xs x (sym (ap (λ b. cond b (Some y) (find test xs)) no') ∙ e))
      (cases_Bool (test y))

-- the number and scope of a port are known before its instance is walked
pub port_ahead : (base least : ℕ) (site : Site) (w : Declared)
    → (declarations_walk base least site nothing_declared (all_items site.master)).end ≡ Ok w
    → (n : List ℕ) (d : DeclarationTree) → port_named site.master n ≡ Some d
    → (port_number (ports_of least site base) d.name ≡ (names_of base w.bindings).number d.name)
    × ((ports_of least site base).scope d.name ≡ entry w.bindings d.name)
unfolding ports_of
port_ahead base least site w h n d e =
    let m = site.master in
    let both = parts_done (declarations_walk base least site nothing_declared (header_items m))
    (λ next. declarations_walk base least site next m.items) w
    (sym (declared_in_two base least site (header_items m) m.items nothing_declared) ∙ h) in
    let mid = both.0 in
    let first = walked base least site (header_items m) nothing_declared mid both.1 in
    let later = walked base least site m.items mid w both.2 in
    let name : n ≡ d.name =
    same_name n d.name (find_passes (λ (x : DeclarationTree). bytes_eq n x.name) m.ports d e) in
    let place = found_place (λ (x : DeclarationTree). bytes_eq d.name x.name) m.ports d
    (subst (λ z. find (λ (x : DeclarationTree). bytes_eq z x.name) m.ports ≡ Some d) name e) in
    let j = place.0 in
    let k = known base least site (header_items m) nothing_declared mid first 0 refl j d
    (ap (λ ds. slice_get ds j) (header_declarations m) ∙ place.2) in (
      ap (λ o. base + unwrap_or o 0) place.1
          ∙ (let q : base + j ≡ base + (0 + j) = omega arith in q)
          ∙ sym k.number
          ∙ sym (still_numbered base least site m.items mid w later d.name k.width d.signed
          k.stands),
      ap (λ (x : Declared).
          entry x.bindings d.name)
          (until_done base least site (header_items m) nothing_declared mid both.1)
          ∙ k.stands
          ∙ sym (still_bound base least site m.items mid w later d.name (signal k.width d.signed)
          k.stands),
    )
