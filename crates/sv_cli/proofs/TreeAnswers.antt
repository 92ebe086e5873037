-- From the tree of a text to what is answered for it.
use Rattle.std.proofs.Common.{◌≡◌, ℕ, ◌<◌, ◌≤◌, ◌^◌, Bool, false, List, [], ◌∷◌, length}
use Rattle.std.proofs.Common.{map, Option, Some, None, refl, sym, ◌∙◌, ap, subst, arith, inl, inr}
use Rattle.std.specs.Prelude.{◌||◌, IfSome, IfOk, IfErr, IsTrue, Result, Ok, Err}
use Rattle.std.specs.Prelude.{option_map}
use Rattle.std.specs.List.{list_any}
use Rattle.std.specs.Prelude.{Contains}
use Rattle.std.proofs.Common.{true, ⊎_elim}
use Rattle.std.proofs.lemmas.Bool.{false≢true}
use Rattle.std.proofs.lemmas.List.{length-map}
use Rattle.sv_system.proofs.Lists.{Contains-nil, Contains-cases}
use Rattle.sv_num.specs.declared.faults.Place.{Place}
use Rattle.sv_num.specs.declared.faults.Fault.{Fault}
use Rattle.sv_num.specs.declared.faults.Fault.TheVariants.{Rule, OutOfMemory}
use Rattle.sv_ast.specs.declared.modules.Text.{Text}
use Rattle.sv_ast.specs.declared.modules.LatticeText.{LatticeText}
use Rattle.sv_ast.specs.declared.modules.Module.{Module}
use Rattle.sv_ast.specs.declared.modules.Item.{Item}
use Rattle.sv_ast.specs.Tree.{ItemTree, parameter_item, declared, memory_item, continuous}
use Rattle.sv_ast.specs.Tree.{released, always_item, invariant_item, instance_item, TextTree}
use Rattle.sv_ast.specs.Tree.{ModuleTree as WholeModule}
use Rattle.sv_ast.specs.Shape.{is_shaped}
use Rattle.sv_ast.specs.Views.{item_tree, module_tree, pair_tree, lattice_tree, map_tree, text_tree}
use Rattle.sv_ast.specs.GrammarMeaning.{Means}
use Rattle.sv_parse_machine.proofs.ShapedTexts.{text_is_shaped}
use Rattle.sv_flat.specs.declared.designs.Flat.{Flat}
use Rattle.sv_flat.specs.Admission.{IsRefused, IsAdmitted}
use Rattle.sv_flat.specs.Design.{FlatDesign}
use Rattle.sv_flat.specs.Views.{design_of}
use Rattle.sv_rules.specs.Faults.{IsFaultOf}
use Rattle.sv_elab_rules.specs.Texts.{walk_of, value_in}
use Rattle.sv_width.specs.Answers.{IsBreach}
use Rattle.sv_elab_laws.specs.FlattenedTexts.{ReleasesNothing, EachItem}
use Rattle.sv_cli.specs.Texts.{largest_file, is_unbuilt_item, has_unbuilt_item, StandsFor}
use Rattle.sv_cli.specs.Texts.{BreaksFirst}
use Rattle.sv_cli.specs.Report.{IsFaultBy, BreaksAsTree, IsFlatOf}
use Rattle.sv_cli.proofs.FewPairs.{few_pairs, few_maps}

-- ---- forms that are not built

any_map : {X Y : Type 0} (p : Y → Bool) (f : X → Y) (xs : List X) →
    list_any (λ x. p (f x)) xs ≡ list_any p (map f xs)
any_map p f [] = refl
any_map p f (x ∷ xs) = ap (λ (b : Bool). p (f x) || b) (any_map p f xs)

same_any : {X : Type 0} (p q : X → Bool) → ((x : X) → p x ≡ q x) → (xs : List X) →
    list_any p xs ≡ list_any q xs
same_any p q same [] = refl
same_any p q same (x ∷ xs) =
    ap (λ (b : Bool). b || list_any p xs) (same x)
    ∙ ap (λ (b : Bool). q x || b) (same_any p q same xs)

pub unbuilt_is : (modules : List Module) →
    list_any (λ (m : Module). list_any (λ (i : Item). is_unbuilt_item (item_tree i)) m.items.items)
    modules
    ≡ list_any (λ (m : WholeModule). list_any is_unbuilt_item m.items) (map module_tree modules)
unbuilt_is modules =
    same_any (λ (m : Module). list_any (λ (i : Item). is_unbuilt_item (item_tree i)) m.items.items)
    (λ (m : Module). list_any is_unbuilt_item (map item_tree m.items.items))
    (λ m. any_map is_unbuilt_item item_tree m.items.items) modules
    ∙ any_map (λ (m : WholeModule). list_any is_unbuilt_item m.items) module_tree modules

-- what elaboration finds of a tree without them is its flat design
pub flat_found : (top : Option (List ℕ)) (tree : TextTree) (r : Result Flat Fault) →
    has_unbuilt_item tree ≡ false → IfOk r (λ f. (walk_of tree top).end ≡ Ok (design_of f)) →
    IfOk r (λ f. IsFlatOf top tree (design_of f))
flat_found top tree (Ok flat) built walked = (built, ap value_in walked)
flat_found top tree (Err e) built walked = tt

-- and what it refuses breaks a rule
pub flat_refused : (top : Option (List ℕ)) (tree : TextTree) (r : Result Flat Fault) →
    has_unbuilt_item tree ≡ false → IfErr r (IsBreach (walk_of tree top).end) →
    IfErr r (IsFaultBy (BreaksAsTree top tree))
flat_refused top tree (Ok flat) built breach = tt
flat_refused top tree (Err (Rule r)) built breach = inr (built, breach)
flat_refused top tree (Err OutOfMemory) built breach = tt

-- what no element of a list passes an element fails
none_passes : {X : Type 0} (p : X → Bool) (xs : List X) (x : X) → list_any p xs ≡ false →
    Contains xs x → p x ≡ false
none_passes p [] x none at = absurd (Contains-nil x at)
none_passes p (y ∷ xs) x none at = ⊎_elim
    (λ e. subst (λ z. p z ≡ false) e (left (p y) (list_any p xs) none))
    (λ later. none_passes p xs x (right (p y) (list_any p xs) none) later)
    (Contains-cases y xs x at)
  where
    left : (a b : Bool) → (a || b) ≡ false → a ≡ false
    left true b h = h
    left false b h = refl

    right : (a b : Bool) → (a || b) ≡ false → b ≡ false
    right true b h = absurd (false≢true (sym h))
    right false b h = h

-- a tree without them releases nothing
pub releases_nothing : (tree : TextTree) → has_unbuilt_item tree ≡ false →
    EachItem ReleasesNothing tree
releases_nothing tree built m among item inside =
    by_item item
    (none_passes is_unbuilt_item m.items item
    (none_passes (λ (m : WholeModule). list_any is_unbuilt_item m.items) tree.modules m built among)
    inside)
  where
    by_item : (item : ItemTree) → is_unbuilt_item item ≡ false → ReleasesNothing item
    by_item (released target e to) h = false≢true (sym h)
    by_item (parameter_item p) h = tt
    by_item (declared d) h = tt
    by_item (memory_item m) h = tt
    by_item (continuous targets place e) h = tt
    by_item (always_item place clock body) h = tt
    by_item (invariant_item place e) h = tt
    by_item (instance_item i) h = tt

-- ---- texts

pub shaped_text : (bytes : List ℕ) (text : Text) → Means bytes (text_tree text) →
    IsTrue (is_shaped (text_tree text))
shaped_text bytes text (tokens, are, mean) = text_is_shaped tokens text mean

-- a text within the limit has few pairs and few maps
pub few_pairs_of : (bytes : List ℕ) (text : Text) → length bytes ≤ largest_file →
    Means bytes (text_tree text) → IfSome text.lattice (λ l. length l.pairs.items < 2 ^ 32)
few_pairs_of bytes text within means =
    by_lattice text.lattice (few_pairs bytes (text_tree text) means)
  where
    by_lattice : (o : Option LatticeText)
        → IfSome (option_map lattice_tree o) (λ t. length t.pairs ≤ length bytes)
        → IfSome o (λ l. length l.pairs.items < 2 ^ 32)
    by_lattice None few = tt
    by_lattice (Some l) few =
        let same : length (map pair_tree l.pairs.items) ≡ length l.pairs.items =
        length-map l.pairs.items pair_tree in
        omega arith

pub few_maps_of : (bytes : List ℕ) (text : Text) → length bytes ≤ largest_file →
    Means bytes (text_tree text) → length text.maps.items < 2 ^ 32
few_maps_of bytes text within means =
    let few = few_maps bytes (text_tree text) means in
    let same : length (map map_tree text.maps.items) ≡ length text.maps.items =
    length-map text.maps.items map_tree in
    omega arith

module _ (top : Option (List ℕ)) (bytes : List ℕ) (text : Text)
    (means : Means bytes (text_tree text)) where
  -- what a tree stands for its text stands for
  pub found_tells : (r : Result Flat Fault)
      → IfOk r (λ f. IsFlatOf top (text_tree text) (design_of f))
      → IfOk r (λ f. StandsFor top bytes (design_of f))
  found_tells (Ok flat) found =
      record { tree = text_tree text; means = means; built = found.0; flat = found.1 }
  found_tells (Err e) found = tt

  -- and what it breaks its text breaks
  breaks : (number : ℕ) (place : Place) (names : List (List ℕ)) →
      BreaksAsTree top (text_tree text) number place names →
      BreaksFirst top bytes number place names
  breaks number place names (inl unbuilt) =
      inr (inl ((text_tree text, means, unbuilt.0), unbuilt.1))
  breaks number place names (inr walk) =
      inr (inr (inl (record {
        tree = text_tree text;
        means = means;
        built = walk.0;
        broken = walk.1;
      })))

  pub broken_tells : (r : Result Flat Fault)
      → IfErr r (IsFaultBy (BreaksAsTree top (text_tree text)))
      → IfErr r (IsFaultBy (BreaksFirst top bytes))
  broken_tells (Ok flat) broken = tt
  broken_tells (Err (Rule r)) broken = breaks r.number r.place r.names.items broken
  broken_tells (Err OutOfMemory) broken = tt

-- ---- admission

-- what admission refuses breaks a rule of admission
pub refused_by : (design : FlatDesign) (fault : Fault) → IsFaultOf design fault →
    IsFaultBy (IsRefused design) fault
refused_by design (Rule r) is = is
refused_by design OutOfMemory is = tt

module _ (top : Option (List ℕ)) (bytes : List ℕ) (flat : Flat)
    (stands : StandsFor top bytes (design_of flat)) where
  -- what a text stands for is what was admitted
  pub design_stands : (r : Result Flat Fault)
      → IfOk r (λ d. (d ≡ flat) × IsAdmitted (design_of flat))
      → IfOk r (λ d. StandsFor top bytes (design_of d))
  design_stands (Ok d) is =
      subst (λ (f : Flat). StandsFor top bytes (design_of f)) (sym is.0) stands
  design_stands (Err e) is = tt

  pub design_admitted : (r : Result Flat Fault)
      → IfOk r (λ d. (d ≡ flat) × IsAdmitted (design_of flat))
      → IfOk r (λ d. IsAdmitted (design_of d))
  design_admitted (Ok d) is = subst (λ (f : Flat). IsAdmitted (design_of f)) (sym is.0) is.1
  design_admitted (Err e) is = tt

  -- and what its design breaks the text breaks
  pub design_refused : (r : Result Flat Fault) → IfErr r (IsFaultBy (IsRefused (design_of flat))) →
      IfErr r (IsFaultBy (BreaksFirst top bytes))
  design_refused (Ok d) is = tt
  design_refused (Err (Rule r)) is =
      inr (inr (inr (record { design = design_of flat; stands = stands; refused = is })))
  design_refused (Err OutOfMemory) is = tt
