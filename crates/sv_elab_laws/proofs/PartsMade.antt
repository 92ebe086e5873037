-- Of a text that releases nothing the walk makes all processes.
use Rattle.std.proofs.Common.{◌≡◌, ℕ, zero, suc, List, [], ◌∷◌, ◌++◌, map, Option, Some, None, refl}
use Rattle.std.proofs.Common.{ap, subst, ◌∙◌}
use Rattle.std.specs.Prelude.{flat_map, Contains, option_map}
use Rattle.std.specs.Option.{option_map_or}
use Rattle.std.specs.Str.{bytes_eq}
use Rattle.sv_system.proofs.Lists.{Contains-head, Contains-later}
use Rattle.sv_ast.specs.Tree.{InstanceTree, ItemTree, parameter_item, declared, memory_item}
use Rattle.sv_ast.specs.Tree.{continuous, released, always_item, invariant_item, instance_item}
use Rattle.sv_ast.specs.Tree.{ModuleTree}
use Rattle.sv_ast.specs.Instances.{module_named, settings}
use Rattle.sv_ast.specs.Parts.{Part, part_with, within, child, links_to}
use Rattle.sv_ast.specs.Processes.{linking, item_processes, processes_from}
use Rattle.sv_elab_laws.specs.FlattenedTexts.{ReleasesNothing}
use Rattle.sv_elab_laws.proofs.PartsLists.{get_contains}
use Rattle.sv_elab_laws.proofs.PartsNamed.{found_place}
use Rattle.sv_elab_laws.specs.SideBySide.{item_made, made_from}

pub mapped_from : {X Y : Type 0} (f : X → Y) (o : Option X) (y : Y) → option_map f o ≡ Some y →
    (x : X) × (o ≡ Some x) × (f x ≡ y)
mapped_from f (Some x) y h = (x, refl, cc h)
mapped_from f None y h = absurd (cc h)

alike : {X Y : Type 0} (f g : X → List Y) (xs : List X)
    → ((x : X) → Contains xs x → f x ≡ g x)
    → flat_map f xs ≡ flat_map g xs
alike f g [] each = refl
alike f g (x ∷ xs) each =
    ap (λ ys. ys ++ flat_map f xs) (each x (Contains-head x xs))
    ∙ ap (λ ys. g x ++ ys) (alike f g xs (λ z at. each z (Contains-later x xs z at)))

module _ (modules : List ModuleTree) where
  pub named_listed : (n : List ℕ) (m : ModuleTree) → module_named modules n ≡ Some m →
      Contains modules m
  named_listed n m e =
      let place = found_place (λ (x : ModuleTree). bytes_eq n x.name) modules m e in
      get_contains modules place.0 m place.2

  pub child_listed : (p c : Part) (i : InstanceTree) → child modules p i ≡ Some c →
      Contains modules c.definition
  child_listed p c i e =
      let m = mapped_from (λ (m : ModuleTree).
      part_with (within p i.name) (settings p.scope m i.overrides) m)
      (module_named modules i.master) c e in
      subst (λ (q : Part). Contains modules q.definition) m.2 (named_listed i.master m.0 m.1)

  module _ (releases : (m : ModuleTree) → Contains modules m → (item : ItemTree)
      → Contains m.items item → ReleasesNothing item) where
    pub all_made : (levels : ℕ) (p : Part) → Contains modules p.definition →
        made_from levels modules p ≡ processes_from levels modules p
    unfolding made_from processes_from
    all_made zero p listed = refl
    all_made (suc levels) p listed =
        alike (item_made (made_from levels modules) modules p)
        (item_processes (processes_from levels modules) modules p) p.definition.items
        (λ item at. by_item item (releases p.definition listed item at)
        (λ c inside. all_made levels c inside))
      where
        Below : Type 0
        Below = (c : Part) → Contains modules c.definition →
            made_from levels modules c ≡ processes_from levels modules c

        by_child : (i : InstanceTree) → Below → (o : Option Part) → child modules p i ≡ o
            → option_map_or (λ q. map linking (links_to p q i) ++ made_from levels modules q) o []
            ≡ option_map_or (λ q. map linking (links_to p q i) ++ processes_from levels modules q)
            o []
        by_child i below None e = refl
        by_child i below (Some c) e =
            ap (λ qs. map linking (links_to p c i) ++ qs) (below c (child_listed p c i e))

        by_item : (item : ItemTree) → ReleasesNothing item → Below
            → item_made (made_from levels modules) modules p item
            ≡ item_processes (processes_from levels modules) modules p item
        by_item (released target e to) none below = absurd none
        by_item (instance_item i) none below = by_child i below (child modules p i) refl
        by_item (parameter_item x) none below = refl
        by_item (declared d) none below = refl
        by_item (memory_item m) none below = refl
        by_item (continuous targets place e) none below = refl
        by_item (always_item place clock s) none below = refl
        by_item (invariant_item place e) none below = refl
