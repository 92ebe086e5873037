-- Where the walk of a text ends.
use Rattle.std.proofs.Common.{◌≡◌, ℕ, List, [], Option, refl, sym, ◌∙◌}
use Rattle.std.specs.Prelude.{Ok, Err}
use Rattle.sv_lattice.specs.Maps.{MapRows}
use Rattle.sv_ast.specs.Tree.{ModuleTree, TextTree}
use Rattle.sv_ast.specs.Instances.{top_module}
use Rattle.sv_elab_rules.specs.Walks.{WalkStep, Walk, done, found, ◌>>=◌}
use Rattle.sv_elab_rules.specs.Rules.{no_top}
use Rattle.sv_elab_rules.specs.Lattices.{PointOrder, lattice_walk}
use Rattle.sv_elab_rules.specs.LabelMaps.{maps_walk}
use Rattle.sv_elab_rules.specs.InstanceSteps.{Built}
use Rattle.sv_elab_rules.specs.Texts.{module_names, top_walk, tables_of, design_of, walk_of}
use Rattle.sv_elab_rules.proofs.WalkLemmas.{end_after, end_broken, joined_ends}
use Rattle.sv_elab.specs.Texts.{modules_walk}
use Rattle.sv_elab.proofs.InstanceEnds.{same_after}

-- three walks taken together
three_joined : {A B C D : Type 0} (w : Walk A) (v : Walk B) (g : B → Walk C) (more : C → Walk D)
    → (w >>= λ _. v >>= λ b. g b >>= more).end ≡ ((w >>= λ _. v >>= g) >>= more).end
three_joined w v g more =
    same_after w (λ _. v >>= λ b. g b >>= more) (λ _. (v >>= g) >>= more)
    (λ _. sym (joined_ends v g more))
    ∙ sym (joined_ends w (λ _. v >>= g) more)

module _ (text : TextTree) (top : Option (List ℕ)) where
  pub lattice_broken : (s : WalkStep) → (lattice_walk text.lattice).end ≡ Err s →
      (walk_of text top).end ≡ Err s
  unfolding walk_of
  lattice_broken s h = rw h refl

  module _ (order : PointOrder) (ordered : (lattice_walk text.lattice).end ≡ Ok order) where
    pub maps_broken : (s : WalkStep) → (maps_walk order.points [] text.maps).end ≡ Err s →
        (walk_of text top).end ≡ Err s
    unfolding walk_of
    maps_broken s h = rw (ordered, h) refl

    module _ (maps : List (List ℕ × MapRows)) (mapped : (maps_walk order.points [] text.maps).end ≡
        Ok maps) where
      rest : (walk_of text top).end
          ≡ (modules_walk text top order maps >>= λ built.
          done (design_of order (tables_of text.modules order maps) built)).end
      unfolding walk_of
      rest =
          end_after (lattice_walk text.lattice) _ order ordered
          ∙ end_after (maps_walk order.points [] text.maps) _ maps mapped
          ∙ three_joined (module_names [] text.modules) (found (top_module text.modules top) no_top)
          (top_walk (tables_of text.modules order maps))
          (λ built. done (design_of order (tables_of text.modules order maps) built))

      pub built_broken : (s : WalkStep) → (modules_walk text top order maps).end ≡ Err s
          → (walk_of text top).end ≡ Err s
      built_broken s h = rest ∙ end_broken (modules_walk text top order maps) _ s h

      pub text_end : (built : Built) → (modules_walk text top order maps).end ≡ Ok built
          → (walk_of text top).end ≡
          Ok (design_of order (tables_of text.modules order maps) built)
      text_end built h = rest ∙ end_after (modules_walk text top order maps) _ built h

  module _ (order : PointOrder) (maps : List (List ℕ × MapRows)) where
    pub names_broken : (s : WalkStep) → (module_names [] text.modules).end ≡ Err s →
        (modules_walk text top order maps).end ≡ Err s
    names_broken s h = rw h refl

    module _ (named : (module_names [] text.modules).end ≡ Ok tt) where
      pub top_broken : (s : WalkStep) → (found (top_module text.modules top) no_top).end ≡ Err s →
          (modules_walk text top order maps).end ≡ Err s
      top_broken s h = rw (named, h) refl

      pub modules_end : (m : ModuleTree) → (found (top_module text.modules top) no_top).end ≡ Ok m
          → (modules_walk text top order maps).end
          ≡ (top_walk (tables_of text.modules order maps) m).end
      modules_end m h = rw (named, h) refl
