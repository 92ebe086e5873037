-- How the declaration of a signal ends, from what its range and its name are found to be.
use Rattle.std.proofs.Common.{◌≡◌, ℕ, Bool, List, [], ◌∷◌, ◌++◌, Option, None}
use Rattle.std.proofs.Common.{refl, sym, ap, subst, ◌∙◌}
use Rattle.std.specs.Prelude.{Result, Ok, Err, is_some, unwrap_or}
use Rattle.sv_num.specs.declared.faults.Fault.{Fault}
use Rattle.sv_num.specs.declared.faults.Fault.TheVariants.{Rule, OutOfMemory}
use Rattle.sv_ast.specs.Scopes.{Binding, Scope, signal}
use Rattle.sv_ast.specs.Tree.{DeclarationTree, ModuleTree}
use Rattle.sv_ast.specs.Instances.{entry, span_width}
use Rattle.sv_flat.specs.declared.signals.SigId.{SigId}
use Rattle.sv_elab_rules.specs.Walks.{WalkStep, Steps}
use Rattle.sv_elab_rules.specs.Names.{Names, is_bound, names_at}
use Rattle.sv_elab_rules.specs.Declarations.{Site, Declared, range_steps, declared_signal, signal_ahead}
use Rattle.sv_elab_rules.specs.Declarations.{signal_walk}
use Rattle.sv_width.specs.declared.meanings.Meaning.{Meaning}
use Rattle.sv_width.specs.declared.meanings.Meaning.TheVariants as meaning
use Rattle.sv_width.specs.Answers.{IsBreach, step_of}
use Rattle.sv_width.specs.Scopes.{Known, names_ahead, meaning_of, bindings_of, IsWithSignal, IsTwice}
use Rattle.sv_elab_decl.specs.Ranges.{IsRange}
use Rattle.sv_elab_decl.specs.declared.sites.Declared.{Declared as CodeDeclared}
use Rattle.sv_elab_decl.specs.Sites.{AreAnnounced, IsAhead, IsSoFar, bindings_in}
use Rattle.sv_elab_decl.specs.Steps.{BindsNone}
use Rattle.sv_elab_decl.proofs.NameLemmas.{bindings_more, bindings_same, bound_is, range_there}
use Rattle.sv_elab_decl.proofs.NameLemmas.{width_is}
use Rattle.sv_elab_decl.proofs.StepLemmas.{signal_range_stops, signal_twice, signal_found}
use Rattle.sv_elab_decl.proofs.StepLemmas.{signal_broken}

module _ (base least : ℕ) (site : Site) (old : Known) (announced : AreAnnounced site.master old)
    (t : DeclarationTree) where
  abbrev ends : Declared → Result Declared WalkStep
  ends so_far = (signal_ahead base least site so_far t).end

  range_end : (so_far : Declared) → so_far.bindings ≡ bindings_in old
      → (range_steps (names_at base site.master so_far.bindings) t.span).end
      ≡ (range_steps (names_ahead old) t.span).end
  range_end so_far same =
      sym (ap (λ (w : Steps). w.end)
      (range_there base site.master old so_far.bindings announced same t.span))

  pub range_stops : (f : Fault) → IsBreach (range_steps (names_ahead old) t.span).end f →
      BindsNone ends old old f
  range_stops (Rule r) h = (
    refl,
    λ so_far same. signal_range_stops base least site so_far t (step_of r)
        (range_end so_far same ∙ h),
  )
  range_stops OutOfMemory h = tt

  module _ (width : Option ℕ) (ranged : IsRange (names_ahead old) t.span width) where
    bound_there : (so_far : Declared) → so_far.bindings ≡ bindings_in old
        → is_bound (entry so_far.bindings t.name) ≡ is_some (meaning_of old t.name)
    bound_there so_far same =
        ap (λ (bs : List (List ℕ × Binding)). is_bound (entry bs t.name)) same
        ∙ bound_is old t.name

    pub name_stops : (name : List ℕ) (f : Fault) → name ≡ t.name → IsTwice old name t.place f →
        BindsNone ends old old f
    name_stops name (Rule r) is h =
        let there = subst (λ (n : List ℕ). IsTwice old n t.place (Rule r)) is h in (
          refl,
          λ so_far same. signal_twice base least site so_far t
              (range_end so_far same ∙ ranged.0) (bound_there so_far same ∙ there.1)
              ∙ ap (λ (s : WalkStep). Err s) (sym there.0),
        )
    name_stops name OutOfMemory is h = tt

    module _ (new : Known) (name : List ℕ) (is : name ≡ t.name) (id : SigId) (w : ℕ)
        (sized : w ≡ unwrap_or width 1) (with : IsWithSignal old new name id w t.signed)
        (free : meaning_of old name ≡ None) where
      abbrev made : Declared → Declared
      made so_far = record {
        bindings = bindings_in new;
        signals = so_far.signals ++ declared_signal site w least t ∷ [];
      }

      wide : (so_far : Declared) → so_far.bindings ≡ bindings_in old
          → span_width (entry so_far.bindings) t.span ≡ w
      wide so_far same =
          ap (λ (s : Scope). span_width s t.span) (ap entry same ∙ bindings_same old)
          ∙ sym (sized ∙ width_is (bindings_of old) t.span width ranged.1)

      names_now : (so_far : Declared) → so_far.bindings ≡ bindings_in old
          → so_far.bindings
          ++ (t.name, signal (span_width (entry so_far.bindings) t.span) t.signed) ∷ []
          ≡ bindings_in new
      names_now so_far same =
          ap (λ (bs : List (List ℕ × Binding)). bs ++ (
            t.name,
            signal (span_width (entry so_far.bindings) t.span) t.signed,
          ) ∷ []) same
          ∙ ap (λ (k : ℕ). bindings_in old ++ (t.name, signal k t.signed) ∷ [])
          (wide so_far same ∙ sym with.2)
          ∙ ap (λ (s : Bool). bindings_in old ++ (t.name, signal with.0.width s) ∷ []) (sym with.3)
          ∙ ap (λ (n : List ℕ). bindings_in old ++ (n, signal with.0.width with.0.signed) ∷ [])
          (sym is)
          ∙ sym (bindings_more old name (meaning.Signal with.0))
          ∙ ap bindings_in (sym with.4)

      pub signal_made_so : (so_far : Declared) → so_far.bindings ≡ bindings_in old
          → ends so_far ≡ Ok (made so_far)
      signal_made_so so_far same =
          signal_found base least site so_far t (range_end so_far same ∙ ranged.0)
          (bound_there so_far same
          ∙ ap (λ (n : List ℕ). is_some (meaning_of old n)) (sym is)
          ∙ ap (λ (r : Option Meaning). is_some r) free)
          ∙ ap (λ (bs : List (List ℕ × Binding)). Ok (record {
            bindings = bs;
            signals = so_far.signals
                ++ declared_signal site (span_width (entry so_far.bindings) t.span) least t ∷ [];
          })) (names_now so_far same)
          ∙ ap (λ (k : ℕ). Ok (record {
            bindings = bindings_in new;
            signals = so_far.signals ++ declared_signal site k least t ∷ [];
          })) (wide so_far same)

-- the names and numbers of the walk are its names
pub is_ahead : (base : ℕ) (m : ModuleTree) (d : CodeDeclared) → IsSoFar base m d → IsAhead base m d
is_ahead base m d so_far = record {
  announced = λ n. ap (λ (names : Names). names.later n) so_far.names;
  few = so_far.few;
}

-- where a rule is broken ahead of the limit, it is broken
pub none_broken : (base least : ℕ) (site : Site) (t : DeclarationTree) (d : Declared)
    (old new : Known) (f : Fault)
    → d.bindings ≡ bindings_in old
    → BindsNone (λ so_far. (signal_ahead base least site so_far t).end) old new f
    → IsBreach (signal_walk base least site d t).end f
none_broken base least site t d old new (Rule r) same h =
    signal_broken base least site d t (step_of r) (h.1 d same)
none_broken base least site t d old new OutOfMemory same h = tt
