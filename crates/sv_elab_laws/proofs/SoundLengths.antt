-- What an instance's names stand for has 1 to 64 bits, and so has what it sets.
use Rattle.std.proofs.Common.{◌≡◌, ℕ, Bool, true, false, cond, List, [], ◌∷◌, ◌++◌}
use Rattle.std.proofs.Common.{Option, Some, None, refl, subst, ⊎_elim}
use Rattle.std.specs.Prelude.{not, ◌||◌, Contains, Ok}
use Rattle.sv_system.proofs.Lists.{Contains-head, Contains-later}
use Rattle.sv_ast.specs.Scopes.{Scope, Number, Binding, parameter, signal, width_of}
use Rattle.sv_ast.specs.Tree.{ExpressionTree, SpanTree, DeclarationTree, ParameterTree}
use Rattle.sv_ast.specs.Tree.{NamedOverride, OverrideTrees, named_overrides, ordered_overrides}
use Rattle.sv_ast.specs.Tree.{ItemTree, parameter_item, declared, ModuleTree}
use Rattle.sv_ast.specs.Shape.{is_shaped_expression, is_shaped_override, are_shaped_overrides}
use Rattle.sv_ast.specs.Instances.{entry, span_width, in_range, open_parameters}
use Rattle.sv_flat.proofs.Depths.{from_all}
use Rattle.sv_elab_rules.specs.Walks.{ask}
use Rattle.sv_elab_rules.specs.Rules.{twice}
use Rattle.sv_elab_rules.specs.Names.{Names, is_bound, names_at}
use Rattle.sv_elab_rules.specs.ExpressionSteps.{asked, constant_walk}
use Rattle.sv_elab_rules.specs.Declarations.{Site, Declared, range_steps, override_of, final_walk}
use Rattle.sv_elab_rules.specs.Declarations.{parameter_walk, signal_ahead, signal_walk}
use Rattle.sv_elab_rules.specs.Declarations.{declaration_walk, declarations_walk}
use Rattle.sv_elab_rules.specs.Overrides.{named_walk, ordered_walk, overrides_walk}
use Rattle.sv_elab_rules.proofs.WalkLemmas.{parts_done}
use Rattle.sv_elab_rules.proofs.DeclarationLemmas.{signal_within}
use Rattle.sv_width.specs.Agreement.{HaveLengths, IsLength}
use Rattle.sv_width.proofs.Sound.{passed_sound}
use Rattle.sv_width.proofs.Lengths.{own_length}
use Rattle.sv_width.specs.WrittenLengths.{OverridesHaveLengths}
use Rattle.sv_elab_laws.proofs.PartsBindings.{last_entry, one_more_holds}
use Rattle.sv_elab_laws.proofs.PartsDeclared.{same_ok, constant_done, range_length}
use Rattle.sv_elab_laws.proofs.PartsDeclared.{parameter_walked}
use Rattle.sv_elab_laws.proofs.PartsOverrides.{named_step}
use Rattle.sv_elab_laws.proofs.SoundSources.{IsMeasured}

abbrev pub NumberIsLong : Number → Type 0
NumberIsLong v = IsLength v.width

abbrev pub SetHasLengths : List (List ℕ × Number) → Type 0
SetHasLengths set = (n : List ℕ) (v : Number) → entry set n ≡ Some v → NumberIsLong v

-- a constant has a length
constant_long : (names : Names) → HaveLengths names.scope → (e : ExpressionTree) → IsMeasured e
    → (n : Number)
    → (constant_walk names e).end ≡ Ok n → NumberIsLong n
unfolding constant_walk
constant_long names lengths e is n h =
    let first = parts_done (asked names true e) _ n h in
    subst NumberIsLong (constant_done names e n h)
    (own_length names lengths true (λ no'. absurd (cc no')) e (passed_sound names true e first.1)
    is.1 is.0)

final_long : (names : Names) → HaveLengths names.scope → (e : ExpressionTree) → IsMeasured e
    → (o : Option Number) (n : Number)
    → ((v : Number) → o ≡ Some v → NumberIsLong v) → (final_walk names o e).end ≡ Ok n
    → NumberIsLong n
unfolding final_walk
final_long names lengths e is (Some v) n set h = subst NumberIsLong (same_ok v n h) (set v refl)
final_long names lengths e is None n set h = constant_long names lengths e is n h

range_long : (scope : Scope) (signed : Bool) (span : Option SpanTree) (n : Number)
    → IsLength (span_width scope span) → NumberIsLong n
    → NumberIsLong (in_range scope signed span n)
range_long scope signed None n width long = long
range_long scope signed (Some span) n width long = width

one_more_long : (bs : List (List ℕ × Binding)) (m : List ℕ) (b : Binding) → HaveLengths (entry bs)
    → IsLength (width_of (Some b))
    → HaveLengths (entry (bs ++ (m, b) ∷ []))
one_more_long bs m b lengths here n c e = ⊎_elim
    (λ old. lengths n c old)
    (λ new. subst (λ x. IsLength (width_of (Some x))) new.1 here)
    (last_entry bs m b n c e)

-- ---- declarations

-- the values of the parameters of some items
abbrev pub AreMeasured : List ItemTree → Type 0
AreMeasured items = (p : ParameterTree) → Contains items (parameter_item p) → IsMeasured p.value

module _ (base least : ℕ) (site : Site) (set_long : SetHasLengths site.set) where
  override_long : (bs : List (List ℕ × Binding)) (p : ParameterTree) (v : Number) →
      override_of site bs p ≡ Some v → NumberIsLong v
  override_long bs p v = by_test (p.local || is_bound (entry bs p.name))
    where
      by_test : (b : Bool) → cond b None (entry site.set p.name) ≡ Some v → NumberIsLong v
      by_test true e = absurd (cc e)
      by_test false e = set_long p.name v e

  parameter_long : (a : Declared) (p : ParameterTree) (next : Declared)
      → (parameter_walk base site a p).end ≡ Ok next
      → IsMeasured p.value → HaveLengths (entry a.bindings) → HaveLengths (entry next.bindings)
  parameter_long a p next h is lengths =
      let names = names_at base site.master a.bindings in
      let w = parameter_walked base least site a p next h in
      subst (λ (x : Declared). HaveLengths (entry x.bindings)) w.is
      (one_more_long a.bindings p.name
      (parameter (in_range names.scope p.signed p.span w.value)) lengths
      (range_long names.scope p.signed p.span w.value (range_length names p.span tt w.ranged)
      (final_long names lengths p.value is (override_of site a.bindings p) w.value
      (override_long a.bindings p) w.value_done)))

  signal_long : (a : Declared) (d : DeclarationTree) (next : Declared)
      → (signal_walk base least site a d).end ≡ Ok next
      → HaveLengths (entry a.bindings) → HaveLengths (entry next.bindings)
  unfolding signal_ahead
  signal_long a d next h lengths =
      let names = names_at base site.master a.bindings in
      let first = parts_done (range_steps names d.span) _ next
      (signal_within base least site a next d h).0 in
      let second = parts_done
      (ask (not (is_bound (entry a.bindings d.name))) (twice d.place d.name)) _ next first.2 in
      subst (λ (x : Declared). HaveLengths (entry x.bindings)) (same_ok _ next second.2)
      (one_more_long a.bindings d.name (signal (span_width names.scope d.span) d.signed) lengths
      (range_length names d.span first.0 first.1))

  later_measured : (item : ItemTree) (items : List ItemTree) → AreMeasured (item ∷ items) →
      AreMeasured items
  later_measured item items all p at = all p (Contains-later item items (parameter_item p) at)

  pub declared_long : (items : List ItemTree) (a w : Declared)
      → (declarations_walk base least site a items).end ≡ Ok w
      → AreMeasured items → HaveLengths (entry a.bindings) → HaveLengths (entry w.bindings)
  unfolding declarations_walk declaration_walk
  declared_long [] a w h all lengths =
      subst (λ (x : Declared). HaveLengths (entry x.bindings)) (same_ok a w h) lengths
  declared_long (parameter_item p ∷ items) a w h all lengths =
      let both = parts_done (parameter_walk base site a p) (λ next.
      declarations_walk base least site next items) w h in
      declared_long items both.0 w both.2 (later_measured (parameter_item p) items all)
      (parameter_long a p both.0 both.1 (all p (Contains-head (parameter_item p) items)) lengths)
  declared_long (declared d ∷ items) a w h all lengths =
      let both = parts_done (signal_walk base least site a d) (λ next.
      declarations_walk base least site next items) w h in
      declared_long items both.0 w both.2 (later_measured (declared d) items all)
      (signal_long a d both.0 both.1 lengths)
  declared_long (item ∷ items) a w h all lengths =
      declared_long items a w h (later_measured item items all) lengths

-- ---- what an instance sets

module _ (outer : Names) (lengths : HaveLengths outer.scope) where
  named_long : (m : ModuleTree) (os : List NamedOverride) (set found : List (List ℕ × Number))
      → (named_walk outer m set os).end ≡ Ok found
      → ((o : NamedOverride) → Contains os o → IsMeasured o.value) → SetHasLengths set
      → SetHasLengths found
  unfolding named_walk
  named_long m [] set found h is all = subst SetHasLengths (same_ok set found h) all
  named_long m (o ∷ os) set found h is all =
      let step = named_step outer m o os set found h in
      named_long m os (set ++ (o.name, step.0) ∷ []) found step.2 (λ x at.
      is x (Contains-later o os x at))
      (one_more_holds NumberIsLong set o.name step.0 all
      (constant_long outer lengths o.value (is o (Contains-head o os)) step.0 step.1))

  ordered_long : (es : List ExpressionTree) (free : List ParameterTree)
      (set found : List (List ℕ × Number))
      → (ordered_walk outer free set es).end ≡ Ok found
      → ((e : ExpressionTree) → Contains es e → IsMeasured e) → SetHasLengths set
      → SetHasLengths found
  unfolding ordered_walk
  ordered_long [] [] set found h is all = subst SetHasLengths (same_ok set found h) all
  ordered_long [] (p ∷ free) set found h is all = subst SetHasLengths (same_ok set found h) all
  ordered_long (e ∷ es) [] set found h is all = absurd (cc h)
  ordered_long (e ∷ es) (p ∷ free) set found h is all =
      let first = parts_done (constant_walk outer e) (λ n.
      ordered_walk outer free (set ++ (p.name, n) ∷ []) es) found h in
      ordered_long es free (set ++ (p.name, first.0) ∷ []) found first.2 (λ x at.
      is x (Contains-later e es x at))
      (one_more_holds NumberIsLong set p.name first.0 all
      (constant_long outer lengths e (is e (Contains-head e es)) first.0 first.1))

  nothing_long : SetHasLengths []
  nothing_long n v e = absurd (cc e)

  pub settings_long : (m : ModuleTree) (os : OverrideTrees) (found : List (List ℕ × Number))
      → (overrides_walk outer m os).end ≡ Ok found → are_shaped_overrides os ≡ true
      → OverridesHaveLengths os
      → SetHasLengths found
  unfolding overrides_walk
  settings_long m (named_overrides os) found h shape long =
      named_long m os [] found h (λ o at. (long o at, from_all is_shaped_override os o shape at))
      nothing_long
  settings_long m (ordered_overrides es) found h shape long =
      ordered_long es (open_parameters m) [] found h (λ e at.
      (long e at, from_all is_shaped_expression es e shape at)) nothing_long
