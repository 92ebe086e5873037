-- Where the walk of overrides ends, by its steps.
use Rattle.std.proofs.Common.{◌≡◌, ℕ, Bool, true, false, cond, List, [], ◌∷◌, ◌++◌, map, Option}
use Rattle.std.proofs.Common.{Some, None, refl, sym, ap, ◌∙◌}
use Rattle.std.specs.Prelude.{Result, Ok, Err, not, ◌&&◌, ◌||◌, is_some, option_map}
use Rattle.std.specs.List.{list_any}
use Rattle.std.specs.Map.{lookup}
use Rattle.std.specs.Str.{bytes_eq}
use Rattle.std.proofs.lemmas.Slice.Eq.{bytes_eq-Decides}
use Rattle.sv_num.specs.declared.vectors.Bits.{Bits}
use Rattle.sv_ast.specs.Scopes.{Number}
use Rattle.sv_ast.specs.Tree.{ExpressionTree, ParameterTree, NamedOverride, ModuleTree}
use Rattle.sv_ast.specs.Instances.{entry, open_parameters}
use Rattle.sv_ast.specs.declared.modules.Overrides.{Overrides}
use Rattle.sv_ast.specs.declared.modules.Overrides.TheVariants as overrides
use Rattle.sv_ast.specs.Views.{expression_trees, named_override, override_trees}
use Rattle.sv_ast.specs.GrammarModules.{place_of}
use Rattle.sv_elab_rules.specs.Walks.{WalkStep, Walk, ask, ◌>>=◌}
use Rattle.sv_elab_rules.specs.Rules.{wrong_override, overrides_over}
use Rattle.sv_elab_rules.specs.Names.{Names}
use Rattle.sv_elab_rules.specs.ExpressionSteps.{constant_walk}
use Rattle.sv_elab_rules.specs.Overrides.{is_open, named_walk, ordered_walk, overrides_walk}
use Rattle.sv_elab_rules.proofs.WalkLemmas.{end_after, end_broken}
use Rattle.sv_width.specs.Scopes.{number_of}
use Rattle.sv_elab_decl.specs.Sites.{settings_of}
use Rattle.sv_elab_decl.proofs.Entries.{entry_first, entry_append, first_of_two, first_of_none}
use Rattle.sv_elab_decl.proofs.Entries.{lookup_is_entry}
use Rattle.sv_elab_decl.proofs.NameLemmas.{settings_are}

module _ (outer : Names) (m : ModuleTree) (set : List (List ℕ × Number)) where
  pub named_none : (named_walk outer m set []).end ≡ Ok set
  unfolding named_walk
  named_none = refl

  module _ (o : NamedOverride) (os : List NamedOverride) where
    value : Walk Number
    value = constant_walk outer o.value

    more : Number → Walk (List (List ℕ × Number))
    more n = named_walk outer m (set ++ (o.name, n) ∷ []) os

    free : Bool
    free = is_open m o.name && not (is_some (entry set o.name))

    begin : (named_walk outer m set (o ∷ os)).end
        ≡ (ask free (wrong_override o.place o.name) >>= λ _. value >>= more).end
    unfolding named_walk value more free
    begin = refl

    pub named_wrong : (is_open m o.name && not (is_some (entry set o.name))) ≡ false
        → (named_walk outer m set (o ∷ os)).end ≡ Err (wrong_override o.place o.name)
    unfolding free
    named_wrong h =
        begin ∙ ap (λ (b : Bool).
        (ask b (wrong_override o.place o.name) >>= λ _. value >>= more).end) h

    module _ (allowed : (is_open m o.name && not (is_some (entry set o.name))) ≡ true) where
      to_value : (named_walk outer m set (o ∷ os)).end ≡ (value >>= more).end
      unfolding free
      to_value =
          begin ∙ ap (λ (b : Bool).
          (ask b (wrong_override o.place o.name) >>= λ _. value >>= more).end) allowed

      pub named_stops : (s : WalkStep) → (constant_walk outer o.value).end ≡ Err s
          → (named_walk outer m set (o ∷ os)).end ≡ Err s
      unfolding value
      named_stops s h = to_value ∙ end_broken value more s h

      pub named_more : (n : Number) → (constant_walk outer o.value).end ≡ Ok n
          → (named_walk outer m set (o ∷ os)).end ≡
          (named_walk outer m (set ++ (o.name, n) ∷ []) os).end
      unfolding value more
      named_more n h = to_value ∙ end_after value more n h

module _ (outer : Names) where
  pub ordered_none : (free : List ParameterTree) (set : List (List ℕ × Number))
      → (ordered_walk outer free set []).end ≡ Ok set
  unfolding ordered_walk
  ordered_none [] set = refl
  ordered_none (p ∷ ps) set = refl

  pub ordered_over : (set : List (List ℕ × Number)) (e : ExpressionTree) (es : List ExpressionTree)
      → (ordered_walk outer [] set (e ∷ es)).end ≡ Err (overrides_over (place_of e))
  unfolding ordered_walk
  ordered_over set e es = refl

  module _ (p : ParameterTree) (free : List ParameterTree) (set : List (List ℕ × Number))
      (e : ExpressionTree) (es : List ExpressionTree) where
    pub ordered_stops : (s : WalkStep) → (constant_walk outer e).end ≡ Err s
        → (ordered_walk outer (p ∷ free) set (e ∷ es)).end ≡ Err s
    unfolding ordered_walk
    ordered_stops s h =
        end_broken (constant_walk outer e) (λ (n : Number).
        ordered_walk outer free (set ++ (p.name, n) ∷ []) es) s h

    pub ordered_more : (n : Number) → (constant_walk outer e).end ≡ Ok n
        → (ordered_walk outer (p ∷ free) set (e ∷ es)).end
        ≡ (ordered_walk outer free (set ++ (p.name, n) ∷ []) es).end
    unfolding ordered_walk
    ordered_more n h =
        end_after (constant_walk outer e) (λ (n : Number).
        ordered_walk outer free (set ++ (p.name, n) ∷ []) es) n h

-- ---- values in a table

-- whether a name was set
pub set_there : (values : List (List ℕ × Bits)) (n : List ℕ)
    → is_some (entry (settings_of values) n) ≡ is_some (lookup (bytes_eq n) values)
set_there values n =
    ap (λ (r : Option Number). is_some r) (settings_are values n) ∙ by (entry values n)
    ∙ ap (λ (r : Option Bits). is_some r) (sym (lookup_is_entry n values))
  where
    by : (r : Option Bits) → is_some (option_map number_of r) ≡ is_some r
    by (Some x) = refl
    by None = refl

-- a second value of a name does not count
pub set_before : (values : List (List ℕ × Bits)) (m : List ℕ) (bits : Bits)
    → is_some (lookup (bytes_eq m) values) ≡ true
    → (n : List ℕ) → entry values n ≡ entry (values ++ (m, bits) ∷ []) n
set_before values m bits there n =
    by (entry values n) refl (bytes_eq n m) refl ∙ sym (entry_append values ((m, bits) ∷ []) n)
  where
    by : (r : Option Bits) → entry values n ≡ r → (b : Bool) → bytes_eq n m ≡ b
        → entry values n ≡ first_of_two (entry values n) (entry ((m, bits) ∷ []) n)
    by r e false h =
        sym (ap (λ (s : Option Bits). first_of_two (entry values n) s)
        (entry_first (m, bits) [] n ∙ ap (λ (b : Bool). cond b (Some bits) None) h)
        ∙ first_of_none (entry values n))
    by (Some x) e true h =
        e ∙ ap (λ (s : Option Bits). first_of_two s (entry ((m, bits) ∷ []) n)) (sym e)
    by None e true h =
        let same : n ≡ m = (bytes_eq-Decides n m).0 h in
        let none : false ≡ true =
        ap (λ (r : Option Bits). is_some r) (sym e)
        ∙ ap (λ (k : List ℕ). is_some (entry values k)) same
        ∙ ap (λ (r : Option Bits). is_some r) (sym (lookup_is_entry m values)) ∙ there in
        absurd (cc none)

-- one more value counts alike on both sides
pub set_alike : (set : List (List ℕ × Number)) (values more : List (List ℕ × Bits)) (m : List ℕ)
    (bits : Bits)
    → ((n : List ℕ) → entry set n ≡ entry (settings_of values) n)
    → ((n : List ℕ) → entry more n ≡ entry (values ++ (m, bits) ∷ []) n)
    → (n : List ℕ) → entry (set ++ (m, number_of bits) ∷ []) n ≡ entry (settings_of more) n
set_alike set values more m bits same added n =
    entry_append set ((m, number_of bits) ∷ []) n
    ∙ ap (λ (r : Option Number). first_of_two r (entry ((m, number_of bits) ∷ []) n)) (same n
    ∙ settings_are values n)
    ∙ by (entry values n)
    ∙ ap (λ (r : Option Bits). option_map number_of r) (sym (entry_append values ((m, bits) ∷ []) n)
    ∙ sym (added n))
    ∙ sym (settings_are more n)
  where
    one : (b : Bool) → cond b (Some (number_of bits)) None ≡
        option_map number_of (cond b (Some bits) None)
    one true = refl
    one false = refl

    by : (r : Option Bits)
        → first_of_two (option_map number_of r) (entry ((m, number_of bits) ∷ []) n)
        ≡ option_map number_of (first_of_two r (entry ((m, bits) ∷ []) n))
    by (Some x) = refl
    by None =
        entry_first (m, number_of bits) [] n ∙ one (bytes_eq n m)
        ∙ ap (λ (r : Option Bits). option_map number_of r) (sym (entry_first (m, bits) [] n))

-- ---- by name or by place

module _ (outer : Names) (m : ModuleTree) (o : Overrides) where
  pub overrides_named : (values : _) → o ≡ overrides.Named values
      → (overrides_walk outer m (override_trees o)).end ≡
      (named_walk outer m [] (map named_override values.items)).end
  unfolding overrides_walk
  overrides_named values is =
      ap (λ (p : Overrides). (overrides_walk outer m (override_trees p)).end) is

  pub overrides_ordered : (values : _) → o ≡ overrides.Ordered values
      → (overrides_walk outer m (override_trees o)).end
      ≡ (ordered_walk outer (open_parameters m) [] (expression_trees values.items)).end
  unfolding overrides_walk
  overrides_ordered values is =
      ap (λ (p : Overrides). (overrides_walk outer m (override_trees p)).end) is

-- where a test and the contrary of another hold, the other does not
pub not_true : (a b : Bool) → (a && not b) ≡ true → b ≡ false
not_true true true h = absurd (cc h)
not_true true false h = refl
not_true false b h = absurd (cc h)
