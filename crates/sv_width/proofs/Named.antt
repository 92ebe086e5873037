-- The steps at one name, by what it stands for.
use Rattle.std.proofs.Common.{◌≡◌, ℕ, Bool, true, false, List, refl, sym, ap, subst, ◌∙◌}
use Rattle.std.specs.Prelude.{not, ◌||◌, if◌then◌else◌, Option, Some, None, option_map}
use Rattle.std.specs.Prelude.{Ok, Err}
use Rattle.sv_num.specs.declared.faults.Place.{Place}
use Rattle.sv_ast.specs.Scopes.{Number, Binding, parameter, signal, width_of, is_signed}
use Rattle.sv_ast.specs.Tree.{named}
use Rattle.sv_ast.specs.Instances.{is_signal}
use Rattle.sv_ast.specs.Values.{length_of, joined_length, signed_of}
use Rattle.sv_elab_rules.specs.Walks.{Steps, ask, ◌>>=◌}
use Rattle.sv_elab_rules.specs.Rules.{unknown_name, not_constant}
use Rattle.sv_elab_rules.specs.Names.{Names, is_bound, is_parameter}
use Rattle.sv_elab_rules.specs.TypedExpressions.{names_signal, some_names_signal}
use Rattle.sv_elab_rules.specs.ExpressionSteps.{asked, asked_parts}
use Rattle.sv_width.specs.declared.lookups.Setting.{Setting}
use Rattle.sv_width.specs.declared.lookups.Setting.TheVariants.{Open, Constant, Declaring}
use Rattle.sv_width.specs.declared.meanings.Meaning.{Meaning}
use Rattle.sv_width.specs.Scopes.{Known, binding_of, meaning_of, number_in}
use Rattle.sv_width.specs.Settings.{names_in, is_constant, absent_step, selected_steps}
use Rattle.sv_width.specs.Measured as measured
use Rattle.sv_width.specs.Measured.{measured_name, measured_of, measured_parts}

-- what names stand for in each setting
scope_in : (setting : Setting) (known : Known) (n : List ℕ) →
    (names_in setting known).scope n ≡ option_map binding_of (meaning_of known n)
scope_in Open known n = refl
scope_in Constant known n = refl
scope_in Declaring known n = refl

pub stands_for : (setting : Setting) (known : Known) (n : List ℕ) (m : Option Meaning) →
    m ≡ meaning_of known n → (names_in setting known).scope n ≡ option_map binding_of m
stands_for setting known n m is =
    scope_in setting known n ∙ ap (λ (x : Option Meaning). option_map binding_of x) (sym is)

pub number_at : (setting : Setting) (known : Known) (n : List ℕ) →
    (names_in setting known).number n ≡ number_in known n
number_at Open known n = refl
number_at Constant known n = refl
number_at Declaring known n = refl

-- a name comes later only in a constant place
pub later_constant : (setting : Setting) (known : Known) (n : List ℕ) →
    (names_in setting known).later n ≡ true → is_constant setting ≡ true
later_constant Open known n h = absurd (cc h)
later_constant Constant known n h = refl
later_constant Declaring known n h = refl

module _ (names : Names) (n : List ℕ) (p : Place) where
  abbrev steps : Bool → Option Binding → Bool → Steps
  steps c b later =
      ask (is_bound b || later) (unknown_name p n) >>= λ _.
      ask (not c || is_parameter b) (not_constant p)

  abbrev chosen : Bool → Option Binding → Bool → Steps
  chosen c b later =
      ask (if is_bound b then is_signal b else later) (unknown_name p n) >>= λ _.
      ask (not c) (not_constant p)

  always : (c : Bool) → (ask (not c || true) (not_constant p)).end ≡ Ok tt
  always true = refl
  always false = refl

  pub parameter_asked : (c : Bool) (v : Number) → names.scope n ≡ Some (parameter v) →
      (asked names c (named n p)).end ≡ Ok tt
  unfolding asked asked_parts
  parameter_asked c v h =
      subst (λ (b : Option Binding). (steps c b (names.later n)).end ≡ Ok tt) (sym h) (always c)

  pub signal_asked : (w : ℕ) (s : Bool) → names.scope n ≡ Some (signal w s) →
      (asked names false (named n p)).end ≡ Ok tt
  unfolding asked asked_parts
  signal_asked w s h =
      subst (λ (b : Option Binding). (steps false b (names.later n)).end ≡ Ok tt) (sym h) refl

  pub signal_refused : (w : ℕ) (s : Bool) → names.scope n ≡ Some (signal w s) →
      (asked names true (named n p)).end ≡ Err (not_constant p)
  unfolding asked asked_parts
  signal_refused w s h =
      subst (λ (b : Option Binding). (steps true b (names.later n)).end ≡ Err (not_constant p))
      (sym h) refl

  absent_steps : (c later : Bool) → (later ≡ true → c ≡ true)
      → (steps c None later).end ≡ Err (if later then not_constant p else unknown_name p n)
  absent_steps true true h = refl
  absent_steps false true h = absurd (cc (h refl))
  absent_steps c false h = refl

  absent_chosen : (c later : Bool) → (later ≡ true → c ≡ true)
      → (chosen c None later).end ≡ Err (if later then not_constant p else unknown_name p n)
  absent_chosen true true h = refl
  absent_chosen false true h = absurd (cc (h refl))
  absent_chosen c false h = refl

  pub absent_asked : (c : Bool) → names.scope n ≡ None → (names.later n ≡ true → c ≡ true) →
      (asked names c (named n p)).end ≡ Err (absent_step names p n)
  unfolding asked asked_parts
  absent_asked c h later =
      subst (λ (b : Option Binding). (steps c b (names.later n)).end ≡ Err (absent_step names p n))
      (sym h) (absent_steps c (names.later n) later)

  pub parameter_selected : (c : Bool) (v : Number) → names.scope n ≡ Some (parameter v) →
      (selected_steps names c p n).end ≡ Err (unknown_name p n)
  parameter_selected c v h =
      subst (λ (b : Option Binding). (chosen c b (names.later n)).end ≡ Err (unknown_name p n))
      (sym h) refl

  pub signal_selected : (w : ℕ) (s : Bool) → names.scope n ≡ Some (signal w s) →
      (selected_steps names false p n).end ≡ Ok tt
  signal_selected w s h =
      subst (λ (b : Option Binding). (chosen false b (names.later n)).end ≡ Ok tt) (sym h) refl

  pub signal_unselected : (w : ℕ) (s : Bool) → names.scope n ≡ Some (signal w s) →
      (selected_steps names true p n).end ≡ Err (not_constant p)
  signal_unselected w s h =
      subst (λ (b : Option Binding). (chosen true b (names.later n)).end ≡ Err (not_constant p))
      (sym h) refl

  pub absent_selected : (c : Bool) → names.scope n ≡ None → (names.later n ≡ true → c ≡ true) →
      (selected_steps names c p n).end ≡ Err (absent_step names p n)
  absent_selected c h later =
      subst (λ (b : Option Binding). (chosen c b (names.later n)).end ≡ Err (absent_step names p n))
      (sym h) (absent_chosen c (names.later n) later)

  pub parameter_measured : (v : Number) → names.scope n ≡ Some (parameter v)
      → measured.value (record { width = v.width; signed = v.signed; names_signal = false }) v.width
      v.value ≡ measured_of names (named n p)
  unfolding measured_of measured_parts length_of joined_length signed_of names_signal
      some_names_signal
  parameter_measured v h = sym (ap (λ (b : Option Binding).
      measured_name (record {
        width = width_of b;
        signed = is_signed b;
        names_signal = is_signal b;
      }) b (names.number n) p) h)

  pub signal_measured : (w : ℕ) (s : Bool) → names.scope n ≡ Some (signal w s)
      → measured.read (record { width = w; signed = s; names_signal = true }) (names.number n) p ≡
      measured_of names (named n p)
  unfolding measured_of measured_parts length_of joined_length signed_of names_signal
      some_names_signal
  signal_measured w s h = sym (ap (λ (b : Option Binding).
      measured_name (record {
        width = width_of b;
        signed = is_signed b;
        names_signal = is_signal b;
      }) b (names.number n) p) h)
