-- Changes and updates keep two states the same.
use Rattle.std.proofs.Common.{◌≡◌, ℕ, ◌^◌, ◌<◌, Bool, true, false, cond, List, [], ◌∷◌, ◌++◌, map}
use Rattle.std.proofs.Common.{⊎_elim, refl, sym, ap, subst, ◌∙◌}
use Rattle.std.specs.Prelude.{◌==◌, Contains, Option, Some, None, IsTrue}
use Rattle.std.specs.Str.{bytes_eq}
use Rattle.std.proofs.lemmas.Bool.{eq-eqb, ne_eqb, both_ways}
use Rattle.std.proofs.lemmas.List.{map-append}
use Rattle.std.proofs.lemmas.List.Elements.{Contains-append_cases}
use Rattle.std.proofs.lemmas.Nat.{pow_pos}
use Rattle.std.proofs.lemmas.Slice.Eq.{bytes_eq-Decides}
use Rattle.sv_system.specs.System.{Environment, put, last_update}
use Rattle.sv_system.proofs.Lists.{Contains-head, Contains-later, Contains-cases, Contains-nil}
use Rattle.sv_ast.specs.Scopes.{Scope, Binding, signal, parameter, width_of, value_of}
use Rattle.sv_ast.specs.Instances.{is_signal}
use Rattle.sv_ast.specs.Runs.{Running}
use Rattle.sv_flat.specs.Design.{SignalForm}
use Rattle.sv_flat.specs.Runs.{Updates}
use Rattle.sv_elab_rules.specs.Names.{Names}
use Rattle.sv_elab_laws.specs.Numbering.{IsNumbering}
use Rattle.sv_elab_laws.specs.SameStates.{ValuesFit, IsUpdate, by_number, AreSame}

-- a signal has a length and a signedness
pub signal_known : (scope : Scope) (n : List ℕ) → IsTrue (is_signal (scope n))
    → (width : ℕ) × (signed : Bool) × (scope n ≡ Some (signal width signed))
signal_known scope n = by (scope n) refl
  where
    by : (b : Option Binding) → scope n ≡ b → IsTrue (is_signal b) →
        (width : ℕ) × (signed : Bool) × (scope n ≡ Some (signal width signed))
    by (Some (signal width signed)) is h = (width, signed, is)
    by (Some (parameter v)) is h = absurd (cc h)
    by None is h = absurd (cc h)

pub is_a_signal : (scope : Scope) (n : List ℕ) (width : ℕ) (signed : Bool)
    → scope n ≡ Some (signal width signed)
    → IsTrue (is_signal (scope n))
is_a_signal scope n width signed is = ap is_signal is

module _ (names : Names) (signals : List SignalForm) (numbering : IsNumbering names signals) where
  -- names are the same where their numbers are
  pub same_test : (m n : List ℕ) → IsTrue (is_signal (names.scope m))
      → IsTrue (is_signal (names.scope n))
      → (names.number m == names.number n) ≡ bytes_eq m n
  same_test m n p q = by (bytes_eq m n) refl
    where
      by : (b : Bool) → bytes_eq m n ≡ b → (names.number m == names.number n) ≡ b
      by true is =
          eq-eqb (names.number m) (names.number n) (ap names.number ((bytes_eq-Decides m n).0 is))
      by false is = ne_eqb (names.number m) (names.number n)
          (λ same. both_ways (bytes_eq m n) is
          ((bytes_eq-Decides m n).1 (numbering.apart m n p q same)))

  -- a signal's value fits, also where it is read of a parameter's
  pub bound_fits : (environment : Environment (List ℕ)) → ValuesFit names.scope environment
      → (n : List ℕ)
      → value_of (names.scope n) (environment n) < 2 ^ width_of (names.scope n)
  bound_fits environment fits n = by (names.scope n) refl
    where
      by : (b : Option Binding) → names.scope n ≡ b → value_of b (environment n) < 2 ^ width_of b
      by (Some (signal width signed)) is = fits n width signed is
      by (Some (parameter v)) is = numbering.parameters n v is
      by None is = pow_pos 0

  -- ---- the last update of a signal

  abbrev pub AllUpdate : List (List ℕ × ℕ) → Type 0
  AllUpdate us = (u : List ℕ × ℕ) → Contains us u → IsUpdate names.scope u

  pub last_same : (us : List (List ℕ × ℕ)) (n : List ℕ) (x y : ℕ) → AllUpdate us
      → IsTrue (is_signal (names.scope n)) → x ≡ y
      → last_update ◌==◌ (names.number n) x (map (by_number names) us) ≡ last_update bytes_eq n y us
  last_same [] n x y each there same = same
  last_same (u ∷ us) n x y each there same =
      last_same us n (cond (names.number u.0 == names.number n) u.1 x) (cond (bytes_eq u.0 n) u.1 y)
      (λ v at. each v (Contains-later u us v at)) there
      (ap (λ b. cond b u.1 x) (same_test u.0 n (each u (Contains-head u us)).0 there)
      ∙ ap (λ z. cond (bytes_eq u.0 n) u.1 z) same)

  -- what is put at a name fits the name's length
  newer_fits : (t n : List ℕ) (width : ℕ) (signed : Bool) (x old : ℕ)
      → names.scope n ≡ Some (signal width signed)
      → x < 2 ^ width_of (names.scope t) → old < 2 ^ width → cond (bytes_eq t n) x old < 2 ^ width
  newer_fits t n width signed x old is new fits = by (bytes_eq t n) refl
    where
      by : (b : Bool) → bytes_eq t n ≡ b → cond b x old < 2 ^ width
      by true same = subst (λ k. x < 2 ^ k)
          (ap (λ m. width_of (names.scope m)) ((bytes_eq-Decides t n).0 same) ∙ ap width_of is) new
      by false other = fits

  pub last_fits : (us : List (List ℕ × ℕ)) (n : List ℕ) (width : ℕ) (signed : Bool) (old : ℕ)
      → AllUpdate us
      → names.scope n ≡ Some (signal width signed) → old < 2 ^ width
      → last_update bytes_eq n old us < 2 ^ width
  last_fits [] n width signed old each is fits = fits
  last_fits (u ∷ us) n width signed old each is fits =
      last_fits us n width signed (cond (bytes_eq u.0 n) u.1 old) (λ v at.
      each v (Contains-later u us v at)) is
      (newer_fits u.0 n width signed u.1 old is (each u (Contains-head u us)).1 fits)

  -- ---- one change

  module _ (t : List ℕ) (there : IsTrue (is_signal (names.scope t))) (x y : ℕ) (same : x ≡ y)
      (fits : y < 2 ^ width_of (names.scope t)) (flat : Environment ℕ × Updates) (source : Running)
      (before : AreSame names flat source) where
    pub put_same : AreSame names (put ◌==◌ (names.number t) x flat.0, flat.1)
        (record { environment = put bytes_eq t y source.environment; updates = source.updates })
    put_same = record {
      values = λ n width signed is.
          ap (λ b. cond b x (flat.0 (names.number n)))
          (same_test t n there (is_a_signal names.scope n width signed is))
          ∙ ap (λ v. cond (bytes_eq t n) v (flat.0 (names.number n))) same
          ∙ ap (λ v. cond (bytes_eq t n) y v) (before.values n width signed is);
      updates = before.updates;
      fits = λ n width signed is.
          newer_fits t n width signed y (source.environment n) is fits
          (before.fits n width signed is);
      updates_fit = before.updates_fit;
    }

    pub later_same : AreSame names (flat.0, flat.1 ++ (names.number t, x) ∷ [])
        (record { environment = source.environment; updates = source.updates ++ (t, y) ∷ [] })
    later_same = record {
      values = before.values;
      updates = ap (λ (us : Updates). us ++ (names.number t, x) ∷ []) before.updates
          ∙ ap (λ v. map (by_number names) source.updates ++ (names.number t, v) ∷ []) same
          ∙ sym (map-append (by_number names) source.updates ((t, y) ∷ []));
      fits = before.fits;
      updates_fit = λ u at. ⊎_elim
          (λ old. before.updates_fit u old)
          (λ new. ⊎_elim
          (λ e. subst (λ (w : List ℕ × ℕ). IsUpdate names.scope w) e (there, fits))
          (λ none. absurd (Contains-nil u none))
          (Contains-cases (t, y) [] u new))
          (Contains-append_cases source.updates ((t, y) ∷ []) u at);
    }
