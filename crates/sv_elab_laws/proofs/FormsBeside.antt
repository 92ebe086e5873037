-- The signals of a flat design have the numbers and lengths of those of its text.
use Rattle.std.proofs.Common.{◌≡◌, ℕ, ◌<◌, Bool, List, map, length, Some, refl, sym, ap, subst}
use Rattle.std.proofs.Common.{◌∙◌}
use Rattle.std.specs.Prelude.{IsTrue}
use Rattle.std.specs.List.{slice_get, AllZip}
use Rattle.std.proofs.lemmas.Bool.{lt-ltb}
use Rattle.std.proofs.lemmas.List.{length-map}
use Rattle.sv_ast.specs.Scopes.{signal, width_of}
use Rattle.sv_ast.specs.Instances.{is_signal}
use Rattle.sv_ast.specs.Parts.{Path, Part, within, PartSignal, signal_path}
use Rattle.sv_flat.specs.Design.{SignalForm}
use Rattle.sv_flat.specs.Values.{signal_width}
use Rattle.sv_elab_rules.specs.Names.{Names}
use Rattle.sv_elab_rules.specs.LabelSteps.{SharedTables}
use Rattle.sv_width.specs.Agreement.{HaveSignals}
use Rattle.sv_elab_laws.specs.Numbering.{IsNumbering}
use Rattle.sv_elab_laws.proofs.PartsLists.{zip_length, zip_left, get_below, index_is}
use Rattle.sv_elab_laws.proofs.PartsMaps.{same_some}
use Rattle.sv_elab_laws.proofs.PartsNamed.{IsNamed}
use Rattle.sv_elab_laws.proofs.PartsGrown.{IsForm, IsNumberOf, source_of_name, number_of_name}

module _ (tables : SharedTables) (sources : List PartSignal) (everything : List Part)
    (signals : List SignalForm)
    (forms : AllZip (IsForm tables sources everything) sources signals) where
  pub same_size : length sources ≡ length signals
  same_size = zip_length (IsForm tables sources everything) sources signals forms

  pub below_size : (x : Path) (k : ℕ) → IsNumberOf tables sources everything x k →
      k < length signals
  below_size x k at =
      subst (λ n. k < n) (length-map sources signal_path ∙ same_size)
      (get_below (map signal_path sources) k x at)

  module _ (p : Part) (names : Names) (named : IsNamed sources everything p names) where
    pub name_width : (n : List ℕ) (width : ℕ) (signed : Bool)
        → names.scope n ≡ Some (signal width signed)
        → (names.number n < length signals) × (signal_width signals (names.number n) ≡ width)
    name_width n width signed e =
        let is = subst (λ b. IsTrue (is_signal b)) (sym e) refl in
        let source = source_of_name tables sources everything p names named n is in
        let form = zip_left (IsForm tables sources everything) sources signals forms
        (names.number n) (record { part = p; declaration = source.0 }) source.3 in (
          below_size (within p n) (names.number n)
              (number_of_name tables sources everything p names named n is),
          ap (λ (s : SignalForm). s.width)
              (index_is signals (names.number n) form.0 _ form.1)
              ∙ form.2.width
              ∙ ap (λ m. width_of (p.scope m)) source.1
              ∙ ap (λ s. width_of (s n)) (sym named.scope) ∙ ap width_of e,
        )

    pub names_listed : HaveSignals names signals
    names_listed n width signed e =
        let w = name_width n width signed e in
        (lt-ltb (names.number n) (length signals) w.0, w.1)

    pub names_number : IsNumbering names signals
    names_number = record {
      declared = named.declared;
      listed = names_listed;
      apart = λ n m n_is m_is same.
          let first = source_of_name tables sources everything p names named n n_is in
          let second = source_of_name tables sources everything p names named m m_is in
          let one : record { part = p; declaration = first.0 } ≡ record {
            part = p;
            declaration = second.0;
          } =
          same_some (slice_get sources (names.number n)) (record {
            part = p;
            declaration = first.0;
          }) (record { part = p; declaration = second.0 })
          first.3 (ap (slice_get sources) same ∙ second.3) in
          sym first.1 ∙ ap (λ (s : PartSignal). s.declaration.name) one ∙ second.1;
      widths = λ n width signed e. (named.widths n width signed e).0;
      parameters = named.parameters;
    }
