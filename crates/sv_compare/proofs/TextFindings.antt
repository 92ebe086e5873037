-- What is found of a flat design is what is found of its text.
use Rattle.std.proofs.Common.{◌≡◌, ℕ, Bool, true, false, cond, List, Option, Some, None}
use Rattle.std.proofs.Common.{sym, ap, subst, ◌∙◌}
use Rattle.std.specs.Prelude.{Contains, IsTrue, position, option_map}
use Rattle.std.specs.Str.{bytes_eq}
use Rattle.sv_system.specs.Joining.{Joined}
use Rattle.sv_system.proofs.JoinedCycles.{by_name}
use Rattle.sv_lattice.specs.declared.points.Point.{Point}
use Rattle.sv_ast.specs.Parts.{Path, signal_path}
use Rattle.sv_ast.specs.Reach.{holds}
use Rattle.sv_ast.specs.SourceLabels.{points}
use Rattle.sv_ast.specs.TextSystem.{text_system}
use Rattle.sv_ast.specs.Tree.{TextTree}
use Rattle.sv_flat.specs.Admission.{IsAdmitted}
use Rattle.sv_flat.specs.Design.{FlatDesign}
use Rattle.sv_flat.specs.FlatSystem.{flat_system}
use Rattle.sv_elab_rules.specs.Texts.{flat_of}
use Rattle.sv_design.specs.Designs.{IsDesign}
use Rattle.sv_elab_laws.specs.FlattenedTexts.{CanBeFlattened}
use Rattle.sv_elab_laws.proofs.JoinedNumbers.{at_number, from_is, signal_below, to_is}
use Rattle.sv_elab_laws.proofs.PartsTexts.{SideBySide, side_by_side}
use Rattle.sv_trace.specs.Forms.{form_of, name_in}
use Rattle.sv_sim_run.specs.Simulated.{level_asked}
use Rattle.sv_sim_run.proofs.DesignForms.{form_is}
use Rattle.sv_run_laws.specs.FalsifiedTexts.{number_of}
use Rattle.sv_run_laws.specs.Signals.{text_signals, dotted}
use Rattle.sv_run_laws.specs.SimulatedTexts.{level_asked_of, text_form}
use Rattle.sv_run_laws.proofs.CheckedDesigns.{admitted_checked}
use Rattle.sv_run_laws.proofs.SameSimulations.{SeeAlike, forms_same}
use Rattle.sv_run_laws.proofs.TextNames as names
use Rattle.sv_tworun.specs.Forms.{Finding}
use Rattle.sv_compare.specs.ComparedTexts.{IsDesignCompared, IsTextCompared, with_names}
use Rattle.sv_compare.specs.ComparedTexts.{SameFinding, AreComparedAlike, HasOneFinding}
use Rattle.sv_compare.proofs.JoinedFindings.{to_from, comparison_over, comparison_back}
use Rattle.sv_compare.proofs.OneDesign.{one_compared, has_compared}
use Rattle.sv_compare.proofs.ToldSignals.{told_within, told_weaker, told_same, told_twice}
use Rattle.sv_compare.proofs.ToldSignals.{told_itself}

module _ (text : TextTree) (asked : Option (List ℕ)) (design : FlatDesign)
    (can : CanBeFlattened text) (flat : flat_of text asked ≡ Some design)
    (admitted : IsAdmitted design) where
  abbrev joined : Joined (flat_system design) (text_system text asked)
  joined = names.joined text asked design can flat admitted

  abbrev side : SideBySide text asked design
  side = side_by_side text asked can design flat

  same_names : (s : ℕ) → Contains (flat_system design).signals s →
      name_in design.signals s ≡ dotted (joined.to s)
  same_names = names.same_names text asked design can flat admitted

  is_design : IsDesign design
  is_design = record {
    is_sound = (admitted_checked text asked design can flat admitted).is_sound;
    is_admitted = admitted;
  }

  -- ---- stimuli

  pub same_form : text_form text asked ≡ form_of design
  same_form =
      forms_same (flat_system design) (text_system text asked) joined (name_in design.signals)
      dotted same_names
      ∙ form_is design is_design.is_sound admitted

  -- ---- names

  number_is : (s : ℕ) → Contains (flat_system design).signals s
      → number_of (text_signals text asked) (joined.to s) ≡ s
  number_is s at =
      let a = at_number text asked design side s (signal_below text asked design side s at) in
      ap (number_of (text_signals text asked))
      (names.path_is text asked design can flat admitted s at
      ∙ to_is text asked design side (signal_path a.source) s a.number)
      ∙ from_is text asked design side (signal_path a.source) s a.number

  -- of a path of the text
  number_from : (x : Path) → Contains (text_system text asked).signals x
      → number_of (text_signals text asked) x ≡ joined.from x
  number_from =
      by_name (flat_system design) (text_system text asked) joined
      (λ x. number_of (text_signals text asked) x ≡ joined.from x)
      (λ s at. number_is s at ∙ sym (joined.from_to s at))

  name_from : (x : Path) → Contains (text_system text asked).signals x
      → name_in design.signals (joined.from x) ≡ dotted x
  name_from =
      by_name (flat_system design) (text_system text asked) joined
      (λ x. name_in design.signals (joined.from x) ≡ dotted x)
      (λ s at. ap (name_in design.signals) (joined.from_to s at) ∙ same_names s at)

  -- ---- levels

  abbrev Alike : Point → List ℕ → Type 0
  Alike point level =
      SeeAlike (flat_system design) (text_system text asked) joined (Some point) (Some level)

  pub point_sees : (point : Point) (level : List ℕ)
      → position (λ name. bytes_eq name level) design.points ≡ Some point.0 → Alike point level
  point_sees point level is =
      by_test (holds bytes_eq (points text) level)
      (subst (λ o. names.AskedAlike text asked design can flat admitted
      (option_map (λ k. Some (record { 0 = k })) o) (level_asked_of text (Some level))) is
      (names.asked_alike text asked design can flat admitted (Some level)))
    where
      by_test : (b : Bool) → names.AskedAlike text asked design can flat admitted
          (Some (Some point)) (cond b (Some (Some level)) None) → Alike point level
      by_test true alike = alike
      by_test false alike = absurd alike

  -- the name of a point has its number
  level_sees : (level : List ℕ) → IsTrue (holds bytes_eq (points text) level)
      → (point : Point) × Alike point level
  level_sees level held =
      by_place (position (λ name. bytes_eq name level) design.points)
      (subst (λ b. names.AskedAlike text asked design can flat admitted
      (level_asked design (Some level)) (cond b (Some (Some level)) None)) held
      (names.asked_alike text asked design can flat admitted (Some level)))
    where
      by_place : (o : Option ℕ) → names.AskedAlike text asked design can flat admitted
          (option_map (λ k. Some (record { 0 = k })) o) (Some (Some level))
          → (point : Point) × Alike point level
      by_place (Some k) alike = (record { 0 = k }, alike)
      by_place None alike = absurd alike

  -- ---- comparisons

  module _ (point : Point) (level first second : List ℕ) (alike : Alike point level) where
    over : (found : Finding ℕ) → IsDesignCompared design point first second found
        → IsTextCompared text asked level first second (with_names joined.to found)
    over found is =
        comparison_over (flat_system design) (text_system text asked) joined point level alike
        (name_in design.signals) dotted same_names first second found is

    back : (in_text : Finding Path) → IsTextCompared text asked level first second in_text
        → IsDesignCompared design point first second (with_names joined.from in_text)
    back in_text is =
        comparison_back (flat_system design) (text_system text asked) joined point level alike
        (name_in design.signals) dotted same_names first second in_text is

    same_over : (found : Finding ℕ) → IsDesignCompared design point first second found
        → SameFinding text asked design found (with_names joined.to found)
    same_over found is =
        let within = told_within (flat_system design) point is.one is.other found is.finds in
        let inside = Contains (flat_system design).signals in
        record {
          number =
              told_twice joined.to (number_of (text_signals text asked)) found
              ∙ told_same (λ s. number_of (text_signals text asked) (joined.to s)) (λ s. s) found
              (told_weaker inside
              (λ s. number_of (text_signals text asked) (joined.to s) ≡ s) number_is found within)
              ∙ told_itself found;
          name =
              told_same (name_in design.signals) (λ s. dotted (joined.to s)) found
              (told_weaker inside (λ s. name_in design.signals s ≡ dotted (joined.to s))
              same_names found within)
              ∙ sym (told_twice joined.to dotted found);
        }

    same_back : (in_text : Finding Path) → IsTextCompared text asked level first second in_text
        → SameFinding text asked design (with_names joined.from in_text) in_text
    same_back in_text is =
        let within = told_within (text_system text asked) level is.one is.other in_text is.finds in
        let inside = Contains (text_system text asked).signals in
        record {
          number =
              told_same (number_of (text_signals text asked)) joined.from in_text
              (told_weaker inside (λ x. number_of (text_signals text asked) x ≡ joined.from x)
              number_from in_text within);
          name =
              told_twice joined.from (name_in design.signals) in_text
              ∙ told_same (λ x. name_in design.signals (joined.from x)) dotted in_text
              (told_weaker inside (λ x. name_in design.signals (joined.from x) ≡ dotted x)
              name_from in_text within);
        }

    pub compared_alike : AreComparedAlike text asked design point level first second
    compared_alike = record {
      over = λ found is. (with_names joined.to found, over found is, same_over found is);
      back = λ in_text is. (with_names joined.from in_text, back in_text is, same_back in_text is);
    }

    -- ---- one finding

    there_and_back : (in_text : Finding Path)
        → IsTextCompared text asked level first second in_text
        → with_names joined.to (with_names joined.from in_text) ≡ in_text
    there_and_back in_text is =
        told_twice joined.from joined.to in_text
        ∙ told_same (λ x. joined.to (joined.from x)) (λ x. x) in_text
        (told_weaker (Contains (text_system text asked).signals)
        (λ x. joined.to (joined.from x) ≡ x)
        (to_from (flat_system design) (text_system text asked) joined) in_text
        (told_within (text_system text asked) level is.one is.other in_text is.finds))
        ∙ told_itself in_text

    one_of_point : HasOneFinding text asked level first second
    one_of_point =
        let found = has_compared design is_design point first second in (
          with_names joined.to found.0,
          over found.0 found.1,
          λ other is.
              sym (there_and_back other is)
              ∙ ap (with_names joined.to)
              (one_compared design is_design point first second found.0
              (with_names joined.from other) found.1 (back other is)),
        )

  pub one_text_finding : (level first second : List ℕ)
      → IsTrue (holds bytes_eq (points text) level) → HasOneFinding text asked level first second
  one_text_finding level first second held =
      let sees = level_sees level held in
      one_of_point sees.0 level first second sees.1
