-- The obligation of a closed path, from what its trail tells.
use Rattle.std.proofs.Common.{◌≡◌, ℕ, ◌+◌, ◌<◌, Bool, true, false, cond, ◌||◌, ◌==◌, not, min}
use Rattle.std.proofs.Common.{List, [], ◌∷◌, length, map, reverse, flat_map, Option, Some, None}
use Rattle.std.proofs.Common.{refl, sym, ap, ap₂, ◌∙◌, arith, ne_eqb}
use Rattle.std.specs.List.{list_any}
use Rattle.std.proofs.lemmas.Bool.{leb-true}
use Rattle.std.proofs.lemmas.List.Folds.{list_any-append}
use Rattle.sv_num.specs.declared.faults.Place.{Place}
use Rattle.sv_flat.specs.Design.{SignalForm, TypedTree, typed, constant, ProcessForm, FlatDesign}
use Rattle.sv_flat.specs.Processes.{signals_that}
use Rattle.sv_flat.specs.Sets.{holds}
use Rattle.sv_flat.specs.Readings.{ReadForm, reads, names_signal}
use Rattle.sv_flat.specs.Values.{signal_of, signal_width}
use Rattle.sv_rules.proofs.TableFacts.{filter_within}
use Rattle.sv_obl.specs.Exchange.{name, content}
use Rattle.sv_obl.specs.Obligations.{flow, is_link, frame_of, path_obligation}
use Rattle.sv_obl.specs.Paths.{StepForm, Path, step_with, path_names, closed}
use Rattle.sv_obl.specs.Routes.{names_in}
use Rattle.sv_paths.specs.Trails.{TrailForm}
use Rattle.sv_obl.specs.Wanted.{with_copies, is_copy, original, close, closed_tree}
use Rattle.sv_paths.proofs.PutNames.{by_signals}
use Rattle.sv_obl.proofs.RouteNames.{stands, exchanged_in, names_alike, held_name}
use Rattle.sv_paths.proofs.TrailCounts.{count, held_count}
use Rattle.sv_paths.proofs.TrailOwn.{own_names}
use Rattle.sv_paths.proofs.TrailTells.{capped_zero, mark_of, step_names, rest_names, left, Tells}

module _ (signals : List SignalForm) where
  abbrev both : List SignalForm
  both = with_copies signals

  -- the names that a name leaves at the beginning of the process
  abbrev left_names : ℕ → List ℕ
  left_names y = cond (not (is_copy signals y)) (y ∷ []) []

  close_is : (r : ReadForm) → stands both (close signals false r) ≡ left_names r.signal
  close_is r = by_test (not (is_copy signals r.signal))
    where
      by_test : (b : Bool)
          → stands both (cond b (name r.signal) (content (original signals r.signal)
          (typed (signal_width signals (original signals r.signal))
          (signal_of signals (original signals r.signal)).signed (constant 0))))
          ≡ cond b (r.signal ∷ []) []
      by_test true = refl
      by_test false = refl

  module _ (x : ℕ) (low : x < length signals) where
    left_held : (ys : List ℕ) → holds (flat_map left_names ys) x ≡ holds ys x
    left_held [] = refl
    left_held (y ∷ ys) =
        list_any-append (λ m. m == x) (left_names y) (flat_map left_names ys)
        ∙ ap₂ (λ a b. a || b) (by_copy (is_copy signals y) refl) (left_held ys)
      where
        or_none : (b : Bool) → (b || false) ≡ b
        or_none true = refl
        or_none false = refl

        by_copy : (b : Bool) → is_copy signals y ≡ b
            → holds (cond (not b) (y ∷ []) []) x ≡ (y == x)
        by_copy true is =
            let high = leb-true (length signals) y is in
            sym (ne_eqb y x (λ e. absurd (omega arith)))
        by_copy false is = or_none (y == x)

    -- a signal is named as it was before the path was closed
    tree_named : (e : TypedTree)
        → names_signal signals (closed_tree signals false e) x ≡ holds (names_in both e) x
    tree_named e =
        sym (held_name (reads signals (closed_tree signals false e)) x)
        ∙ ap (λ ns. holds ns x) (names_alike both signals (closed_tree signals false e)
        ∙ exchanged_in both both (close signals false) e
        ∙ by_signals (λ r. stands both (close signals false r)) left_names close_is (reads both e))
        ∙ left_held (names_in both e)

    steps_named : (s : ℕ) (steps : List StepForm)
        → list_any (λ (step : StepForm). names_signal signals step.condition x)
        (map (step_with (closed_tree signals false)) steps)
        ≡ holds (step_names signals s steps) x
    steps_named s [] = refl
    steps_named s (step ∷ steps) =
        ap₂ (λ a b. a || b) (tree_named step.condition) (steps_named s steps)
        ∙ sym (list_any-append (λ m. m == x) (names_in both step.condition)
        (step_names signals s steps))

    module _ (s : ℕ) (p : Path) (t : TrailForm) (tells : Tells signals s p t) where
      result_named : (own : Option ℕ) → t.own ≡ own
          → holds (names_in both p.result) x ≡ holds (rest_names signals s own p.result) x
      result_named None is = refl
      result_named (Some o) is =
          ap (λ ns. holds ns x) (own_names signals p.result o (tells.own ∙ is))
          ∙ ap (λ b. b || false) (ne_eqb (length signals + o) x (λ e. absurd (omega arith)))

      path_named : path_names signals (closed signals false p) x
          ≡ not (min (count (left signals s t.own p) x) 65537 == 0)
      path_named =
          ap₂ (λ a b. a || b) (steps_named s p.steps)
          (tree_named p.result ∙ result_named t.own refl)
          ∙ sym (list_any-append (λ m. m == x) (step_names signals s p.steps)
          (rest_names signals s t.own p.result))
          ∙ held_count (left signals s t.own p) x
          ∙ ap not (sym (capped_zero (count (left signals s t.own p) x)))

  closed_marks : (steps : List StepForm) →
      map mark_of (map (step_with (closed_tree signals false)) steps) ≡ map mark_of steps
  closed_marks [] = refl
  closed_marks (step ∷ steps) = ap (λ marks. mark_of step ∷ marks) (closed_marks steps)

module _ (s : ℕ) (p : Path) (t : TrailForm) where
  -- the conditions of the closed path, as a line shows them
  pub marks_are : (signals : List SignalForm) → Tells signals s p t
      → map mark_of (closed signals false p).steps ≡ reverse t.marks
  marks_are signals tells = closed_marks signals p.steps ∙ tells.marks

  -- the signals that it names
  pub reads_are : (design : FlatDesign) → Tells design.signals s p t
      → signals_that design (path_names design.signals (closed design.signals false p))
      ≡ t.names.settled
  reads_are design tells =
      filter_within (path_names design.signals (closed design.signals false p))
      (λ x. not (min (count (left design.signals s t.own p) x) 65537 == 0)) 0
      (length design.signals)
      (λ x low. path_named design.signals x (omega arith) s p t tells)
      ∙ sym tells.names.settled

  -- its obligation, but for the conditions as expressions
  pub obligation_is : (facts : List TypedTree) (design : FlatDesign) (process : ProcessForm)
      → Tells design.signals s p t
      → path_obligation facts design process s (closed design.signals false p)
      ≡ record {
        facts = facts;
        path = (closed design.signals false p).steps;
        right = cond (is_link process.kind) (Some process.place) t.place;
        reads = t.names.settled;
        goal = flow s (frame_of process.kind);
      }
  obligation_is facts design process tells =
      ap₂ (λ (place : Option Place) (names : List ℕ). record {
        facts = facts;
        path = (closed design.signals false p).steps;
        right = cond (is_link process.kind) (Some process.place) place;
        reads = names;
        goal = flow s (frame_of process.kind);
      }) tells.place (reads_are design tells)
