-- The ordered runs of a flat design take the rounds that those of its text take.
use mathlib.Core.Path.{fun_ext}
use Rattle.std.proofs.Common.{◌≡◌, ℕ, zero, suc, ◌+◌, ◌%◌, ◌^◌, List, [], ◌∷◌, map, length}
use Rattle.std.proofs.Common.{Option, Some, refl, sym, ap, subst, ◌∙◌}
use Rattle.std.specs.Prelude.{IsTrue, IsFalse}
use Rattle.std.specs.List.{AllZip}
use Rattle.std.proofs.lemmas.List.{length-map}
use Rattle.sv_system.specs.System.{System, Environment}
use Rattle.sv_system.specs.Joining.{Agree, Joined}
use Rattle.sv_system.specs.Schedules.{after_runs, runs_at}
use Rattle.sv_system.proofs.Pointwise.{fits_from}
use Rattle.sv_ast.specs.Meaning.{system}
use Rattle.sv_ast.specs.Parts.{Path}
use Rattle.sv_ast.specs.TextSystem.{text_system}
use Rattle.sv_ast.specs.Tree.{TextTree}
use Rattle.sv_lattice.specs.declared.points.Point.{Point}
use Rattle.sv_flat.specs.Admission.{IsAdmitted}
use Rattle.sv_flat.specs.Design.{FlatDesign}
use Rattle.sv_flat.specs.FlatSystem.{combinational_processes, run_of, flat_system}
use Rattle.sv_flat.specs.Schedules.{numbered_run, round, process_count, state_after, after_rounds}
use Rattle.sv_flat.specs.Schedules.{IsRoundCount, after_tick, tick_order}
use Rattle.sv_flat.specs.Schedules.{with_inputs, starting, IsOrderedRun}
use Rattle.sv_flat.specs.Soundness.{sound}
use Rattle.sv_elab_rules.specs.Texts.{flat_of}
use Rattle.sv_elab_laws.specs.FlattenedTexts.{CanBeFlattened}
use Rattle.sv_elab_laws.specs.Rounds.{drawn_after, after_rounds_in, IsRoundCountIn, clocked_in}
use Rattle.sv_elab_laws.specs.Rounds.{after_text_tick, tick_numbers, inputs_put, registers_put}
use Rattle.sv_elab_laws.specs.Rounds.{IsTextOrderedRun, SameGiven, RoundsBy}
use Rattle.sv_elab_laws.specs.Rounds.{RoundsAreOfText}
use Rattle.sv_elab_laws.specs.SideBySide.{text_signals, path_at}
use Rattle.sv_elab_laws.proofs.PartsShapes.{flattened}
use Rattle.sv_elab_laws.proofs.PartsTexts.{SideBySide, side_by_side}
use Rattle.sv_elab_laws.proofs.JoinedRounds.{agree_from, rounds_agree, counts_alike, inputs_agree}
use Rattle.sv_elab_laws.proofs.JoinedRounds.{registers_agree}
use Rattle.sv_elab_laws.proofs.JoinedRuns.{source_system, path_to}
use Rattle.sv_elab_laws.proofs.JoinedSchedules.{RunsKeepFits}
use Rattle.sv_elab_laws.proofs.JoinedTicks.{same_count, tick_agrees}
use Rattle.sv_elab_laws.proofs.JoinedWhole.{joined_named, keep_fits}
use Rattle.sv_elab_laws.proofs.SoundDesigns.{design_sound}

-- ---- the flat rounds

module _ (design : FlatDesign) where
  size : length (flat_system design).processes ≡ process_count design
  size = length-map (combinational_processes design) (run_of design)

  state_same : (number k : ℕ)
      → state_after design number k ≡ drawn_after (process_count design) number k
  state_same number zero = refl
  state_same number (suc k) =
      ap (λ x. (round (process_count design) x).state) (state_same number k)

  rounds_same : (number k : ℕ) (e : Environment ℕ)
      → after_rounds design number k e ≡ after_rounds_in (flat_system design) number k e
  rounds_same number zero e = refl
  rounds_same number (suc k) e =
      ap (λ x. after_runs (map (numbered_run design) (round (process_count design) x).order)
      (after_rounds design number k e)) (state_same number k)
      ∙ ap (λ d. after_runs (runs_at (flat_system design)
      (round (process_count design) (drawn_after (process_count design) number k)).order) d)
      (rounds_same number k e)
      ∙ ap (λ n. after_runs (runs_at (flat_system design)
      (round n (drawn_after n number k)).order)
      (after_rounds_in (flat_system design) number k e)) (sym size)

  count_over : (number k : ℕ) (e : Environment ℕ) → IsRoundCount design number e k
      → IsRoundCountIn (flat_system design) number e k
  count_over number k e is = record {
    some = is.some;
    quiet = subst (λ d. IsTrue (Rattle.sv_elab_laws.specs.Rounds.is_quiet_in (flat_system design) d))
        (rounds_same number k e) is.quiet;
    before = λ m some less.
        subst (λ d. IsFalse (Rattle.sv_elab_laws.specs.Rounds.is_quiet_in (flat_system design) d))
        (rounds_same number m e) (is.before m some less);
  }

  count_back : (number k : ℕ) (e : Environment ℕ) → IsRoundCountIn (flat_system design) number e k
      → IsRoundCount design number e k
  count_back number k e is = record {
    some = is.some;
    quiet = subst (λ d. IsTrue (Rattle.sv_elab_laws.specs.Rounds.is_quiet_in (flat_system design) d))
        (sym (rounds_same number k e)) is.quiet;
    before = λ m some less.
        subst (λ d. IsFalse (Rattle.sv_elab_laws.specs.Rounds.is_quiet_in (flat_system design) d))
        (sym (rounds_same number m e)) (is.before m some less);
  }

-- ---- both

module _ (text : TextTree) (asked : Option (List ℕ)) (design : FlatDesign)
    (can : CanBeFlattened text) (flat : flat_of text asked ≡ Some design)
    (admitted : IsAdmitted design) where
  abbrev first : System ℕ Point
  first = flat_system design

  abbrev second : System Path (List ℕ)
  second = text_system text asked

  is_sound : IsTrue (sound design)
  is_sound = design_sound text asked design can.shaped (flattened text can) can.lengths flat

  abbrev side : SideBySide text asked design
  side = side_by_side text asked can design flat

  join : (joined : Joined first second) × (joined.to ≡ path_at (text_signals text asked))
  join = joined_named text asked design is_sound admitted can flat

  keeps : RunsKeepFits first
  keeps = keep_fits text asked design is_sound admitted can flat

  module _ (joined : Joined first second)
      (named : joined.to ≡ path_at (text_signals text asked)) where
    abbrev AgreeOn : Environment ℕ → Environment Path → Type 0
    AgreeOn e g = Agree first second joined.to e g

    to_source : (e : Environment ℕ) (g : Environment Path) → AgreeOn e g
        → Agree first (source_system text asked design side) (path_to text asked design side) e g
    unfolding system
    to_source e g agree = record {
      first_fits = agree.first_fits;
      second_fits = agree.second_fits;
      same = λ s within. agree.same s within ∙ ap (λ name. g (name s)) named;
    }

    tick_over : (e : Environment ℕ) (g : Environment Path) → AgreeOn e g → (cycle : ℕ)
        → AgreeOn (after_tick design (tick_order design cycle) e)
        (after_text_tick text asked
        (tick_numbers (length (clocked_in text asked)) cycle) g)
    tick_over e g agree cycle =
        let order = tick_order design cycle in
        let tick = tick_agrees text asked design side is_sound admitted e g (to_source e g agree)
        order in
        subst (λ n. AgreeOn (after_tick design order e)
        (after_text_tick text asked (tick_numbers n cycle) g))
        (sym (same_count text asked design side is_sound admitted))
        (agree_from first second joined keeps (after_tick design order e)
        (after_text_tick text asked order g)
        (fits_from first (after_tick design order e) (λ s within. tick.1 s within))
        (λ s within. tick.0 s within
        ∙ ap (λ name. after_text_tick text asked order g (name s)) (sym named)))

    module _ (number : ℕ) where
      abbrev drawn_by : ℕ → ℕ
      drawn_by cycle = (number + cycle) % 2 ^ 64

      abbrev Inputs : Environment ℕ → Environment Path → Type 0
      Inputs i p = SameGiven first joined.to first.is_input i p

      over : (cycle : ℕ) (before : Environment ℕ) (other : Environment Path)
          → AgreeOn before other
          → (inputs : List (Environment ℕ)) (others : List (Environment Path))
          → AllZip Inputs inputs others
          → (environments : List (Environment ℕ)) (counts : List ℕ)
          → IsOrderedRun design number cycle before inputs environments counts
          → IsTextOrderedRun text asked number cycle other others counts
      over cycle before other agree [] [] z [] [] h = tt
      over cycle before other agree [] [] z [] (k ∷ counts) h = absurd h
      over cycle before other agree [] [] z (e ∷ es) [] h = absurd h
      over cycle before other agree [] [] z (e ∷ es) (k ∷ counts) h = absurd h
      over cycle before other agree [] (p ∷ others) z es counts h = absurd z
      over cycle before other agree (i ∷ inputs) [] z es counts h = absurd z
      over cycle before other agree (i ∷ inputs) (p ∷ others) z [] [] h = absurd h
      over cycle before other agree (i ∷ inputs) (p ∷ others) z [] (k ∷ counts) h = absurd h
      over cycle before other agree (i ∷ inputs) (p ∷ others) z (e ∷ es) [] h = absurd h
      over cycle before other agree (i ∷ inputs) (p ∷ others) z (e ∷ es) (k ∷ counts) h =
          let d = drawn_by cycle in
          let start = with_inputs design i before in
          let other_start = inputs_put second p other in
          let started = inputs_agree first second joined keeps i p z.0 before other agree in
          let ended = rounds_agree first second joined keeps d k start other_start started in
          let is : e ≡ after_rounds_in first d k start =
          fun_ext h.1 ∙ rounds_same design d k start in
          let ends : AgreeOn e (after_rounds_in second d k other_start) =
          subst (λ x. AgreeOn x (after_rounds_in second d k other_start)) (sym is) ended in (
            (counts_alike first second joined keeps d k start other_start started).0
                (count_over design d k start h.0),
            over (cycle + 1) (after_tick design (tick_order design cycle) e)
                (after_text_tick text asked
                (tick_numbers (length (clocked_in text asked)) cycle)
                (after_rounds_in second d k other_start))
                (tick_over e (after_rounds_in second d k other_start) ends cycle)
                inputs others z.1 es counts h.2,
          )

      back : (cycle : ℕ) (before : Environment ℕ) (other : Environment Path)
          → AgreeOn before other
          → (inputs : List (Environment ℕ)) (others : List (Environment Path))
          → AllZip Inputs inputs others
          → (counts : List ℕ) → IsTextOrderedRun text asked number cycle other others counts
          → (environments : List (Environment ℕ))
          × IsOrderedRun design number cycle before inputs environments counts
      back cycle before other agree [] [] z [] h = ([], tt)
      back cycle before other agree [] [] z (k ∷ counts) h = absurd h
      back cycle before other agree [] (p ∷ others) z counts h = absurd z
      back cycle before other agree (i ∷ inputs) [] z counts h = absurd z
      back cycle before other agree (i ∷ inputs) (p ∷ others) z [] h = absurd h
      back cycle before other agree (i ∷ inputs) (p ∷ others) z (k ∷ counts) h =
          let d = drawn_by cycle in
          let start = with_inputs design i before in
          let other_start = inputs_put second p other in
          let started = inputs_agree first second joined keeps i p z.0 before other agree in
          let ended = rounds_agree first second joined keeps d k start other_start started in
          let e = after_rounds design d k start in
          let ends : AgreeOn e (after_rounds_in second d k other_start) =
          subst (λ x. AgreeOn x (after_rounds_in second d k other_start))
          (sym (rounds_same design d k start)) ended in
          let rest = back (cycle + 1) (after_tick design (tick_order design cycle) e)
          (after_text_tick text asked
          (tick_numbers (length (clocked_in text asked)) cycle)
          (after_rounds_in second d k other_start))
          (tick_over e (after_rounds_in second d k other_start) ends cycle)
          inputs others z.1 counts h.1 in (
            e ∷ rest.0,
            (
              count_back design d k start
                  ((counts_alike first second joined keeps d k start other_start started).1 h.0),
              λ s. refl,
              rest.1,
            ),
          )

    rounds_by : RoundsBy text asked design joined.to
    rounds_by number rounds registers others inputs other_inputs given all_given =
        let started = registers_agree first second joined keeps registers others given in (
          λ run. record {
            counts = (run.1).counts;
            runs = over number 0 (starting design registers) (registers_put second others) started
                inputs other_inputs all_given run.0 (run.1).counts (run.1).runs;
            summed = (run.1).summed;
          },
          λ is.
              let run = back number 0 (starting design registers) (registers_put second others)
              started inputs other_inputs all_given is.counts is.runs in (
                run.0,
                record { counts = is.counts; runs = run.1; summed = is.summed },
              ),
        )

    rounds_named : RoundsAreOfText text asked design
    rounds_named = subst (RoundsBy text asked design) named rounds_by

  pub rounds_of_text : RoundsAreOfText text asked design
  rounds_of_text = rounds_named join.0 join.1
