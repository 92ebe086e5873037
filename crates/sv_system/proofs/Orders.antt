-- Every order of the runs comes to the settled environment, by depth: no run undoes what is
-- settled, and a round settles one rank more.
use Rattle.std.proofs.Common.{◌≡◌, Bool, ℕ, zero, suc, ◌+◌, ◌<◌, ◌≤◌, ◌^◌, ◌⊎◌, inl, inr, List, []}
use Rattle.std.proofs.Common.{◌∷◌, ◌++◌, length, ⊎_elim, refl, sym, subst, ◌∙◌, arith}
use Rattle.std.specs.Prelude.{All, Contains, IsTrue, flat_map}
use Rattle.std.proofs.lemmas.List.Elements.{All-contains, All-head, All-tail}
use Rattle.sv_system.specs.System.{System, Environment, Run, Fits, IsStill, Settled, KindFits}
use Rattle.sv_system.specs.Facts.{IsCombinational, Ordered}
use Rattle.sv_system.specs.Schedules.{after_runs, IsSchedule, IsRound, IsTheSettled, combinational}
use Rattle.sv_system.specs.Schedules.{RestIsSettled, RoundsSettle, Block, Scheduled}
use Rattle.sv_system.proofs.Lists.{Contains-map, Contains-from_map, Contains-cases, Contains-nil}
use Rattle.sv_system.proofs.OneCycle.{kinds, one_kind}
use Rattle.sv_system.proofs.OneTrace.{settled_agree}
use Rattle.sv_system.proofs.Settling.{settle, settle_settles}
use Rattle.sv_system.proofs.Pointwise.{either_way, each, fits_at, fits_from, still_at, still_from}
use Rattle.sv_system.proofs.Ranks.{rank, rank_rises, rank_below}

-- the environment after some runs and then others
pub after_runs-append :
    {Signal : Type 0} (before later : List (Run Signal)) (e : Environment Signal)
    → after_runs (before ++ later) e ≡ after_runs later (after_runs before e)
after_runs-append [] later e = refl
after_runs-append (run ∷ before) later e = after_runs-append before later (run e)

module _ {Signal Point : Type 0} (system : System Signal Point) (scheduled : Scheduled system) where
  -- a run of a process is that of a block, and the other way round
  pub block_of : (run : Run Signal) → Contains system.processes run →
      (b : Block Signal) × Contains scheduled.blocks b × (b.run ≡ run)
  block_of run listed = Contains-from_map (λ (b : Block Signal). b.run) scheduled.blocks run
      (subst (λ runs. Contains runs run) scheduled.are_processes listed)

  pub run_of : (b : Block Signal) → Contains scheduled.blocks b → Contains system.processes b.run
  run_of b among = subst (λ runs. Contains runs b.run) (sym scheduled.are_processes)
      (Contains-map (λ (c : Block Signal). c.run) scheduled.blocks b among)

  -- the number of combinational signals of lower depth
  abbrev rank_of : Signal → ℕ
  rank_of s = rank system scheduled.depth s

  module _ (final : Environment Signal) (still : IsStill system final) where
    -- an environment has the settled one's inputs and registers
    abbrev HasGiven : Environment Signal → Type 0
    HasGiven e =
        (s : Signal) → IsTrue (system.is_input s) ⊎ IsTrue (system.is_register s) → e s ≡ final s

    -- it has the settled values of all combinational signals of lower depth
    abbrev HasLower : Environment Signal → Signal → Type 0
    HasLower e s =
        (t : Signal) → IsCombinational system t → scheduled.depth t < scheduled.depth s →
        e t ≡ final t

    module _ (b : Block Signal) (among : Contains scheduled.blocks b) (e : Environment Signal)
        (given : HasGiven e) where
      -- a run gives a target its settled value, where all lower signals had theirs
      run_settles : (s : Signal) → Contains b.targets s → HasLower e s → b.run e s ≡ final s
      run_settles s target lower =
          scheduled.made_from_lower b among s target e final (λ t input.
          given t (inl input)) (λ t register. given t (inr register)) lower
          ∙ still_at system final still b.run (run_of b among) s

      -- it keeps inputs and registers
      run_given : HasGiven (b.run e)
      run_given s kind =
          scheduled.leaves b among e s (λ target.
          one_kind system s kind (scheduled.targets_combinational b among s target))
          ∙ given s kind

      -- and the settled value of a signal, where all lower signals had theirs
      run_keeps : (s : Signal) → HasLower e s → e s ≡ final s → b.run e s ≡ final s
      run_keeps s lower is = either_way (b.run e s) (final s) (Contains b.targets s)
          (λ target. run_settles s target lower) (λ apart. scheduled.leaves b among e s apart ∙ is)

    -- settled up to a rank: inputs, registers and all combinational signals of lower rank have
    -- their settled values
    record Reached (n : ℕ) (e : Environment Signal) : Type 0 where
      given : HasGiven e
      below : (s : Signal) → IsCombinational system s → rank_of s < n → e s ≡ final s

    reached_lower : (n : ℕ) (e : Environment Signal) → Reached n e → (s : Signal) → rank_of s ≤ n →
        HasLower e s
    reached_lower n e reached s within t is lower =
        let rises = rank_rises system scheduled.depth t s is lower in
        reached.below t is (omega arith)

    -- a run undoes nothing
    run_reached : (run : Run Signal) → Contains system.processes run →
        (n : ℕ) (e : Environment Signal) → Reached n e → Reached n (run e)
    run_reached run listed n e reached =
        let found = block_of run listed in
        subst (λ (step : Run Signal). Reached n (step e)) found.2 (record {
          given = run_given found.0 found.1 e reached.given;
          below =
              λ s is low. run_keeps found.0 found.1 e reached.given s
              (reached_lower n e reached s (omega arith)) (reached.below s is low);
        })

    runs_reached : (runs : List (Run Signal)) → IsSchedule system runs
        → (n : ℕ) (e : Environment Signal)
        → Reached n e → Reached n (after_runs runs e)
    runs_reached [] all n e reached = reached
    runs_reached (run ∷ later) all n e reached =
        let listed = All-head (Contains system.processes) run later all in
        runs_reached later (All-tail (Contains system.processes) run later all) n (run e)
        (run_reached run listed n e reached)

    module _ (n : ℕ) (s : Signal) (within : rank_of s ≤ n) where
      -- a signal of the next rank keeps its settled value
      runs_keep : (runs : List (Run Signal)) → IsSchedule system runs → (e : Environment Signal)
          → Reached n e
          → e s ≡ final s → after_runs runs e s ≡ final s
      runs_keep [] all e reached is = is
      runs_keep (run ∷ later) all e reached is =
          let listed = All-head (Contains system.processes) run later all in
          let found = block_of run listed in
          let kept = run_keeps found.0 found.1 e reached.given s
          (reached_lower n e reached s within) is in
          runs_keep later (All-tail (Contains system.processes) run later all) (run e)
          (run_reached run listed n e reached)
          (subst (λ (step : Run Signal). step e s ≡ final s) found.2 kept)

      -- and gets it by a run that assigns it
      runs_settle : (runs : List (Run Signal)) → IsSchedule system runs → (e : Environment Signal)
          → Reached n e
          → (b : Block Signal) → Contains scheduled.blocks b → Contains b.targets s
          → Contains runs b.run → after_runs runs e s ≡ final s
      runs_settle [] all e reached b among target at = absurd (Contains-nil b.run at)
      runs_settle (run ∷ later) all e reached b among target at =
          let rest = All-tail (Contains system.processes) run later all in
          let then = run_reached run (All-head (Contains system.processes) run later all) n e
          reached in
          let settles = run_settles b among e reached.given s target
          (reached_lower n e reached s within) in
          ⊎_elim
          (λ is. runs_keep later rest (run e)
          then (subst (λ (step : Run Signal). step e s ≡ final s) (sym is) settles))
          (λ inside. runs_settle later rest (run e) then b among target inside)
          (Contains-cases run later b.run at)

    -- a round settles one rank more
    round_reaches : (round : List (Run Signal)) → IsRound system round
        → (n : ℕ) (e : Environment Signal)
        → Reached n e → Reached (suc n) (after_runs round e)
    round_reaches round is_round n e reached = record {
      given = Reached.given (runs_reached round is_round.schedule n e reached);
      below = λ s is low.
          let found = scheduled.assigned s is in
          runs_settle n s (omega arith) round is_round.schedule e reached found.0 found.1 found.2
          (All-contains (Contains round) system.processes found.0.run is_round.whole
          (run_of found.0 found.1));
    }

    rounds_reach : (rounds : List (List (Run Signal))) → All (IsRound system) rounds
        → (n : ℕ) (e : Environment Signal) → Reached n e
        → Reached (n + length rounds) (after_runs (flat_map (λ round. round) rounds) e)
    rounds_reach [] all n e reached = subst (λ m. Reached m e) (omega arith) reached
    rounds_reach (round ∷ rounds) all n e reached =
        let later = flat_map (λ r. r) rounds in
        let more = rounds_reach rounds (All-tail (IsRound system) round rounds all) (suc n)
        (after_runs round e)
        (round_reaches round (All-head (IsRound system) round rounds all) n e reached) in
        let counted : suc n + length rounds ≡ n + length (round ∷ rounds) = omega arith in
        subst (λ (f : Environment Signal).
        Reached (n + length (round ∷ rounds)) f) (sym (after_runs-append round later e))
        (subst (λ m. Reached m (after_runs later (after_runs round e))) counted more)

    -- an environment at rest has all settled values, by depth
    rest_below : (e : Environment Signal) → HasGiven e → IsStill system e
        → (n : ℕ) (s : Signal) → IsCombinational system s → scheduled.depth s < n → e s ≡ final s
    rest_below e given rests zero s is low = absurd (omega arith)
    rest_below e given rests (suc n) s is low =
        let found = scheduled.assigned s is in
        sym (still_at system e rests found.0.run (run_of found.0 found.1) s)
        ∙ run_settles found.0 found.1 e given s found.2 (λ t t_is lower.
        rest_below e given rests n t t_is (omega arith))

    -- an environment that has all settled values is at rest
    all_still : (e : Environment Signal) → HasGiven e →
        ((s : Signal) → IsCombinational system s → e s ≡ final s) → IsStill system e
    all_still e given all = still_from system e (λ run listed s.
        let found = block_of run listed in
        subst (λ (step : Run Signal).
        step e s ≡ e s) found.2 (either_way (found.0.run e s) (e s) (Contains found.0.targets s)
        (λ target.
        run_settles found.0 found.1 e given s target (λ t is lower. all t is)
        ∙ sym (all s (scheduled.targets_combinational found.0 found.1 s target)))
        (scheduled.leaves found.0 found.1 e s)))

module _ {Signal Point : Type 0} (system : System Signal Point) (ordered : Ordered system)
    (scheduled : Scheduled system)
    (start : Environment Signal) (start_fits : Fits system start) where
  kind_fits : (kind : Signal → Bool) → KindFits kind system start
  kind_fits kind =
      each (λ s. IsTrue (kind s) → start s < 2 ^ system.width s) system.signals (λ s within is.
      fits_at system start start_fits s within)

  -- the settled environment of the start's registers and inputs
  final : Environment Signal
  final = settle system ordered start start

  final_settled : Settled system start start final
  unfolding final
  final_settled =
      settle_settles system ordered start start (kind_fits system.is_register)
      (kind_fits system.is_input)

  start_reached : Reached system scheduled final final_settled.still 0 start
  start_reached = record {
    given =
        λ s kind. ⊎_elim (λ input. sym (final_settled.inputs_are s input)) (λ register.
        sym (final_settled.registers s register)) kind;
    below = λ s is low. absurd (omega arith);
  }

  -- an environment that has all its values is the one settled environment
  is_final : (e : Environment Signal) → HasGiven system scheduled final final_settled.still e
      → ((s : Signal) → IsCombinational system s → e s ≡ final s)
      → IsTheSettled system start start e
  is_final e given all =
      let same = λ (s : Signal) (within : Contains system.signals s).
      ⊎_elim (given s) (all s) (kinds system s within) in
      let settled : Settled system start start e = record {
        registers = λ s register. given s (inr register) ∙ final_settled.registers s register;
        inputs_are = λ s input. given s (inl input) ∙ final_settled.inputs_are s input;
        fits = fits_from system e (λ s within.
            subst (λ n. n < 2 ^ system.width s) (sym (same s within))
            (fits_at system final final_settled.fits s within));
        still = all_still system scheduled final final_settled.still e given all;
      } in
      record {
        settled = settled;
        alone = λ other other_settled. each (λ s. e s ≡ other s) system.signals
            (settled_agree system ordered start start start e other (λ s register.
            refl) settled other_settled);
      }

  rest_settles : (schedule : List (Run Signal)) → IsSchedule system schedule
      → IsStill system (after_runs schedule start)
      → IsTheSettled system start start (after_runs schedule start)
  rest_settles schedule all rests =
      let given = Reached.given
      (runs_reached system scheduled final final_settled.still schedule all 0 start
      start_reached) in
      is_final (after_runs schedule start) given (λ s is.
      rest_below system scheduled final final_settled.still (after_runs schedule start) given rests
      (suc (scheduled.depth s)) s is (omega arith))

  rounds_settle : (rounds : List (List (Run Signal))) → All (IsRound system) rounds
      → length (combinational system) ≤ length rounds
      → IsTheSettled system start start (after_runs (flat_map (λ round. round) rounds) start)
  rounds_settle rounds all enough =
      let reached = rounds_reach system scheduled final final_settled.still rounds all 0 start
      start_reached in
      is_final (after_runs (flat_map (λ round. round) rounds) start) reached.given (λ s is.
      let low = rank_below system scheduled.depth s is in reached.below s is (omega arith))

-- a schedule that comes to rest has come to the one settled environment
pub rest_is_settled : {Signal Point : Type 0} (system : System Signal Point) → Ordered system →
    Scheduled system → RestIsSettled system
rest_is_settled system ordered scheduled start schedule fits =
    rest_settles system ordered scheduled start fits schedule

-- so does a schedule of enough rounds
pub enough_rounds_settle : {Signal Point : Type 0} (system : System Signal Point) → Ordered system →
    Scheduled system → RoundsSettle system
enough_rounds_settle system ordered scheduled start rounds fits =
    rounds_settle system ordered scheduled start fits rounds
