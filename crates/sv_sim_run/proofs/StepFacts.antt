-- What the calls of a reader and of a sink say of a simulation.
use Rattle.std.proofs.Common.{◌≡◌, ℕ, ◌+◌, ◌*◌, ◌≤◌, true, false, List, [], ◌++◌, length}
use Rattle.std.proofs.Common.{refl, sym, ap, subst, ◌∙◌, arith, Option, Some, None, length-append}
use Rattle.std.proofs.Common.{append-nil, inl, inr, ⊎_elim, Bool, cond}
use Rattle.std.specs.Prelude.{Result, Ok, Err, IfSome, unwrap_or}
use Rattle.std.proofs.lemmas.Bool.{false≢true}
use Rattle.sv_io.specs.Count.{Rose}
use Rattle.sv_trace.specs.declared.faults.StimFault.{StimFault}
use Rattle.sv_trace.specs.declared.faults.StimFault.TheVariants as stim
use Rattle.sv_texts.specs.declared.stimuli.StimKind.{StimKind}
use Rattle.sv_trace.specs.Reading.{Reading, HasRead, HasFed, UnlessFull, answer_of}
use Rattle.sv_trace.specs.Stimulus.{LinesRead, fault_of, read_front, read_whole}
use Rattle.sv_sim_run.specs.declared.endings.Ending.{Ending}
use Rattle.sv_sim_run.specs.declared.endings.Ending.TheVariants as ending
use Rattle.sv_sim_run.specs.declared.simulations.Simulation.{Simulation}
use Rattle.sv_sim_run.specs.Progress.{HasRunCycles, HasRoom, HasCome}
use Rattle.sv_sim_run.specs.Runners.{rounds_in}
use Rattle.sv_sim_run.specs.Runs.{ending_from}
use Rattle.sv_sim_run.specs.Simulated.{largest_stimulus, ending_of}
use Rattle.sv_sim_run.proofs.ReadFacts.{front_count, whole_count}

-- a count that is no less before a call that raised it was raised
pub rose_then : (old mid new : ℕ) → old ≤ mid → Rose mid new → Rose old new
rose_then old mid new first rose =
    ⊎_elim (λ more. inl (omega (arith, first, more))) (λ most. inr most) rose

-- what a reader's answer that is no fault of memory says
pub unless_full : (r : Result (Unit {0}) StimFault) (P : Type 0) (found : Option Ending)
    → ending_from r ≡ Ok found → UnlessFull r P → P
unless_full (Ok done) P found is fact = fact
unless_full (Err (stim.Line number kind)) P found is fact = fact
unless_full (Err stim.OutOfMemory) P found is fact = cc

-- a reader that has ended has read the whole, where its answer is no fault of memory
pub whole_reads : (r : Result (Unit {0}) StimFault) (old new : Reading) (found : Option Ending)
    → ending_from r ≡ Ok found
    → UnlessFull r ((bytes : List ℕ) (taken : List (List ℕ)) → HasFed bytes taken old →
    HasRead (read_whole new.form bytes) taken new)
    → (bytes : List ℕ) (taken : List (List ℕ)) → HasFed bytes taken old
    → HasRead (read_whole new.form bytes) taken new
whole_reads r old new found is fact =
    unless_full r ((bytes : List ℕ) (taken : List (List ℕ)) → HasFed bytes taken old →
    HasRead (read_whole new.form bytes) taken new) found is fact

-- and one that took a piece has read it too
pub fed_reads : (r : Result (Unit {0}) StimFault) (old new : Reading) (piece : List ℕ)
    (found : Option Ending)
    → ending_from r ≡ Ok found
    → UnlessFull r ((bytes : List ℕ) (taken : List (List ℕ)) → HasFed bytes taken old →
    HasFed (bytes ++ piece) taken new)
    → (bytes : List ℕ) (taken : List (List ℕ)) → HasFed bytes taken old
    → HasFed (bytes ++ piece) taken new
fed_reads r old new piece found is fact =
    unless_full r ((bytes : List ℕ) (taken : List (List ℕ)) → HasFed bytes taken old →
    HasFed (bytes ++ piece) taken new) found is fact

-- the ending of a whole stimulus
pub ended_is : (read : LinesRead) (found : Option Ending)
    → ending_from (answer_of (fault_of read)) ≡ Ok found
    → unwrap_or found ending.Done ≡ ending_of true read
ended_is read found is = go read.wrong read.right is
  where
    go : (wrong : Option StimKind) (right : List (List ℕ))
        → ending_from (answer_of (fault_of (record { right = right; wrong = wrong }))) ≡ Ok found
        → unwrap_or found ending.Done
        ≡ ending_of true (record { right = right; wrong = wrong })
    go None right e =
        let none : found ≡ None = cc in ap (λ o. unwrap_or o ending.Done) none
    go (Some kind) right e =
        let some : found ≡ Some (ending.WrongLine (length right + 1) kind) = cc in
        ap (λ o. unwrap_or o ending.Done) some

-- the cycles that were run have room for those of what is read now
pub room_of : (s new : Simulation) (read : LinesRead) (taken : List (List ℕ))
    (before accepted : List ℕ) → HasRunCycles taken before accepted s
    → HasRead read taken new.reader → length read.right ≤ largest_stimulus + 1
    → new ≡ record s { reader = new.reader }
    → HasRoom new
room_of s new read taken before accepted ran has few is =
    subst HasRoom (sym is) (record {
      read = read;
      taken = taken;
      has = has;
      few = few;
      cycle = ran.cycle;
      rounds = subst (λ n. IfSome (rounds_in s.runner) (λ rounds. rounds ≤ n * 4294967295))
          (sym ran.cycle) ran.few;
    })

pub front_room : (r : Reading) (bytes piece : List ℕ)
    → length bytes + length piece ≤ largest_stimulus
    → length (read_front r.form (bytes ++ piece)).right ≤ largest_stimulus + 1
front_room r bytes piece within =
    omega (arith, within, front_count r.form (bytes ++ piece), length-append bytes piece)

pub whole_room : (r : Reading) (bytes : List ℕ) → length bytes + 0 ≤ largest_stimulus
    → length (read_whole r.form bytes).right ≤ largest_stimulus + 1
whole_room r bytes within = omega (arith, within, whole_count r.form bytes)

-- nothing was read yet
pub come_new : (s : Simulation) (before : List ℕ) → HasFed [] [] s.reader
    → s.is_started ≡ false → s.cycle ≡ 0 → IfSome (rounds_in s.runner) (λ n. n ≡ 0)
    → s.waiting.items ≡ [] → HasCome [] before before s
come_new s before fed unstarted number rounds empty = record {
  taken = [];
  fed = fed;
  all = ap length fed.read.lines.cycles;
  ran = record {
    trace = [];
    same_count = refl;
    run = λ started. absurd (false≢true (sym unstarted ∙ started));
    none = λ _. refl;
    cycle = number;
    few = none_yet (rounds_in s.runner) rounds;
    lines = record {
      front = [];
      whole = sym empty;
      accepted = sym (append-nil before);
    };
  };
  put = empty;
}
  where
    none_yet : (o : Option ℕ) → IfSome o (λ n. n ≡ 0) → IfSome o (λ n. n ≤ 0 * 4294967295)
    none_yet None none = tt
    none_yet (Some n) none = omega (arith, none)

-- a start that is known is that of the lines
pub known_start : (begun : Bool) (x start : List ℕ)
    → Some x ≡ cond begun (Some start) None → (x ≡ start) × (begun ≡ true)
known_start true x start is = let same : x ≡ start = cc in (same, refl)
known_start false x start is = cc
