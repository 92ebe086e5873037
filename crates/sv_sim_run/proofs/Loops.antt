-- What follows from how far a simulation has come, at each end of the loop over the pieces.
use Rattle.std.proofs.Common.{◌≡◌, ℕ, ◌+◌, ◌<◌, ◌≤◌, ◌^◌, Bool, true, false, List, [], ◌++◌}
use Rattle.std.proofs.Common.{length, take, drop, refl, sym, ap, ◌∙◌, subst, Option, Some, None}
use Rattle.std.proofs.Common.{arith}
use Rattle.std.proofs.Common.{append-nil, append_assoc, length-append, ◌⊎◌, ⊎_elim}
use Rattle.std.proofs.Common.{◌-◌, ◌==◌, cond}
use Rattle.std.specs.Prelude.{Result, Ok, Err, option_map, IfOk, OnErr, IsErr}
use Rattle.std.specs.Prelude.{IsTrue, IsFalse}
use Rattle.std.specs.Prelude.{if◌then◌else◌}
use Rattle.std.proofs.Math.Seq.{take-append-add}
use Rattle.std.proofs.lemmas.Bool.{lt-leb, le-leb, cases_eq, eq-eqb, ne_eqb, eqb-false, eqb-true}
use Rattle.std.proofs.lemmas.Bool.{false≢true}
use Rattle.std.proofs.lemmas.List.{take_all, take-append-drop, length-take}
use Rattle.std.proofs.lemmas.List.{append_cancel_left}
use Rattle.sv_io.specs.Source.{WhateverFollows}
use Rattle.sv_lattice.specs.declared.points.Point.{Point}
use Rattle.sv_flat.specs.declared.designs.Flat.{Flat}
use Rattle.sv_flat.specs.Views.{design_of}
use Rattle.sv_texts.specs.declared.stimuli.StimKind.{StimKind}
use Rattle.sv_trace.specs.declared.faults.StimFault.{StimFault}
use Rattle.sv_trace.specs.declared.faults.StimFault.TheVariants.{Line, OutOfMemory}
use Rattle.sv_trace.specs.Forms.{StimForm}
use Rattle.sv_trace.specs.Reading.{answer_of}
use Rattle.sv_trace.specs.Stimulus.{LinesRead, read_front, read_whole, fault_of}
use Rattle.sv_trace.proofs.ReaderFacts.{wrong_of, room_left}
use Rattle.sv_sim_run.specs.declared.endings.Ending.{Ending}
use Rattle.sv_sim_run.specs.declared.endings.Ending.TheVariants as ending
use Rattle.sv_sim_run.specs.declared.endings.SimFault.{SimFault}
use Rattle.sv_sim_run.specs.declared.simulations.Simulation.{Simulation}
use Rattle.sv_sim_run.specs.Fronts.{WritesAllAt, StopsAt, Takes}
use Rattle.sv_sim_run.specs.Fronts.{IsUnderWay, PieceReads, EndsWith, StopsWith}
use Rattle.sv_sim_run.specs.Progress.{flat_of, IsSimulating, HasCome, HasEnded, HasFailed}
use Rattle.sv_sim_run.specs.Progress.{HasReached, IsSameAs, LeavesRoom}
use Rattle.sv_sim_run.specs.Runners.{order_in}
use Rattle.sv_sim_run.specs.Runs.{ending_from}
use Rattle.sv_sim_run.specs.Simulated.{largest_stimulus, is_within, read_of, ending_of}
use Rattle.sv_sim_run.specs.Simulated.{WritesFrontAt}
use Rattle.sv_sim_run.proofs.CallFacts.{on_error}
use Rattle.sv_sim_run.proofs.Reached.{failed_front, come_failed, come_all, empty}
use Rattle.sv_sim_run.proofs.ReadFronts.{same_grows}
use Rattle.sv_sim_run.proofs.ReadOf.{within_reads, front_grows, over_more, wrong_reads, ends_wrong}
use Rattle.sv_sim_run.proofs.ReadOf.{ends_large}

-- ---- answers of the reader

pub right_so_far : (fault : Option StimFault) → ending_from (answer_of fault) ≡ Ok None
    → fault ≡ None
right_so_far None e = refl
right_so_far (Some (Line number kind)) e = cc
right_so_far (Some OutOfMemory) e = cc

record Wrong (fault : Option StimFault) (ends : Ending) : Type 0 where
  number : ℕ
  kind : StimKind
  is : fault ≡ Some (Line number kind)
  ends_so : ends ≡ ending.WrongLine number kind

wrong_fault : (fault : Option StimFault) (ends : Ending)
    → ending_from (answer_of fault) ≡ Ok (Some ends) → Wrong fault ends
wrong_fault None ends e = absurd (cc)
wrong_fault (Some (Line number kind)) ends e =
    record { number = number; kind = kind; is = refl; ends_so = cc }
wrong_fault (Some OutOfMemory) ends e = absurd (cc)

number_of : (read : LinesRead) (number : ℕ) (kind : StimKind)
    → fault_of read ≡ Some (Line number kind) → length read.right + 1 ≡ number
number_of read number kind e = go read.wrong e
  where
    go : (o : Option StimKind) → option_map (Line (length read.right + 1)) o
        ≡ Some (Line number kind) → length read.right + 1 ≡ number
    go None e = cc
    go (Some k) e = cc

none_wrong : (read : LinesRead) → fault_of read ≡ None → read.wrong ≡ None
none_wrong read e = go read.wrong e
  where
    go : (o : Option StimKind) → option_map (Line (length read.right + 1)) o ≡ None → o ≡ None
    go None e = refl
    go (Some k) e = cc

-- ---- between two pieces

pub come_within : (taken before accepted : List ℕ) (s : Simulation)
    → length taken ≤ largest_stimulus
    → HasCome (take largest_stimulus taken) before accepted s → HasCome taken before accepted s
come_within taken before accepted s within come =
    subst (λ bytes. HasCome bytes before accepted s) (take_all largest_stimulus taken within) come

come_ended : (bytes before accepted : List ℕ) (s : Simulation) → HasCome bytes before accepted s
    → HasEnded (read_front s.reader.form bytes) before accepted s
come_ended bytes before accepted s come = record {
  taken = come.taken;
  read_all = come.fed.read;
  all = come.all;
  ran = come.ran;
  put = come.put;
}

-- room for the number of the next line and a piece
pub has_room : (taken before accepted : List ℕ) (s : Simulation) (more : ℕ)
    → HasCome taken before accepted s → s.reader.fault ≡ None → length taken ≤ largest_stimulus
    → more ≤ 65536 → s.reader.said.line + length s.reader.rest + more < 2 ^ 64
has_room taken before accepted s more come right within few =
    let room = room_left taken come.taken s.reader come.fed right in
    omega (arith, room)

-- ---- fronts

-- of a stimulus that begins with what was read
pub front_of : (first rest total before accepted : List ℕ) (s : Simulation) (order : Option ℕ)
    → IsSimulating s → HasFailed (read_front s.reader.form first) before accepted s
    → length first ≤ largest_stimulus → total ≡ first ++ rest
    → WritesFrontAt (flat_of s) (Some s.level) order total before accepted
front_of first rest total before accepted s order made failed within is =
    subst (λ bytes. WritesFrontAt (flat_of s) (Some s.level) order bytes before accepted) (sym is)
    (failed_front (read_front s.reader.form first) (first ++ rest) before accepted s order made
    failed (front_grows largest_stimulus s.reader.form first rest within))

pub front_of_come : (first rest total before accepted : List ℕ) (s : Simulation)
    (order : Option ℕ) → IsSimulating s → HasCome first before accepted s
    → length first ≤ largest_stimulus → total ≡ first ++ rest
    → WritesFrontAt (flat_of s) (Some s.level) order total before accepted
front_of_come first rest total before accepted s order made come within is =
    front_of first rest total before accepted s order made
    (come_failed first before accepted s come) within is

pub front_of_all : (bytes before accepted : List ℕ) (s : Simulation) (order : Option ℕ)
    → IsSimulating s → HasFailed (read_whole s.reader.form bytes) before accepted s
    → length bytes ≤ largest_stimulus
    → WritesFrontAt (flat_of s) (Some s.level) order bytes before accepted
front_of_all bytes before accepted s order made failed within =
    failed_front (read_whole s.reader.form bytes) bytes before accepted s order made failed
    (same_grows (read_whole s.reader.form bytes) (read_of s.reader.form bytes)
    (within_reads largest_stimulus s.reader.form bytes within))

-- ---- endings

pub reached_end : (bytes before accepted : List ℕ) (ends : Ending) (s : Simulation)
    → IsSimulating s → length bytes ≤ largest_stimulus
    → HasEnded (read_whole s.reader.form bytes) before accepted s
    → ends ≡ ending_of true (read_whole s.reader.form bytes)
    → HasReached bytes ends before accepted s
reached_end bytes before accepted ends s made within ended is =
    let same = within_reads largest_stimulus s.reader.form bytes within in
    record {
      made = made;
      ended = subst (λ (read : LinesRead). HasEnded read before accepted s) (sym same) ended;
      is = is
          ∙ ap (λ b. ending_of b (read_whole s.reader.form bytes))
          (sym (le-leb (length bytes) largest_stimulus within))
          ∙ ap (ending_of (is_within bytes)) (sym same);
    }

-- where what was read of the stimulus is what the simulation has come through
reached_so : (first bytes before accepted : List ℕ) (ends : Ending) (s : Simulation)
    → IsSimulating s → HasCome first before accepted s
    → read_of s.reader.form bytes ≡ read_front s.reader.form first
    → ends ≡ ending_of (is_within bytes) (read_front s.reader.form first)
    → HasReached bytes ends before accepted s
reached_so first bytes before accepted ends s made come same is = record {
  made = made;
  ended = subst (λ (read : LinesRead). HasEnded read before accepted s) (sym same)
      (come_ended first before accepted s come);
  is = is ∙ ap (ending_of (is_within bytes)) (sym same);
}

-- a wrong line, whatever follows
pub reached_wrong : (first taken more before accepted : List ℕ) (ends : Ending) (s : Simulation)
    → IsSimulating s → HasCome first before accepted s → take largest_stimulus taken ≡ first
    → ending_from (answer_of s.reader.fault) ≡ Ok (Some ends)
    → HasReached (taken ++ more) ends before accepted s
reached_wrong first taken more before accepted ends s made come is found =
    let form : StimForm = s.reader.form in
    let read : LinesRead = read_front form first in
    let fault = wrong_fault s.reader.fault ends found in
    let told : fault_of read ≡ Some (Line fault.number fault.kind) =
    sym come.fed.read.fault ∙ fault.is in
    let wrong = wrong_of read fault.number fault.kind told in
    let same : read_of form (taken ++ more) ≡ read =
    wrong_reads largest_stimulus form taken more fault.kind
    (ap (λ bytes. (read_front form bytes).wrong) is ∙ wrong)
    ∙ ap (read_front form) is in
    reached_so first (taken ++ more) before accepted ends s made come same
    (fault.ends_so
    ∙ ap (λ n. ending.WrongLine n fault.kind) (sym (number_of read fault.number fault.kind told))
    ∙ sym (ends_wrong (is_within (taken ++ more)) read fault.kind wrong))

-- too many bytes, whatever follows
pub reached_large : (taken more before accepted : List ℕ) (s : Simulation) → IsSimulating s
    → HasCome (take largest_stimulus taken) before accepted s → s.reader.fault ≡ None
    → largest_stimulus < length taken
    → HasReached (taken ++ more) ending.TooLarge before accepted s
reached_large taken more before accepted s made come right over =
    let form : StimForm = s.reader.form in
    let first : List ℕ = take largest_stimulus taken in
    let read : LinesRead = read_front form first in
    let longer : largest_stimulus < length (taken ++ more) =
    omega (arith, length-append taken more) in
    reached_so first (taken ++ more) before accepted ending.TooLarge s made come
    (over_more largest_stimulus form taken more over)
    (sym (ends_large read (none_wrong read (sym come.fed.read.fault ∙ right)))
    ∙ ap (λ b. ending_of b read)
    (sym (lt-leb (length (taken ++ more)) largest_stimulus longer)))

-- the same with nothing behind
pub nothing_behind : (bytes before accepted : List ℕ) (ends : Ending) (s : Simulation)
    → HasReached (bytes ++ []) ends before accepted s → HasReached bytes ends before accepted s
nothing_behind bytes before accepted ends s reached =
    subst (λ all. HasReached all ends before accepted s) (append-nil bytes) reached

-- ---- a piece

-- a piece that is read whole
abbrev Fits : (bytes piece : List ℕ) → (left : ℕ) → Type 0
Fits bytes piece left = left + length piece + length bytes ≡ largest_stimulus + 1

-- the part of a piece that is read, and the bytes before
taken_front : (bytes piece : List ℕ) (left within : ℕ) → Fits bytes piece left
    → 0 < length piece → within ≡ (if left == 0 then length piece - 1 else length piece)
    → take largest_stimulus (bytes ++ piece) ≡ bytes ++ take within piece
taken_front bytes piece left within fits some is = by_left (cases_eq left 0)
  where
    by_left : (left ≡ 0) ⊎ (left ≡ 0 → ⊥)
        → take largest_stimulus (bytes ++ piece) ≡ bytes ++ take within piece
    by_left h = ⊎_elim
        (λ none.
        let part : within ≡ length piece - 1 =
        is ∙ ap (λ b. cond b (length piece - 1) (length piece)) (eq-eqb left 0 none) in
        let limit : largest_stimulus ≡ length bytes + within = omega (arith, part) in
        ap (λ n. take n (bytes ++ piece)) limit ∙ take-append-add bytes piece within)
        (λ more.
        let part : within ≡ length piece =
        is ∙ ap (λ b. cond b (length piece - 1) (length piece)) (ne_eqb left 0 more) in
        take_all largest_stimulus (bytes ++ piece) (omega (arith, length-append bytes piece))
        ∙ ap (λ ps. bytes ++ ps) (sym (take_all within piece (omega (arith, part)))))
        h

module _ (bytes piece : List ℕ) (left : ℕ) (before accepted accepted_new : List ℕ)
    (old new : Simulation)
    (way : IsUnderWay bytes (left + length piece) before accepted old) where
  -- all before the piece is within the limit
  pub before_within : 0 < left + length piece → length bytes ≤ largest_stimulus
  before_within some = omega (arith, way.count)

  pub come_before : 0 < left + length piece → HasCome bytes before accepted old
  come_before some = come_within bytes before accepted old (before_within some) way.come

  -- an empty piece is the end, with nothing behind it
  at_the_end : (length piece == 0) ≡ true → (more : List ℕ) → (piece ≡ [] → more ≡ [])
      → bytes ++ (piece ++ more) ≡ bytes
  at_the_end none more behind =
      let empty_piece : piece ≡ [] = empty piece (eqb-true (length piece) 0 none) in
      ap (λ ps. bytes ++ (ps ++ more)) empty_piece ∙ ap (λ ms. bytes ++ ms) (behind empty_piece)
      ∙ append-nil bytes

  -- the end was read
  pub piece_ends : (ends : Ending) → 0 < left + length piece → (length piece == 0) ≡ true
      → IsSimulating new
      → ((bytes before : List ℕ) → HasCome bytes before accepted old
      → HasEnded (read_whole new.reader.form bytes) before accepted_new new
      × (ends ≡ ending_of true (read_whole new.reader.form bytes)))
      → PieceReads bytes piece left before accepted_new (Ok (Some ends)) old new
  piece_ends ends some none made ended = λ more behind.
      let end = ended bytes before (come_before some) in
      subst (λ all. HasReached all ends before accepted_new new)
      (sym (at_the_end none more behind))
      (reached_end bytes before accepted_new ends new made (before_within some) end.0 end.1)

  -- or not
  pub piece_end_stops : (fault : SimFault) → 0 < left + length piece
      → (length piece == 0) ≡ true
      → ((bytes before : List ℕ) → HasCome bytes before accepted old
      → HasFailed (read_front old.reader.form bytes) before accepted_new old
      ⊎ HasFailed (read_whole old.reader.form bytes) before accepted_new old)
      → PieceReads bytes piece left before accepted_new (Err fault) old new
  piece_end_stops fault some none front = λ more behind.
      subst (λ all. StopsAt all before accepted_new old) (sym (at_the_end none more behind))
      (⊎_elim
      (λ failed. front_of bytes [] bytes before accepted_new old (order_in old.runner) way.made
      failed (before_within some) (sym (append-nil bytes)))
      (λ failed. front_of_all bytes before accepted_new old (order_in old.runner) way.made failed
      (before_within some))
      (front bytes before (come_before some)))

  pub piece_end_fails : (r : Result (Option Ending) SimFault) → IsErr r
      → 0 < left + length piece → (length piece == 0) ≡ true
      → ((bytes before : List ℕ) → HasCome bytes before accepted old
      → HasFailed (read_front old.reader.form bytes) before accepted_new old
      ⊎ HasFailed (read_whole old.reader.form bytes) before accepted_new old)
      → PieceReads bytes piece left before accepted_new r old new
  piece_end_fails (Ok found) is some none front = absurd (false≢true is)
  piece_end_fails (Err fault) is some none front = piece_end_stops fault some none front

  -- what is said where a part of the piece was read, and where it was not
  abbrev PartCame : (part : List ℕ) → Result (Option Ending) SimFault → Type 0
  PartCame part r = IfOk r (λ found. (bytes before : List ℕ) → HasCome bytes before accepted old
      → HasCome (bytes ++ part) before accepted_new new)

  abbrev PartEnds : Result (Option Ending) SimFault → Type 0
  PartEnds r = IfOk r (λ found. ending_from (answer_of new.reader.fault) ≡ Ok found)

  abbrev PartStops : (part : List ℕ) → Result (Option Ending) SimFault → Type 0
  PartStops part r = OnErr r ((bytes before : List ℕ) → HasCome bytes before accepted old
      → (first rest : List ℕ) × (bytes ++ part ≡ first ++ rest)
      × HasFailed (read_front old.reader.form first) before accepted_new old)

  -- a piece was read, or not
  pub piece_reads : (part : List ℕ) (within : ℕ) (r : Result (Option Ending) SimFault)
      → 0 < length piece → within ≡ (if left == 0 then length piece - 1 else length piece)
      → part ≡ take within piece → IsSimulating new → IsFalse new.reader.finished
      → PartCame part r → PartEnds r → PartStops part r
      → PieceReads bytes piece left before accepted_new r old new
  piece_reads part within r some is parted made going = by_result r
    where
      front : take largest_stimulus (bytes ++ piece) ≡ bytes ++ part
      front = taken_front bytes piece left within way.count some is
          ∙ ap (λ ps. bytes ++ ps) (sym parted)

      few : length (bytes ++ part) ≤ largest_stimulus
      few = omega (arith, ap length front, length-take largest_stimulus (bytes ++ piece))

      here : HasCome bytes before accepted old
      here = come_before (omega arith)

      by_result : (r : Result (Option Ending) SimFault)
          → PartCame part r → PartEnds r → PartStops part r
          → PieceReads bytes piece left before accepted_new r old new
      by_result (Ok None) come found stops = (
        some,
        record {
          made = made;
          going = going;
          right = right_so_far new.reader.fault found;
          count = omega (arith, way.count, length-append bytes piece);
          come = subst (λ all. HasCome all before accepted_new new) (sym front)
              (come bytes before here);
        },
      )
      by_result (Ok (Some ends)) come found stops = λ more behind.
          subst (λ all. HasReached all ends before accepted_new new)
          (append_assoc bytes piece more)
          (reached_wrong (bytes ++ part) (bytes ++ piece) more before accepted_new ends new made
          (come bytes before here) front found)
      by_result (Err fault) come found stops = λ more behind.
          let s = stops bytes before here in
          let rest : List ℕ = s.1 ++ (drop within piece ++ more) in
          let whole : bytes ++ (piece ++ more) ≡ s.0 ++ rest =
          ap (λ ps. bytes ++ (ps ++ more))
          (sym (take-append-drop within piece) ∙ ap (λ ps. ps ++ drop within piece) (sym parted))
          ∙ ap (λ ps. bytes ++ ps) (append_assoc part (drop within piece) more)
          ∙ sym (append_assoc bytes part (drop within piece ++ more))
          ∙ ap (λ ps. ps ++ (drop within piece ++ more)) s.2
          ∙ append_assoc s.0 s.1 (drop within piece ++ more) in
          front_of s.0 rest (bytes ++ (piece ++ more)) before accepted_new old
          (order_in old.runner) way.made s.3
          (omega (arith, few, ap length s.2, length-append s.0 s.1)) whole

-- ---- all pieces

pub takes_more : (tells : Bool) (g0 g1 g2 l0 l1 l2 taken piece : List ℕ)
    → Takes tells g0 g1 l0 l1 taken → Takes tells g1 g2 l1 l2 piece
    → Takes tells g0 g2 l0 l2 (taken ++ piece)
takes_more tells g0 g1 g2 l0 l1 l2 taken piece first second = record {
  given = second.given ∙ ap (λ g. g ++ piece) first.given ∙ append_assoc g0 taken piece;
  next = λ told. first.next told ∙ ap (λ l. taken ++ l) (second.next told)
      ∙ sym (append_assoc taken piece l2);
}

pub takes_none : (tells : Bool) (given left : List ℕ) → Takes tells given given left left []
takes_none tells given left =
    record { given = sym (append-nil given); next = λ told. refl }

-- what is said of one simulation is said of another with the same design, level and order
pub stops_same : (bytes before accepted : List ℕ) (old new : Simulation) → IsSameAs old new
    → StopsAt bytes before accepted new → StopsAt bytes before accepted old
stops_same bytes before accepted old new same stops =
    subst (λ (f : Flat). WritesFrontAt (design_of f) (Some old.level) (order_in old.runner) bytes
    before accepted) same.design
    (subst (λ (l : Option Point). WritesFrontAt (flat_of new) (Some l) (order_in old.runner) bytes
    before accepted) same.level
    (subst (λ (o : Option ℕ). WritesFrontAt (flat_of new) (Some new.level) o bytes before accepted)
    same.order stops))

pub all_same : (bytes before accepted : List ℕ) (old new : Simulation) → IsSameAs old new
    → WritesAllAt (flat_of new) new.level bytes before accepted
    → WritesAllAt (flat_of old) old.level bytes before accepted
all_same bytes before accepted old new same all =
    subst (λ (f : Flat). WritesAllAt (design_of f) old.level bytes before accepted) same.design
    (subst (λ (l : Option Point). WritesAllAt (flat_of new) l bytes before accepted) same.level all)

-- a reading begins
pub under_way : (before : List ℕ) (s : Simulation) → IsSimulating s → IsFalse s.reader.finished
    → HasCome [] before before s → IsUnderWay [] (largest_stimulus + 1) before before s
under_way before s made going come = record {
  made = made;
  going = going;
  right = come.fed.read.fault;
  count = omega arith;
  come = come;
}

module _ (tells : Bool) (g0 g1 l0 l1 taken : List ℕ) (left : ℕ) (before accepted : List ℕ)
    (s : Simulation) (takes : Takes tells g0 g1 l0 l1 taken)
    (way : IsUnderWay taken left before accepted s) where
  -- whatever follows the bytes that were taken
  pub stops_open : (ended : Bool)
      → WhateverFollows ended g0 g1 (λ bytes. StopsAt bytes before accepted s)
  stops_open ended goes_on bytes more is =
      let first : List ℕ = take largest_stimulus taken in
      let rest : List ℕ = drop largest_stimulus taken in
      let few : length first ≤ largest_stimulus =
      omega (arith, length-take largest_stimulus taken) in
      let same : taken ≡ bytes = append_cancel_left g0 taken bytes (sym takes.given ∙ is) in
      subst (λ all. StopsAt (all ++ more) before accepted s) same
      (front_of_come first (rest ++ more) (taken ++ more) before accepted s (order_in s.runner)
      way.made way.come few
      (ap (λ all. all ++ more) (sym (take-append-drop largest_stimulus taken))
      ∙ append_assoc first rest more))

  -- nothing more could be taken
  pub stops_taken : StopsWith tells g0 g1 l0 l1 before accepted s
  stops_taken =
      let first : List ℕ = take largest_stimulus taken in
      let few : length first ≤ largest_stimulus =
      omega (arith, length-take largest_stimulus taken) in
      record {
        taken = taken;
        takes = takes;
        few = omega (arith, way.count);
        front = front_of_come first (drop largest_stimulus taken) taken before accepted s
            (order_in s.runner) way.made way.come few
            (sym (take-append-drop largest_stimulus taken));
        told = λ told. front_of_come first (drop largest_stimulus taken ++ l1) l0 before accepted s
            (order_in s.runner) way.made way.come few
            (takes.next told
            ∙ ap (λ bytes. bytes ++ l1) (sym (take-append-drop largest_stimulus taken))
            ∙ append_assoc first (drop largest_stimulus taken) l1);
      }

  pub all_taken : 0 < left → WritesAllAt (flat_of s) s.level taken before accepted
  all_taken some =
      let few : length taken ≤ largest_stimulus = omega (arith, way.count) in
      let come = come_within taken before accepted s few way.come in
      come_all taken before accepted s way.made
      (none_wrong (read_front s.reader.form taken) (sym come.fed.read.fault ∙ way.right)) few come

  -- too many bytes
  pub large_ends : left ≡ 0 → EndsWith tells g0 g1 l0 l1 ending.TooLarge before accepted s
  large_ends none =
      let over : largest_stimulus < length taken = omega (arith, way.count) in
      record {
        taken = taken;
        takes = takes;
        few = omega (arith, way.count);
        reached = nothing_behind taken before accepted ending.TooLarge s
            (reached_large taken [] before accepted s way.made way.come way.right over);
        told = λ told. subst (λ all. HasReached all ending.TooLarge before accepted s)
            (sym (takes.next told))
            (reached_large taken l1 before accepted s way.made way.come way.right over);
      }

  module _ (g2 l2 piece : List ℕ) (rest : ℕ) (accepted_new : List ℕ) (new : Simulation)
      (more : Takes tells g1 g2 l1 l2 piece)
      (end : IsTrue tells → piece ≡ [] → l2 ≡ []) (fits : left ≡ rest + length piece) where
    all : Takes tells g0 g2 l0 l2 (taken ++ piece)
    all = takes_more tells g0 g1 g2 l0 l1 l2 taken piece takes more

    few : length (taken ++ piece) ≤ largest_stimulus + 1
    few = omega (arith, way.count, length-append taken piece)

    none_behind : taken ++ (piece ++ []) ≡ taken ++ piece
    none_behind = ap (λ ps. taken ++ ps) (append-nil piece)

    told_behind : IsTrue tells → taken ++ (piece ++ l2) ≡ l0
    told_behind told = sym (all.next told ∙ append_assoc taken piece l2)

    -- the piece brought the ending
    pub ends_piece : (ends : Ending)
        → PieceReads taken piece rest before accepted_new (Ok (Some ends)) s new
        → EndsWith tells g0 g2 l0 l2 ends before accepted_new new
    ends_piece ends reads = record {
      taken = taken ++ piece;
      takes = all;
      few = few;
      reached = subst (λ bytes. HasReached bytes ends before accepted_new new) none_behind
          (reads [] (λ none. refl));
      told = λ told. subst (λ bytes. HasReached bytes ends before accepted_new new)
          (told_behind told) (reads l2 (end told));
    }

    -- or a fault
    pub stops_piece : (fault : SimFault)
        → PieceReads taken piece rest before accepted_new (Err fault) s new
        → StopsWith tells g0 g2 l0 l2 before accepted_new s
    stops_piece fault reads = record {
      taken = taken ++ piece;
      takes = all;
      few = few;
      front = subst (λ bytes. StopsAt bytes before accepted_new s) none_behind
          (reads [] (λ none. refl));
      told = λ told. subst (λ bytes. StopsAt bytes before accepted_new s) (told_behind told)
          (reads l2 (end told));
    }

pub stops_with_same : (tells : Bool) (g0 g1 l0 l1 before accepted : List ℕ) (old new : Simulation)
    → IsSameAs old new → StopsWith tells g0 g1 l0 l1 before accepted new
    → StopsWith tells g0 g1 l0 l1 before accepted old
stops_with_same tells g0 g1 l0 l1 before accepted old new same stops = record {
  taken = stops.taken;
  takes = stops.takes;
  few = stops.few;
  front = stops_same stops.taken before accepted old new same stops.front;
  told = λ told. stops_same l0 before accepted old new same (stops.told told);
}

-- ---- whatever follows

-- where no end was shown the piece was not the end
not_the_end : (ended : Bool) (piece more : List ℕ) → (piece ≡ [] → IsTrue ended) → IsFalse ended
    → piece ≡ [] → more ≡ []
not_the_end ended piece more shown goes_on none = absurd (false≢true (sym goes_on ∙ shown none))

-- the piece brought the ending
pub piece_open : (given_old given_new taken piece : List ℕ) (rest : ℕ)
    (before accepted : List ℕ) (ended : Bool) (ends : Ending) (old new : Simulation)
    → given_new ≡ given_old ++ (taken ++ piece) → (piece ≡ [] → IsTrue ended)
    → PieceReads taken piece rest before accepted (Ok (Some ends)) old new
    → WhateverFollows ended given_old given_new (λ bytes. HasReached bytes ends before accepted new)
piece_open given_old given_new taken piece rest before accepted ended ends old new given shown reads
    goes_on bytes more is =
    let same : taken ++ piece ≡ bytes =
    append_cancel_left given_old (taken ++ piece) bytes (sym given ∙ is) in
    subst (λ first. HasReached (first ++ more) ends before accepted new) same
    (subst (λ all. HasReached all ends before accepted new) (sym (append_assoc taken piece more))
    (reads more (not_the_end ended piece more shown goes_on)))

-- the piece brought a fault
pub piece_stops_open : (given_old given_new taken piece : List ℕ) (rest : ℕ)
    (before accepted : List ℕ) (ended : Bool) (fault : SimFault) (old new : Simulation)
    → given_new ≡ given_old ++ (taken ++ piece) → (piece ≡ [] → IsTrue ended)
    → PieceReads taken piece rest before accepted (Err fault) old new
    → WhateverFollows ended given_old given_new (λ bytes. StopsAt bytes before accepted old)
piece_stops_open given_old given_new taken piece rest before accepted ended fault old new given
    shown reads goes_on bytes more is =
    let same : taken ++ piece ≡ bytes =
    append_cancel_left given_old (taken ++ piece) bytes (sym given ∙ is) in
    subst (λ first. StopsAt (first ++ more) before accepted old) same
    (subst (λ all. StopsAt all before accepted old) (sym (append_assoc taken piece more))
    (reads more (not_the_end ended piece more shown goes_on)))

-- what is said of one simulation is said of another with the same design, level and order
pub open_same : {T E : Type 0} (r : Result T E) (ended : Bool)
    (given_old given_new before accepted : List ℕ) (old new : Simulation) → IsSameAs old new
    → WhateverFollows ended given_old given_new (λ bytes. StopsAt bytes before accepted new)
    → WhateverFollows ended given_old given_new
    (λ bytes. OnErr r (StopsAt bytes before accepted old))
open_same r ended given_old given_new before accepted old new same stops goes_on taken more is =
    on_error r
    (stops_same (taken ++ more) before accepted old new same (stops goes_on taken more is))

-- there were too many bytes
pub large_open : (given_old given_new taken : List ℕ) (left : ℕ) (before accepted : List ℕ)
    (ended : Bool) (s : Simulation) → given_new ≡ given_old ++ taken
    → IsUnderWay taken left before accepted s → left ≡ 0
    → WhateverFollows ended given_old given_new
    (λ bytes. HasReached bytes ending.TooLarge before accepted s)
large_open given_old given_new taken left before accepted ended s given way none goes_on bytes more
    is =
    let over : largest_stimulus < length taken = omega (arith, way.count) in
    let same : taken ≡ bytes = append_cancel_left given_old taken bytes (sym given ∙ is) in
    subst (λ first. HasReached (first ++ more) ending.TooLarge before accepted s) same
    (reached_large taken more before accepted s way.made way.come way.right over)

-- ---- the end

-- an empty piece is one of no bytes
pub end_of : (count : ℕ) (buffer l2 : List ℕ) → count ≤ length buffer
    → (count ≡ 0 → l2 ≡ []) → take count buffer ≡ [] → l2 ≡ []
end_of count buffer l2 within end none =
    end (omega (arith, length-take count buffer, ap length none))

pub end_shown : (count : ℕ) (buffer : List ℕ) (ended : Bool) → count ≤ length buffer
    → (count ≡ 0 → IsTrue ended) → take count buffer ≡ [] → IsTrue ended
end_shown count buffer ended within end none =
    end (omega (arith, length-take count buffer, ap length none))

-- ---- what the calls need

pub end_room : (left : ℕ) (accepted : List ℕ) (s : Simulation)
    → (bytes before : List ℕ) × IsUnderWay bytes left before accepted s → 0 < left
    → LeavesRoom 0 accepted s
end_room left accepted s way some =
    let within : length way.0 ≤ largest_stimulus = omega (arith, way.2.count) in
    record {
      bytes = way.0;
      before = way.1;
      come = come_within way.0 way.1 accepted s within way.2.come;
      within = omega (arith, within);
    }

few_read : (bytes piece : List ℕ) (left within : ℕ)
    → left + length piece + length bytes ≡ largest_stimulus + 1 → 0 < length piece
    → within ≡ (if left == 0 then length piece - 1 else length piece)
    → length bytes + length (take within piece) ≤ largest_stimulus
few_read bytes piece left within fits some is =
    let front = taken_front bytes piece left within fits some is in
    omega (
      arith,
      ap length front,
      length-append bytes (take within piece),
      length-take largest_stimulus (bytes ++ piece),
    )

pub read_within : (piece : List ℕ) (left within : ℕ) (accepted : List ℕ) (s : Simulation)
    → (bytes before : List ℕ) × IsUnderWay bytes (left + length piece) before accepted s
    → 0 < length piece → within ≡ (if left == 0 then length piece - 1 else length piece)
    → LeavesRoom (length (take within piece)) accepted s
read_within piece left within accepted s way some is = record {
  bytes = way.0;
  before = way.1;
  come = come_within way.0 way.1 accepted s (omega (arith, way.2.count)) way.2.come;
  within = few_read way.0 piece left within way.2.count some is;
}

pub read_room : (piece : List ℕ) (left within : ℕ) (accepted : List ℕ) (s : Simulation)
    → (bytes before : List ℕ) × IsUnderWay bytes (left + length piece) before accepted s
    → 0 < length piece → length piece ≤ 65536
    → s.reader.said.line + length s.reader.rest + length (take within piece) < 2 ^ 64
read_room piece left within accepted s way some few =
    let low : length way.0 ≤ largest_stimulus = omega (arith, way.2.count) in
    has_room way.0 way.1 accepted s (length (take within piece))
    (come_within way.0 way.1 accepted s low way.2.come) way.2.right low
    (omega (arith, length-take within piece))

pub some_of : (n : ℕ) → (n == 0) ≡ false → 0 < n
some_of n other = let more = eqb-false n 0 other in omega (arith, more)
