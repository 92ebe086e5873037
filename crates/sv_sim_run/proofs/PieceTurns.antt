-- One turn of the loop over the pieces: what was taken with the piece, and what reading it brings.
use Rattle.std.proofs.Common.{◌≡◌, ℕ, ◌-◌, ◌+◌, ◌<◌, ◌≤◌, Bool, List, [], ◌++◌, length, take}
use Rattle.std.proofs.Common.{Option, Some, None, subst}
use Rattle.std.specs.Prelude.{Ok, Err, IsTrue}
use Rattle.sv_io.specs.Source.{WhateverFollows}
use Rattle.sv_sim_run.specs.declared.endings.Ending.{Ending}
use Rattle.sv_sim_run.specs.declared.endings.SimFault.{SimFault}
use Rattle.sv_sim_run.specs.declared.simulations.Simulation.{Simulation}
use Rattle.sv_sim_run.specs.Fronts.{Takes, IsUnderWay, PieceReads, EndsWith, StopsWith, StopsAt}
use Rattle.sv_sim_run.specs.Progress.{HasReached}
use Rattle.sv_sim_run.proofs.Loops.{takes_more, ends_piece, stops_piece, piece_open}
use Rattle.sv_sim_run.proofs.Loops.{piece_stops_open}
use Rattle.sv_sim_run.proofs.Pieces.{piece_fits, takes_piece, way_fits, piece_end, piece_shown}

module _ {tells : Bool} {g0 g1 l0 l1 : List ℕ} {left : ℕ} {before accepted : List ℕ}
    {s : Simulation}
    (way : (taken : List ℕ) × Takes tells g0 g1 l0 l1 taken
    × IsUnderWay taken left before accepted s)
    (count : ℕ) {now buffer : List ℕ} (same : now ≡ buffer)
    (within : (count ≤ left) × (count ≤ length buffer)) where
  fits : left ≡ left - count + length (take count now)
  fits = piece_fits count left buffer now same within

  pub turn_way : IsUnderWay way.0 (left - count + length (take count now)) before accepted s
  turn_way =
      way_fits way.0 before accepted left (left - count + length (take count now)) s fits way.2

  -- what reading the piece came to is this
  found_so : (later : List ℕ) (new : Simulation) (found told : Option Ending) → found ≡ told →
      PieceReads way.0 (take count now) (left - count) before later (Ok found) s new →
      PieceReads way.0 (take count now) (left - count) before later (Ok told) s new
  found_so later new found told is reads =
      subst (λ (x : Option Ending).
      PieceReads way.0 (take count now) (left - count) before later (Ok x) s new) is reads

  -- the simulation goes on behind the piece
  pub turn_on : (later : List ℕ) (new : Simulation) (found : Option Ending) → found ≡ None →
      PieceReads way.0 (take count now) (left - count) before later (Ok found) s new →
      (0 < length (take count now))
      × IsUnderWay (way.0 ++ take count now) (left - count) before later new
  turn_on later new found is reads = found_so later new found None is reads

  module _ {g2 l2 : List ℕ} (taken : Takes tells g1 g2 l1 l2 (take count buffer)) where
    more : Takes tells g1 g2 l1 l2 (take count now)
    more = takes_piece tells g1 g2 l1 l2 count buffer now same taken

    pub turn_takes : Takes tells g0 g2 l0 l2 (way.0 ++ take count now)
    turn_takes = takes_more tells g0 g1 g2 l0 l1 l2 way.0 (take count now) way.1 more

    module _ (end : IsTrue tells → count ≡ 0 → l2 ≡ []) (later : List ℕ) (new : Simulation) where
      pub turn_ends : (ends : Ending) (found : Option Ending) → found ≡ Some ends →
          PieceReads way.0 (take count now) (left - count) before later (Ok found) s new →
          EndsWith tells g0 g2 l0 l2 ends before later new
      turn_ends ends found is reads =
          ends_piece tells g0 g1 l0 l1 way.0 left before accepted s way.1 way.2 g2 l2
          (take count now) (left - count) later new more
          (piece_end tells count left buffer now l2 same within end) fits ends
          (found_so later new found (Some ends) is reads)

      pub turn_stops : (fault : SimFault) →
          PieceReads way.0 (take count now) (left - count) before later (Err fault) s new →
          StopsWith tells g0 g2 l0 l2 before later s
      turn_stops =
          stops_piece tells g0 g1 l0 l1 way.0 left before accepted s way.1 way.2 g2 l2
          (take count now) (left - count) later new more
          (piece_end tells count left buffer now l2 same within end) fits

    module _ (ended : Bool) (shown : count ≡ 0 → IsTrue ended) (later : List ℕ) (new : Simulation)
      where
        pub turn_open : (ends : Ending) (found : Option Ending) → found ≡ Some ends →
            PieceReads way.0 (take count now) (left - count) before later (Ok found) s new →
            WhateverFollows ended g0 g2 (λ bytes. HasReached bytes ends before later new)
        turn_open ends found is reads =
            piece_open g0 g2 way.0 (take count now) (left - count) before later ended ends s new
            turn_takes.given (piece_shown ended count left buffer now same within shown)
            (found_so later new found (Some ends) is reads)

        pub turn_stops_open : (fault : SimFault) →
            PieceReads way.0 (take count now) (left - count) before later (Err fault) s new →
            WhateverFollows ended g0 g2 (λ bytes. StopsAt bytes before later s)
        turn_stops_open fault =
            piece_stops_open g0 g2 way.0 (take count now) (left - count) before later ended fault s
            new turn_takes.given (piece_shown ended count left buffer now same within shown)
