-- What each step of the loop over the pieces leaves, for the functions of the stimuli.
use Rattle.std.proofs.Common.{◌≡◌, ℕ, ◌+◌, ◌-◌, ◌<◌, ◌≤◌, ◌↔◌, ◌⊎◌, Bool, List, [], length, take}
use Rattle.std.proofs.Common.{sym, ap, subst, arith, append-nil, inl, ⊎_elim}
use Rattle.std.specs.Prelude.{Result, Ok, Err, IsErrAnd, IsTrue}
use Rattle.std.proofs.lemmas.List.{length-take}
use Rattle.sv_sim_run.specs.declared.endings.Ending.{Ending}
use Rattle.sv_sim_run.specs.declared.endings.SimFault.{SimFault}
use Rattle.sv_sim_run.specs.declared.endings.SimFault.TheVariants as fault
use Rattle.sv_sim_run.specs.declared.simulations.Simulation.{Simulation}
use Rattle.sv_sim_run.specs.Fronts.{Takes, IsUnderWay}
use Rattle.sv_sim_run.proofs.Loops.{takes_more, end_of, end_shown}

-- ---- faults

-- what is handed on is what came
pub handed_on : (r : Result Ending SimFault) (came told : SimFault)
    → IsErrAnd r (λ other. other ≡ came) → r ≡ Err told → came ≡ told
handed_on (Ok ends) came told given is = absurd (given)
handed_on (Err other) came told given is = cc

pub full_no_read : fault.OutOfMemory ≡ fault.Read → ⊥
full_no_read e = cc

pub full_no_write : fault.OutOfMemory ≡ fault.Write → ⊥
full_no_write e = cc

pub read_no_write : fault.Read ≡ fault.Write → ⊥
read_no_write e = cc

-- ---- the end

-- what showed nothing leaves the input open as it was
pub still_open : {Shows : Type 0} (old new : Bool) → (IsTrue new ↔ (IsTrue old ⊎ Shows))
    → (Shows → ⊥) → (IsTrue new ↔ IsTrue old)
still_open old new shows none = (
  λ after. ⊎_elim (λ before. before) (λ shown. absurd (none shown)) (shows.0 after),
  λ before. shows.1 (inl before),
)

pub open_twice : (old mid new : Bool) → (IsTrue mid ↔ IsTrue old) → (IsTrue new ↔ IsTrue mid)
    → (IsTrue new ↔ IsTrue old)
open_twice old mid new first second =
    (λ after. first.0 (second.0 after), λ before. second.1 (first.1 before))

-- ---- what was taken

-- nothing more was taken
pub takes_no_more : (tells : Bool) (g0 g1 g2 l0 l1 l2 taken : List ℕ)
    → Takes tells g0 g1 l0 l1 taken → Takes tells g1 g2 l1 l2 []
    → Takes tells g0 g2 l0 l2 taken
takes_no_more tells g0 g1 g2 l0 l1 l2 taken first none =
    subst (λ bytes. Takes tells g0 g2 l0 l2 bytes) (append-nil taken)
    (takes_more tells g0 g1 g2 l0 l1 l2 taken [] first none)

-- so many bytes were taken
abbrev taken_so : ℕ → Result ℕ SimFault
taken_so count = Ok count

-- a piece is as long as its count
pub piece_length : (count most : ℕ) (buffer now : List ℕ) → now ≡ buffer
    → (count ≤ most) × (count ≤ length buffer) → length (take count now) ≡ count
piece_length count most buffer now same within =
    omega (arith, length-take count now, ap length same, within.1)

-- a piece that is not empty shows no end
pub some_taken : (count : ℕ) (now : List ℕ) → 0 < length (take count now)
    → taken_so count ≡ taken_so 0 → ⊥
some_taken count now some same =
    let none : count ≡ 0 = cc in
    omega (arith, length-take count now, none, some)

pub piece_fits : (count most : ℕ) (buffer now : List ℕ) → now ≡ buffer
    → (count ≤ most) × (count ≤ length buffer) → most ≡ most - count + length (take count now)
piece_fits count most buffer now same within =
    omega (arith, piece_length count most buffer now same within, within.0)

pub piece_few : (count most : ℕ) (buffer now : List ℕ) → now ≡ buffer
    → length buffer ≡ 4096 → length (take count now) ≤ 65536
piece_few count most buffer now same room =
    omega (arith, length-take count now, ap length same, room)

pub piece_end : (tells : Bool) (count most : ℕ) (buffer now l2 : List ℕ) → now ≡ buffer
    → (count ≤ most) × (count ≤ length buffer) → (IsTrue tells → count ≡ 0 → l2 ≡ [])
    → IsTrue tells → take count now ≡ [] → l2 ≡ []
piece_end tells count most buffer now l2 same within end told none =
    let inside : count ≤ length now = omega (arith, ap length same, within.1) in
    end_of count now l2 inside (end told) none

pub piece_shown : (ended : Bool) (count most : ℕ) (buffer now : List ℕ) → now ≡ buffer
    → (count ≤ most) × (count ≤ length buffer) → (count ≡ 0 → IsTrue ended)
    → take count now ≡ [] → IsTrue ended
piece_shown ended count most buffer now same within end none =
    let inside : count ≤ length now = omega (arith, ap length same, within.1) in
    end_shown count now ended inside end none

pub takes_piece : (tells : Bool) (g1 g2 l1 l2 : List ℕ) (count : ℕ) (buffer now : List ℕ)
    → now ≡ buffer → Takes tells g1 g2 l1 l2 (take count buffer)
    → Takes tells g1 g2 l1 l2 (take count now)
takes_piece tells g1 g2 l1 l2 count buffer now same takes =
    subst (λ bytes. Takes tells g1 g2 l1 l2 (take count bytes)) (sym same) takes

pub way_fits : (taken before accepted : List ℕ) (left rest : ℕ) (s : Simulation)
    → left ≡ rest → IsUnderWay taken left before accepted s
    → IsUnderWay taken rest before accepted s
way_fits taken before accepted left rest s same way =
    subst (λ n. IsUnderWay taken n before accepted s) same way
