-- What a run reads on its way has the value of the expression in which earlier reads are wanted: in
-- a clocked block, whose assignments wait, and in a block at rest, run from where what it assigns
-- is 0. There a wanted name has the value so far, and of a settled one each bit that is read has
-- its value of the end.
use Rattle.std.proofs.Common.{◌≡◌, ℕ, ◌/◌, ◌^◌, ◌<◌, ◌≤◌, Bool, true, false, cond, ◌&&◌, ◌==◌}
use Rattle.std.proofs.Common.{nat_le, leb-false, ltb-true, length, List, [], ◌∷◌, ◌++◌, fold, ◌⊎◌}
use Rattle.std.proofs.Common.{inl, inr, ⊎_elim, refl, sym, ap, subst, ◌∙◌}
use Rattle.std.specs.Prelude.{Contains, IsTrue, IsFalse}
use Rattle.std.specs.Int.{bit_at}
use Rattle.std.specs.List.{list_any, list_all}
use Rattle.std.proofs.lemmas.Bool.{false≢true, or_left, or_right, eqb-true}
use Rattle.sv_num.specs.Vectors.{is_true}
use Rattle.sv_system.specs.System.{Environment}
use Rattle.sv_system.proofs.Lists.{Contains-map}
use Rattle.sv_flat.specs.Design.{SignalForm, TypedTree, PieceForm, FlatStatement, nothing, after}
use Rattle.sv_flat.specs.Design.{assign, branch}
use Rattle.sv_flat.specs.Values.{signal_width, value}
use Rattle.sv_flat.specs.Runs.{with_piece, put_piece, run}
use Rattle.sv_flat.specs.Soundness.{is_signal, piece_fits, well_formed, statement_sound}
use Rattle.sv_flat.specs.Assigned.{has_bit, assigns, always_assigns, can_assign}
use Rattle.sv_flat.specs.Readings.{ReadForm, BitSet, either, Reading, readings_of, readings, reads}
use Rattle.sv_flat.specs.Readings.{some_bit_read, is_followed}
use Rattle.sv_flat.proofs.Members.{Contains-left, Contains-right}
use Rattle.sv_flat.proofs.LeastSets.{either_way}
use Rattle.sv_flat.proofs.Depths.{first_of, second_of}
use Rattle.sv_flat.proofs.ReplacedBits.{replaced_below, replaced_under, replaced_over}
use Rattle.sv_flat.proofs.NumberedRuns.{run_stays}
use Rattle.sv_flat.proofs.ReadSignals.{reads_signals}
use Rattle.sv_flat.proofs.SameRuns.{or_none_left, or_none_right, put_other, put_there}
use Rattle.sv_flat.proofs.SameRuns.{piece_lies_inside, run_leaves, all_blocking}
use Rattle.sv_rules.proofs.Sound.{branch_sound}
use Rattle.sv_obl.specs.Wanted.{with_copies, copy_of, is_copy, original, marked_tree}
use Rattle.sv_obl.proofs.MarkedValues.{AllSameBits, renamed_value}
use Rattle.sv_obl.proofs.PathLists.{cond_true, cond_false, neither}
use Rattle.sv_obl.proofs.PathTells.{here, Follows}
use Rattle.sv_obl.proofs.PutFacts.{State, all_are, nonblocking_is, running, width_settled}
use Rattle.sv_obl.proofs.PutFacts.{width_copy, signal_is_settled, copy_is_copy, original_of_copy}

module _ (signals : List SignalForm) where
  abbrev Bit : State → ℕ → ℕ → ℕ
  Bit now t b = bit_at (now.0 t) b

  -- a piece without a bit leaves it
  piece_keeps_bit : (right : TypedTree) (v : ℕ) (now : State) (p : PieceForm) (t b : ℕ)
      → IsTrue (piece_fits signals right p)
      → IsFalse (has_bit t b p) → b < signal_width signals t
      → Bit (put_piece signals true v now p) t b ≡ Bit now t b
  piece_keeps_bit right v now p t b fits none below =
      let old = now.0 p.signal in
      let new = with_piece signals p v old in
      let inside = piece_lies_inside signals right p fits in
      let w = signal_width signals p.signal in
      ⊎_elim
      (λ there.
      let is = eqb-true p.signal t there in
      let within = subst (λ k. b < signal_width signals k) (sym is) below in
      let outside = ⊎_elim
      (λ low_or. ⊎_elim
      (λ elsewhere. absurd (false≢true (sym elsewhere ∙ there)))
      (λ under. replaced_under w p.high p.low old (v / 2 ^ p.from) b inside.0 inside.1
      (leb-false p.low b under))
      (neither (p.signal == t) (nat_le p.low b) low_or))
      (λ over. replaced_over w p.high p.low old (v / 2 ^ p.from) b inside.0 inside.1
      (leb-false b p.high over) within)
      (neither ((p.signal == t) && nat_le p.low b) (nat_le b p.high) none) in
      subst (λ k. Bit (put_piece signals true v now p) k b ≡ Bit now k b) is
      (ap (λ n. bit_at n b) (put_there p.signal new now.0) ∙ outside))
      (λ other. ap (λ n. bit_at n b) (put_other p.signal t new now.0 other))
      (either_way (p.signal == t))

  pieces_keep_bit : (right : TypedTree) (v : ℕ) (pieces : List PieceForm) (now : State) (t b : ℕ)
      → IsTrue (list_all (piece_fits signals right) pieces)
      → IsFalse (list_any (has_bit t b) pieces) → b < signal_width signals t
      → Bit (fold (put_piece signals true v) now pieces) t b ≡ Bit now t b
  pieces_keep_bit right v [] now t b fits none below = refl
  pieces_keep_bit right v (p ∷ pieces) now t b fits none below =
      pieces_keep_bit right v pieces (put_piece signals true v now p) t b
      (second_of (piece_fits signals right p) (list_all (piece_fits signals right) pieces) fits)
      (or_none_right (has_bit t b p) (list_any (has_bit t b) pieces) none) below
      ∙ piece_keeps_bit right v now p t b
      (first_of (piece_fits signals right p) (list_all (piece_fits signals right) pieces) fits)
      (or_none_left (has_bit t b p) (list_any (has_bit t b) pieces) none) below

  either_bit : (c : Bool) (x y : State) (t b n : ℕ) → Bit x t b ≡ n → Bit y t b ≡ n →
      Bit (cond c x y) t b ≡ n
  either_bit true x y t b n first second = first
  either_bit false x y t b n first second = second

  -- a statement that cannot assign a bit leaves it
  keeps_bit : (body : FlatStatement) (now : State) (t b : ℕ) → IsTrue (statement_sound signals body)
      → IsTrue (all_blocking body)
      → IsFalse (can_assign body t b) → b < signal_width signals t
      → Bit (run signals body now) t b ≡ Bit now t b
  keeps_bit nothing now t b sound blocking none below = refl
  keeps_bit (after first second) now t b sound blocking none below =
      keeps_bit second (run signals first now) t b
      (second_of (statement_sound signals first) (statement_sound signals second) sound)
      (second_of (all_blocking first) (all_blocking second) blocking)
      (or_none_right (can_assign first t b) (can_assign second t b) none) below
      ∙ keeps_bit first now t b
      (first_of (statement_sound signals first) (statement_sound signals second) sound)
      (first_of (all_blocking first) (all_blocking second) blocking)
      (or_none_left (can_assign first t b) (can_assign second t b) none) below
  keeps_bit (assign [] place blocked right) now t b sound blocking none below = refl
  keeps_bit (assign (p ∷ pieces) place false right) now t b sound blocking none below =
      absurd (false≢true blocking)
  keeps_bit (assign (p ∷ pieces) place true right) now t b sound blocking none below =
      pieces_keep_bit right (value signals now.0 right) (p ∷ pieces) now t b
      (second_of (well_formed signals right) (list_all (piece_fits signals right) (p ∷ pieces))
      sound) none below
  keeps_bit (branch place condition first second) now t b sound blocking none below =
      let front = first_of (well_formed signals condition && statement_sound signals first)
      (statement_sound signals second) sound in
      either_bit (is_true (value signals now.0 condition)) (run signals first now)
      (run signals second now) t b (Bit now t b)
      (keeps_bit first now t b
      (second_of (well_formed signals condition) (statement_sound signals first) front)
      (first_of (all_blocking first) (all_blocking second) blocking)
      (or_none_left (can_assign first t b) (can_assign second t b) none) below)
      (keeps_bit second now t b
      (second_of (well_formed signals condition && statement_sound signals first)
      (statement_sound signals second) sound)
      (second_of (all_blocking first) (all_blocking second) blocking)
      (or_none_right (can_assign first t b) (can_assign second t b) none) below)

  -- ---- widths

  piece_fits_at : (right : TypedTree) (v : ℕ) (now : State) (p : PieceForm) (t : ℕ)
      → IsTrue (piece_fits signals right p)
      → now.0 t < 2 ^ signal_width signals t
      → (put_piece signals true v now p).0 t < 2 ^ signal_width signals t
  piece_fits_at right v now p t fits low =
      let old = now.0 p.signal in
      let inside = piece_lies_inside signals right p fits in
      let new = with_piece signals p v old in
      ⊎_elim
      (λ there. subst (λ k. (put_piece signals true v now p).0 k < 2 ^ signal_width signals k)
      (eqb-true p.signal t there)
      (subst (λ n. n < 2 ^ signal_width signals p.signal) (sym (put_there p.signal new now.0))
      (replaced_below (signal_width signals p.signal) p.high p.low old (v / 2 ^ p.from) inside.0
      inside.1)))
      (λ other. subst (λ n.
      n < 2 ^ signal_width signals t) (sym (put_other p.signal t new now.0 other)) low)
      (either_way (p.signal == t))

  pieces_fit_at : (right : TypedTree) (v : ℕ) (pieces : List PieceForm) (now : State) (t : ℕ)
      → IsTrue (list_all (piece_fits signals right) pieces) → now.0 t < 2 ^ signal_width signals t
      → (fold (put_piece signals true v) now pieces).0 t < 2 ^ signal_width signals t
  pieces_fit_at right v [] now t fits low = low
  pieces_fit_at right v (p ∷ pieces) now t fits low =
      pieces_fit_at right v pieces (put_piece signals true v now p) t
      (second_of (piece_fits signals right p) (list_all (piece_fits signals right) pieces) fits)
      (piece_fits_at right v now p t
      (first_of (piece_fits signals right p) (list_all (piece_fits signals right) pieces)
      fits) low)

  either_low : (c : Bool) (x y : State) (t n : ℕ) → x.0 t < n → y.0 t < n → (cond c x y).0 t < n
  either_low true x y t n first second = first
  either_low false x y t n first second = second

  -- a run of blocking assignments keeps a value at its signal's width
  fits_at : (body : FlatStatement) (now : State) (t : ℕ) → IsTrue (statement_sound signals body)
      → IsTrue (all_blocking body)
      → now.0 t < 2 ^ signal_width signals t
      → (run signals body now).0 t < 2 ^ signal_width signals t
  fits_at nothing now t sound blocking low = low
  fits_at (after first second) now t sound blocking low =
      fits_at second (run signals first now) t
      (second_of (statement_sound signals first) (statement_sound signals second) sound)
      (second_of (all_blocking first) (all_blocking second) blocking)
      (fits_at first now t
      (first_of (statement_sound signals first) (statement_sound signals second) sound)
      (first_of (all_blocking first) (all_blocking second) blocking) low)
  fits_at (assign [] place blocked right) now t sound blocking low = low
  fits_at (assign (p ∷ pieces) place false right) now t sound blocking low =
      absurd (false≢true blocking)
  fits_at (assign (p ∷ pieces) place true right) now t sound blocking low =
      pieces_fit_at right (value signals now.0 right) (p ∷ pieces) now t
      (second_of (well_formed signals right) (list_all (piece_fits signals right) (p ∷ pieces))
      sound) low
  fits_at (branch place condition first second) now t sound blocking low =
      let front = first_of (well_formed signals condition && statement_sound signals first)
      (statement_sound signals second) sound in
      either_low (is_true (value signals now.0 condition)) (run signals first now)
      (run signals second now) t (2 ^ signal_width signals t)
      (fits_at first now t
      (second_of (well_formed signals condition) (statement_sound signals first) front)
      (first_of (all_blocking first) (all_blocking second) blocking) low)
      (fits_at second now t
      (second_of (well_formed signals condition && statement_sound signals first)
      (statement_sound signals second) sound)
      (second_of (all_blocking first) (all_blocking second) blocking) low)

  -- ---- assignments that wait

  -- nonblocking assignments leave the environment
  pub keeps_now : (body : FlatStatement) (now : State) → IsTrue (all_are false body) →
      (run signals body now).0 ≡ now.0
  keeps_now body now kind = run_stays signals body (nonblocking_is body ∙ kind) now

  -- ---- what is read

  module _ (positive : (s : ℕ) → IsTrue (is_signal signals s) → 0 < signal_width signals s)
      (in_block : Bool) (target : ℕ) (e : Environment ℕ) where
    abbrev both : List SignalForm
    both = with_copies signals

    widths : (s : ℕ) → IsTrue (is_signal signals s) →
        signal_width both s ≡ signal_width signals s
    widths s known = width_settled signals s (ltb-true s (length signals) known)

    -- the test that makes a read an earlier one, and the name that then stands for it
    abbrev is_marked : BitSet → ReadForm → Bool
    is_marked follows r = in_block && some_bit_read signals r (follows r.signal)

    abbrev marked_name : BitSet → ReadForm → ℕ
    marked_name follows r = cond (is_marked follows r) (copy_of signals r.signal) r.signal

    abbrev here_of : Bool → State → Environment ℕ
    here_of b now = here signals in_block b target e now

    -- a settled name has its settled value
    settled_here : (b : Bool) (now : State) (s : ℕ) → s < length signals → here_of b now s ≡ e s
    settled_here b now s low =
        cond_false (is_copy signals s) (running b now (original signals s)) (e s)
        (signal_is_settled signals s low)

    -- a copy has the value that the run goes on with
    copy_here : (b : Bool) (now : State) (s : ℕ) →
        here_of b now (copy_of signals s) ≡ running b now s
    copy_here b now s =
        cond_true (is_copy signals (copy_of signals s))
        (running b now (original signals (copy_of signals s))) (e (copy_of signals s))
        (copy_is_copy signals s)
        ∙ ap (running b now) (original_of_copy signals s)

    abbrev AllMarked : Bool → State → BitSet → TypedTree → Type 0
    AllMarked b now follows t =
        AllSameBits signals both (marked_name follows) (here_of b now) positive widths now.0
        (reads signals t)

    tree_follows : (b : Bool) (t : TypedTree) (follows : BitSet) (now : State)
        → IsTrue (well_formed signals t) → AllMarked b now follows t
        → value signals now.0 t
        ≡ value both (here_of b now) (marked_tree signals in_block follows t)
    tree_follows b t follows now well same =
        sym (renamed_value signals both (marked_name follows) (here_of b now) positive widths t well
        now.0 same)

    -- ---- clocked blocks

    module _ (no_block : IsFalse in_block) where
      waiting_tree : (t : TypedTree) (follows : BitSet) (now : State)
          → IsTrue (well_formed signals t) → now.0 ≡ e
          → value signals now.0 t
          ≡ value both (here_of false now) (marked_tree signals in_block follows t)
      waiting_tree t follows now well same = tree_follows false t follows now well (λ r at.
          let low = ltb-true r.signal (length signals) (reads_signals signals t well r at) in
          subst (λ k. (signal_width both k ≡ signal_width signals r.signal)
          × ((here_of false now k ≡ now.0 r.signal)
          ⊎ ((b : ℕ) → r.low ≤ b → b ≤ r.high → b < signal_width signals r.signal
          → (here_of false now k < 2 ^ signal_width signals r.signal)
          × (now.0 r.signal < 2 ^ signal_width signals r.signal)
          × (bit_at (here_of false now k) b ≡ bit_at (now.0 r.signal) b))))
          (sym (cond_false (is_marked follows r) (copy_of signals r.signal) r.signal
          (ap (λ c. c && some_bit_read signals r (follows r.signal)) no_block))) (
            width_settled signals r.signal low,
            inl (settled_here false now r.signal low ∙ sym (ap (λ f. f r.signal) same)),
          ))

      -- assignments that wait leave the environment, so the run reads it to the end
      pub waiting_follows : (body : FlatStatement) (later : BitSet) (now : State)
          → IsTrue (statement_sound signals body) → IsTrue (all_are false body) → now.0 ≡ e
          → Follows signals in_block false target e body later now
      waiting_follows nothing later now sound kind same = tt
      waiting_follows (after first second) later now sound kind same =
          let kind1 = first_of (all_are false first) (all_are false second) kind in (
            waiting_follows first (either (can_assign second) later) now
                (first_of (statement_sound signals first) (statement_sound signals second) sound)
                kind1 same,
            waiting_follows second later (run signals first now)
                (second_of (statement_sound signals first) (statement_sound signals second) sound)
                (second_of (all_are false first) (all_are false second) kind)
                (keeps_now first now kind1 ∙ same),
          )
      waiting_follows (assign pieces place blocked right) later now sound kind same =
          waiting_tree right (either (can_assign (assign pieces place blocked right)) later) now
          (first_of (well_formed signals right) (list_all (piece_fits signals right) pieces) sound)
          same
      waiting_follows (branch place condition first second) later now sound kind same =
          let front = first_of (well_formed signals condition && statement_sound signals first)
          (statement_sound signals second) sound in (
            waiting_tree condition
                (either (can_assign (branch place condition first second)) later) now
                (first_of (well_formed signals condition) (statement_sound signals first) front)
                same,
            (λ holds. waiting_follows first later now
                (second_of (well_formed signals condition) (statement_sound signals first) front)
                (first_of (all_are false first) (all_are false second) kind) same),
            (λ fails. waiting_follows second later now
                (second_of (well_formed signals condition && statement_sound signals first)
                (statement_sound signals second) sound)
                (second_of (all_are false first) (all_are false second) kind) same),
          )

    -- ---- blocks at rest

    module _ (own : ℕ → Bool)
        (e_fits : (t : ℕ) → IsTrue (own t) → e t < 2 ^ signal_width signals t) where
      -- the block's own signals have values of their widths
      abbrev pub OwnFit : Environment ℕ → Type 0
      OwnFit f = (t : ℕ) → IsTrue (own t) → f t < 2 ^ signal_width signals t

      -- a settled read is not of what the block assigns, or no assignment to a bit that is read
      -- follows
      abbrev pub IsQuiet : Reading → Type 0
      IsQuiet r = IsFalse (in_block && is_followed signals r)
          → IsFalse (own r.name.signal)
          ⊎ ((b : ℕ) → r.name.low ≤ b → b ≤ r.name.high → b < signal_width signals r.name.signal →
          IsFalse (r.follows r.name.signal b))

      abbrev pub AllQuiet : List Reading → Type 0
      AllQuiet rs = (r : Reading) → Contains rs r → IsQuiet r

      -- the block's own bits that no later statement assigns have their values of the end
      abbrev pub Ends : BitSet → Environment ℕ → Type 0
      Ends later f =
          (t b : ℕ) → IsTrue (own t) → b < signal_width signals t → IsFalse (later t b) →
          bit_at (f t) b ≡ bit_at (e t) b

      abbrev pub Outside : Environment ℕ → Type 0
      Outside f = (t : ℕ) → IsFalse (own t) → f t ≡ e t

      abbrev pub Owned : FlatStatement → Type 0
      Owned body = (t : ℕ) → IsTrue (assigns body t) → IsTrue (own t)

      -- what a statement reads first: a wanted name has its value so far, and of a settled one the
      -- bits that are read have their values of the end
      read_follows : (whole : FlatStatement) (t : TypedTree) (before later : BitSet) (now : State)
          → IsTrue (well_formed signals t)
          → IsTrue (statement_sound signals whole) → IsTrue (all_blocking whole)
          → AllQuiet (readings_of signals t (assigns whole) before
          (either (can_assign whole) later))
          → OwnFit now.0
          → Outside now.0 → Ends later (run signals whole now).0
          → value signals now.0 t
          ≡ value both (here_of true now)
          (marked_tree signals in_block (either (can_assign whole) later) t)
      read_follows whole t before later now well sound blocking quiet fits outside ends =
          tree_follows true t (either (can_assign whole) later) now well (λ r at.
          by r at (is_marked (either (can_assign whole) later) r) refl)
        where
          by : (r : ReadForm) → Contains (reads signals t) r → (c : Bool)
              → is_marked (either (can_assign whole) later) r ≡ c
              → (signal_width both (cond c (copy_of signals r.signal) r.signal)
              ≡ signal_width signals r.signal)
              × ((here_of true now (cond c (copy_of signals r.signal) r.signal)
              ≡ now.0 r.signal)
              ⊎ ((b : ℕ) → r.low ≤ b → b ≤ r.high → b < signal_width signals r.signal
              → (here_of true now (cond c (copy_of signals r.signal) r.signal)
              < 2 ^ signal_width signals r.signal)
              × (now.0 r.signal < 2 ^ signal_width signals r.signal)
              × (bit_at (here_of true now (cond c (copy_of signals r.signal) r.signal)) b
              ≡ bit_at (now.0 r.signal) b)))
          by r at true is = (width_copy signals r.signal, inl (copy_here true now r.signal))
          by r at false is =
              let low = ltb-true r.signal (length signals) (reads_signals signals t well r at) in
              let settled = settled_here true now r.signal low in
              let foreign = λ (none : IsFalse (own r.signal)).
              settled ∙ sym (outside r.signal none) in (
                width_settled signals r.signal low,
                ⊎_elim
                    (λ owned. ⊎_elim
                    (λ none. inl (foreign none))
                    (λ free. inr (λ b from to below.
                    let none = free b from to below in (
                      subst (λ n. n < 2 ^ signal_width signals r.signal) (sym settled)
                          (e_fits r.signal owned),
                      fits r.signal owned,
                      ap (λ n. bit_at n b) settled
                          ∙ sym (ends r.signal b owned below
                          (or_none_right (can_assign whole r.signal b) (later r.signal b) none))
                          ∙ keeps_bit whole now r.signal b sound blocking
                          (or_none_left (can_assign whole r.signal b) (later r.signal b) none)
                          below,
                    )))
                    (quiet (record {
                      name = r;
                      serves = assigns whole;
                      assigned = before;
                      follows = either (can_assign whole) later;
                    })
                    (Contains-map (λ (x : ReadForm). record {
                      name = x;
                      serves = assigns whole;
                      assigned = before;
                      follows = either (can_assign whole) later;
                    }) (reads signals t) r at) is))
                    (λ none. inl (foreign none))
                    (either_way (own r.signal)),
              )

      stays_outside : (body : FlatStatement) (now : State) → Owned body → Outside now.0 →
          Outside (run signals body now).0
      stays_outside body now owned outside t foreign =
          run_leaves signals body t (none_of (assigns body t) (λ h.
          false≢true (sym foreign ∙ owned t h))) now ∙ outside t foreign
        where
          none_of : (b : Bool) → (IsTrue b → ⊥) → IsFalse b
          none_of true no_case = absurd (no_case refl)
          none_of false no_case = refl

      -- so along a run of blocking assignments that ends in the values of e
      pub block_follows : (body : FlatStatement) (before later : BitSet) (now : State)
          → IsTrue (statement_sound signals body)
          → IsTrue (all_blocking body) → Owned body → AllQuiet (readings signals body before later)
          → OwnFit now.0
          → Outside now.0 → Ends later (run signals body now).0
          → Follows signals in_block true target e body later now
      block_follows nothing before later now sound blocking owned quiet fits outside ends = tt
      block_follows (after first second) before later now sound blocking owned quiet fits
          outside ends =
          let late = either (can_assign second) later in
          let mid = either (always_assigns first) before in
          let sound1 = first_of (statement_sound signals first) (statement_sound signals second)
          sound in
          let sound2 = second_of (statement_sound signals first) (statement_sound signals second)
          sound in
          let blocking1 = first_of (all_blocking first) (all_blocking second) blocking in
          let blocking2 = second_of (all_blocking first) (all_blocking second) blocking in
          let owned1 = λ (t : ℕ) (h : IsTrue (assigns first t)).
          owned t (or_left (assigns first t) (assigns second t) h) in
          let owned2 = λ (t : ℕ) (h : IsTrue (assigns second t)).
          owned t (or_right (assigns first t) (assigns second t) h) in (
            block_follows first before late now sound1 blocking1 owned1
                (λ r at.
                quiet r (Contains-left (readings signals first before late)
                (readings signals second mid later) r at)) fits outside
                (λ t b own_t below none.
                sym (keeps_bit second (run signals first now) t b sound2 blocking2
                (or_none_left (can_assign second t b) (later t b) none) below)
                ∙ ends t b own_t below (or_none_right (can_assign second t b) (later t b) none)),
            block_follows second mid later (run signals first now) sound2 blocking2 owned2
                (λ r at.
                quiet r (Contains-right (readings signals first before late)
                (readings signals second mid later) r at))
                (λ t own_t. fits_at first now t sound1 blocking1 (fits t own_t))
                (stays_outside first now owned1 outside) ends,
          )
      block_follows (assign pieces place blocked right) before later now sound blocking owned quiet
          fits outside ends =
          read_follows (assign pieces place blocked right) right before later now
          (first_of (well_formed signals right) (list_all (piece_fits signals right) pieces) sound)
          sound blocking quiet fits outside ends
      block_follows (branch place condition first second) before later now sound blocking owned
          quiet fits outside ends =
          let whole = branch place condition first second in
          let here = readings_of signals condition (assigns whole) before
          (either (can_assign whole) later) in
          let in_first = readings signals first before later in
          let in_second = readings signals second before later in
          let parts = branch_sound signals place condition first second sound in
          let c = is_true (value signals now.0 condition) in (
            read_follows whole condition before later now parts.0
                sound blocking
                (λ r at.
                quiet r (Contains-left (here ++ in_first) in_second r
                (Contains-left here in_first r at))) fits outside ends,
            (λ holds. block_follows first before later now parts.1
                (first_of (all_blocking first) (all_blocking second) blocking)
                (λ t h. owned t (or_left (assigns first t) (assigns second t) h))
                (λ r at.
                quiet r (Contains-left (here ++ in_first) in_second r
                (Contains-right here in_first r at))) fits outside
                (subst (λ (x : State).
                Ends later x.0) (cond_true c (run signals first now) (run signals second now)
                holds) ends)),
            (λ fails. block_follows second before later now parts.2
                (second_of (all_blocking first) (all_blocking second) blocking)
                (λ t h. owned t (or_right (assigns first t) (assigns second t) h))
                (λ r at. quiet r (Contains-right (here ++ in_first) in_second r at)) fits outside
                (subst (λ (x : State).
                Ends later x.0) (cond_false c (run signals first now) (run signals second now)
                fails) ends)),
          )
