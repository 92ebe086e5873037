-- The conditions of a path are well formed: over the signals and their copies while names are
-- wanted, and over the signals at the beginning of the process.
use Rattle.std.proofs.Common.{◌≡◌, ℕ, ◌+◌, ◌-◌, ◌^◌, ◌<◌, ◌≤◌, Bool, true, false, cond, ◌&&◌, ◌==◌, not}
use Rattle.std.proofs.Common.{nat_lt, nat_le, ltb-true, leb-true, lt-ltb, List, [], ◌∷◌, ◌++◌, length}
use Rattle.std.proofs.Common.{map, fold, ⊎_elim, refl, sym, ap, ap₂, subst, ◌∙◌, arith, length-append}
use Rattle.std.specs.Prelude.{Contains, IsTrue}
use Rattle.std.specs.List.{list_any, list_all}
use Rattle.std.proofs.lemmas.Bool.{eqb-true, le-leb}
use Rattle.std.proofs.lemmas.Nat.{pow_pos}
use Rattle.sv_num.specs.declared.faults.Place.{Place}
use Rattle.sv_num.specs.Parts.{span_of}
use Rattle.sv_system.proofs.Lists.{Contains-nil, Contains-cases, Contains-from_map}
use Rattle.sv_flat.specs.Assigned.{can_assign}
use Rattle.sv_flat.specs.Design.{SignalForm, TypedTree, typed, constant, choice, mend, slice}
use Rattle.sv_flat.specs.Design.{PieceForm, FlatStatement, nothing, after, assign, branch}
use Rattle.sv_flat.specs.Readings.{ReadForm, BitSet, either, some_bit_read}
use Rattle.sv_flat.specs.Soundness.{is_one_to, is_signal, is_part_of, has_type, well_formed}
use Rattle.sv_flat.specs.Soundness.{node_well_formed, piece_fits, is_whole, statement_sound}
use Rattle.sv_flat.specs.Values.{signal_of, signal_width, expression_width}
use Rattle.sv_flat.proofs.Depths.{first_of, second_of}
use Rattle.sv_flat.proofs.Members.{Contains-either, only}
use Rattle.sv_flat.proofs.ReadSignals.{reads_signals}
use Rattle.sv_obl.specs.Exchange.{name, content}
use Rattle.sv_obl.specs.Paths.{StepForm, Path, under, step_with, Way, ways}
use Rattle.sv_obl.specs.Paths.{ways_taken, with_way, is_taken, open_path, before}
use Rattle.sv_obl.specs.Paths.{closed}
use Rattle.sv_obl.specs.Wanted.{with_copies, copy_of, is_copy, original, mark, marked_tree, marked}
use Rattle.sv_obl.specs.Wanted.{wanted_name, piece_value, with_piece_put, put_value, pieces_put}
use Rattle.sv_obl.specs.Wanted.{put_in, close, closed_tree}
use Rattle.sv_paths.proofs.FormedExchange.{Fits, exchanged_formed}
use Rattle.sv_obl.proofs.PathLists.{both_true, from_flat_map}
use Rattle.sv_obl.proofs.PathRuns.{step_of, whole_way, way_cases, taken_cases}
use Rattle.sv_obl.proofs.PutFacts.{width_settled, width_copy, width_original, settled_is_signal}
use Rattle.sv_obl.proofs.TreeFacts.{held_below, well_held, exchanged_held, Below}

-- ---- parts of values

part_is : (n w high low : ℕ) → low ≤ high → high < n → high + 1 - low ≤ w
    → IsTrue (is_part_of n w high low)
part_is n w high low ordered inside room =
    both_true (nat_le low high && nat_lt high n) (nat_le (high + 1 - low) w)
    (both_true (nat_le low high) (nat_lt high n) (le-leb low high ordered) (lt-ltb high n inside))
    (le-leb (high + 1 - low) w room)

-- a piece that fits has some bits of its signal, and takes as many of the value
record IsInside (signals : List SignalForm) (e : TypedTree) (p : PieceForm) : Type 0 where
  known : IsTrue (is_signal signals p.signal)
  ordered : p.low ≤ p.high
  below : p.high < signal_width signals p.signal
  room : p.high + 1 - p.low ≤ expression_width e - p.from

inside_of : (signals : List SignalForm) (e : TypedTree) (p : PieceForm)
    → IsTrue (piece_fits signals e p) → IsInside signals e p
inside_of signals e p fits =
    let w = signal_width signals p.signal in
    let some = nat_le p.low p.high in
    let under_end = nat_lt p.high w in
    let few = nat_le (p.high + 1 - p.low) (expression_width e - p.from) in
    let part = second_of (is_signal signals p.signal) (some && under_end && few) fits in
    let ends = first_of (some && under_end) few part in
    record {
      known = first_of (is_signal signals p.signal) (some && under_end && few) fits;
      ordered = leb-true p.low p.high (first_of some under_end ends);
      below = ltb-true p.high w (second_of some under_end ends);
      room = leb-true (p.high + 1 - p.low) (expression_width e - p.from)
          (second_of (some && under_end) few part);
    }

-- ---- expressions

module _ (signals : List SignalForm)
    (widths : (s : ℕ) → s < length signals → IsTrue (is_one_to 64 (signal_width signals s))) where
  abbrev both : List SignalForm
  both = with_copies signals

  abbrev n : ℕ
  n = length signals

  -- over the signals and their copies, with values held for signals alone
  abbrev pub Formed : TypedTree → Type 0
  Formed e = IsTrue (held_below n e) × IsTrue (well_formed both e)

  twice : length both ≡ n + n
  twice = length-append signals signals

  known_below : (t : ℕ) → IsTrue (is_signal both t) → t < n + n
  known_below t known = subst (λ k. t < k) twice (ltb-true t (length both) known)

  known_both : (t : ℕ) → t < n + n → IsTrue (is_signal both t)
  known_both t low = lt-ltb t (length both) (subst (λ k. t < k) (sym twice) low)

  -- a signal is one of both lists
  same_signal : (s : ℕ) → IsTrue (nat_lt s n)
      → IsTrue (is_signal both s) × (signal_width both s ≡ signal_width signals s)
  same_signal s h =
      let low = ltb-true s n h in
      (known_both s (omega arith), width_settled signals s low)

  original_below : (t : ℕ) → t < n + n → IsTrue (is_copy signals t) → original signals t < n
  original_below t low copy = let least = leb-true n t copy in omega arith

  -- ---- earlier reads

  module _ (in_block : Bool) (follows : BitSet) where
    mark_fits : (r : ReadForm) → IsTrue (is_signal signals r.signal)
        → Fits signals both r.signal (mark signals in_block follows r)
    mark_fits r known =
        by_test (in_block && some_bit_read signals r (follows r.signal)) r.signal known
      where
        by_test : (c : Bool) (s : ℕ) → IsTrue (is_signal signals s)
            → Fits signals both s (name (cond c (copy_of signals s) s))
        by_test true s h =
            let low = ltb-true s n h in
            (known_both (n + s) (omega arith), width_copy signals s)
        by_test false s h = same_signal s h

    pub marked_formed : (e : TypedTree) → IsTrue (well_formed signals e)
        → Formed (marked_tree signals in_block follows e)
    marked_formed e formed =
        let held = well_held signals e formed in (
          exchanged_held signals (mark signals in_block follows) n e held (λ r at. tt),
          exchanged_formed signals both (mark signals in_block follows) n same_signal mark_fits e
              held formed,
        )

    marked_width : (e : TypedTree)
        → expression_width (marked_tree signals in_block follows e) ≡ expression_width e
    marked_width (typed w signed node) = refl

  -- ---- what is put in

  module _ (right : TypedTree) (formed : Formed right) where
    -- a piece of it is well formed, and as long as the piece at least
    record IsPiece (p : PieceForm) (value : TypedTree) : Type 0 where
      is_formed : Formed value
      room : p.high + 1 - p.low ≤ expression_width value

    piece_formed : (p : PieceForm) → IsInside signals right p → IsPiece p (piece_value right p)
    piece_formed p inside = by_test (p.from == 0) refl
      where
        span : ℕ
        span = span_of p.high p.low

        cut : TypedTree
        cut = typed span false (slice right (p.from + p.high - p.low) p.from)

        -- the signal has at most 64 bits
        few : signal_width signals p.signal ≤ 64
        few =
            let w = signal_width signals p.signal in
            leb-true w 64 (second_of (nat_le 1 w) (nat_le w 64)
            (widths p.signal (ltb-true p.signal n inside.known)))

        some_span : IsTrue (is_one_to 64 span)
        some_span =
            let a = inside.ordered in
            let b = inside.below in
            let c = few in
            both_true (nat_le 1 span) (nat_le span 64) (le-leb 1 span (omega arith))
            (le-leb span 64 (omega arith))

        cut_part : IsTrue (is_part_of (expression_width right) span (p.from + p.high - p.low) p.from)
        cut_part =
            let a = inside.ordered in
            let b = inside.room in
            part_is (expression_width right) span (p.from + p.high - p.low) p.from (omega arith)
            (omega arith) (omega arith)

        by_test : (c : Bool) → (p.from == 0) ≡ c → IsPiece p (cond c right cut)
        by_test true is =
            let a = inside.room in
            record { is_formed = formed; room = omega arith }
        by_test false is = record {
          is_formed = (
            formed.0,
            both_true (is_one_to 64 span)
                (is_part_of (expression_width right) span (p.from + p.high - p.low) p.from
                && well_formed both right) some_span
                (both_true
                (is_part_of (expression_width right) span (p.from + p.high - p.low) p.from)
                (well_formed both right) cut_part formed.1),
          );
          room = omega arith;
        }

    module _ (s : ℕ) (low : s < length signals) where
      mended_formed : (old value : TypedTree) (p : PieceForm) → Formed old → p.signal ≡ s
          → IsInside signals right p → IsPiece p value
          → Formed (typed (signal_width signals s) (signal_of signals s).signed
          (mend s old p.high p.low value))
      mended_formed old value p old_formed own inside piece =
          let w = signal_width signals s in
          let same = width_settled signals s low in
          let below : p.high < w = subst (λ k. p.high < signal_width signals k) own inside.below in
          let high_below : p.high < signal_width both s =
          subst (λ k. p.high < k) (sym same) below in
          let known = is_signal both s in
          let wide = nat_le (signal_width both s) w in
          let part = is_part_of (signal_width both s) (expression_width value) p.high p.low in (
            both_true (nat_lt s n && held_below n old) (held_below n value)
                (both_true (nat_lt s n) (held_below n old) (lt-ltb s n low) old_formed.0)
                piece.is_formed.0,
            both_true (is_one_to 64 w)
                (known && wide && part && well_formed both old && well_formed both value)
                (widths s low)
                (both_true (known && wide && part && well_formed both old)
                (well_formed both value)
                (both_true (known && wide && part) (well_formed both old)
                (both_true (known && wide) part
                (both_true known wide (known_both s (omega arith))
                (le-leb (signal_width both s) w (omega (arith, same))))
                (part_is (signal_width both s) (expression_width value) p.high p.low
                inside.ordered high_below piece.room))
                old_formed.1)
                piece.is_formed.1),
          )

      with_piece_formed : (old : TypedTree) (p : PieceForm) → Formed old
          → IsTrue (piece_fits signals right p)
          → Formed (with_piece_put signals right s old p)
      with_piece_formed old p old_formed fits =
          by_test (p.signal == s) (is_whole signals p) refl
        where
          inside : IsInside signals right p
          inside = inside_of signals right p fits

          value : TypedTree
          value = piece_value right p

          by_test : (c whole : Bool) → (p.signal == s) ≡ c
              → Formed (cond (not c) old (cond whole value
              (typed (signal_width signals s) (signal_of signals s).signed
              (mend s old p.high p.low value))))
          by_test false whole is = old_formed
          by_test true true is = (piece_formed p inside).is_formed
          by_test true false is =
              mended_formed old value p old_formed (eqb-true p.signal s is) inside
              (piece_formed p inside)

      pieces_formed : (pieces : List PieceForm) (old : TypedTree) → Formed old
          → IsTrue (list_all (piece_fits signals right) pieces)
          → Formed (fold (with_piece_put signals right s) old pieces)
      pieces_formed [] old old_formed fit = old_formed
      pieces_formed (p ∷ pieces) old old_formed fit =
          let test = piece_fits signals right in
          pieces_formed pieces (with_piece_put signals right s old p)
          (with_piece_formed old p old_formed (first_of (test p) (list_all test pieces) fit))
          (second_of (test p) (list_all test pieces) fit)

      wanted_formed : (place : Place) → Formed (wanted_name signals s place)
      wanted_formed place =
          let w = signal_width signals s in
          let same = width_copy signals s in
          let known = is_signal both (copy_of signals s) in
          let wide = nat_le (signal_width both (copy_of signals s)) w in (
            refl,
            both_true (is_one_to 64 w) (known && wide) (widths s low)
                (both_true known wide (known_both (n + s) (omega arith))
                (le-leb (signal_width both (copy_of signals s)) w (omega (arith, same)))),
          )

    module _ (pieces : List PieceForm)
        (fit : IsTrue (list_all (piece_fits signals right) pieces)) where
      put_holds : (r : ReadForm) → IsTrue (is_signal both r.signal)
          → Fits both both r.signal (pieces_put signals pieces right r)
          × Below both (pieces_put signals pieces right) n (pieces_put signals pieces right r)
      put_holds r known =
          by_test (is_copy signals r.signal)
          (list_any (λ (p : PieceForm). p.signal == original signals r.signal) pieces) refl
        where
          s : ℕ
          s = original signals r.signal

          value : TypedTree
          value = put_value signals pieces right s r.place

          by_test : (c d : Bool) → is_copy signals r.signal ≡ c
              → Fits both both r.signal (cond (c && d) (content s value) (name r.signal))
              × Below both (pieces_put signals pieces right) n
              (cond (c && d) (content s value) (name r.signal))
          by_test true true copy =
              let low = original_below r.signal (known_below r.signal known) copy in
              let made = pieces_formed s low pieces (wanted_name signals s r.place)
              (wanted_formed s low r.place) fit in (
                record {
                  is_known = known_both s (omega arith);
                  width = width_settled signals s low ∙ sym (width_original signals r.signal copy);
                  formed = made.1;
                },
                (lt-ltb s n low, made.0),
              )
          by_test true false copy = ((known, refl), tt)
          by_test false d copy = ((known, refl), tt)

      put_in_formed : (e : TypedTree) → Formed e → Formed (put_in signals pieces right e)
      put_in_formed e e_formed = (
        exchanged_held both (pieces_put signals pieces right) n e e_formed.0
            (λ r at. (put_holds r (reads_signals both e e_formed.1 r at)).1),
        exchanged_formed both both (pieces_put signals pieces right) n
            (λ s h. ((same_signal s h).0, refl)) (λ r known. (put_holds r known).0) e e_formed.0
            e_formed.1,
      )

  -- ---- the beginning of a process

  module _ (is_register : Bool) where
    close_fits : (r : ReadForm) → IsTrue (is_signal both r.signal)
        → Fits both signals r.signal (close signals is_register r)
    close_fits r known = by_test (is_copy signals r.signal) is_register refl
      where
        s : ℕ
        s = original signals r.signal

        zero_value : TypedTree
        zero_value = typed (signal_width signals s) (signal_of signals s).signed (constant 0)

        by_test : (copied register : Bool) → is_copy signals r.signal ≡ copied
            → Fits both signals r.signal (cond (not copied) (name r.signal)
            (cond register (name s) (content s zero_value)))
        by_test false register is =
            let low = settled_is_signal signals r.signal is in
            (lt-ltb r.signal n low, sym (width_settled signals r.signal low))
        by_test true true is =
            let low = original_below r.signal (known_below r.signal known) is in
            (lt-ltb s n low, sym (width_original signals r.signal is))
        by_test true false is =
            let low = original_below r.signal (known_below r.signal known) is in
            let w = signal_width signals s in
            record {
              is_known = lt-ltb s n low;
              width = sym (width_original signals r.signal is);
              formed = both_true (is_one_to 64 w) (nat_lt 0 (2 ^ w)) (widths s low)
                  (lt-ltb 0 (2 ^ w) (pow_pos w));
            }

    closed_formed : (e : TypedTree) → Formed e
        → IsTrue (well_formed signals (closed_tree signals is_register e))
    closed_formed e formed =
        exchanged_formed both signals (close signals is_register) n
        (λ s h. (h, sym (same_signal s h).1)) close_fits e formed.0 formed.1

  -- ---- steps

  abbrev StepsFormed : List StepForm → Type 0
  StepsFormed steps = (step : StepForm) → Contains steps step → Formed step.condition

  no_steps : StepsFormed []
  no_steps step at = absurd (Contains-nil step at)

  with_step : (step : StepForm) (steps : List StepForm) → Formed step.condition
      → StepsFormed steps → StepsFormed (step ∷ steps)
  with_step step steps formed each other at = ⊎_elim
      (λ is. subst (λ (y : StepForm). Formed y.condition) is formed)
      (λ later. each other later)
      (Contains-cases step steps other at)

  both_steps : (first second : List StepForm) → StepsFormed first → StepsFormed second
      → StepsFormed (first ++ second)
  both_steps first second one two step at =
      ⊎_elim (one step) (two step) (Contains-either first second step at)

  -- what is done to each condition leaves all of them well formed
  map_formed : (f : TypedTree → TypedTree) → ((e : TypedTree) → Formed e → Formed (f e))
      → (steps : List StepForm) → StepsFormed steps → StepsFormed (map (step_with f) steps)
  map_formed f keeps steps each step at =
      let from = Contains-from_map (step_with f) steps step at in
      subst (λ (y : StepForm). Formed y.condition) from.2
      (keeps (from.0).condition (each from.0 from.1))

  -- ---- right sides

  choice_formed : (w : ℕ) (signed : Bool) (place : Place) (c a b : TypedTree)
      → Formed (typed w signed (choice place c a b)) → Formed c × Formed a × Formed b
  choice_formed w signed place c a b formed =
      let held = first_of (held_below n c && held_below n a) (held_below n b) formed.0 in
      let types = has_type w signed a && has_type w signed b in
      let node = second_of (is_one_to 64 w) (node_well_formed both w signed (choice place c a b))
      formed.1 in
      let front = first_of (types && well_formed both c && well_formed both a)
      (well_formed both b) node in (
        (
          first_of (held_below n c) (held_below n a) held,
          second_of types (well_formed both c)
              (first_of (types && well_formed both c) (well_formed both a) front),
        ),
        (
          second_of (held_below n c) (held_below n a) held,
          second_of (types && well_formed both c) (well_formed both a) front,
        ),
        (
          second_of (held_below n c && held_below n a) (held_below n b) formed.0,
          second_of (types && well_formed both c && well_formed both a) (well_formed both b) node,
        ),
      )

  ways_formed : (right : TypedTree) → Formed right → (way : Way) → Contains (ways right) way
      → StepsFormed way.steps
  ways_formed (typed w signed (choice place c a b)) formed way at =
      let parts = choice_formed w signed place c a b formed in
      way_cases (λ (y : Way). StepsFormed y.steps) place c a b
      (λ from is.
      with_step (step_of place c true) from.steps parts.0 (ways_formed a parts.1 from is))
      (λ from is.
      with_step (step_of place c false) from.steps parts.0 (ways_formed b parts.2 from is))
      way at
  ways_formed right formed way at =
      subst (λ (y : Way). StepsFormed y.steps) (only (whole_way right) way at) no_steps

  taken_formed : (pieces : List PieceForm) (right : TypedTree) (path : Path) → Formed right
      → (way : Way) → Contains (ways_taken signals pieces right path) way → StepsFormed way.steps
  taken_formed pieces right path formed =
      taken_cases signals (λ (y : Way). StepsFormed y.steps) pieces right path
      (ways_formed right formed) no_steps

  -- ---- statements

  module _ (s : ℕ) (in_block : Bool) where
    abbrev PathsFormed : List Path → Type 0
    PathsFormed paths = (q : Path) → Contains paths q → StepsFormed q.steps

    alone : (path : Path) → StepsFormed path.steps → PathsFormed (path ∷ [])
    alone path formed q at = subst (λ (y : Path). StepsFormed y.steps) (only path q at) formed

    under_each : (step : StepForm) (paths : List Path) → Formed step.condition
        → PathsFormed paths → PathsFormed (map (under step) paths)
    under_each step paths formed each q at =
        let from = Contains-from_map (under step) paths q at in
        subst (λ (y : Path). StepsFormed y.steps) from.2
        (with_step step from.0.steps formed (each from.0 from.1))

    either_formed : (c : Bool) (xs ys : List Path) → PathsFormed xs → PathsFormed ys
        → PathsFormed (cond c xs ys)
    either_formed true xs ys one two = one
    either_formed false xs ys one two = two

    all_fit : (test other : PieceForm → Bool) → ((p : PieceForm) → test p ≡ other p)
        → (pieces : List PieceForm) → list_all test pieces ≡ list_all other pieces
    all_fit test other same [] = refl
    all_fit test other same (p ∷ pieces) =
        ap₂ (λ b c. b && c) (same p) (all_fit test other same pieces)

    assign_formed : (pieces : List PieceForm) (right : TypedTree) (path : Path) → Formed right
        → IsTrue (list_all (piece_fits signals right) pieces) → StepsFormed path.steps
        → PathsFormed (map (with_way signals s pieces right path)
        (ways_taken signals pieces right path))
    assign_formed pieces right path formed fit steps q at =
        let from = Contains-from_map (with_way signals s pieces right path)
        (ways_taken signals pieces right path) q at in
        let way = from.0 in
        subst (λ (y : Path). StepsFormed y.steps) from.2
        (both_steps way.steps (map (step_with (put_in signals pieces right)) path.steps)
        (taken_formed pieces right path formed way from.1)
        (map_formed (put_in signals pieces right) (put_in_formed right formed pieces fit)
        path.steps steps))

    paths_formed : (statement : FlatStatement) (later : BitSet) (path : Path)
        → IsTrue (statement_sound signals statement) → StepsFormed path.steps
        → PathsFormed (before signals s (marked signals in_block statement later) path)
    paths_formed nothing later path sound formed = alone path formed
    paths_formed (after first second) later path sound formed = λ q at.
        let late = either (can_assign second) later in
        let from = from_flat_map (before signals s (marked signals in_block first late))
        (before signals s (marked signals in_block second later) path) q at in
        paths_formed first late from.0
        (first_of (statement_sound signals first) (statement_sound signals second) sound)
        (paths_formed second later path
        (second_of (statement_sound signals first) (statement_sound signals second) sound) formed
        from.0 from.1)
        q from.2
    paths_formed (assign pieces place blocking right) later path sound formed =
        let whole = assign pieces place blocking right in
        let follows = either (can_assign whole) later in
        let tree = marked_tree signals in_block follows right in
        let fits = list_all (piece_fits signals right) pieces in
        let fit = subst (λ b. IsTrue b)
        (all_fit (piece_fits signals right) (piece_fits signals tree)
        (λ p. ap (λ k. is_signal signals p.signal
        && is_part_of (signal_width signals p.signal) (k - p.from) p.high p.low)
        (sym (marked_width in_block follows right))) pieces)
        (second_of (well_formed signals right) fits sound) in
        either_formed (is_taken signals (marked signals in_block whole later) path)
        (map (with_way signals s pieces tree path) (ways_taken signals pieces tree path))
        (path ∷ [])
        (assign_formed pieces tree path
        (marked_formed in_block follows right (first_of (well_formed signals right) fits sound))
        fit formed)
        (alone path formed)
    paths_formed (branch place condition first second) later path sound formed =
        let whole = branch place condition first second in
        let follows = either (can_assign whole) later in
        let tree = marked_tree signals in_block follows condition in
        let front = first_of (well_formed signals condition && statement_sound signals first)
        (statement_sound signals second) sound in
        let formed_tree = marked_formed in_block follows condition
        (first_of (well_formed signals condition) (statement_sound signals first) front) in
        let met = before signals s (marked signals in_block first later) path in
        let unmet = before signals s (marked signals in_block second later) path in
        let in_yes = map (under (step_of place tree true)) met in
        let in_no = map (under (step_of place tree false)) unmet in
        either_formed (is_taken signals (marked signals in_block whole later) path)
        (in_yes ++ in_no) (path ∷ [])
        (λ q at. ⊎_elim
        (under_each (step_of place tree true) met formed_tree
        (paths_formed first later path
        (second_of (well_formed signals condition) (statement_sound signals first) front) formed) q)
        (under_each (step_of place tree false) unmet formed_tree
        (paths_formed second later path
        (second_of (well_formed signals condition && statement_sound signals first)
        (statement_sound signals second) sound) formed) q)
        (Contains-either in_yes in_no q at))
        (alone path formed)

    -- the conditions of each path, where no name is wanted any more
    pub closed_steps_formed : (is_register : Bool) (body : FlatStatement) (later : BitSet) (q : Path)
        → IsTrue (statement_sound signals body)
        → Contains (map (closed signals is_register)
        (before signals s (marked signals in_block body later) (open_path signals s))) q
        → (step : StepForm) → Contains q.steps step
        → IsTrue (well_formed signals step.condition)
    closed_steps_formed is_register body later q sound q_at step at =
        let from = Contains-from_map (closed signals is_register)
        (before signals s (marked signals in_block body later) (open_path signals s)) q q_at in
        let made = Contains-from_map (step_with (closed_tree signals is_register)) from.0.steps step
        (subst (λ (y : Path). Contains y.steps step) (sym from.2) at) in
        subst (λ (y : StepForm). IsTrue (well_formed signals y.condition)) made.2
        (closed_formed is_register (made.0).condition
        (paths_formed body later (open_path signals s) sound no_steps from.0 from.1 made.0 made.1))
