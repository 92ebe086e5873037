-- Signals go into an order once all their combinational reads are done, and at the end it has as
-- many signals as an order can have.
use Rattle.std.proofs.Common.{◌≡◌, ℕ, ◌+◌, ◌-◌, ◌<◌, Bool, true, false, cond, not, ◌&&◌, ◌||◌, ◌==◌}
use Rattle.std.proofs.Common.{List, [], ◌∷◌, ◌++◌, length, ⊎_elim, refl, sym, ap, ap₂, subst, ◌∙◌}
use Rattle.std.proofs.Common.{arith}
use Rattle.std.specs.Prelude.{IsTrue, IsFalse, Contains, filter}
use Rattle.std.specs.List.{list_all, range_with_len}
use Rattle.std.proofs.lemmas.Bool.{false≢true, eqb-true, eq-eqb, or_left, or_right}
use Rattle.sv_system.proofs.Lists.{Contains-head, Contains-later, Contains-nil, Contains-cases}
use Rattle.sv_flat.specs.Design.{FlatDesign}
use Rattle.sv_flat.specs.Loops.{reads_only_before, HasReadOrder, all_differ}
use Rattle.sv_flat.specs.Processes.{signals_that}
use Rattle.sv_flat.specs.Reads.{is_combinational, is_read_for, reads_for}
use Rattle.sv_flat.specs.Sets.{holds}
use Rattle.sv_flat.proofs.AdmittedFacts.{and_true}
use Rattle.sv_flat.proofs.Depths.{first_of, second_of, from_all, is_below}
use Rattle.sv_flat.proofs.LeastSets.{either_way, or_cases, holds-from_Contains, Contains-from_holds}
use Rattle.sv_flat.proofs.LeastSets.{range_has, those_pass}
use Rattle.sv_design.specs.Orders.{IsLongestOrder}
use Rattle.sv_graph.proofs.BitFacts.{same_answer}
use Rattle.sv_graph.proofs.Differing.{holds-append, holds-filter, range_differs, filter_differs}
use Rattle.sv_graph.proofs.Differing.{append_differs, none_kept, none_counted, one_fewer}
use Rattle.sv_graph.proofs.Differing.{turned}

-- ---- tests

pub to_all : {X : Type 0} (test : X → Bool) (xs : List X)
    → ((x : X) → Contains xs x → IsTrue (test x))
    → IsTrue (list_all test xs)
to_all test [] all = refl
to_all test (x ∷ xs) all =
    and_true (test x) (list_all test xs) (all x (Contains-head x xs))
    (to_all test xs (λ y at. all y (Contains-later x xs y at)))

either_one : (a b : Bool) → (IsTrue a → IsTrue b) → IsTrue (not a || b)
either_one true b h = h refl
either_one false b h = refl

one_of : (a b : Bool) → IsTrue a → IsTrue (not a || b) → IsTrue b
one_of true b h either = either
one_of false b h either = absurd (false≢true h)

open_one : (a b : Bool) → IsTrue a → IsFalse b → IsTrue (a && not b)
open_one true false h f = refl
open_one true true h f = absurd (false≢true (sym f))
open_one false b h f = absurd (false≢true h)

closed_one : (a b : Bool) → (IsTrue a → IsTrue b) → IsFalse (a && not b)
closed_one true true h = refl
closed_one true false h = absurd (false≢true (h refl))
closed_one false b h = refl

counts_one : (b : Bool) → IsTrue b → ◌≡◌ {A = ℕ} (cond b 1 0) 1
counts_one true h = refl
counts_one false h = absurd (false≢true h)

-- ---- open reads

module _ (design : FlatDesign) where
  abbrev comb : ℕ → Bool
  comb s = is_combinational design s

  -- a read is open where it is combinational and not done
  abbrev pub is_open : (done : List ℕ) → ℕ → Bool
  is_open done r = is_combinational design r && not (holds done r)

  -- how many open reads a signal has
  abbrev pub pending : (done : List ℕ) → ℕ → ℕ
  pending done s = length (filter (is_open done) (reads_for design s))

  -- all combinational reads of a signal are among some signals
  abbrev pub AreRead : (among : ℕ → Bool) → ℕ → Type 0
  AreRead among s =
      (r : ℕ) → Contains (reads_for design s) r → IsTrue (is_combinational design r)
      → IsTrue (among r)

  all_done : (done : List ℕ) (s : ℕ) → AreRead (holds done) s → pending done s ≡ 0
  all_done done s all =
      ap length (none_kept (is_open done) (reads_for design s) (λ r at.
      closed_one (comb r) (holds done r) (all r at)))

  none_open : (done : List ℕ) (s : ℕ) → pending done s ≡ 0 → AreRead (holds done) s
  none_open done s none r at is = ⊎_elim
      (λ h. h)
      (λ f.
      absurd (false≢true (sym (none_counted (is_open done) (reads_for design s) r none at)
      ∙ open_one (comb r) (holds done r) is f)))
      (either_way (holds done r))

  -- ---- orders

  abbrev pub placed : (first : List ℕ) → ℕ → Bool
  placed first s =
      list_all (λ t. not (is_combinational design t) || holds first t) (reads_for design s)

  is_placed : (first : List ℕ) (s : ℕ) → AreRead (holds first) s → IsTrue (placed first s)
  is_placed first s all = to_all (λ t.
      not (is_combinational design t) || holds first t) (reads_for design s) (λ r at.
      either_one (comb r) (holds first r) (all r at))

  pub from_placed : (first : List ℕ) (s : ℕ) → IsTrue (placed first s) → AreRead (holds first) s
  from_placed first s h r at is =
      one_of (comb r) (holds first r) is
      (from_all (λ t.
      not (is_combinational design t) || holds first t) (reads_for design s) r h at)

  all_before : (first xs : List ℕ) → ((s : ℕ) → Contains xs s → AreRead (holds first) s) →
      IsTrue (reads_only_before design first xs)
  all_before first [] all = refl
  all_before first (x ∷ xs) all =
      and_true (placed first x) (reads_only_before design (x ∷ first) xs)
      (is_placed first x (all x (Contains-head x xs)))
      (all_before (x ∷ first) xs (λ s at r in_reads is.
      or_right (x == r) (holds first r) (all s (Contains-later x xs s at) r in_reads is)))

  pub before_append : (first xs ys : List ℕ) → IsTrue (reads_only_before design first xs)
      → ((s : ℕ) → Contains ys s → AreRead (λ r. holds first r || holds xs r) s)
      → IsTrue (reads_only_before design first (xs ++ ys))
  before_append first [] ys h all =
      all_before first ys (λ s at r in_reads is. ⊎_elim
      (λ here. here)
      (λ none. absurd (false≢true none))
      (or_cases (holds first r) false (all s at r in_reads is)))
  before_append first (x ∷ xs) ys h all =
      and_true (placed first x) (reads_only_before design (x ∷ first) (xs ++ ys))
      (first_of (placed first x) (reads_only_before design (x ∷ first) xs) h)
      (before_append (x ∷ first) xs ys
      (second_of (placed first x) (reads_only_before design (x ∷ first) xs) h)
      (λ s at r in_reads is.
      moved (holds first r) (x == r) (holds xs r) (all s at r in_reads is)))
    where
      moved : (a b c : Bool) → IsTrue (a || (b || c)) → IsTrue ((b || a) || c)
      moved true true c h = refl
      moved true false c h = refl
      moved false true c h = refl
      moved false false c h = h

-- ---- signals in an order while others are looked at

-- of the signals of the order, those that are done are looked at
pub record Queued (design : FlatDesign) (done order : List ℕ) (counts : ℕ → ℕ) : Type 0 where
  pub counted : (s : ℕ) → IsTrue (is_combinational design s) → counts s ≡ pending design done s
  pub has : (s : ℕ) → holds order s ≡ (is_combinational design s && (pending design done s == 0))
  pub differ : IsTrue (all_differ order)
  pub before : IsTrue (reads_only_before design [] order)

module _ (design : FlatDesign) where
  abbrev is_comb : ℕ → Bool
  is_comb s = is_combinational design s

  abbrev n : ℕ
  n = length design.signals

  -- each of an order is combinational
  pub queued_comb : (done order : List ℕ) (counts : ℕ → ℕ) → Queued design done order counts
      → (s : ℕ) → Contains order s
      → IsTrue (is_combinational design s)
  queued_comb done order counts queued s at =
      first_of (is_comb s) (pending design done s == 0)
      (sym (queued.has s) ∙ holds-from_Contains order s at)

  in_range : (s : ℕ) (b : Bool) → (holds (range_with_len 0 n) s && (is_comb s && b)) ≡
      (is_comb s && b)
  in_range s b = same_answer (holds (range_with_len 0 n) s && (is_comb s && b)) (is_comb s && b)
      (λ h. second_of (holds (range_with_len 0 n) s) (is_comb s && b) h)
      (λ h.
      and_true (holds (range_with_len 0 n) s) (is_comb s && b)
      (holds-from_Contains (range_with_len 0 n) s
      (range_has n s (is_below design s (first_of (is_comb s) b h)))) h)

  -- at first those with no combinational reads are in the order
  pub queue_begins : (order : List ℕ) (counts : ℕ → ℕ)
      → order ≡ filter (λ s.
      is_combinational design s && (pending design [] s == 0)) (range_with_len 0 n)
      → ((s : ℕ) → IsTrue (is_combinational design s) → counts s ≡ pending design [] s)
      → Queued design [] order counts
  queue_begins order counts is counted =
      let test = λ (s : ℕ). is_combinational design s && (pending design [] s == 0) in record {
        counted = counted;
        has = λ s. ap (λ xs. holds xs s) is ∙ holds-filter test (range_with_len 0 n) s
            ∙ in_range s (pending design [] s == 0);
        differ = subst (λ xs. IsTrue (all_differ xs)) (sym is)
            (filter_differs test (range_with_len 0 n) (range_differs 0 n));
        before = subst (λ xs. IsTrue (reads_only_before design [] xs)) (sym is)
            (before_append design [] [] (filter test (range_with_len 0 n)) refl
            (λ s at r in_reads comb.
            or_left (holds [] r) false (none_open design [] s
            (eqb-true (pending design [] s) 0
            (second_of (is_comb s) (pending design [] s == 0)
            (those_pass n test s at))) r in_reads comb)));
      }

  -- a signal more is done
  pub one_less_open : (done : List ℕ) (s t : ℕ) → IsTrue (is_combinational design s)
      → IsFalse (holds done s)
      → pending design done t ≡
      pending design (done ++ s ∷ []) t + cond (is_read_for design t s) 1 0
  one_less_open done s t comb out =
      one_fewer (is_open design done) (is_open design (done ++ s ∷ [])) s (reads_for design t)
      (filter_differs (is_read_for design t) (range_with_len 0 n) (range_differs 0 n))
      (λ k other.
      ap (λ b. is_comb k && not b)
      (sym (holds-append done (s ∷ []) k
      ∙ ap (λ b. holds done k || (b || false)) (turned s k other)
      ∙ or_nothing (holds done k))))
      (ap (λ b. is_comb s && not b)
      (holds-append done (s ∷ []) s
      ∙ ap (λ b. holds done s || (b || false)) (eq-eqb s s refl) ∙ or_all (holds done s))
      ∙ and_nothing (is_comb s))
      ∙ ap (λ b. pending design (done ++ s ∷ []) t + cond b 1 0)
      (ap (λ b. b && (is_comb s && not (holds done s)))
      (holds-filter (is_read_for design t) (range_with_len 0 n) s
      ∙ ap (λ b. b && is_read_for design t s)
      (holds-from_Contains (range_with_len 0 n) s (range_has n s (is_below design s comb))))
      ∙ ap₂ (λ a b. is_read_for design t s && (a && not b)) comb out
      ∙ and_all (is_read_for design t s))
    where
      or_nothing : (b : Bool) → (b || (false || false)) ≡ b
      or_nothing true = refl
      or_nothing false = refl

      or_all : (b : Bool) → (b || (true || false)) ≡ true
      or_all true = refl
      or_all false = refl

      and_nothing : (b : Bool) → (b && false) ≡ false
      and_nothing true = refl
      and_nothing false = refl

      and_all : (b : Bool) → (b && true) ≡ b
      and_all true = refl
      and_all false = refl

  -- a signal is in the order where it was, or where its last open read is done now
  in_next : (c w : Bool) (m k count : ℕ) (had reads : Bool) → had ≡ (c && (m == 0))
      → reads ≡ (c && w) → (IsTrue c → count ≡ m) → m ≡ k + cond w 1 0
      → (had || (reads && (count == 1))) ≡ (c && (k == 0))
  in_next false w m k count had reads had_is reads_is count_is less =
      ap₂ (λ h r. h || (r && (count == 1))) had_is reads_is
  in_next true true m k count had reads had_is reads_is count_is less =
      let is : count ≡ m = count_is refl in
      ap₂ (λ h r. h || (r && (count == 1))) had_is reads_is
      ∙ same_answer ((m == 0) || (count == 1)) (k == 0)
      (λ h. ⊎_elim
      (λ none. let e = eqb-true m 0 none in absurd (omega arith))
      (λ one. let e = eqb-true count 1 one in eq-eqb k 0 (omega arith))
      (or_cases (m == 0) (count == 1) h))
      (λ h.
      let e = eqb-true k 0 h in
      or_right (m == 0) (count == 1) (eq-eqb count 1 (omega arith)))
  in_next true false m k count had reads had_is reads_is count_is less =
      let e : m ≡ k = omega arith in
      ap₂ (λ h r. h || (r && (count == 1))) had_is reads_is
      ∙ or_false (m == 0) ∙ ap (λ z. z == 0) e
    where
      or_false : (b : Bool) → (b || false) ≡ b
      or_false true = refl
      or_false false = refl

  module _ (done order : List ℕ) (counts next_counts : ℕ → ℕ) (readers : List ℕ) (s : ℕ)
      (queued : Queued design done order counts) (comb : IsTrue (is_combinational design s))
      (out : IsFalse (holds done s))
      (read_by : (t : ℕ) → holds readers t ≡
      (is_combinational design s && is_combinational design t && is_read_for design t s))
      (once : IsTrue (all_differ readers))
      (lower : (t : ℕ) → next_counts t ≡ counts t - cond (holds readers t) 1 0)
      (within : (t : ℕ) → IsTrue (holds (done ++ s ∷ []) t) → IsTrue (holds order t)) where
    abbrev next_done : List ℕ
    next_done = done ++ s ∷ []

    abbrev last_open : ℕ → Bool
    last_open t = counts t == 1

    abbrev new : List ℕ
    new = filter last_open readers

    reader_is : (t : ℕ) → holds readers t ≡ (is_comb t && is_read_for design t s)
    reader_is t = read_by t ∙ ap (λ b. b && is_comb t && is_read_for design t s) comb

    -- a signal that is read for another has that one as an open read
    pub some_open : (t : ℕ) → IsTrue (holds readers t) → 0 < counts t
    some_open t h =
        let both = sym (reader_is t) ∙ h in
        let is = queued.counted t (first_of (is_comb t) (is_read_for design t s) both) in
        let less = one_less_open done s t comb out in
        let one = counts_one (is_read_for design t s)
        (second_of (is_comb t) (is_read_for design t s) both) in
        omega arith

    -- those that go into the order have no open reads
    new_ones : (t : ℕ) → Contains new t →
        IsTrue (is_comb t) × (pending design done t ≡ 1) × (pending design next_done t ≡ 0)
    new_ones t at =
        let passed = sym (holds-filter last_open readers t) ∙ holds-from_Contains new t at in
        let both = sym (reader_is t) ∙ first_of (holds readers t) (last_open t) passed in
        let is_t = first_of (is_comb t) (is_read_for design t s) both in
        let count = queued.counted t is_t in
        let last = eqb-true (counts t) 1 (second_of (holds readers t) (last_open t) passed) in
        let less = one_less_open done s t comb out in
        let one = counts_one (is_read_for design t s)
        (second_of (is_comb t) (is_read_for design t s) both) in
        (is_t, omega arith, omega arith)

    counted_next : (t : ℕ) → IsTrue (is_comb t) → next_counts t ≡ pending design next_done t
    counted_next t is_t =
        let count = queued.counted t is_t in
        let less = one_less_open done s t comb out in
        let now = lower t ∙ ap (λ b. counts t - cond b 1 0)
        (reader_is t ∙ ap (λ b. b && is_read_for design t s) is_t) in
        omega arith

    -- the signals that it is read for have one open read less, and go into the order with their
    -- last one
    pub queue_more : Queued design next_done (order ++ new) next_counts
    queue_more = record {
      counted = counted_next;
      has = λ t.
          holds-append order new t
          ∙ ap (λ b. holds order t || b) (holds-filter last_open readers t)
          ∙ in_next (is_comb t) (is_read_for design t s) (pending design done t)
          (pending design next_done t) (counts t) (holds order t) (holds readers t) (queued.has t)
          (reader_is t) (queued.counted t) (one_less_open done s t comb out);
      differ = append_differs order new queued.differ (filter_differs last_open readers once)
          (λ k at.
          let found = new_ones k at in
          queued.has k ∙ ap₂ (λ b m. b && (m == 0)) found.0 found.1);
      before = before_append design [] order new queued.before (λ t at r in_reads is.
          within r (none_open design next_done t (new_ones t at).2 r in_reads is));
    }

  -- ---- the end

  module _ (order : List ℕ) (counts : ℕ → ℕ) (queued : Queued design order order counts) where
    -- each combinational signal of another order is in it
    all_in : (first xs : List ℕ) → IsTrue (reads_only_before design first xs)
        → ((k : ℕ) → Contains first k → IsTrue (is_comb k) → IsTrue (holds order k))
        → (k : ℕ) → Contains xs k → IsTrue (is_comb k)
        → IsTrue (holds order k)
    all_in first [] h known k at is = absurd (Contains-nil k at)
    all_in first (x ∷ xs) h known k at is =
        let rest = second_of (placed design first x) (reads_only_before design (x ∷ first) xs) h in
        let reads = from_placed design first x (first_of (placed design first x)
        (reads_only_before design (x ∷ first) xs) h) in
        let here : IsTrue (is_comb x) → IsTrue (holds order x) = λ x_is.
        queued.has x ∙ and_true (is_comb x) (pending design order x == 0) x_is
        (eq-eqb (pending design order x) 0 (all_done design order x (λ r in_reads comb.
        known r (Contains-from_holds first r (reads r in_reads comb)) comb))) in
        let later : (z : ℕ) → Contains (x ∷ first) z → IsTrue (is_comb z)
        → IsTrue (holds order z) = λ z inside z_is. ⊎_elim
        (λ e. subst (λ y. IsTrue (holds order y)) e (here (subst (λ y. IsTrue (is_comb y)) (sym e)
        z_is)))
        (λ old. known z old z_is)
        (Contains-cases x first z inside) in
        ⊎_elim
        (λ e. later k (subst (Contains (x ∷ first)) e (Contains-head x first)) is)
        (λ inside. all_in (x ∷ first) xs rest later k inside is)
        (Contains-cases x xs k at)

    -- with all of it looked at, the order is as long as an order can be
    pub queue_ends : IsLongestOrder design order
    queue_ends = record {
      before = queued.before;
      combinational = queued_comb order order counts queued;
      differ = queued.differ;
      longest = λ (ordered : HasReadOrder design).
          let combs = signals_that design (is_combinational design) in
          let all = list_all (holds ordered.0) combs in
          let reads = reads_only_before design [] ordered.0 in
          and_true (list_all (holds order) combs) (reads_only_before design [] order)
          (to_all (holds order) combs (λ k at.
          all_in [] ordered.0 (second_of all reads ordered.1)
          (λ z none. absurd (Contains-nil z none)) k
          (Contains-from_holds ordered.0 k (from_all (holds ordered.0) combs k
          (first_of all reads ordered.1) at))
          (those_pass n (is_combinational design) k at)))
          queued.before;
    }
