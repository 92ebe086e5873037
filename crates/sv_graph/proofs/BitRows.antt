-- Rows of bits, and graphs of them.
use Rattle.std.proofs.Common.{◌≡◌, ◌≢◌, ℕ, zero, suc, ◌+◌, ◌/◌, ◌%◌, ◌^◌, ◌<◌, ◌≤◌, Bool, true}
use Rattle.std.proofs.Common.{false, not, ◌&&◌, ◌||◌, ◌==◌, nat_lt, ltb-true, ltb-false, lt-ltb}
use Rattle.std.proofs.Common.{◌-◌, ◌*◌, cond, List, [], ◌∷◌, ◌++◌, length}
use Rattle.std.proofs.Common.{map, set, get_or, Vec, Global, get_or-set_same, get_or-set_other}
use Rattle.std.proofs.Common.{⊎_elim, refl, sym, ap, ap₂, subst, ◌∙◌, arith}
use Rattle.std.specs.Int.{bit_at}
use Rattle.std.specs.List.{list_any}
use Rattle.std.specs.Prelude.{IsTrue, IsFalse, bit_or, replicate}
use Rattle.std.specs.Vec.{with_item, with_items}
use Rattle.std.proofs.Math.ListN.{length-map}
use Rattle.std.proofs.lemmas.Bool.{false≢true, eqb-true, eq-eqb}
use Rattle.std.proofs.lemmas.Bool.Decides.{nat_tests}
use Rattle.std.proofs.lemmas.List.{get_or_past, map-set, get_or-map, get_or-replicate, length-set}
use Rattle.std.proofs.lemmas.List.{length-replicate, with_items_is, append-nil}
use Rattle.std.proofs.lemmas.Nat.Bits.{bit_at-zero, bit_at-pow_same, bit_at-pow_other}
use Rattle.sv_lattice.proofs.TableLemmas.{or_test}
use Rattle.sv_flat.specs.Sets.{holds, those}
use Rattle.sv_flat.proofs.AdmittedFacts.{negated_false}
use Rattle.sv_flat.proofs.SameRuns.{or_none_left, or_none_right}
use Rattle.sv_flat.proofs.LeastSets.{or_cases, either_way, those_pass, in_those, Contains-from_holds}
use Rattle.sv_flat.proofs.LeastSets.{holds-from_Contains, from_some}
use Rattle.sv_graph.specs.declared.bit_graphs.BitGraph.{BitGraph}
use Rattle.sv_graph.specs.BitGraphs.{in_row, words, IsRow, GainsBits, size, row, has_edge}
use Rattle.sv_graph.specs.BitGraphs.{IsOver, GainsEdges}
use Rattle.sv_graph.specs.BitSets.{is_set}
use Rattle.sv_graph.proofs.BitFacts.{same_answer}
use Rattle.sv_graph.proofs.ListFacts.{filter_more}
use Rattle.sv_graph.proofs.FollowFacts.{RowsSoFar}
use Rattle.sv_graph.proofs.MarkFacts.{or_no}

-- ---- words

pub no_bit : (k : ℕ) → is_set 0 k ≡ false
no_bit k = ap (λ n. n == 1) (bit_at-zero k)

pub none_past : (xs : List ℕ) (s : ℕ) → length xs ≤ s / 64 → in_row xs s ≡ false
none_past xs s past = ap (λ w. is_set w (s % 64)) (get_or_past xs (s / 64) 0 past) ∙ no_bit (s % 64)

pub inside_row : (n s : ℕ) → s < n → s / 64 < words n
inside_row n s below = omega arith

one_bit : (k j : ℕ) → is_set (2 ^ k) j ≡ (k == j)
one_bit k j = ⊎_elim
    (λ same. ap (is_set (2 ^ k)) (sym (eqb-true k j same))
    ∙ eq-eqb (bit_at (2 ^ k) k) 1 (bit_at-pow_same k) ∙ sym same)
    (λ other. ap (λ n. n == 1) (bit_at-pow_other k j (λ e.
    false≢true (sym other ∙ eq-eqb k j (sym e)))) ∙ sym other)
    (either_way (k == j))

-- a bit more in a row
pub bit_more : (xs : List ℕ) (t w : ℕ) → t / 64 < length xs
    → w ≡ bit_or (get_or xs (t / 64) 0) (2 ^ (t % 64))
    → GainsBits xs (set xs (t / 64) w) (λ s. t == s)
bit_more xs t w inside is s = ⊎_elim
    (λ same.
    let place : t / 64 ≡ s / 64 = eqb-true (t / 64) (s / 64) same in
    ap (λ p. is_set (get_or (set xs (t / 64) w) p 0) (s % 64)) (sym place)
    ∙ ap (λ v. is_set v (s % 64)) (get_or-set_same xs (t / 64) w 0 inside ∙ is)
    ∙ or_test (get_or xs (t / 64) 0) (2 ^ (t % 64)) (s % 64)
    ∙ ap₂ (λ p b. is_set (get_or xs p 0) (s % 64) || b) place
    (one_bit (t % 64) (s % 64) ∙ same_place place))
    (λ other.
    ap (λ v. is_set v (s % 64)) (get_or-set_other xs (t / 64) (s / 64) w 0
    (λ e. false≢true (sym other ∙ eq-eqb (t / 64) (s / 64) (sym e))))
    ∙ sym (or_no (in_row xs s) (t == s) (⊎_elim
    (λ e. absurd (false≢true (sym other ∙ eq-eqb (t / 64) (s / 64) (ap (λ z. z / 64)
    (eqb-true t s e))))) (λ f. f) (either_way (t == s)))))
    (either_way (t / 64 == s / 64))
  where
    same_place : t / 64 ≡ s / 64 → (t % 64 == s % 64) ≡ (t == s)
    same_place place = ⊎_elim
        (λ e.
        let bits : t % 64 ≡ s % 64 = eqb-true (t % 64) (s % 64) e in
        e ∙ sym (eq-eqb t s (omega (arith, place, bits))))
        (λ f. f ∙ sym (⊎_elim (λ e. absurd (false≢true (sym f ∙ eq-eqb (t % 64) (s % 64)
        (ap (λ z. z % 64) (eqb-true t s e))))) (λ g. g) (either_way (t == s))))
        (either_way (t % 64 == s % 64))

-- the words of two rows put together
pub rows_together : (old more new : List ℕ)
    → length more ≡ length old
    → ((k : ℕ) → k < length more → get_or new k 0 ≡ bit_or (get_or old k 0) (get_or more k 0))
    → ((k : ℕ) → length more ≤ k → get_or new k 0 ≡ get_or old k 0)
    → GainsBits old new (in_row more)
rows_together old more new same both rest s = ⊎_elim
    (λ inside.
    let below : s / 64 < length more = ltb-true (s / 64) (length more) inside in
    ap (λ w. is_set w (s % 64)) (both (s / 64) below)
    ∙ or_test (get_or old (s / 64) 0) (get_or more (s / 64) 0) (s % 64))
    (λ outside.
    let past : length more ≤ s / 64 = ltb-false (s / 64) (length more) outside in
    ap (λ w. is_set w (s % 64)) (rest (s / 64) past)
    ∙ sym (or_no (in_row old s) (in_row more s) (none_past more s past)))
    (either_way (nat_lt (s / 64) (length more)))

pub empty_row : (n s : ℕ) → in_row (replicate n 0) s ≡ false
empty_row n s = ⊎_elim
    (λ inside. ap (λ w. is_set w (s % 64)) (get_or-replicate n (s / 64) 0 0
    (ltb-true (s / 64) n inside)) ∙ no_bit (s % 64))
    (λ outside. none_past (replicate n 0) s
    (let past : n ≤ s / 64 = ltb-false (s / 64) n outside in omega (arith, length-replicate {A = ℕ} n 0)))
    (either_way (nat_lt (s / 64) n))

-- ---- graphs

abbrev pub words_of : Vec ℕ Global → List ℕ
words_of v = v.items

pub row_at : (graph : BitGraph) (s : ℕ) (v : Vec ℕ Global) → s < size graph
    → v ≡ get_or graph.rows.items s v → v.items ≡ row graph s
row_at graph s v inside is =
    ap words_of is ∙ sym (get_or-map words_of graph.rows.items s v [] inside)

pub no_edge_past : (graph : BitGraph) (a b : ℕ) → size graph ≤ a → has_edge graph a b ≡ false
no_edge_past graph a b past =
    ap (λ r. in_row r b) (get_or_past (map words_of graph.rows.items) a []
    (let same : length (map words_of graph.rows.items) ≡ size graph =
    length-map graph.rows.items words_of in omega (arith, same)))
    ∙ none_past [] b (omega arith)

pub edge_inside : (graph : BitGraph) (a b : ℕ) → IsTrue (has_edge graph a b) → a < size graph
edge_inside graph a b h = ⊎_elim
    (λ inside. ltb-true a (size graph) inside)
    (λ outside. absurd (false≢true (sym (no_edge_past graph a b
    (ltb-false a (size graph) outside)) ∙ h)))
    (either_way (nat_lt a (size graph)))

pub edge_below : (n : ℕ) (graph : BitGraph) → IsOver n graph → (a b : ℕ) →
    IsTrue (has_edge graph a b) → b < n
edge_below n graph over a b h =
    let inside = edge_inside graph a b h in
    (over.1 a (subst (λ m. a < m) over.0 inside)).1 b h

-- ---- rows without bits

abbrev pub some_word : Vec ℕ Global → Bool
some_word v = list_any (λ word. not (word == 0)) v.items

no_word : (xs : List ℕ) → IsFalse (list_any (λ word. not (word == 0)) xs) → (k : ℕ) →
    get_or xs k 0 ≡ 0
no_word [] h k = refl
no_word (x ∷ xs) h zero =
    eqb-true x 0 (negated_false (x == 0)
    (or_none_left (not (x == 0)) (list_any (λ word. not (word == 0)) xs) h))
no_word (x ∷ xs) h (suc k) =
    no_word xs (or_none_right (not (x == 0)) (list_any (λ word. not (word == 0)) xs) h) k

pub no_row_has : (rows : List (Vec ℕ Global)) → IsFalse (list_any some_word rows) → (a b : ℕ) →
    in_row (get_or (map words_of rows) a []) b ≡ false
no_row_has [] h a b = none_past [] b (omega arith)
no_row_has (v ∷ rows) h zero b =
    ap (λ w. is_set w (b % 64))
    (no_word v.items (or_none_left (some_word v) (list_any some_word rows) h) (b / 64))
    ∙ no_bit (b % 64)
no_row_has (v ∷ rows) h (suc a) b =
    no_row_has rows (or_none_right (some_word v) (list_any some_word rows) h) a b

-- ---- changes

-- one row changed
module _ (n : ℕ) (old new : BitGraph) (s : ℕ) (v : Vec ℕ Global) (inside : s < size old)
    (is : new.rows.items ≡ set old.rows.items s v) (more : ℕ → Bool)
    (gains : GainsBits (row old s) v.items more) where
  row_same : row new s ≡ v.items
  row_same =
      ap (λ rs. get_or (map words_of rs) s []) is
      ∙ ap (λ rs. get_or rs s []) (map-set words_of old.rows.items s v)
      ∙ get_or-set_same (map words_of old.rows.items) s v.items [] (rw length-map inside)

  row_other : (a : ℕ) → IsFalse (s == a) → row new a ≡ row old a
  row_other a other =
      ap (λ rs. get_or (map words_of rs) a []) is
      ∙ ap (λ rs. get_or rs a []) (map-set words_of old.rows.items s v)
      ∙ get_or-set_other (map words_of old.rows.items) s a v.items []
      (λ e. false≢true (sym other ∙ eq-eqb s a (sym e)))

  pub row_gains : GainsEdges old new (λ a b. (s == a) && more b)
  row_gains a b = ⊎_elim
      (λ same. subst (λ z. has_edge new z b ≡ (has_edge old z b || ((s == z) && more b)))
      (eqb-true s a same)
      (ap (λ r. in_row r b) row_same ∙ gains b
      ∙ ap (λ t. has_edge old s b || (t && more b)) (sym (eq-eqb s s refl))))
      (λ other. ap (λ r. in_row r b) (row_other a other)
      ∙ sym (or_no (has_edge old a b) ((s == a) && more b) (ap (λ t. t && more b) other)))
      (either_way (s == a))

  pub row_over : IsOver n old → length v.items ≡ length (row old s)
      → ((b : ℕ) → IsTrue (more b) → b < n) → IsOver n new
  row_over over same below =
      let known : s < n = subst (λ m. s < m) over.0 inside in (
        ap length is ∙ length-set old.rows.items s v ∙ over.0,
        λ a a_below. ⊎_elim
            (λ e. subst (λ z. IsRow n (row new z)) (eqb-true s a e) (
              ap length row_same ∙ same ∙ (over.1 s known).0,
              λ b h. ⊎_elim (λ g. (over.1 s known).1 b g) (λ g. below b g)
                  (or_cases (in_row (row old s) b) (more b)
                  (sym (gains b) ∙ sym (ap (λ r. in_row r b) row_same) ∙ h)),
            ))
            (λ other. subst (IsRow n) (sym (row_other a other)) (over.1 a a_below))
            (either_way (s == a)),
      )

-- the words of one row changed
module _ (graph : BitGraph) (s : ℕ) (v : Vec ℕ Global) (next now : List ℕ) (more : ℕ → Bool)
    (inside : s < size graph) (at : v ≡ get_or graph.rows.items s v) (read : now ≡ v.items)
    (same : length next ≡ length now) (gains : GainsBits now next more) where
  abbrev changed : BitGraph
  changed = record { rows = with_item graph.rows s (with_items v next) }

  now_is : now ≡ row graph s
  now_is = read ∙ row_at graph s v inside at

  next_is : words_of (with_items v next) ≡ next
  next_is = with_items_is v next (same ∙ ap length read ∙ sym v.ok.0)

  all_gains : GainsBits (row graph s) (words_of (with_items v next)) more
  all_gains b = ap (λ xs. in_row xs b) next_is ∙ gains b ∙ ap (λ xs. in_row xs b || more b) now_is

  pub changed_gains : GainsEdges graph changed (λ a b. (s == a) && more b)
  changed_gains =
      row_gains (size graph) graph changed s (with_items v next) inside refl more all_gains

  pub changed_over : IsOver (size graph) graph → ((b : ℕ) → IsTrue (more b) → b < size graph) →
      IsOver (size graph) changed
  changed_over over below =
      row_over (size graph) graph changed s (with_items v next) inside refl more all_gains over
      (ap length next_is ∙ same ∙ ap length now_is) below

-- a graph of rows without bits
module _ (n : ℕ) (graph : BitGraph)
    (rows : RowsSoFar (map words_of graph.rows.items) n (λ k. replicate (words n) 0)) where
  pub fresh_over : IsOver n graph
  fresh_over = (
    sym (length-map graph.rows.items words_of) ∙ rows.size_is,
    λ a below. (
      ap length (rows.are a below) ∙ length-replicate (words n) 0,
      λ s h. absurd (false≢true (sym (ap (λ r. in_row r s) (rows.are a below)
          ∙ empty_row (words n) s) ∙ h)),
    ),
  )

  pub fresh_edges : (a b : ℕ) → has_edge graph a b ≡ false
  fresh_edges a b = ⊎_elim
      (λ inside. ap (λ r. in_row r b) (rows.are a (ltb-true a n inside)) ∙ empty_row (words n) b)
      (λ outside. no_edge_past graph a b
      (let past : n ≤ a = ltb-false a n outside in omega (arith, past, fresh_over.0)))
      (either_way (nat_lt a n))

-- the signals so far have edges to what they are to have
abbrev pub LedBySoFar : (old now more : ℕ → ℕ → Bool) → ℕ → Type 0
LedBySoFar old now more i = (a b : ℕ) → now a b ≡ (old a b || (nat_lt a i && more a b))

-- the others stand as they were
pub not_led : (old now more : ℕ → ℕ → Bool) (i : ℕ) → LedBySoFar old now more i → (b : ℕ) →
    now i b ≡ old i b
not_led old now more i so_far b =
    let here : nat_lt i i ≡ false = grind (arith, nat_tests) in
    so_far i b ∙ or_no (old i b) (nat_lt i i && more i b) (ap (λ t. t && more i b) here)

pub led_by_more : (old now next more : ℕ → ℕ → Bool) (i : ℕ) → LedBySoFar old now more i
    → ((a b : ℕ) → next a b ≡ (now a b || ((i == a) && more i b)))
    → LedBySoFar old next more (i + 1)
led_by_more old now next more i so_far gains a b = ⊎_elim
    (λ same.
    let there : nat_lt i (i + 1) ≡ true = grind (arith, nat_tests) in
    subst (λ z. next z b ≡ (old z b || (nat_lt z (i + 1) && more z b))) (eqb-true i a same)
    (gains i b
    ∙ ap₂ (λ x t. x || (t && more i b)) (not_led old now more i so_far b) (eq-eqb i i refl)
    ∙ sym (ap (λ t. old i b || (t && more i b)) there)))
    (λ other.
    let further : nat_lt a (i + 1) ≡ nat_lt a i =
    same_answer (nat_lt a (i + 1)) (nat_lt a i)
    (λ h. lt-ltb a i (let lt = ltb-true a (i + 1) h in
    let ne : i ≢ a = λ e. false≢true (sym other ∙ eq-eqb i a e) in omega arith))
    (λ h. lt-ltb a (i + 1) (let lt = ltb-true a i h in omega arith)) in
    gains a b
    ∙ or_no (now a b) ((i == a) && more i b) (ap (λ t. t && more i b) other)
    ∙ so_far a b
    ∙ sym (ap (λ t. old a b || (t && more a b)) further))
    (either_way (i == a))

pub led_by_begins : (old more : ℕ → ℕ → Bool) → LedBySoFar old old more 0
led_by_begins old more a b =
    sym (or_no (old a b) (nat_lt a 0 && more a b)
    (ap (λ t. t && more a b) (let none : nat_lt a 0 ≡ false = grind (arith, nat_tests) in none)))

-- the signals so far that lead to one lead on from it
abbrev pub LedSoFar : (old now : ℕ → ℕ → Bool) → (m : ℕ) → (more : ℕ → Bool) → ℕ → Type 0
LedSoFar old now m more i = LedBySoFar old now (λ a b. old a m && more b) i

pub led_begins : (old : ℕ → ℕ → Bool) (m : ℕ) (more : ℕ → Bool) → LedSoFar old old m more 0
led_begins old m more = led_by_begins old (λ a b. old a m && more b)

pub led_more : (old now next : ℕ → ℕ → Bool) (m i : ℕ) (more : ℕ → Bool)
    → LedSoFar old now m more i
    → ((a b : ℕ) → next a b ≡ (now a b || ((i == a) && (now a m && more b))))
    → LedSoFar old next m more (i + 1)
led_more old now next m i more so_far gains =
    let all = λ (a b : ℕ). old a m && more b in
    led_by_more old now next all i so_far (λ a b.
    gains a b ∙ ap (λ t. now a b || t) (⊎_elim
    (λ same. ap (λ t. (i == a) && (t && more b))
    (subst (λ z. now z m ≡ old i m) (eqb-true i a same) (stands m)))
    (λ other. ap (λ t. t && (now a m && more b)) other
    ∙ sym (ap (λ t. t && (old i m && more b)) other))
    (either_way (i == a))))
  where
    stands : (k : ℕ) → now i k ≡ old i k
    stands k = not_led old now (λ a b. old a m && more b) i so_far k

pub led_ends : (old : BitGraph) (now : ℕ → ℕ → Bool) (m : ℕ) (more : ℕ → Bool)
    → LedSoFar (has_edge old) now m more (size old)
    → (a b : ℕ) → now a b ≡ (has_edge old a b || (has_edge old a m && more b))
led_ends old now m more all a b = all a b ∙ ap (λ t. has_edge old a b || t) (⊎_elim
    (λ inside. ap (λ t. t && (has_edge old a m && more b)) inside)
    (λ outside. ap (λ t. t && (has_edge old a m && more b)) outside
    ∙ sym (ap (λ t. t && more b) (no_edge_past old a m (ltb-false a (size old) outside))))
    (either_way (nat_lt a (size old))))

-- the signals of a row
pub listed_row : (n : ℕ) (xs : List ℕ) → IsRow n xs → (s : ℕ) →
    holds (those n (in_row xs)) s ≡ in_row xs s
listed_row n xs is s = same_answer (holds (those n (in_row xs)) s) (in_row xs s)
    (λ h. those_pass n (in_row xs) s (Contains-from_holds (those n (in_row xs)) s h))
    (λ h. holds-from_Contains (those n (in_row xs)) s (in_those n (in_row xs) s (is.1 s h) h))

-- where none pass from one number on, those below it are all
those_still : (test : ℕ → Bool) (start more : ℕ)
    → ((s : ℕ) → start ≤ s → s < start + more → IsFalse (test s))
    → those start test ≡ those (start + more) test
those_still test start zero none = ap (λ k. those k test) (omega arith)
those_still test start (suc more) none =
    those_still test start more (λ s from below. none s from (omega arith))
    ∙ sym (append-nil (those (start + more) test))
    ∙ ap (λ b. those (start + more) test ++ cond b ((start + more) ∷ []) [])
    (sym (none (start + more) (omega arith) (omega arith)))
    ∙ sym (filter_more test (start + more))
    ∙ ap (λ k. those k test) (omega arith)

-- a word without bits lists no signal
pub clear_word : (xs : List ℕ) (place end : ℕ) → get_or xs place 0 ≡ 0 → place * 64 ≤ end
    → end ≤ place * 64 + 64 → those (place * 64) (in_row xs) ≡ those end (in_row xs)
clear_word xs place end is_clear order here =
    those_still (in_row xs) (place * 64) (end - place * 64) (λ s from below.
    let same : s / 64 ≡ place = omega arith in
    ap (λ k. is_set (get_or xs k 0) (s % 64)) same
    ∙ ap (λ w. is_set w (s % 64)) is_clear ∙ no_bit (s % 64))
    ∙ ap (λ k. those k (in_row xs)) (omega arith)

-- a row of what some signals lead to
pub gained_row : (n : ℕ) (graph : BitGraph) → IsOver n graph → (old new signals : List ℕ)
    → old ≡ replicate (words n) 0 → length new ≡ length old
    → GainsBits old new (λ s. list_any (λ m. has_edge graph m s) signals) → IsRow n new
gained_row n graph over old new signals is same gains = (
  same ∙ ap length is ∙ length-replicate (words n) 0,
  λ s h. ⊎_elim
      (λ g.
      absurd (false≢true (sym (ap (λ xs. in_row xs s) is ∙ empty_row (words n) s) ∙ g)))
      (λ g.
      let found = from_some (λ m. has_edge graph m s) signals g in
      edge_below n graph over found.0 s found.2)
      (or_cases (in_row old s) (list_any (λ m. has_edge graph m s) signals) (sym (gains s) ∙ h)),
)
