-- What a block assigns, and what is asked of it.
use Rattle.std.proofs.Common.{◌≡◌, ℕ, zero, suc, ◌+◌, ◌*◌, ◌^◌, ◌<◌, Bool, true, false, cond, not}
use Rattle.std.proofs.Common.{◌&&◌, ◌==◌, nat_le, ltb-true, le-leb, leb-true, List, [], ◌∷◌}
use Rattle.std.proofs.Common.{◌++◌, length, Option, None, Some, ◌⊎◌, inl, inr, ⊎_elim, refl}
use Rattle.std.proofs.Common.{sym, ap, subst, ◌∙◌, append_assoc, arith, rules}
use Rattle.std.specs.Prelude.{Contains, IsTrue, IsFalse, filter, flat_map, ◌↔◌}
use Rattle.std.specs.List.{list_any, list_all, range_with_len}
use Rattle.std.specs.Int.{bit_at}
use Rattle.std.proofs.Math.Nat.{pow-suc}
use Rattle.std.proofs.lemmas.List.{append-nil}
use Rattle.std.proofs.lemmas.Bool.{false≢true, or_left, or_right, eqb-true, eq-eqb}
use Rattle.std.proofs.lemmas.Nat.Bits.{bit_at-lt, bit_at-zero, same_from_bits_below}
use Rattle.sv_system.proofs.Lists.{Contains-head, Contains-nil, Contains-cases}
use Rattle.sv_system.proofs.Lists.{Contains-map, Contains-from_map}
use Rattle.sv_num.specs.declared.faults.Place.{Place}
use Rattle.sv_flat.specs.Assigned.{assigns, can_assign, always_assigns, has_bit}
use Rattle.sv_flat.specs.Blocks.{is_latched}
use Rattle.sv_flat.specs.Breaches.{Breach, breach}
use Rattle.sv_flat.specs.Design.{SignalForm, PieceForm, FlatStatement, nothing, after, assign}
use Rattle.sv_flat.specs.Design.{branch, ProcessForm, FlatDesign}
use Rattle.sv_flat.specs.Processes.{signals_that}
use Rattle.sv_flat.specs.Soundness.{well_formed, piece_fits, statement_sound}
use Rattle.sv_flat.specs.Values.{signal_width}
use Rattle.sv_flat.proofs.SameRuns.{can_is_assigned}
use Rattle.sv_flat.proofs.AdmittedFacts.{none_in, and_true, assigned_is_signal}
use Rattle.sv_flat.proofs.Depths.{first_of, second_of, from_all}
use Rattle.sv_flat.proofs.LeastSets.{either_way, or_cases, range_has, some_from, from_some}
use Rattle.sv_flat.proofs.LeastSets.{in_those, those_pass}
use Rattle.sv_flat.proofs.Members.{Contains-left, Contains-right, Contains-either}
use Rattle.sv_graph.specs.declared.bit_sets.BitSet.{BitSet}
use Rattle.sv_rules.specs.declared.found.Found.{Found}
use Rattle.sv_rules.specs.declared.surroundings.Surrounding.{Nothing, the_lemmas}
use Rattle.sv_rules.specs.Surroundings.{in_surrounding}
use Rattle.sv_graph.specs.BitSets.{is_set, mask_in, in_bits, has_some, LacksBit}
use Rattle.sv_rules.specs.First.{breach_of, FindsFirst, first_found}
use Rattle.sv_rules.specs.Phases.{SameBits, latches_of}
use Rattle.sv_graph.proofs.BitFacts.{same_answer}
use Rattle.sv_graph.proofs.EntryFacts.{nothing_in}
use Rattle.sv_rules.proofs.Firsts.{finds_both}
use Rattle.sv_rules.proofs.PhaseFacts.{in_range}
use Rattle.sv_rules.proofs.Sound.{piece_has_bits}

-- ---- signals that a block assigns

same_bit : (x y : ℕ) → x < 2 → y ≡ 0 → IsFalse (x == 1) → x ≡ y
same_bit x y p q h = grind (arith, p, q, h)

below_power : (n : ℕ) → n < 2 ^ n
below_power zero = omega arith
below_power (suc n) =
    let e : 2 ^ (suc n) ≡ 2 ^ n * 2 = pow-suc 2 n in let before = below_power n in
    omega (arith, e, before)

-- a number that is not 0 has a bit
pub some_bit : (n : ℕ) → IsTrue (not (n == 0)) → (k : ℕ) × IsTrue (is_set n k)
some_bit n h = ⊎_elim
    (λ some. let found = from_some (is_set n) (range_with_len 0 n) some in (found.0, found.2))
    (λ none.
    let less = below_power n in
    let zero_is : n ≡ 0 = same_from_bits_below n n 0 less (omega arith)
    (λ i below. same_bit (bit_at n i) (bit_at 0 i) (bit_at-lt n i) (bit_at-zero i)
    (⊎_elim
    (λ t.
    absurd (false≢true (sym none
    ∙ some_from (is_set n) (range_with_len 0 n) i (range_has n i below) t)))
    (λ f. f)
    (either_way (is_set n i)))) in
    absurd (false≢true (sym (ap not (eq-eqb n 0 zero_is)) ∙ h)))
    (either_way (list_any (is_set n) (range_with_len 0 n)))

pub bit_makes_some : (n k : ℕ) → IsTrue (is_set n k) → IsTrue (not (n == 0))
bit_makes_some n k h = ⊎_elim
    (λ e. absurd (false≢true (sym (nothing_in n k (eqb-true n 0 e)) ∙ h)))
    (λ f. ap not f)
    (either_way (n == 0))

module _ (signals : List SignalForm) where
  -- a sound statement can assign a bit of each signal that it assigns
  assigned_bit : (body : FlatStatement) → IsTrue (statement_sound signals body) → (s : ℕ) →
      IsTrue (assigns body s) → (b : ℕ) × IsTrue (can_assign body s b)
  assigned_bit nothing sound s h = absurd (false≢true h)
  assigned_bit (after first second) sound s h = ⊎_elim
      (λ l. let found = assigned_bit first
      (first_of (statement_sound signals first) (statement_sound signals second) sound) s l in
      (found.0, or_left (can_assign first s found.0) (can_assign second s found.0) found.1))
      (λ r. let found = assigned_bit second
      (second_of (statement_sound signals first) (statement_sound signals second) sound) s r in
      (found.0, or_right (can_assign first s found.0) (can_assign second s found.0) found.1))
      (or_cases (assigns first s) (assigns second s) h)
  assigned_bit (assign pieces place blocking right) sound s h =
      let found = from_some (λ (p : PieceForm). p.signal == s) pieces h in
      let p = found.0 in
      let fits = from_all (piece_fits signals right) pieces p
      (second_of (well_formed signals right) (list_all (piece_fits signals right) pieces) sound)
      found.1 in (
        p.low,
        some_from (has_bit s p.low) pieces p found.1
            (and_true ((p.signal == s) && nat_le p.low p.low) (nat_le p.low p.high)
            (and_true (p.signal == s) (nat_le p.low p.low) found.2
            (le-leb p.low p.low (omega arith)))
            (piece_has_bits signals right p fits)),
      )
  assigned_bit (branch place condition first second) sound s h =
      let front = first_of (well_formed signals condition && statement_sound signals first)
      (statement_sound signals second) sound in
      ⊎_elim
      (λ l. let found = assigned_bit first
      (second_of (well_formed signals condition) (statement_sound signals first) front) s l in
      (found.0, or_left (can_assign first s found.0) (can_assign second s found.0) found.1))
      (λ r. let found = assigned_bit second
      (second_of (well_formed signals condition && statement_sound signals first)
      (statement_sound signals second) sound) s r in
      (found.0, or_right (can_assign first s found.0) (can_assign second s found.0) found.1))
      (or_cases (assigns first s) (assigns second s) h)

  -- the set of the bits that a statement can assign has bits of the signals that it assigns
  pub targets_are : (body : FlatStatement) (set : BitSet) → IsTrue (statement_sound signals body)
      → SameBits (in_bits set) (can_assign body)
      → (s : ℕ) → has_some set s ≡ assigns body s
  targets_are body set sound same s = same_answer (has_some set s) (assigns body s)
      (λ h. let found = some_bit (mask_in set s) h in
      can_is_assigned body s found.0 (sym (same s found.0) ∙ found.1))
      (λ h. let found = assigned_bit body sound s h in
      bit_makes_some (mask_in set s) found.0 (same s found.0 ∙ found.1))

-- ---- the same breaches

pub same_first : (number : ℕ) (xs ys : List Breach) (found : Option Found)
    → ((x : Breach) → Contains xs x → Contains ys x)
    → ((x : Breach) → Contains ys x → Contains xs x) → FindsFirst number xs found
    → FindsFirst number ys found
same_first number xs [] None to from none = refl
same_first number xs (y ∷ ys) None to from none =
    absurd (none_in xs none y (from y (Contains-head y ys)))
same_first number xs ys (Some found) to from first = record {
  among = to (breach_of number found) first.among;
  before = λ other at. first.before other (from other at);
}

-- ---- rule 605 of one signal

-- some bit below a width is not in a set
pub latch_is : (width mask around : ℕ) (test : ℕ → Bool) (answer : Bool)
    → ((b : ℕ) → is_set mask b ≡ (nat_le 0 b && nat_le b width))
    → ((b : ℕ) → is_set around b ≡ test b) → IsTrue answer ↔ LacksBit mask around
    → answer ≡ list_any (λ b. not (test b)) (range_with_len 0 (width + 1))
latch_is width mask around test answer is_mask is_around is =
    same_answer answer (list_any (λ b. not (test b)) (range_with_len 0 (width + 1)))
    (λ h.
    let found = is.0 h in
    let below = leb-true found.0 width
    (second_of (nat_le 0 found.0) (nat_le found.0 width) (sym (is_mask found.0) ∙ found.1)) in
    some_from (λ b. not (test b)) (range_with_len 0 (width + 1)) found.0
    (range_has (width + 1) found.0 (omega arith))
    (ap not (sym (is_around found.0) ∙ found.2)))
    (λ h.
    let found = from_some (λ b. not (test b)) (range_with_len 0 (width + 1)) h in
    let below = in_range (width + 1) found.0 found.1 in
    is.1 (
      found.0,
      is_mask found.0 ∙ and_true (nat_le 0 found.0) (nat_le found.0 width)
          (le-leb 0 found.0 (omega arith)) (le-leb found.0 width (omega arith)),
      is_around found.0 ∙ not_true (test found.0) found.2,
    ))
  where
    not_true : (b : Bool) → IsTrue (not b) → b ≡ false
    not_true true h = absurd (false≢true h)
    not_true false h = refl

-- ---- rule 605 of one block

-- some signals were looked at, and the keys of some are left
pub record LatchesSoFar (design : FlatDesign) (place : Place) (body : FlatStatement) (left : List ℕ)
    (found : Option Found) : Type 0 where
  pub done : List Breach
  pub finds : FindsFirst 605 done found
  pub sure : (x : Breach) → Contains done x → Contains (latches_of design place body) x
  pub whole : (s : ℕ) → IsTrue (is_latched design.signals body s) →
      Contains done (breach 605 place s) ⊎ IsTrue (list_any (λ k. k == s) left)

module _ (design : FlatDesign) (place : Place) (body : FlatStatement)
    (sound : IsTrue (statement_sound design.signals body)) where
  is_latch : (s : ℕ) → IsTrue (is_latched design.signals body s) →
      Contains (latches_of design place body) (breach 605 place s)
  is_latch s h =
      let signals = design.signals in
      let inside = ltb-true s (length signals) (assigned_is_signal signals body sound s
      (first_of (assigns body s)
      (list_any (λ b. not (always_assigns body s b))
      (range_with_len 0 (signal_width signals s))) h)) in
      Contains-map (breach 605 place) (signals_that design (is_latched signals body)) s
      (in_those (length signals) (is_latched signals body) s inside h)

  pub latches_begin : (left : List ℕ) →
      ((s : ℕ) → IsTrue (assigns body s) → IsTrue (list_any (λ k. k == s) left)) →
      LatchesSoFar design place body left None
  latches_begin left keys = record {
    done = [];
    finds = refl;
    sure = λ x at. absurd (Contains-nil x at);
    whole =
        λ s h.
        inr (keys s (first_of (assigns body s)
        (list_any (λ b. not (always_assigns body s b))
        (range_with_len 0 (signal_width design.signals s))) h));
  }

  one_of : (b : Bool) (y x : Breach) → Contains (cond b (y ∷ []) []) x → IsTrue b × (y ≡ x)
  one_of true y x at =
      ⊎_elim (λ e. (refl, e)) (λ l. absurd (Contains-nil x l)) (Contains-cases y [] x at)
  one_of false y x at = absurd (Contains-nil x at)

  is_one : (b : Bool) (y : Breach) → IsTrue b → Contains (cond b (y ∷ []) []) y
  is_one true y h = Contains-head y []
  is_one false y h = absurd (false≢true h)

  pub latches_more : (k : ℕ) (left rest : List ℕ) (found other next : Option Found) (latched : Bool)
      → left ≡ k ∷ rest
      → latched ≡ is_latched design.signals body k
      → FindsFirst 605 (cond latched (breach 605 place k ∷ []) []) other
      → next ≡ first_found found other
      → LatchesSoFar design place body left found → LatchesSoFar design place body rest next
  latches_more k left rest found other next latched splits is finds is_next so_far =
      let one = cond latched (breach 605 place k ∷ []) [] in record {
        done = so_far.done ++ one;
        finds =
            subst (FindsFirst 605 (so_far.done ++ one)) (sym is_next)
            (finds_both so_far.done one 605 found other so_far.finds finds);
        sure = λ x at. ⊎_elim
            (λ l. so_far.sure x l)
            (λ r. let here = one_of latched (breach 605 place k) x r in
            subst (Contains (latches_of design place body)) here.1 (is_latch k (sym is ∙ here.0)))
            (Contains-either so_far.done one x at);
        whole = λ s h. ⊎_elim
            (λ l. inl (Contains-left so_far.done one (breach 605 place s) l))
            (λ any. ⊎_elim
            (λ same. inl (Contains-right so_far.done one (breach 605 place s)
            (subst (λ z. Contains one (breach 605 place z)) (eqb-true k s same)
            (is_one latched (breach 605 place k)
            (is ∙ subst (λ z. IsTrue (is_latched design.signals body z))
            (sym (eqb-true k s same)) h)))))
            (λ later. inr later)
            (or_cases (k == s) (list_any (λ z. z == s) rest)
            (subst (λ ks. IsTrue (list_any (λ z. z == s) ks)) splits any)))
            (so_far.whole s h);
      }

  pub latches_end : (left : List ℕ) (found : Option Found) → left ≡ [] →
      LatchesSoFar design place body left found →
      FindsFirst 605 (latches_of design place body) found
  latches_end left found none so_far =
      let n = length design.signals in
      let test = is_latched design.signals body in
      same_first 605 so_far.done (latches_of design place body) found so_far.sure
      (λ x at.
      let from = Contains-from_map (breach 605 place) (signals_that design test) x at in
      subst (Contains so_far.done) from.2 (⊎_elim
      (λ l. l)
      (λ any. absurd (false≢true (subst (λ ks. IsTrue (list_any (λ k. k == from.0) ks)) none any)))
      (so_far.whole from.0 (those_pass n test from.0 from.1))))
      so_far.finds

-- ---- blocks one after the other

pub in_surrounding-nothing : in_surrounding Nothing ≡ (λ s b. false)
in_surrounding-nothing = search (rules, the_lemmas)

module _ (test : ProcessForm → Bool) (f : ProcessForm → List Breach) where
  one_kept : (b : Bool) (p : ProcessForm) (ps : List ProcessForm) →
      flat_map f (cond b (p ∷ ps) ps) ≡ flat_map f (cond b (p ∷ []) []) ++ flat_map f ps
  one_kept true p ps = ap (λ xs. xs ++ flat_map f ps) (sym (append-nil (f p)))
  one_kept false p ps = refl

  pub block_more : (all done : List Breach) (left : List ProcessForm) (p : ProcessForm)
      (ps : List ProcessForm) → left ≡ p ∷ ps
      → all ≡ done ++ flat_map f (filter test left)
      → all ≡ (done ++ flat_map f (filter test (p ∷ []))) ++ flat_map f (filter test ps)
  block_more all done left p ps is e =
      e ∙ ap (λ qs. done ++ flat_map f (filter test qs)) is
      ∙ ap (λ xs. done ++ xs) (one_kept (test p) p (filter test ps))
      ∙ sym (append_assoc done (flat_map f (filter test (p ∷ []))) (flat_map f (filter test ps)))
