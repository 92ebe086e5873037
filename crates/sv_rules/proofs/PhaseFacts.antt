-- Reads that are out of phase, one after the other.
use Rattle.std.proofs.Common.{◌≡◌, ℕ, ◌+◌, ◌<◌, Bool, true, false, cond, not, ◌&&◌, nat_le, nat_lt}
use Rattle.std.proofs.Common.{ltb-true, lt-ltb, List, [], ◌∷◌, ◌++◌, length, map, get_or, drop}
use Rattle.std.proofs.Common.{Option, refl, sym, ap, ap₂, subst, ◌∙◌, append_assoc, add-one}
use Rattle.std.specs.Prelude.{IsTrue, Contains, ◌↔◌, filter}
use Rattle.std.specs.List.{range_with_len}
use Rattle.std.proofs.lemmas.List.{map-append, append-nil}
use Rattle.std.proofs.lemmas.List.Elements.{filter-append}
use Rattle.std.proofs.Math.ListN.{length-map}
use Rattle.std.proofs.Math.Seq.{drop-cons}
use Rattle.std.proofs.lemmas.List.Elements.{Contains-get_or}
use Rattle.sv_system.proofs.Lists.{Contains-filter, Contains-map}
use Rattle.sv_flat.specs.Soundness.{well_formed}
use Rattle.sv_flat.proofs.ReadSignals.{reads_signals}
use Rattle.sv_flat.specs.Breaches.{Breach, breach}
use Rattle.sv_flat.specs.ByNumber.{signal_forms}
use Rattle.sv_flat.specs.Assigned.{assigns}
use Rattle.sv_flat.specs.Blocks.{is_out_of_phase, phase_breach}
use Rattle.sv_flat.specs.Design.{SignalForm, TypedTree, FlatStatement}
use Rattle.sv_flat.specs.Readings.{BitSet, ReadForm, Reading, reading_of, reads, some_bit_read}
use Rattle.sv_flat.specs.Values.{signal_width}
use Rattle.sv_flat.proofs.LeastSets.{some_from, from_some, range_has, those_below}
use Rattle.sv_flat.proofs.Depths.{first_of, second_of}
use Rattle.sv_flat.proofs.AdmittedFacts.{and_true, negated_true}
use Rattle.sv_flat.specs.Views.{design_of, signal_form}
use Rattle.sv_flat.specs.declared.designs.Flat.{Flat}
use Rattle.sv_flat.specs.declared.signals.Signal.{Signal}
use Rattle.sv_graph.specs.declared.bit_sets.BitSet.{BitSet as Bits}
use Rattle.sv_rules.specs.declared.found.Found.{Found}
use Rattle.sv_rules.specs.declared.names.Read.{Read}
use Rattle.sv_graph.specs.BitSets.{is_set, has_some, SharesBit, LacksBit}
use Rattle.sv_rules.specs.First.{FindsFirst, first_found}
use Rattle.sv_rules.specs.Phases.{wrong_reads, SameBits, HasTargets, FindsReads}
use Rattle.sv_rules.specs.ReadForms.{read_form, read_forms}
use Rattle.sv_graph.proofs.BitFacts.{same_answer}
use Rattle.sv_rules.proofs.Firsts.{finds_both}

-- ---- one read

pub in_range : (n k : ℕ) → Contains (range_with_len 0 n) k → k < n
in_range n k at =
    those_below n (λ b. true) k (Contains-filter (λ b. true) (range_with_len 0 n) k at refl)

module _ (signals : List SignalForm) (r : ReadForm) (bits : ℕ)
    (is_bits : (b : ℕ) →
    is_set bits b ≡ (nat_le r.low b && nat_le b r.high
    && nat_lt b (signal_width signals r.signal))) where
  abbrev inside : ℕ → Bool
  inside b = nat_le r.low b && nat_le b r.high

  pub any_read : (test : ℕ → Bool) (answer : Bool)
      → (IsTrue answer → (k : ℕ) × IsTrue (is_set bits k) × IsTrue (test k))
      → ((k : ℕ) → IsTrue (is_set bits k) → IsTrue (test k) → IsTrue answer)
      → answer ≡ some_bit_read signals r test
  any_read test answer from to = same_answer answer (some_bit_read signals r test)
      (λ h.
      let found = from h in
      let k = found.0 in
      let own = sym (is_bits k) ∙ found.1 in
      let below = ltb-true k (signal_width signals r.signal)
      (second_of (inside k) (nat_lt k (signal_width signals r.signal)) own) in
      some_from (λ b. inside b && test b) (range_with_len 0 (signal_width signals r.signal)) k
      (range_has (signal_width signals r.signal) k below)
      (and_true (inside k) (test k)
      (first_of (inside k) (nat_lt k (signal_width signals r.signal)) own) found.2))
      (λ h.
      let found = from_some (λ b.
      inside b && test b) (range_with_len 0 (signal_width signals r.signal)) h in
      let k = found.0 in
      to k (is_bits k ∙ and_true (inside k) (nat_lt k (signal_width signals r.signal))
      (first_of (inside k) (test k) found.2)
      (lt-ltb k (signal_width signals r.signal)
      (in_range (signal_width signals r.signal) k found.1)))
      (second_of (inside k) (test k) found.2))

  pub read_shares : (around : ℕ) (test : ℕ → Bool) → ((b : ℕ) → is_set around b ≡ test b)
      → (answer : Bool) → IsTrue answer ↔ SharesBit bits around
      → answer ≡ some_bit_read signals r test
  read_shares around test same answer is = any_read test answer
      (λ a. let s = is.0 a in (s.0, s.1, sym (same s.0) ∙ s.2))
      (λ k p q. is.1 (k, p, same k ∙ q))

  pub read_lacks : (around : ℕ) (test : ℕ → Bool) → ((b : ℕ) → is_set around b ≡ test b)
      → (answer : Bool) → IsTrue answer ↔ LacksBit bits around
      → answer ≡ some_bit_read signals r (λ b. not (test b))
  read_lacks around test same answer is = any_read (λ b. not (test b)) answer
      (λ a. let s = is.0 a in (s.0, s.1, ap not (sym (same s.0) ∙ s.2)))
      (λ k p q. is.1 (k, p, same k ∙ negated_true (test k) q))

module _ (signals : List SignalForm) (targets : Bits) (body : FlatStatement) (reading : Reading)
    (r : ReadForm) (before : BitSet)
    (has_targets : HasTargets body targets) (name : reading.name ≡ r)
    (same : SameBits reading.assigned before)
    (n : ℕ) (n_is : (b : ℕ) → is_set n b ≡ before r.signal b) where
  pub unassigned_is : (has lacks : Bool) → has ≡ has_some targets r.signal
      → ((test : ℕ → Bool) → ((b : ℕ) → is_set n b ≡ test b)
      → lacks ≡ some_bit_read signals r (λ b. not (test b)))
      → (has && lacks) ≡ is_out_of_phase signals body reading
  unassigned_is has lacks has_is lacks_is =
      subst (λ (z : ReadForm).
      (has && lacks) ≡ (assigns body z.signal
      && some_bit_read signals z (λ b. not (reading.assigned z.signal b)))) (sym name)
      (ap₂ ◌&&◌ (has_is ∙ has_targets r.signal) (lacks_is (reading.assigned r.signal) (λ b.
      n_is b ∙ sym (same r.signal b))))

-- ---- reads one after the other

module _ (signals : List SignalForm) (body : FlatStatement) where
  pub wrong_reads-append : (xs ys : List Reading) →
      wrong_reads signals body (xs ++ ys) ≡
      wrong_reads signals body xs ++ wrong_reads signals body ys
  wrong_reads-append xs ys =
      ap (map phase_breach) (filter-append (is_out_of_phase signals body) xs ys)
      ∙ map-append phase_breach (filter (is_out_of_phase signals body) xs)
      (filter (is_out_of_phase signals body) ys)

  map_one : (b : Bool) (r : Reading) →
      map phase_breach (cond b (r ∷ []) []) ≡ cond b (phase_breach r ∷ []) []
  map_one true r = refl
  map_one false r = refl

  pub one_read_more : (all done : List Breach) (r : Reading) (rs : List Reading) (wrong : Bool)
      → wrong ≡ is_out_of_phase signals body r
      → all ≡ done ++ wrong_reads signals body (r ∷ rs)
      → all ≡ (done ++ cond wrong (phase_breach r ∷ []) []) ++ wrong_reads signals body rs
  one_read_more all done r rs wrong is e =
      e ∙ ap (λ ws. done ++ ws) (wrong_reads-append (r ∷ []) rs)
      ∙ ap (λ ws. done ++ (ws ++ wrong_reads signals body rs))
      (map_one (is_out_of_phase signals body r) r)
      ∙ ap (λ b. done ++ (cond b (phase_breach r ∷ []) [] ++ wrong_reads signals body rs))
      (sym is)
      ∙ sym (append_assoc done (cond wrong (phase_breach r ∷ []) [])
      (wrong_reads signals body rs))

-- what a read past the end of names gives
abbrev pub no_read : Read
no_read =
    record { signal = record { 0 = 0 }; place = record { line = 0; column = 0 }; high = 0; low = 0 }

pub name_is_signal :
    (signals : List SignalForm) (tree : TypedTree) (names : List Read) (i : ℕ) (d : Read)
    → IsTrue (well_formed signals tree)
    → read_forms names ≡ reads signals tree → i < length names
    → (get_or names i d).signal.0 < length signals
name_is_signal signals tree names i d formed same inside =
    ltb-true (get_or names i d).signal.0 (length signals)
    (reads_signals signals tree formed (read_form (get_or names i d))
    (subst (λ rs. Contains rs (read_form (get_or names i d))) same
    (Contains-map read_form names (get_or names i d) (Contains-get_or names i d inside))))

-- the names that `names_in` lists, as they are gone through, are those that the expression reads
pub names_are : (given signals : List Signal) (tree : TypedTree) (items names : List Read)
    → items ≡ names → read_forms names ≡ reads (signal_forms given) tree → given ≡ signals
    → read_forms items ≡ reads (signal_forms signals) tree
names_are given signals tree items names same are is =
    ap read_forms same ∙ are ∙ ap (λ ss. reads (signal_forms ss) tree) is

-- each of them is a signal
pub name_inside : (flat : Flat) (tree : TypedTree) (given : List Signal)
    (items names : List Read) (i : ℕ) → IsTrue (well_formed (design_of flat).signals tree)
    → items ≡ names → read_forms names ≡ reads (signal_forms given) tree
    → given ≡ flat.signals.items → i < length items
    → (get_or items i no_read).signal.0 < length flat.signals.items
name_inside flat tree given items names i formed same are is inside =
    subst (λ n. (get_or items i no_read).signal.0 < n) (length-map flat.signals.items signal_form)
    (name_is_signal (design_of flat).signals tree items i no_read formed
    (names_are given flat.signals.items tree items names same are is) inside)

-- some reads were looked at, and some are left
abbrev pub ReadsSoFar : List SignalForm → Bits → BitSet →
    (all left : BitSet → BitSet → List Reading) → Option Found → Type 0
ReadsSoFar signals targets before all left found =
    (body : FlatStatement) (assigned follows : BitSet) → HasTargets body targets
    → SameBits assigned before
    → (done : List Breach) × FindsFirst 606 done found
    × (wrong_reads signals body (all assigned follows) ≡
    done ++ wrong_reads signals body (left assigned follows))

module _ (signals : List SignalForm) (targets : Bits) (before : BitSet) where
  pub reads_end : (all left : BitSet → BitSet → List Reading) (found : Option Found)
      → ((a f : BitSet) → left a f ≡ [])
      → ReadsSoFar signals targets before all left found
      → FindsReads signals targets before all found
  reads_end all left found none so_far body a f asks bits =
      let done = so_far body a f asks bits in
      subst (λ ws. FindsFirst 606 ws found)
      (sym (done.2 ∙ ap (λ z. done.0 ++ wrong_reads signals body z) (none a f)
      ∙ append-nil done.0)) done.1

  -- one name more
  pub name_more : (serves : ℕ → Bool) (all : BitSet → BitSet
      → List Reading) (names : List Read) (i : ℕ) (d : Read) → i < length names
      → (found other next : Option Found) (wrong : Bool)
      → ((body : FlatStatement) (reading : Reading) → HasTargets body targets
      → reading.name ≡ read_form (get_or names i d)
      → SameBits reading.assigned before
      → wrong ≡ is_out_of_phase signals body reading)
      → ((number : ℕ) → FindsFirst number
      (cond wrong (breach number (get_or names i d).place (get_or names i d).signal.0 ∷ [])
      []) other)
      → next ≡ first_found found other
      → ReadsSoFar signals targets before all (λ a f.
      map (reading_of serves a f) (read_forms (drop i names))) found
      → ReadsSoFar signals targets before all (λ a f.
      map (reading_of serves a f) (read_forms (drop (i + 1) names))) next
  name_more serves all names i d inside found other next wrong is_wrong finds is so_far body a f
      asks bits =
      let here = read_form (get_or names i d) in
      let done = so_far body a f asks bits in
      let one = cond wrong (phase_breach (reading_of serves a f here) ∷ []) [] in
      let at : read_forms (drop i names) ≡ here ∷ read_forms (drop (i + 1) names) =
      ap read_forms (drop-cons names i d inside)
      ∙ ap (λ k. here ∷ read_forms (drop k names)) (sym (add-one i)) in (
        done.0 ++ one,
        subst (FindsFirst 606 (done.0 ++ one)) (sym is)
            (finds_both done.0 one 606 found other done.1 (finds 606)),
        one_read_more signals body (wrong_reads signals body (all a f)) done.0
            (reading_of serves a f here)
            (map (reading_of serves a f) (read_forms (drop (i + 1) names))) wrong
            (is_wrong body (reading_of serves a f here) asks refl bits)
            (done.2 ∙ ap (λ rs. done.0 ++ wrong_reads signals body
            (map (reading_of serves a f) rs)) at),
      )

-- ---- statements one after the other

module _ (signals : List SignalForm) (targets : Bits) (before first_before second_before : BitSet)
    (first second : BitSet → BitSet → List Reading)
    (found other : Option Found) (fa ff sa sf : BitSet → BitSet → BitSet) where
  -- the reads of two parts, each with its own bits around it
  pub both_reads :
      ((a f : BitSet) → SameBits a before → SameBits (fa a f) first_before)
      → ((a f : BitSet) → SameBits a before → SameBits (sa a f) second_before)
      → FindsReads signals targets first_before first found
      → FindsReads signals targets second_before second other
      → FindsReads signals targets before (λ a f.
      first (fa a f) (ff a f) ++ second (sa a f) (sf a f)) (first_found found other)
  both_reads same_first same_second finds finds_other body a f asks bits =
      let xs = wrong_reads signals body (first (fa a f) (ff a f)) in
      let ys = wrong_reads signals body (second (sa a f) (sf a f)) in
      subst (λ ws. FindsFirst 606 ws (first_found found other))
      (sym (wrong_reads-append signals body (first (fa a f) (ff a f))
      (second (sa a f) (sf a f))))
      (finds_both xs ys 606 found other (finds body (fa a f) (ff a f) asks (same_first a f bits))
      (finds_other body (sa a f) (sf a f) asks (same_second a f bits)))
