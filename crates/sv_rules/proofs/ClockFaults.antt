-- Rule 602 of the signals one after the other.
use Rattle.std.proofs.Common.{◌≡◌, ℕ, zero, suc, ◌<◌, ◌≤◌, Bool, true, false, cond, not, ◌&&◌, ◌||◌}
use Rattle.std.proofs.Common.{◌==◌, nat_lt, ltb-true, ltb-false, List, [], ◌∷◌, length, map, ⊎_elim}
use Rattle.std.proofs.Common.{refl, sym, ap, subst, ◌∙◌, arith}
use Rattle.std.specs.Prelude.{filter}
use Rattle.std.specs.List.{list_any, list_all, range_with_len}
use Rattle.std.specs.Int.{bit_at}
use Rattle.std.proofs.lemmas.Bool.{false≢true, eqb-true, eq-eqb}
use Rattle.std.proofs.lemmas.List.{get_or_past}
use Rattle.std.proofs.lemmas.Nat.Bits.{bit_at-zero}
use Rattle.sv_lattice.specs.Tables.{flow_test, FlowsTo, IsLatticeTable}
use Rattle.sv_flat.specs.Breaches.{breach}
use Rattle.sv_flat.specs.Clocks.{is_edge, makes_clock, clocks, is_clock, agrees_with_earlier}
use Rattle.sv_flat.specs.Clocks.{uses_as_signal, selects_by, is_clock_alone, is_least_label}
use Rattle.sv_flat.specs.Clocks.{is_proper_clock}
use Rattle.sv_flat.specs.Design.{SignalForm, InvariantForm, FlatDesign}
use Rattle.sv_flat.specs.Drivers.{clock_faults}
use Rattle.sv_flat.specs.Processes.{is_top_kind, is_input_kind, declared_at}
use Rattle.sv_flat.specs.Readings.{names_signal}
use Rattle.sv_flat.specs.Sets.{holds, those, with_all_brought}
use Rattle.sv_flat.specs.Values.{signal_of}
use Rattle.sv_flat.proofs.Depths.{from_all}
use Rattle.sv_flat.proofs.LeastSets.{either_way, in_those, those_pass, range_has}
use Rattle.sv_flat.proofs.LeastSets.{holds-from_Contains, Contains-from_holds}
use Rattle.sv_rules.specs.ClockTables.{is_whole_port, is_used}
use Rattle.sv_graph.proofs.BitFacts.{same_answer}
use Rattle.sv_rules.proofs.TableFacts.{filter_within}
use Rattle.sv_rules.proofs.TopFacts.{all_from, in_range}

-- ---- uses

not_three : (a b c : Bool) → (a || b || c) ≡ not (not a && not b && not c)
not_three true b c = refl
not_three false true c = refl
not_three false false true = refl
not_three false false false = refl

-- the three uses that a clock may not have
pub uses_are : (design : FlatDesign) (s : ℕ)
    → (list_any (uses_as_signal design s) design.processes
    || list_any (λ (signal : SignalForm). selects_by s signal.label) design.signals
    || list_any (λ (i : InvariantForm).
    names_signal design.signals i.expression s) design.invariants) ≡ is_used design s
uses_are design s =
    not_three (list_any (uses_as_signal design s) design.processes)
    (list_any (λ (signal : SignalForm). selects_by s signal.label) design.signals)
    (list_any (λ (i : InvariantForm).
    names_signal design.signals i.expression s) design.invariants)

-- ---- labels

-- a point flows to all points just where it is the least one
pub least_is : (lattice : List ℕ) (least p : ℕ) → IsLatticeTable lattice → least < length lattice
    → ((b : ℕ) → b < length lattice → FlowsTo lattice least b)
    → (p == least) ≡ list_all (λ other.
    flow_test lattice p other) (range_with_len 0 (length lattice))
least_is lattice least p table below flows =
    let n = length lattice in
    let to_all = list_all (λ other. flow_test lattice p other) (range_with_len 0 n) in
    same_answer (p == least) to_all
    (λ e. all_from (λ other. flow_test lattice p other) (range_with_len 0 n) (λ other at.
    subst (λ z. FlowsTo lattice z other) (sym (eqb-true p least e))
    (flows other (in_range n other at))))
    (λ h.
    let up : FlowsTo lattice p least =
    from_all (λ other. flow_test lattice p other) (range_with_len 0 n) least h
    (range_has n least below) in ⊎_elim
    (λ l.
    let inside = ltb-true p n l in
    eq-eqb p least (table.lattice.apart p least inside below up (flows p inside)))
    (λ m. absurd (false≢true (sym (no_flow p least (ltb-false p n m)) ∙ up)))
    (either_way (nat_lt p n)))
  where
    no_flow : (p b : ℕ) → length lattice ≤ p → flow_test lattice p b ≡ false
    no_flow p b past =
        ap (λ row. bit_at row b == 1) (get_or_past lattice p 0 past)
        ∙ ap (λ v. v == 1) (bit_at-zero b)

-- ---- clocks in order

filter_twice : (p q : ℕ → Bool) (xs : List ℕ) →
    filter q (filter p xs) ≡ filter (λ x. p x && q x) xs
filter_twice p q [] = refl
filter_twice p q (x ∷ xs) = by (p x) (filter_twice p q xs)
  where
    by : (b : Bool) → filter q (filter p xs) ≡ filter (λ y. p y && q y) xs
        → filter q (cond b (x ∷ filter p xs) (filter p xs)) ≡
        cond (b && q x) (x ∷ filter (λ y. p y && q y) xs) (filter (λ y. p y && q y) xs)
    by true rest = ap (λ ys. cond (q x) (x ∷ ys) ys) rest
    by false rest = rest

module _ (n : ℕ) where
  holds_those : (test : ℕ → Bool) (k : ℕ) → k < n → holds (those n test) k ≡ test k
  holds_those test k below = same_answer (holds (those n test) k) (test k)
      (λ h. those_pass n test k (Contains-from_holds (those n test) k h))
      (λ h. holds-from_Contains (those n test) k (in_those n test k below h))

  listed_again : (test : ℕ → Bool) (set : List ℕ) → set ≡ those n test → set ≡ those n (holds set)
  listed_again test set is =
      is ∙ filter_within test (holds set) 0 n (λ k below.
      let inside : k < n = omega arith in
      sym (ap (λ ks. holds ks k) is ∙ holds_those test k inside))

  some_test : (brings : ℕ → ℕ → Bool) (first : List ℕ) (test : ℕ → Bool) (times : ℕ)
      → first ≡ those n test
      → (t : ℕ → Bool) × (with_all_brought n brings first times ≡ those n t)
  some_test brings first test zero is = (test, is)
  some_test brings first test (suc times) is =
      let set = with_all_brought n brings first times in
      ((λ k. holds set k || list_any (λ m. brings m k) set), refl)

-- the clocks in signal order
pub clocks_listed : (design : FlatDesign) →
    clocks design ≡ those (length design.signals) (is_clock design)
clocks_listed design =
    let n = length design.signals in
    let edges = those n (is_edge design) in
    let found = some_test n (makes_clock design) edges (is_edge design) n refl in
    listed_again n found.0 (clocks design) found.1

abbrev pub is_fault : FlatDesign → ℕ → Bool
is_fault design s = is_clock design s && not (is_proper_clock design s)

pub faults_are : (design : FlatDesign)
    → map (λ s. breach 602 (declared_at design s) s)
    (filter (is_fault design) (range_with_len 0 (length design.signals))) ≡ clock_faults design
faults_are design =
    let n = length design.signals in
    let fault = λ (s : ℕ). breach 602 (declared_at design s) s in
    let wrong = λ (s : ℕ). not (is_proper_clock design s) in
    sym (ap (λ ks. map fault (filter wrong ks)) (clocks_listed design)
    ∙ ap (map fault) (filter_twice (is_clock design) wrong (range_with_len 0 n)))

-- ---- one clock

abbrev pub proper : (lattice : List ℕ) → SignalForm → (linked agrees alone : Bool) → Bool
proper lattice f linked agrees alone =
    is_input_kind f.kind && (f.width == 1) && (is_top_kind f.kind || linked) && agrees && alone
    && is_least_label lattice f.label

not_not : (b : Bool) → not (not b) ≡ b
not_not true = refl
not_not false = refl

pub proper_is : (design : FlatDesign) (s : ℕ) (f : SignalForm) (linked agrees used : Bool)
    → signal_of design.signals s ≡ f → linked ≡ is_whole_port design s
    → agrees ≡ agrees_with_earlier design s → used ≡ is_used design s
    → proper design.lattice f linked agrees (not used) ≡ is_proper_clock design s
proper_is design s f linked agrees used at links agree uses =
    let lattice = design.lattice in
    ap (λ g. proper lattice g linked agrees (not used)) (sym at)
    ∙ ap (λ l. proper lattice (signal_of design.signals s) l agrees (not used)) links
    ∙ ap (λ a. proper lattice (signal_of design.signals s) (is_whole_port design s) a (not used))
    agree
    ∙ ap (proper lattice (signal_of design.signals s) (is_whole_port design s)
    (agrees_with_earlier design s))
    (ap not uses ∙ not_not (is_clock_alone design s))
