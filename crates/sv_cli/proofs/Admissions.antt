-- Which rule of admission a design breaks first.
use Rattle.std.proofs.Common.{◌≡◌, ◌⊎◌, inl, inr, ⊎_elim, ℕ, ◌<◌, Bool, ◌==◌, ◌&&◌, nat_lt}
use Rattle.std.proofs.Common.{lt-ltb, List, [], ◌∷◌, ◌++◌, map, sym}
use Rattle.std.proofs.Common.{ap, subst, ◌∙◌}
use Rattle.std.proofs.Common.{arith}
use Rattle.std.specs.Prelude.{not, IsFalse, Contains, filter}
use Rattle.std.proofs.lemmas.Bool.{false≢true, eq-eqb}
use Rattle.sv_system.proofs.Lists.{Contains-nil}
use Rattle.sv_system.proofs.Lists.{Contains-from_map}
use Rattle.sv_num.specs.declared.faults.Place.{Place}
use Rattle.sv_flat.specs.Admission.{breaches, Breaks, names_of, IsRefused}
use Rattle.sv_flat.specs.Admission.{IsAdmitted}
use Rattle.sv_flat.specs.Assignments.{wrong_assigns}
use Rattle.sv_flat.specs.Blocks.{latches}
use Rattle.sv_flat.specs.Blocks.{phase_faults}
use Rattle.sv_flat.specs.Breaches.{Breach, breach, then_by, comes_before, first_signal}
use Rattle.sv_flat.specs.Clocks.{clocks, is_proper_clock}
use Rattle.sv_flat.specs.Design.{ProcessForm, FlatDesign}
use Rattle.sv_flat.specs.Drivers.{clock_faults, extra_driver, driver_fault, driver_faults}
use Rattle.sv_flat.specs.Drivers.{is_undriven, undriven}
use Rattle.sv_flat.specs.Processes.{declared_at, signal_numbers, signals_that}
use Rattle.sv_flat.specs.Values.{signal_of}
use Rattle.sv_flat.proofs.LeastSets.{either_way}
use Rattle.sv_flat.proofs.Members.{Contains-either}
use Rattle.sv_flat.proofs.Orders.{no_circle}
use Rattle.sv_rules.proofs.FirstBreaches.{from_filter_map, made_of, wrong_assign_at, latch_at}
use Rattle.sv_rules.proofs.FirstBreaches.{phase_fault_at}
use Rattle.sv_rules.proofs.Firsts.{or_left, or_right, and_both, compare}

-- ---- numbers in order

same_number : (a b : ℕ) (x y : Bool) → IsFalse (then_by a b x) → IsFalse (then_by b a y) → a ≡ b
same_number a b x y h k = elim (compare a b) [
  | inl l ↦ absurd (false≢true (sym h ∙ or_left (nat_lt a b) ((a == b) && x) (lt-ltb a b l)))
  | inr m ↦ elim m [
    | inl e ↦ e
    | inr l ↦ absurd (false≢true (sym k ∙ or_left (nat_lt b a) ((b == a) && y) (lt-ltb b a l)))
  ]
]

-- what is not before by two numbers and by the rest is not before by the rest where they are equal
behind : (a b : ℕ) (next : Bool) → a ≡ b → IsFalse (then_by a b next) → IsFalse next
behind a b next e h = elim (either_way next) [
  | inl yes' ↦ absurd (false≢true (sym h ∙ or_right (nat_lt a b) ((a == b) && next)
      (and_both (a == b) next (eq-eqb a b e) yes')))
  | inr no' ↦ no'
]

-- two breaches of which neither comes before the other
record AreLevel (a b : Breach) : Type 0 where
  numbers : a.number ≡ b.number
  lines : a.place.line ≡ b.place.line
  columns : a.place.column ≡ b.place.column
  signals : first_signal a ≡ first_signal b

level : (a b : Breach) → IsFalse (comes_before a b) → IsFalse (comes_before b a) → AreLevel a b
level a b h k =
    let numbers = same_number a.number b.number _ _ h k in
    let h1 = behind a.number b.number _ numbers h in
    let k1 = behind b.number a.number _ (sym numbers) k in
    let lines = same_number a.place.line b.place.line _ _ h1 k1 in
    let h2 = behind a.place.line b.place.line _ lines h1 in
    let k2 = behind b.place.line a.place.line _ (sym lines) k1 in
    let columns = same_number a.place.column b.place.column _ _ h2 k2 in
    let h3 = behind a.place.column b.place.column _ columns h2 in
    let k3 = behind b.place.column a.place.column _ (sym columns) k2 in
    record {
      numbers = numbers;
      lines = lines;
      columns = columns;
      signals = one_of (first_signal a) (first_signal b) h3 k3;
    }
  where
    one_of : (a b : ℕ) → IsFalse (nat_lt a b) → IsFalse (nat_lt b a) → a ≡ b
    one_of a b h k = grind (arith, h, k)

-- ---- the breaches of each rule

-- a breach with one signal, of a rule before 607
record IsPlain (b : Breach) : Type 0 where
  number : ℕ
  place : Place
  signal : ℕ
  is : breach number place signal ≡ b
  early : number < 607

-- two circles from one signal
pub record AreFromOne (number : ℕ) (names others : List (List ℕ)) : Type 0 where
  pub is_circle : number ≡ 607
  pub first : List ℕ
  pub rest : List (List ℕ)
  pub rest_of_others : List (List ℕ)
  pub one : names ≡ first ∷ rest
  pub other : others ≡ first ∷ rest_of_others

plain_at : (number : ℕ) (place : Place) (signal : ℕ) (b : Breach)
    → breach number place signal ≡ b → number < 607 → IsPlain b
plain_at number place signal b is early =
    record { number = number; place = place; signal = signal; is = is; early = early }

module _ (design : FlatDesign) where
  wrong_assigns_plain : (b : Breach) → Contains (wrong_assigns design) b → IsPlain b
  wrong_assigns_plain b at =
      let found = wrong_assign_at design b at in
      plain_at 601 found.2.piece.place found.2.piece.signal b found.4 (omega arith)

  clock_faults_plain : (b : Breach) → Contains (clock_faults design) b → IsPlain b
  clock_faults_plain b at =
      let clock = Contains-from_map (λ s. breach 602 (declared_at design s) s)
      (filter (λ s. not (is_proper_clock design s)) (clocks design)) b at in
      plain_at 602 (declared_at design clock.0) clock.0 b clock.2 (omega arith)

  driver_faults_plain : (b : Breach) → Contains (driver_faults design) b → IsPlain b
  driver_faults_plain b at =
      let signal = from_filter_map (driver_fault design) (signal_numbers design) b at in
      let process = made_of (λ (p : ProcessForm). breach 603 p.place signal.0)
      (extra_driver design signal.0) b signal.2 in
      plain_at 603 process.0.place signal.0 b process.1 (omega arith)

  undriven_plain : (b : Breach) → Contains (undriven design) b → IsPlain b
  undriven_plain b at =
      let signal = Contains-from_map (λ s. breach 604 (declared_at design s) s)
      (signals_that design (is_undriven design)) b at in
      plain_at 604 (declared_at design signal.0) signal.0 b signal.2 (omega arith)

  latches_plain : (b : Breach) → Contains (latches design) b → IsPlain b
  latches_plain b at =
      let found = latch_at design b at in
      plain_at 605 found.0.place found.2 b found.4 (omega arith)

  phase_faults_plain : (b : Breach) → Contains (phase_faults design) b → IsPlain b
  phase_faults_plain b at =
      let found = phase_fault_at design b at in
      plain_at 606 found.2.name.place found.2.name.signal b found.4 (omega arith)

  breaches_plain : (b : Breach) → Contains (breaches design) b → IsPlain b
  breaches_plain b at = ⊎_elim
      (λ l. ⊎_elim
      (λ l. ⊎_elim
      (λ l. ⊎_elim
      (λ l. ⊎_elim
      (λ l. wrong_assigns_plain b l)
      (λ r. clock_faults_plain b r)
      (Contains-either (wrong_assigns design) (clock_faults design) b l))
      (λ r. driver_faults_plain b r)
      (Contains-either (wrong_assigns design ++ clock_faults design) (driver_faults design) b l))
      (λ r. undriven_plain b r)
      (Contains-either (wrong_assigns design ++ clock_faults design ++ driver_faults design)
      (undriven design) b l))
      (λ r. latches_plain b r)
      (Contains-either
      (wrong_assigns design ++ clock_faults design ++ driver_faults design ++ undriven design)
      (latches design) b l))
      (λ r. phase_faults_plain b r)
      (Contains-either
      (wrong_assigns design ++ clock_faults design ++ driver_faults design ++ undriven design
      ++ latches design)
      (phase_faults design) b at)

  -- a breach of one of these rules is no circle
  plain_or_circle : (b : Breach) → Contains (breaches design) b → b.number ≡ 607 → ⊥
  plain_or_circle b at is =
      let p = breaches_plain b at in
      let e : p.number ≡ b.number = ap (λ (o : Breach). o.number) p.is in
      let h = p.early in
      absurd (omega (arith, is))

  -- ---- first breaches

  -- the name of a signal
  abbrev pub name_at : ℕ → List ℕ
  name_at s = (signal_of design.signals s).name

  same_names : (b c : Breach) → AreLevel b c → Breaks design b → Breaks design c →
      (names_of design b ≡ names_of design c)
      ⊎ AreFromOne b.number (names_of design b) (names_of design c)
  same_names b c l (inl at) (inl at') =
      let p = breaches_plain b at in
      let q = breaches_plain c at' in
      let one : p.signal ≡ q.signal =
      ap first_signal p.is ∙ l.signals ∙ sym (ap first_signal q.is) in
      inl (sym (ap (names_of design) p.is) ∙ ap (λ s. name_at s ∷ []) one
      ∙ ap (names_of design) q.is)
  same_names b c l (inl at) (inr (first, signals, circle, is)) =
      absurd (plain_or_circle b at (l.numbers ∙ ap (λ (o : Breach). o.number) is))
  same_names b c l (inr (first, signals, circle, is)) (inl at) =
      absurd (plain_or_circle c at (sym l.numbers ∙ ap (λ (o : Breach). o.number) is))
  same_names b c l (inr (first, signals, circle, is)) (inr (first', signals', circle', is')) =
      let one : first ≡ first' = sym (ap first_signal is) ∙ l.signals ∙ ap first_signal is' in
      inr (record {
        is_circle = ap (λ (b : Breach). b.number) is;
        first = name_at first;
        rest = map name_at signals;
        rest_of_others = map name_at signals';
        one = ap (names_of design) is;
        other = ap (names_of design) is' ∙ ap (λ s. name_at s ∷ map name_at signals') (sym one);
      })

  -- an admitted design breaks no rule of admission
  pub admitted_breaks_none : IsAdmitted design → (number : ℕ) (place : Place)
      (names : List (List ℕ)) → IsRefused design number place names → ⊥
  admitted_breaks_none admitted number place names (b, first, same, stands, named) =
      sort first.broken
    where
      sort : Breaks design b → ⊥
      sort (inl at) =
          Contains-nil b (subst (λ bs. Contains bs b) admitted.unbroken at)
      sort (inr (signal, signals, circle, is)) =
          no_circle design admitted.ordered signal signals circle

  -- two refusals of a design tell of one rule at one place, with the same names or two circles from
  -- one signal
  pub refused_once : (n m : ℕ) (p q : Place) (ns ms : List (List ℕ)) → IsRefused design n p ns →
      IsRefused design m q ms →
      (n ≡ m) × (p ≡ q) × ((ns ≡ ms) ⊎ AreFromOne n ns ms)
  refused_once n m p q ns ms (b, first, number, place, names) (c, first', number', place', names') =
      let l = level b c (first'.before b first.broken) (first.before c first'.broken) in (
        sym number ∙ l.numbers ∙ number',
        sym place ∙ same_place b.place c.place l.lines l.columns ∙ place',
        elim (same_names b c l first.broken first'.broken) [
          | inl same ↦ inl (sym names ∙ same ∙ names')
          | inr circles ↦ inr (record {
            is_circle = sym number ∙ circles.is_circle;
            first = circles.first;
            rest = circles.rest;
            rest_of_others = circles.rest_of_others;
            one = sym names ∙ circles.one;
            other = sym names' ∙ circles.other;
          })
        ],
      )
    where
      same_place : (p q : Place) → p.line ≡ q.line → p.column ≡ q.column → p ≡ q
      same_place p q lines columns =
          let at : ℕ → ℕ → Place = λ line column. record { line = line; column = column } in
          ap (λ line. at line p.column) lines ∙ ap (at q.line) columns
