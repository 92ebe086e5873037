-- The first two drivers of each signal, as targets are noted one after the other.
use Rattle.std.proofs.Common.{◌≡◌, ◌≢◌, ℕ, ◌<◌, Bool, true, false, cond, ◌||◌, ◌==◌, List, [], ◌∷◌}
use Rattle.std.proofs.Common.{length, get_or, Option, Some, None, ⊎_elim, refl, sym, ap, ap₂, subst}
use Rattle.std.proofs.Common.{◌∙◌, arith}
use Rattle.std.specs.Prelude.{slice_get, slice_set}
use Rattle.std.proofs.lemmas.Bool.{false≢true, eqb-true, eq-eqb}
use Rattle.std.proofs.lemmas.List.{get_or-set_same, get_or-set_other, length-set}
use Rattle.sv_flat.proofs.LeastSets.{either_way}
use Rattle.sv_rules.specs.declared.drivers.Driver.{Driver}
use Rattle.sv_rules.specs.declared.drivers.Drivers.{Drivers}
use Rattle.sv_rules.specs.DriverTables.{first_at, second_at, AreDrivers, AreBelow, and_one, noted}
use Rattle.sv_rules.specs.DriverTables.{Notes}

-- ---- one signal

unequal : (a b : ℕ) → a < b → (a == b) ≡ false
unequal a b h =
    ⊎_elim (λ e. absurd (let same = eqb-true a b e in omega arith)) (λ f. f) (either_way (a == b))

one_signal : (xs : List Driver) (d : Driver) (b : Bool) → AreBelow d.process xs
    → ◌≡◌ {A = Option Driver
    × Option Driver} (noted (slice_get (and_one d b xs) 0) (slice_get (and_one d b xs) 1) d)
    (slice_get (and_one d true xs) 0, slice_get (and_one d true xs) 1)
one_signal [] d true below =
    ap (λ t. (Some d, cond t None (Some d))) (eq-eqb d.process d.process refl)
one_signal [] d false below = refl
one_signal (f ∷ []) d true below = refl
one_signal (f ∷ []) d false below =
    ap (λ t. (Some f, cond t None (Some d))) (unequal f.process d.process below.0)
one_signal (f ∷ g ∷ xs) d b below = refl

or_itself : (b c : Bool) → c ≡ true → (b || c) ≡ true
or_itself true c e = refl
or_itself false c e = e

or_other : (b c : Bool) → c ≡ false → (b || c) ≡ b
or_other true c e = refl
or_other false c e = e

differ : (a b : ℕ) → (a == b) ≡ false → b ≢ a
differ a b h e = false≢true (sym h ∙ eq-eqb a b (sym e))

module _ (n : ℕ) (old new : Drivers) (signal : ℕ) (driver : Driver) (first second : Option Driver)
    (inside : signal < length old.first.items) (inside_too : signal < length old.second.items)
    (first_new : new.first.items ≡ slice_set old.first.items signal first)
    (second_new : new.second.items ≡ slice_set old.second.items signal second)
    (is : ◌≡◌ {A = Option Driver × Option Driver} (first, second)
    (noted (first_at old signal) (second_at old signal) driver)) where
  at_other : (s : ℕ) → (signal == s) ≡ false → (first_at new s ≡ first_at old s)
      × (second_at new s ≡ second_at old s)
  at_other s h = (
    ap (λ xs. get_or xs s None) first_new
        ∙ get_or-set_other old.first.items signal s first None (differ signal s h),
    ap (λ xs. get_or xs s None) second_new
        ∙ get_or-set_other old.second.items signal s second None (differ signal s h),
  )

  at_own : (first_at new signal ≡ first) × (second_at new signal ≡ second)
  at_own = (
    ap (λ xs. get_or xs signal None) first_new
        ∙ get_or-set_same old.first.items signal first None inside,
    ap (λ xs. get_or xs signal None) second_new
        ∙ get_or-set_same old.second.items signal second None inside_too,
  )

  -- what is noted of a signal: of the one that is assigned, and of each other
  at_each : (at_new at_old : ℕ → Option Driver) (k : ℕ) (of : ℕ → List Driver) (a : ℕ → Bool)
      (s : ℕ) → (signal ≡ s → at_new signal ≡ slice_get (and_one driver true (of signal)) k)
      → ((signal == s) ≡ false → at_new s ≡ at_old s)
      → at_old s ≡ slice_get (and_one driver (a s) (of s)) k
      → at_new s ≡ slice_get (and_one driver (a s || (signal == s)) (of s)) k
  at_each at_new at_old k of a s own others was = ⊎_elim
      (λ same. subst (λ z.
      at_new z ≡ slice_get (and_one driver (a z || (signal == z)) (of z)) k)
      (eqb-true signal s same)
      (own (eqb-true signal s same)
      ∙ ap (λ t. slice_get (and_one driver t (of signal)) k)
      (sym (or_itself (a signal) (signal == signal) (eq-eqb signal signal refl)))))
      (λ other. others other ∙ was
      ∙ ap (λ t. slice_get (and_one driver t (of s)) k)
      (sym (or_other (a s) (signal == s) other)))
      (either_way (signal == s))

  pub one_noted : Notes n driver old new (λ s. signal == s)
  one_noted of a below are = record {
    first_size = ap length first_new ∙ length-set old.first.items signal first ∙ are.first_size;
    second_size =
        ap length second_new ∙ length-set old.second.items signal second ∙ are.second_size;
    first_is = λ s h. at_each (first_at new) (first_at old) 0 of a s
        (λ same. at_own.0 ∙ ap (λ (p : Option Driver × Option Driver).
        p.0) (both (subst (λ z. z < n) (sym same) h)))
        (λ other. (at_other s other).0) (are.first_is s h);
    second_is = λ s h. at_each (second_at new) (second_at old) 1 of a s
        (λ same. at_own.1 ∙ ap (λ (p : Option Driver × Option Driver).
        p.1) (both (subst (λ z. z < n) (sym same) h)))
        (λ other. (at_other s other).1) (are.second_is s h);
  }
    where
      both : signal < n → ◌≡◌ {A = Option Driver
          × Option Driver} (first, second) (
            slice_get (and_one driver true (of signal)) 0,
            slice_get
                (and_one driver true (of signal)) 1,
          )
      both h = is ∙ ap₂ (λ f g. noted f g driver) (are.first_is signal h) (are.second_is signal h)
          ∙ one_signal (of signal) driver (a signal) (below signal)

-- ---- one after the other

pub same_drivers : (n : ℕ) (drivers : Drivers) (of other : ℕ → List Driver) →
    ((s : ℕ) → of s ≡ other s) → AreDrivers n drivers of → AreDrivers n drivers other
same_drivers n drivers of other same are = record {
  first_size = are.first_size;
  second_size = are.second_size;
  first_is = λ s h. are.first_is s h ∙ ap (λ ds. slice_get ds 0) (same s);
  second_is = λ s h. are.second_is s h ∙ ap (λ ds. slice_get ds 1) (same s);
}

or_three : (a b c : Bool) → ((a || b) || c) ≡ (a || (b || c))
or_three true b c = refl
or_three false b c = refl

pub same_notes : (n : ℕ) (d : Driver) (old new : Drivers) (more other : ℕ → Bool) →
    ((s : ℕ) → more s ≡ other s) → Notes n d old new more → Notes n d old new other
same_notes n d old new more other same notes of a below are =
    same_drivers n new (λ s. and_one d (a s || more s) (of s)) (λ s.
    and_one d (a s || other s) (of s))
    (λ s. ap (λ t. and_one d (a s || t) (of s)) (same s)) (notes of a below are)

pub both_notes : (n : ℕ) (d : Driver) (old middle new : Drivers) (more other : ℕ → Bool)
    → Notes n d old middle more → Notes n d middle new other
    → Notes n d old new (λ s. more s || other s)
both_notes n d old middle new more other first second of a below are =
    same_drivers n new (λ s. and_one d ((a s || more s) || other s) (of s)) (λ s.
    and_one d (a s || (more s || other s)) (of s))
    (λ s. ap (λ t. and_one d t (of s)) (or_three (a s) (more s) (other s)))
    (second of (λ s. a s || more s) below (first of a below are))

no_notes : (n : ℕ) (d : Driver) (drivers : Drivers) → Notes n d drivers drivers (λ s. false)
no_notes n d drivers of a below are =
    same_drivers n drivers (λ s. and_one d (a s) (of s)) (λ s. and_one d (a s || false) (of s))
    (λ s. ap (λ t. and_one d t (of s)) (sym (or_other (a s) false refl))) are

-- some targets are noted and some are left
abbrev pub NotesSoFar : ℕ → Driver → (old now : Drivers) → (all left : ℕ → Bool) → Type 0
NotesSoFar n d old now all left =
    (done : ℕ → Bool) × Notes n d old now done × ((s : ℕ) → all s ≡ (done s || left s))

pub notes_begin : (n : ℕ) (d : Driver) (drivers : Drivers) (all : ℕ → Bool) →
    NotesSoFar n d drivers drivers all all
notes_begin n d drivers all = (λ s. false, no_notes n d drivers, λ s. refl)

pub notes_more : (n : ℕ) (d : Driver) (old now next : Drivers) (all left here rest : ℕ → Bool)
    → NotesSoFar n d old now all left
    → ((s : ℕ) → left s ≡ (here s || rest s)) → Notes n d now next here
    → NotesSoFar n d old next all rest
notes_more n d old now next all left here rest so_far splits notes = (
  λ s. so_far.0 s || here s,
  both_notes n d old now next so_far.0 here so_far.1 notes,
  λ s. so_far.2 s ∙ ap (λ t. so_far.0 s || t) (splits s)
      ∙ sym (or_three (so_far.0 s) (here s) (rest s)),
)

pub notes_end : (n : ℕ) (d : Driver) (old now : Drivers) (all left : ℕ → Bool)
    → NotesSoFar n d old now all left → ((s : ℕ) → left s ≡ false)
    → Notes n d old now all
notes_end n d old now all left so_far none =
    same_notes n d old now so_far.0 all
    (λ s. sym (so_far.2 s ∙ or_other (so_far.0 s) (left s) (none s))) so_far.1
