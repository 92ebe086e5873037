-- One whole design that meets all premises of the law: a label by the value of a signal, and valid
-- obligations.
use Rattle.std.proofs.Common.{◌≡◌, ℕ, zero, suc, ◌%◌, ◌^◌, ◌<◌, Bool, true, false, List, [], ◌∷◌}
use Rattle.std.proofs.Common.{map, ⊎_elim, refl, sym, ap, subst, ◌∙◌, arith, Some, None}
use Rattle.std.specs.Prelude.{IsTrue, IsFalse}
use Rattle.std.proofs.lemmas.Bool.{false≢true}
use Rattle.std.proofs.lemmas.List.Elements.{All-nil, All-cons}
use Rattle.sv_num.specs.Vectors.{is_true}
use Rattle.sv_lattice.specs.declared.points.Point.{Point}
use Rattle.sv_lattice.specs.Flows.{EachPair, IsApart, HasJoin, HasMeet}
use Rattle.sv_lattice.specs.Maps.{MapRows, IsMap, row_of}
use Rattle.sv_lattice.specs.Labels.{map_of}
use Rattle.sv_lattice.specs.Tables.{flow_test, FlowsTo, IsWithin, IsLatticeTable}
use Rattle.sv_system.specs.System.{Environment, Noninterferent}
use Rattle.sv_system.proofs.Lists.{Contains-head, Contains-cases}
use Rattle.sv_flat.specs.Values.{signal_width}
use Rattle.sv_flat.specs.FlatSystem.{flat_system}
use Rattle.sv_flat.proofs.Forms.{at, named}
use Rattle.sv_obl.specs.declared.frames.Frame.TheVariants.{Now}
use Rattle.sv_obl.specs.Paths.{StepForm}
use Rattle.sv_obl.specs.PathValues.{is_true_in}
use Rattle.sv_obl.specs.Obligations.{flow, Obligation}
use Rattle.sv_obl.specs.Validity.{Valuation, Falsifies, IsValid, AllValid}
use Rattle.sv_obl.specs.Noninterference.{IsChecked}
use Rattle.sv_obl.proofs.ExampleDesigns.{turns, maps, point}
use Rattle.sv_obl.proofs.GuardedDesigns.{noninterferent_plain}
use Rattle.sv_flat.proofs.Members.{only, all_contained}

-- ---- L flows to H

abbrev pub table : List ℕ
table = 3 ∷ 2 ∷ []

two_points : (Q : ℕ → ℕ → Type 0) → Q 0 0 → Q 0 1 → Q 1 0 → Q 1 1 → EachPair 2 Q
two_points Q a b c d zero zero x y = a
two_points Q a b c d zero (suc zero) x y = b
two_points Q a b c d (suc zero) zero x y = c
two_points Q a b c d (suc zero) (suc zero) x y = d
two_points Q a b c d (suc (suc i)) j x y = absurd (omega arith)
two_points Q a b c d i (suc (suc j)) x y = absurd (omega arith)

reflexive : (a : ℕ) → a < 2 → FlowsTo table a a
reflexive zero x = refl
reflexive (suc zero) x = refl
reflexive (suc (suc i)) x = absurd (omega arith)

transitive : (a b c : ℕ) → a < 2 → b < 2 → c < 2 → FlowsTo table a b → FlowsTo table b c →
    FlowsTo table a c
transitive zero b zero x y z first second = refl
transitive zero b (suc zero) x y z first second = refl
transitive (suc zero) zero c x y z first second = absurd (false≢true first)
transitive (suc zero) (suc zero) c x y z first second = second
transitive (suc (suc i)) b c x y z first second = absurd (omega arith)
transitive a (suc (suc i)) c x y z first second = absurd (omega arith)
transitive a b (suc (suc i)) x y z first second = absurd (omega arith)

within : IsWithin 2 table
within zero x = omega arith
within (suc zero) x = omega arith
within (suc (suc i)) x = absurd (omega arith)

-- the points lie as their numbers do
join_is : (a b c : ℕ) → c < 2 → FlowsTo table a c → FlowsTo table b c →
    ((d : ℕ) → FlowsTo table a d → FlowsTo table b d → FlowsTo table c d) →
    HasJoin 2 (FlowsTo table) a b
join_is a b c point first second least = (
  c,
  record {
    is_point = point;
    above_first = first;
    above_second = second;
    least = λ d below h k. least d h k;
  },
)

meet_is : (a b c : ℕ) → c < 2 → FlowsTo table c a → FlowsTo table c b →
    ((d : ℕ) → FlowsTo table d a → FlowsTo table d b → FlowsTo table d c) →
    HasMeet 2 (FlowsTo table) a b
meet_is a b c point first second greatest = (
  c,
  record {
    is_point = point;
    below_first = first;
    below_second = second;
    greatest = λ d below h k. greatest d h k;
  },
)

is_lattice : IsLatticeTable table
is_lattice = record {
  count = (omega arith, omega arith);
  within = within;
  preorder = record { reflexive = reflexive; transitive = transitive };
  lattice = record {
    apart = two_points (IsApart (FlowsTo table))
        (λ h k. refl) (λ h k. absurd (false≢true k)) (λ h k. absurd (false≢true h)) (λ h k. refl);
    joins = two_points (HasJoin 2 (FlowsTo table))
        (join_is 0 0 0 (omega arith) refl refl (λ d h k. h))
        (join_is 0 1 1 (omega arith) refl refl (λ d h k. k))
        (join_is 1 0 1 (omega arith) refl refl (λ d h k. h))
        (join_is 1 1 1 (omega arith) refl refl (λ d h k. h));
    meets = two_points (HasMeet 2 (FlowsTo table))
        (meet_is 0 0 0 (omega arith) refl refl (λ d h k. h))
        (meet_is 0 1 0 (omega arith) refl refl (λ d h k. h))
        (meet_is 1 0 0 (omega arith) refl refl (λ d h k. k))
        (meet_is 1 1 1 (omega arith) refl refl (λ d h k. h));
  };
}

-- ---- the design keeps the rules

abbrev one_range : MapRows
one_range = record { first = 1; second = None; rows = map point (0 ∷ 1 ∷ []) }

abbrev two_ranges : MapRows
two_ranges = record { first = 1; second = Some 1; rows = map point (0 ∷ 1 ∷ 1 ∷ 1 ∷ []) }

abbrev IsGood : MapRows → Type 0
IsGood m = IsMap m.first m.second m.rows

one_is_map : IsGood one_range
one_is_map = (omega arith, omega arith, refl)

two_is_map : IsGood two_ranges
two_is_map = (omega arith, omega arith, omega arith, refl)

pub turns_checked : IsChecked turns
turns_checked = record {
  is_sound = refl;
  admitted = record { unbroken = refl; ordered = (3 ∷ [], refl) };
  lattice = is_lattice;
  maps =
      All-cons IsGood one_range (two_ranges ∷ []) one_is_map
      (All-cons IsGood two_ranges [] two_is_map (All-nil IsGood));
}

-- ---- its obligations are valid

-- a bit that is not 0 is 1
pub one_bit : (x : ℕ) → x < 2 → is_true (x % 2) ≡ true → x ≡ 1
one_bit zero low holds = absurd (false≢true holds)
one_bit (suc zero) low holds = refl
one_bit (suc (suc x)) low holds = absurd (omega arith)

-- and one that is 0 is 0
pub no_bit : (x : ℕ) → x < 2 → is_true (x % 2) ≡ false → x ≡ 0
no_bit zero low holds = refl
no_bit (suc zero) low holds = absurd (false≢true (sym holds))
no_bit (suc (suc x)) low holds = absurd (omega arith)

abbrev turn_step : Bool → StepForm
turn_step truth = record { place = at 3 19; condition = named 0 (at 3 14); truth = truth }

abbrev obligation : Bool → ℕ → Obligation
obligation truth read =
    record {
      facts = [];
      path = turn_step truth ∷ [];
      right = Some (at 3 10);
      reads = 0 ∷ read ∷ [];
      goal = flow 3 Now;
    }

turn_fits : (o : Obligation) (v : Valuation) (f : Falsifies turns v o) → f.now 0 < 2
turn_fits o v f =
    all_contained (λ s. f.now s < 2 ^ signal_width turns.signals s) (flat_system turns).signals
    f.settled.fits 0
    (Contains-head 0 (1 ∷ 2 ∷ 3 ∷ []))

turn_is : (truth : Bool) (read : ℕ) (v : Valuation)
    (f : Falsifies turns v (obligation truth read)) → is_true (f.now 0 % 2) ≡ truth
turn_is truth read v f =
    all_contained (λ (step : StepForm). is_true_in turns.signals f.now step.condition ≡ step.truth)
    (turn_step truth ∷ []) f.path (turn_step truth) (Contains-head (turn_step truth) [])

-- the label of a point does not flow to the row of the turn
abbrev Stays : ℕ → ℕ → Type 0
Stays point turn = IsFalse (flow_test table point (row_of (map_of maps 0) turn).0)

-- or does
abbrev Goes : ℕ → ℕ → Type 0
Goes point turn = IsTrue (flow_test table point (row_of (map_of maps 0) turn).0)

-- at a value of the turn at which the turn and a name of a point flow to H
valid_at : (truth : Bool) (read : ℕ) (label : Point) (value : ℕ) →
    ((x : ℕ) → x < 2 → is_true (x % 2) ≡ truth → x ≡ value) →
    ((e : Environment ℕ) → (flat_system turns).label read e ≡ label) →
    Goes 0 value → Goes label.0 value → IsValid turns (obligation truth read)
valid_at truth read label value value_of labelled own other v f =
    let is = ap (λ (e : Environment ℕ). e 0) f.in_frame
    ∙ value_of (f.now 0) (turn_fits (obligation truth read) v f) (turn_is truth read v f) in
    let stays = f.fails in
    ⊎_elim
    (λ first.
    false≢true (sym (subst (Stays 0) is
    (subst (λ t. IsFalse ((flat_system turns).flows ((flat_system turns).label t f.now)
    ((flat_system turns).label 3 f.there))) (sym first) stays.2)) ∙ own))
    (λ later.
    false≢true (sym (subst (Stays label.0) is
    (subst (λ p. IsFalse ((flat_system turns).flows p ((flat_system turns).label 3 f.there)))
    (ap (λ t. (flat_system turns).label t f.now) (sym (only read stays.0 later))
    ∙ labelled f.now) stays.2)) ∙ other))
    (Contains-cases 0 (read ∷ []) stays.0 stays.1)

-- where the turn is 1, turn and b flow to H
first_valid : IsValid turns (obligation true 2)
first_valid = valid_at true 2 (point 1) 1 one_bit (λ e. refl) refl refl

-- where it is 0, turn and a flow to L
second_valid : IsValid turns (obligation false 1)
second_valid = valid_at false 1 (point 0) 0 no_bit (λ e. refl) refl refl

turns_valid : AllValid [] turns
turns_valid = All-cons (IsValid turns) (obligation true 2) (obligation false 1 ∷ []) first_valid
    (All-cons (IsValid turns) (obligation false 1) [] second_valid (All-nil (IsValid turns)))

-- so no level learns more than it may
pub turns_keep_secrets : Noninterferent (flat_system turns)
turns_keep_secrets = noninterferent_plain turns turns_checked turns_valid
