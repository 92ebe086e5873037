-- A system whose processes may run in any order: a block assigns a signal, then reads it for
-- another one, and a process that stands before the block reads what the block makes. So one round
-- in the order of the list does not settle it.
use Rattle.std.proofs.Common.{◌≡◌, ℕ, zero, suc, eqb, eqb-true, eq-eqb, ◌<◌, ◌^◌, Bool, true, false}
use Rattle.std.proofs.Common.{List, [], ◌∷◌, ◌++◌, get_or, refl, sym, ap, subst, ◌∙◌, ⊎_elim, arith}
use Rattle.std.specs.Prelude.{Contains, IsTrue, flat_map}
use Rattle.std.specs.List.{IsDistinct}
use Rattle.std.proofs.lemmas.Bool.{true≢false, false≢true}
use Rattle.std.proofs.lemmas.List.Elements.{All-replicate}
use Rattle.sv_system.specs.System.{System, Environment, Run, put}
use Rattle.sv_system.specs.Facts.{IsCombinational, Driver, Ordered}
use Rattle.sv_system.specs.Schedules.{after_runs, runs_at, IsRound, IsTheSettled, RestIsSettled}
use Rattle.sv_system.specs.Schedules.{RoundsSettle, Block, Scheduled}
use Rattle.sv_system.proofs.Lists.{Contains-nil, Contains-cases}
use Rattle.sv_system.proofs.Orders.{rest_is_settled, enough_rounds_settle}
use Rattle.sv_system.proofs.ManyTargets.{ManyTargets, many_ordered}
use Rattle.sv_system.proofs.Places.{places_round}
use Rattle.sv_system.proofs.Runs.{targets}
use Rattle.sv_system.proofs.Pointwise.{each, fits_from}

data Net : Type 0 where
  given first second last held : Net

abbrev place : Net → ℕ
place given = 0
place first = 1
place second = 2
place last = 3
place held = 4

abbrev net_at : ℕ → Net
net_at n = get_or (given ∷ first ∷ second ∷ last ∷ []) n held

abbrev same : Net → Net → Bool
same s t = eqb (place s) (place t)

abbrev is_input : Net → Bool
is_input given = true
is_input _ = false

abbrev is_register : Net → Bool
is_register held = true
is_register _ = false

-- `always @* begin first = given; second = first; end`
abbrev both : (Net → ℕ) → (Net → ℕ)
both e = let half = put same first (e given) e in put same second (half first) half

-- `assign last = second;`
abbrev ending : (Net → ℕ) → (Net → ℕ)
ending e = put same last (e second) e

abbrev chain : System Net Bool
chain = record {
  signals = given ∷ first ∷ second ∷ last ∷ held ∷ [];
  is_input = is_input;
  is_register = is_register;
  width = λ s. 1;
  processes = ending ∷ both ∷ [];
  next = λ e s. e last;
  label = λ s e. true;
  flows = λ a b. true;
}

abbrev start : Environment Net
start given = 1
start _ = 0

-- by computation: after one round the last signal has not its value yet, after two it has
one_round : after_runs (runs_at chain (0 ∷ 1 ∷ [])) start last ≡ 0
one_round = refl

two_rounds : after_runs (runs_at chain (0 ∷ 1 ∷ 0 ∷ 1 ∷ [])) start last ≡ 1
two_rounds = refl

other_order : after_runs (runs_at chain (1 ∷ 0 ∷ [])) start last ≡ 1
other_order = refl

within : (s : Net) → Contains chain.signals s
within given = (0, omega arith, refl)
within first = (1, omega arith, refl)
within second = (2, omega arith, refl)
within last = (3, omega arith, refl)
within held = (4, omega arith, refl)

net_at-place : (s : Net) → net_at (place s) ≡ s
net_at-place given = refl
net_at-place first = refl
net_at-place second = refl
net_at-place last = refl
net_at-place held = refl

same_is : (s t : Net) → IsTrue (same s t) → s ≡ t
same_is s t is = sym (net_at-place s) ∙ ap net_at (eqb-true (place s) (place t) is) ∙ net_at-place t

is_same : (s : Net) → same s s ≡ true
is_same s = eq-eqb (place s) (place s) refl

-- what holds of the elements of a list, by the list
at_two : {X : Type 0} (P : X → Type 0) (x y : X) → P x → P y → (z : X) →
    Contains (x ∷ y ∷ []) z → P z
at_two P x y holds_x holds_y z at = ⊎_elim
    (λ e. subst P e holds_x)
    (λ later. ⊎_elim (λ e. subst P e holds_y) (λ none.
    absurd (Contains-nil z none)) (Contains-cases y [] z later))
    (Contains-cases x (y ∷ []) z at)

-- what the first, second and last are, all combinational signals are
at_combinational : (P : Net → Type 0) → P first → P second → P last → (s : Net) →
    IsCombinational chain s → P s
at_combinational P one two three given is = absurd (true≢false is.no_input)
at_combinational P one two three first is = one
at_combinational P one two three second is = two
at_combinational P one two three last is = three
at_combinational P one two three held is = absurd (true≢false is.no_register)

combinational_first : IsCombinational chain first
combinational_first = record { among = within first; no_input = refl; no_register = refl }

combinational_second : IsCombinational chain second
combinational_second = record { among = within second; no_input = refl; no_register = refl }

combinational_last : IsCombinational chain last
combinational_last = record { among = within last; no_input = refl; no_register = refl }

not_both : (s : Net) → IsTrue (is_input s) → is_register s ≡ false
not_both given input = refl
not_both first input = refl
not_both second input = refl
not_both last input = refl
not_both held input = absurd (false≢true input)

-- The blocks: a run leaves in the second signal what it took from the input, whatever the first
-- signal had before.
abbrev both_block : Block Net
both_block = record { targets = first ∷ second ∷ []; run = both }

abbrev ending_block : Block Net
ending_block = record { targets = last ∷ []; run = ending }

abbrev depth : Net → ℕ
depth first = 1
depth second = 2
depth last = 3
depth _ = 0

both_leaves : (e : Environment Net) (s : Net) → (Contains (first ∷ second ∷ []) s → ⊥) →
    both e s ≡ e s
both_leaves e given apart = refl
both_leaves e first apart = absurd (apart (0, omega arith, refl))
both_leaves e second apart = absurd (apart (1, omega arith, refl))
both_leaves e last apart = refl
both_leaves e held apart = refl

ending_leaves : (e : Environment Net) (s : Net) → (Contains (last ∷ []) s → ⊥) → ending e s ≡ e s
ending_leaves e given apart = refl
ending_leaves e first apart = refl
ending_leaves e second apart = refl
ending_leaves e last apart = absurd (apart (0, omega arith, refl))
ending_leaves e held apart = refl

abbrev blocks : List (Block Net)
blocks = ending_block ∷ both_block ∷ []

-- what the two environments of such a fact agree on
abbrev AgreeBelow : Environment Net → Environment Net → Net → Type 0
AgreeBelow e f s = (t : Net) → IsCombinational chain t → depth t < depth s → e t ≡ f t

scheduled : Scheduled chain
scheduled = record {
  blocks = blocks;
  are_processes = refl;
  depth = depth;
  targets_combinational =
      at_two (λ (b : Block Net). (s : Net) → Contains b.targets s → IsCombinational chain s)
      ending_block both_block
      (λ s at. ⊎_elim (λ e. subst (IsCombinational chain) e combinational_last) (λ none.
      absurd (Contains-nil s none)) (Contains-cases last [] s at))
      (at_two (IsCombinational chain) first second combinational_first combinational_second);
  assigned = at_combinational (λ s. (b : Block Net) × Contains blocks b × Contains b.targets s)
      (both_block, (1, omega arith, refl), (0, omega arith, refl))
      (both_block, (1, omega arith, refl), (1, omega arith, refl))
      (ending_block, (0, omega arith, refl), (0, omega arith, refl));
  leaves =
      at_two (λ (b : Block Net). (e : Environment Net) (s : Net) → (Contains b.targets s → ⊥) →
      b.run e s ≡ e s)
      ending_block both_block ending_leaves both_leaves;
  made_from_lower = λ b among s target e f inputs _ lower.
      at_two (λ (c : Block Net). (r : Net) → Contains c.targets r → AgreeBelow e f r →
      c.run e r ≡ c.run f r) ending_block both_block
      (λ r at. ⊎_elim
      (λ is. subst (λ q. AgreeBelow e f q → ending e q ≡ ending f q) is (λ below.
      below second combinational_second (omega arith)))
      (λ none. absurd (Contains-nil r none))
      (Contains-cases last [] r at))
      (at_two (λ r. AgreeBelow e f r → both e r ≡ both f r) first second (λ below.
      inputs given refl) (λ below. inputs given refl))
      b among s target lower;
}

-- the value that a run of a block leaves in a target
abbrev left_by : Run Net → Net → Driver Net
left_by run s = record { target = s; value = λ (e : Net → ℕ). run e s }

abbrev drivers : List (Driver Net)
drivers = left_by both first ∷ left_by both second ∷ left_by ending last ∷ []

at_drivers : (P : Driver Net → Type 0) → P (left_by both first) → P (left_by both second)
    → P (left_by ending last)
    → (d : Driver Net) → Contains drivers d → P d
at_drivers P one two three d at = ⊎_elim
    (λ e. subst P e one)
    (λ later. at_two P (left_by both second) (left_by ending last) two three d later)
    (Contains-cases (left_by both first) (left_by both second ∷ left_by ending last ∷ []) d at)

module _ {X : Type 0} where
  head_is : (x y : X) (xs ys : List X) → x ∷ xs ≡ y ∷ ys → x ≡ y
  head_is x y xs ys same = cc

  tail_is : (x y : X) (xs ys : List X) → x ∷ xs ≡ y ∷ ys → xs ≡ ys
  tail_is x y xs ys same = cc

  no_more : (before after : List X) (x : X) → [] ≡ before ++ x ∷ after → ⊥
  no_more [] after x same = cc
  no_more (y ∷ before) after x same = cc

-- what is lower than a target stands before it
lower_first : (before after : List (Driver Net)) (d : Driver Net) → drivers ≡ before ++ d ∷ after
    → (t : Net) → IsCombinational chain t → depth t < depth d.target → Contains (targets before) t
lower_first [] after d is t t_is lower =
    let low = subst (λ (b : Driver Net).
    depth t < depth b.target) (sym (head_is _ _ _ _ is)) lower in
    at_combinational (λ s. depth s < 1 → Contains [] s) (λ l. absurd (omega arith)) (λ l.
    absurd (omega arith)) (λ l. absurd (omega arith)) t t_is low
lower_first (x ∷ []) after d is t t_is lower =
    let low = subst (λ (b : Driver Net).
    depth t < depth b.target) (sym (head_is _ _ _ _ (tail_is _ _ _ _ is))) lower in
    let x_is = ap (λ (b : Driver Net). b.target) (sym (head_is _ _ _ _ is)) in
    at_combinational (λ s. depth s < 2 → Contains (x.target ∷ []) s)
    (λ l. (0, omega arith, x_is)) (λ l. absurd (omega arith)) (λ l. absurd (omega arith)) t t_is low
lower_first (x ∷ y ∷ []) after d is t t_is lower =
    let rest = tail_is _ _ _ _ is in
    let low = subst (λ (b : Driver Net).
    depth t < depth b.target) (sym (head_is _ _ _ _ (tail_is _ _ _ _ rest))) lower in
    let x_is = ap (λ (b : Driver Net). b.target) (sym (head_is _ _ _ _ is)) in
    let y_is = ap (λ (b : Driver Net). b.target) (sym (head_is _ _ _ _ rest)) in
    at_combinational (λ s. depth s < 3 → Contains (x.target ∷ y.target ∷ []) s)
    (λ l. (0, omega arith, x_is)) (λ l. (1, omega arith, y_is)) (λ l.
    absurd (omega arith)) t t_is low
lower_first (x ∷ y ∷ z ∷ before) after d is t t_is lower =
    absurd (no_more before after d (tail_is _ _ _ _ (tail_is _ _ _ _ (tail_is _ _ _ _ is))))

distinct : IsDistinct same (first ∷ second ∷ last ∷ [])
unfolding IsDistinct
distinct = ((refl, (refl, tt)), ((refl, tt), (tt, tt)))

-- a driver for a target of a block
abbrev HasDriver : Block Net → Net → Type 0
HasDriver b s =
    (d : Driver Net) × Contains drivers d × (d.target ≡ s)
    × ((e : Environment Net) → d.value e ≡ b.run e s)

many_targets : ManyTargets chain scheduled same
unfolding scheduled
many_targets = record {
  drivers = drivers;
  targets_differ = distinct;
  driver_of =
      at_two (λ (b : Block Net). (s : Net) → Contains b.targets s → HasDriver b s) ending_block
      both_block
      (λ s at. ⊎_elim
      (λ is. subst (HasDriver ending_block) is
      (left_by ending last, (2, omega arith, refl), refl, λ e. refl))
      (λ none. absurd (Contains-nil s none))
      (Contains-cases last [] s at))
      (at_two (HasDriver both_block) first second (
        left_by both first,
        (0, omega arith, refl),
        refl,
        λ e.
            refl,
      ) (left_by both second, (1, omega arith, refl), refl, λ e. refl));
  driven_by = at_drivers
      (λ d. (b : Block Net) × Contains blocks b × Contains b.targets d.target
      × ((e : Environment Net) → d.value e ≡ b.run e d.target))
      (both_block, (1, omega arith, refl), (0, omega arith, refl), λ e. refl)
      (both_block, (1, omega arith, refl), (1, omega arith, refl), λ e. refl)
      (ending_block, (0, omega arith, refl), (0, omega arith, refl), λ e. refl);
  lower_first = lower_first;
  values_fit = λ d among e fits. at_drivers (λ b. b.value e < 2 ^ 1)
      (fits 0 given (omega arith)) (fits 0 given (omega arith)) (fits 2 given (omega arith))
      d among;
}

ordered : Ordered chain
ordered = many_ordered chain scheduled same many_targets same_is is_same not_both
    (λ e fits k d lt _. fits 3 given (omega arith))
    (λ e f s _ _ agree. agree last (within last))

-- so every order of the runs settles
chain_rests_settled : RestIsSettled chain
chain_rests_settled = rest_is_settled chain ordered scheduled

chain_rounds_settle : RoundsSettle chain
chain_rounds_settle = enough_rounds_settle chain ordered scheduled

-- as three rounds from the start do
start_low : (s : Net) → start s < 2 ^ 1
start_low given = omega arith
start_low first = omega arith
start_low second = omega arith
start_low last = omega arith
start_low held = omega arith

abbrev round : List (Run Net)
round = runs_at chain (0 ∷ 1 ∷ [])

places_all : (k : ℕ) → k < 2 → Contains (0 ∷ 1 ∷ []) k
places_all zero low = (0, omega arith, refl)
places_all (suc zero) low = (1, omega arith, refl)
places_all (suc (suc k)) low = absurd (omega arith)

is_round : IsRound chain round
is_round = places_round chain (0 ∷ 1 ∷ [])
    (each (λ k. k < 2) (0 ∷ 1 ∷ []) (at_two (λ k. k < 2) 0 1 (omega arith) (omega arith)))
    places_all

three_rounds_settle :
    IsTheSettled chain start start
    (after_runs (flat_map (λ r. r) (round ∷ round ∷ round ∷ [])) start)
three_rounds_settle =
    chain_rounds_settle start (round ∷ round ∷ round ∷ [])
    (fits_from chain start (λ s within. start_low s))
    (All-replicate (IsRound chain) 3 round is_round)
    (omega arith)
