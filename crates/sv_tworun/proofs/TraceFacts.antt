-- Traces followed cycle by cycle, and what two of them show side by side.
use Rattle.std.proofs.Common.{◌≡◌, ℕ, zero, suc, ◌<◌, Bool, true, false, ◌&&◌, cond}
use Rattle.std.proofs.Common.{List, [], ◌∷◌, map, filter, take, drop, length, Some, None}
use Rattle.std.proofs.Common.{refl, sym, ap, subst, ◌∙◌, arith}
use Rattle.std.specs.Prelude.{IsTrue, Contains, slice_get}
use Rattle.std.proofs.lemmas.Bool.{false≢true}
use Rattle.std.proofs.lemmas.List.{length-map}
use Rattle.std.proofs.lemmas.List.Elements.{All-contains}
use Rattle.sv_system.specs.System.{System, Environment, Settled, IsTrace, seen, view}
use Rattle.sv_system.specs.System.{Noninterferent}
use Rattle.sv_system.specs.Schedules.{IsTheSettled}
use Rattle.sv_system.proofs.Lists.{told, told_next, told_same}
use Rattle.sv_system.proofs.Noninterference.{first_same, rest_same, none_is_some, joined}

-- ---- lists

module _ {X : Type 0} where
  not_there : (x : X) → None ≡ Some x → ⊥
  not_there x same = cc

  inside : (x y : X) → Some x ≡ Some y → x ≡ y
  inside x y same = cc

  -- what is left of a list begins with the element at the place
  pub cut_there : (xs : List X) (k : ℕ) (x : X) → slice_get xs k ≡ Some x →
      drop k xs ≡ x ∷ drop (suc k) xs
  cut_there [] k x got = absurd (not_there x got)
  cut_there (y ∷ ys) zero x got = joined y x ys ys (inside y x got) refl
  cut_there (y ∷ ys) (suc k) x got = cut_there ys k x got

  pub there_after : (xs : List X) (k : ℕ) (x : X) (rest : List X) → drop k xs ≡ x ∷ rest →
      (slice_get xs k ≡ Some x) × (drop (suc k) xs ≡ rest)
  there_after [] zero x rest cut = absurd (none_is_some x rest cut)
  there_after [] (suc k) x rest cut = absurd (none_is_some x rest cut)
  there_after (y ∷ ys) zero x rest cut =
      (ap Some (first_same y x ys rest cut), rest_same y x ys rest cut)
  there_after (y ∷ ys) (suc k) x rest cut = there_after ys k x rest cut

module _ {X Y : Type 0} (g : X → Y) where
  -- equal so far, and equal in one more element
  pub same_more : (xs ys : List X) (k : ℕ) (x y : X) → slice_get xs k ≡ Some x
      → slice_get ys k ≡ Some y → map g (take k xs) ≡ map g (take k ys) → g x ≡ g y
      → map g (take (suc k) xs) ≡ map g (take (suc k) ys)
  same_more [] ys k x y one other so_far same = absurd (not_there x one)
  same_more (a ∷ us) [] k x y one other so_far same = absurd (not_there y other)
  same_more (a ∷ us) (b ∷ vs) zero x y one other so_far same =
      joined (g a) (g b) [] [] (ap g (inside a x one) ∙ same ∙ sym (ap g (inside b y other))) refl
  same_more (a ∷ us) (b ∷ vs) (suc k) x y one other so_far same =
      joined (g a) (g b) (map g (take (suc k) us)) (map g (take (suc k) vs))
      (first_same (g a) (g b) (map g (take k us)) (map g (take k vs)) so_far)
      (same_more us vs k x y one other
      (rest_same (g a) (g b) (map g (take k us)) (map g (take k vs)) so_far) same)

  -- lists that are equal so far are equal at each place before
  pub same_at : (xs ys : List X) (n k : ℕ) (x y : X) → k < n → slice_get xs k ≡ Some x
      → slice_get ys k ≡ Some y → map g (take n xs) ≡ map g (take n ys) → g x ≡ g y
  same_at xs ys zero k x y below one other same = absurd (omega arith)
  same_at [] ys (suc n) k x y below one other same = absurd (not_there x one)
  same_at (a ∷ us) [] (suc n) k x y below one other same = absurd (not_there y other)
  same_at (a ∷ us) (b ∷ vs) (suc n) zero x y below one other same =
      ap g (sym (inside a x one))
      ∙ first_same (g a) (g b) (map g (take n us)) (map g (take n vs)) same
      ∙ ap g (inside b y other)
  same_at (a ∷ us) (b ∷ vs) (suc n) (suc k) x y below one other same =
      same_at us vs n k x y (omega arith) one other
      (rest_same (g a) (g b) (map g (take n us)) (map g (take n vs)) same)

  pub same_length : (xs ys : List X) → map g xs ≡ map g ys → length xs ≡ length ys
  same_length xs ys same = sym (length-map xs g) ∙ ap length same ∙ length-map ys g

  module _ {Z : Type 0} (h : X → Z) (follows : (x y : X) → g x ≡ g y → h x ≡ h y) where
    pub same_through : (xs ys : List X) → map g xs ≡ map g ys → map h xs ≡ map h ys
    same_through [] [] same = refl
    same_through [] (y ∷ ys) same = absurd (none_is_some (g y) (map g ys) same)
    same_through (x ∷ xs) [] same = absurd (none_is_some (g x) (map g xs) (sym same))
    same_through (x ∷ xs) (y ∷ ys) same =
        joined (h x) (h y) (map h xs) (map h ys)
        (follows x y (first_same (g x) (g y) (map g xs) (map g ys) same))
        (same_through xs ys (rest_same (g x) (g y) (map g xs) (map g ys) same))

    -- the first elements are equal if they are at the place or before it
    pub same_first : (xs ys : List X) (k : ℕ) (x y : X) → slice_get xs k ≡ Some x
        → slice_get ys k ≡ Some y → map g (take k xs) ≡ map g (take k ys)
        → (k ≡ 0 → h x ≡ h y)
        → map h (take 1 (take (suc k) xs)) ≡ map h (take 1 (take (suc k) ys))
    same_first [] ys k x y one other so_far same = absurd (not_there x one)
    same_first (a ∷ us) [] k x y one other so_far same = absurd (not_there y other)
    same_first (a ∷ us) (b ∷ vs) zero x y one other so_far same =
        joined (h a) (h b) [] []
        (ap h (inside a x one) ∙ same refl ∙ sym (ap h (inside b y other))) refl
    same_first (a ∷ us) (b ∷ vs) (suc k) x y one other so_far same =
        joined (h a) (h b) [] []
        (follows a b (first_same (g a) (g b) (map g (take k us)) (map g (take k vs)) so_far)) refl

-- ---- one trace

module _ {Signal Point : Type 0} (system : System Signal Point) where
  -- a start counts by its registers alone
  pub same_start : (state other : Environment Signal) (inputs trace : List (Environment Signal))
      → ((s : Signal) → IsTrue (system.is_register s) → state s ≡ other s)
      → IsTrace system state inputs trace → IsTrace system other inputs trace
  same_start state other [] [] same is = tt
  same_start state other [] (e ∷ trace) same is = absurd is
  same_start state other (now ∷ inputs) [] same is = absurd is
  same_start state other (now ∷ inputs) (e ∷ trace) same is = (
    record {
      registers = λ s register. (is.0).registers s register ∙ same s register;
      inputs_are = (is.0).inputs_are;
      fits = (is.0).fits;
      still = (is.0).still;
    },
    is.1,
  )

  pub trace_length : (state : Environment Signal) (inputs trace : List (Environment Signal)) →
      IsTrace system state inputs trace → length trace ≡ length inputs
  trace_length state [] [] is = refl
  trace_length state [] (e ∷ trace) is = absurd is
  trace_length state (now ∷ inputs) [] is = absurd is
  trace_length state (now ∷ inputs) (e ∷ trace) is =
      let rest = trace_length (system.next e) inputs trace is.1 in omega (arith, rest)

  -- the front of a trace is a trace
  pub front : (k : ℕ) (state : Environment Signal) (inputs trace : List (Environment Signal)) →
      IsTrace system state inputs trace → IsTrace system state (take k inputs) (take k trace)
  front zero state inputs trace is = tt
  front (suc k) state [] [] is = tt
  front (suc k) state [] (e ∷ trace) is = absurd is
  front (suc k) state (now ∷ inputs) [] is = absurd is
  front (suc k) state (now ∷ inputs) (e ∷ trace) is =
      (is.0, front k (system.next e) inputs trace is.1)

  -- the environment of a cycle, and the trace that follows it
  pub record Ahead (state now : Environment Signal) (more trace : List (Environment Signal)) (k : ℕ) :
      Type 0 where
    pub here : Environment Signal
    pub is : slice_get trace k ≡ Some here
    pub settled : Settled system state now here
    pub rest : IsTrace system (system.next here) more (drop (suc k) trace)

  ahead_from : (state now : Environment Signal) (more trace rest : List (Environment Signal)) (k : ℕ)
      → drop k trace ≡ rest → IsTrace system state (now ∷ more) rest → Ahead state now more trace k
  ahead_from state now more trace [] k cut is = absurd is
  ahead_from state now more trace (e ∷ rest) k cut is =
      let there = there_after trace k e rest cut in
      record {
        here = e;
        is = there.0;
        settled = is.0;
        rest = subst (IsTrace system (system.next e) more) (sym there.1) is.1;
      }

  pub ahead : (state now : Environment Signal) (inputs trace : List (Environment Signal)) (k : ℕ)
      → slice_get inputs k ≡ Some now → IsTrace system state (drop k inputs) (drop k trace)
      → Ahead state now (drop (suc k) inputs) trace k
  ahead state now inputs trace k given is =
      ahead_from state now (drop (suc k) inputs) trace (drop k trace) k refl
      (subst (λ ins. IsTrace system state ins (drop k trace)) (cut_there inputs k now given) is)

  -- the settled environment agrees with that of the trace
  pub agrees : (state now mid : Environment Signal) (more trace : List (Environment Signal)) (k : ℕ)
      → IsTheSettled system state now mid → (there : Ahead state now more trace k)
      → (s : Signal) → Contains system.signals s → mid s ≡ there.here s
  agrees state now mid more trace k settled there s at =
      All-contains (λ t. mid t ≡ there.here t) system.signals s
      (settled.alone there.here there.settled) at

  module _
      (next_within : (e f : Environment Signal) (s : Signal) → IsTrue (system.is_register s)
      → ((t : Signal) → IsTrue (system.is_register t) → e t ≡ f t)
      → ((t : Signal) → Contains system.signals t → e t ≡ f t)
      → system.next e s ≡ system.next f s) where
    -- what is left of the trace is one from the next registers on
    pub one_more : (state now mid : Environment Signal) (inputs trace : List (Environment Signal)) (k : ℕ)
        → slice_get inputs k ≡ Some now → IsTheSettled system state now mid
        → IsTrace system state (drop k inputs) (drop k trace)
        → IsTrace system (system.next mid) (drop (suc k) inputs) (drop (suc k) trace)
    one_more state now mid inputs trace k given settled is =
        let there = ahead state now inputs trace k given is in
        same_start (system.next there.here) (system.next mid) (drop (suc k) inputs)
        (drop (suc k) trace)
        (λ s register. next_within there.here mid s register
        (λ t of_state. there.settled.registers t of_state
        ∙ sym (settled.settled.registers t of_state))
        (λ t at. sym (agrees state now mid (drop (suc k) inputs) trace k settled there t at)))
        there.rest

-- ---- what a level sees

module _ {Signal Point : Type 0} (system : System Signal Point) (level : Point) where
  -- the pairs of the signals of a kind
  abbrev kept : (Signal → Bool) → List (Signal × ℕ) → List (Signal × ℕ)
  kept kind pairs = filter (λ pair. kind pair.0) pairs

  kept_step : (few all : Signal → Bool) → ((s : Signal) → IsTrue (few s) → IsTrue (all s))
      → (b c d : Bool) (s : Signal) (n : ℕ) (ps qs : List (Signal × ℕ)) → few s ≡ b → all s ≡ c → ps ≡ kept few qs
      → cond (b && d) ((s, n) ∷ ps) ps ≡ kept few (cond (c && d) ((s, n) ∷ qs) qs)
  kept_step few all within true true true s n ps qs is of_all rest =
      ap (λ rs. (s, n) ∷ rs) rest
      ∙ sym (ap (λ b. cond b ((s, n) ∷ kept few qs) (kept few qs)) is)
  kept_step few all within true true false s n ps qs is of_all rest = rest
  kept_step few all within true false d s n ps qs is of_all rest =
      absurd (false≢true (sym of_all ∙ within s is))
  kept_step few all within false true true s n ps qs is of_all rest =
      rest ∙ sym (ap (λ b. cond b ((s, n) ∷ kept few qs) (kept few qs)) is)
  kept_step few all within false true false s n ps qs is of_all rest = rest
  kept_step few all within false false d s n ps qs is of_all rest = rest

  kept_told : (few all test : Signal → Bool) → ((s : Signal) → IsTrue (few s) → IsTrue (all s))
      → (e : Environment Signal) (ss : List Signal)
      → told (λ s. few s && test s) e ss ≡ kept few (told (λ s. all s && test s) e ss)
  kept_told few all test within e [] = refl
  kept_told few all test within e (s ∷ ss) =
      told_next (λ t. few t && test t) e s ss
      ∙ kept_step few all within (few s) (all s) (test s) s (e s)
      (told (λ t. few t && test t) e ss) (told (λ t. all t && test t) e ss) refl refl
      (kept_told few all test within e ss)
      ∙ sym (ap (kept few) (told_next (λ t. all t && test t) e s ss))

  -- where the same is seen of some signals, the same is seen of fewer
  pub seen_within : (few all : Signal → Bool) → ((s : Signal) → IsTrue (few s) → IsTrue (all s))
      → (e f : Environment Signal) → seen all system level e ≡ seen all system level f
      → seen few system level e ≡ seen few system level f
  seen_within few all within e f same =
      kept_told few all (λ s. system.flows (system.label s e) level) within e system.signals
      ∙ ap (kept few) same
      ∙ sym (kept_told few all (λ s. system.flows (system.label s f) level) within f
      system.signals)

  pub seen_in_view : (kind : Signal → Bool) (e f : Environment Signal)
      → view system level e ≡ view system level f
      → seen kind system level e ≡ seen kind system level f
  seen_in_view kind e f same = seen_within kind (λ s. true) (λ s of_kind. refl) e f same

  -- environments that agree look the same
  pub seen_alike : ((e f : Environment Signal) (s : Signal) → Contains system.signals s
      → ((t : Signal) → Contains system.signals t → e t ≡ f t) → system.label s e ≡ system.label s f)
      → (kind : Signal → Bool) (e f : Environment Signal)
      → ((t : Signal) → Contains system.signals t → e t ≡ f t)
      → seen kind system level e ≡ seen kind system level f
  seen_alike labels kind e f same =
      told_same (λ s. kind s && system.flows (system.label s e) level) (λ s.
      kind s && system.flows (system.label s f) level) e f system.signals
      (λ s at. ap (λ label. kind s && system.flows label level) (labels e f s at same))
      (λ s at visible. same s at)

  -- ---- two traces

  -- where no level learns more than it may, views that were equal so far stay equal in a cycle in
  -- which what is given looks alike
  pub stay_alike : Noninterferent system → (start1 start2 : Environment Signal)
      → (inputs1 inputs2 first second : List (Environment Signal)) → IsTrace system start1 inputs1 first
      → IsTrace system start2 inputs2 second
      → (k : ℕ) (e f : Environment Signal) → slice_get first k ≡ Some e → slice_get second k ≡ Some f
      → map (view system level) (take k first) ≡ map (view system level) (take k second)
      → seen system.is_input system level e ≡ seen system.is_input system level f
      → (k ≡ 0 → seen system.is_register system level e ≡ seen system.is_register system level f)
      → view system level e ≡ view system level f
  stay_alike holds start1 start2 inputs1 inputs2 first second one other k e f here there so_far
      inputs registers =
      let of_view = view system level in
      let of_inputs = seen system.is_input system level in
      let inputs_same = same_more of_inputs first second k e f here there
      (same_through of_view of_inputs (seen_in_view system.is_input) (take k first) (take k second)
      so_far) inputs in
      same_at of_view first second (suc k) k e f (omega arith) here there
      (holds level start1 start2 (take (suc k) inputs1) (take (suc k) inputs2)
      (take (suc k) first) (take (suc k) second)
      (front system (suc k) start1 inputs1 first one)
      (front system (suc k) start2 inputs2 second other)
      (record {
        lengths = same_length of_inputs (take (suc k) first) (take (suc k) second) inputs_same;
        registers = same_first of_view (seen system.is_register system level)
            (seen_in_view system.is_register) first second k e f here there so_far registers;
        inputs = inputs_same;
      }))
