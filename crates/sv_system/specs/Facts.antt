-- The facts on a system from which noninterference and the one trace follow. Each kind of design
-- supplies its own.
use Rattle.std.specs.Prelude.{◌≡◌, ℕ, ◌<◌, ◌^◌, Bool, true, false, IsTrue, List, ◌∷◌, ◌++◌, map}
use Rattle.std.specs.Prelude.{Contains}
use Rattle.std.specs.List.{IsDistinct}
use Rattle.sv_system.specs.System.{System, Environment, IsStill, Fits, KindFits}

-- a signal that is neither an input nor a register
pub record IsCombinational {Signal Point : Type 0} (system : System Signal Point) (s : Signal) :
    Type 0 where
  pub among : Contains system.signals s
  pub no_input : system.is_input s ≡ false
  pub no_register : system.is_register s ≡ false

-- Every use is guarded by the labels, and a signal is determined by what it uses.
pub record Guarded {Signal Point : Type 0} (system : System Signal Point) : Type 0 where
  -- what a combinational signal's value, or a register's next value, is made from in an environment
  pub uses : Environment Signal → Signal → List Signal
  -- the signals on whose values a signal's label depends
  pub selectors : Signal → List Signal
  pub depth : Signal → ℕ
  pub uses_within : (e : Environment Signal) (s t : Signal) → Contains system.signals s →
      Contains (uses e s) t → Contains system.signals t
  pub selectors_within : (s t : Signal) → Contains system.signals s → Contains (selectors s) t →
      Contains system.signals t
  -- reads go to lower depth
  pub lower : (e : Environment Signal) (s t : Signal) → IsCombinational system s →
      Contains (uses e s) t → IsCombinational system t → depth t < depth s
  -- where two environments at rest agree on what a signal uses in the first, they agree on the
  -- signal
  pub determined : (e f : Environment Signal) (s : Signal) → IsCombinational system s
      → Fits system e → Fits system f → IsStill system e → IsStill system f
      → ((t : Signal) → Contains (uses e s) t → e t ≡ f t) → e s ≡ f s
  -- likewise a register's next value
  pub determined_next : (e f : Environment Signal) (s : Signal) → Contains system.signals s
      → IsTrue (system.is_register s) → Fits system e → Fits system f → IsStill system e
      → IsStill system f
      → ((t : Signal) → Contains (uses e s) t → e t ≡ f t) → system.next e s ≡ system.next f s
  -- the label of what a combinational signal uses flows to its own
  pub guarded : (e : Environment Signal) (s t : Signal) → IsCombinational system s → Fits system e
      → IsStill system e → Contains (uses e s) t
      → IsTrue (system.flows (system.label t e) (system.label s e))
  -- the label of what a register uses flows to its label in the cycle that follows
  pub guarded_next : (e f : Environment Signal) (s t : Signal) → Contains system.signals s
      → IsTrue (system.is_register s) → Fits system e → Fits system f → IsStill system e
      → IsStill system f
      → ((r : Signal) → IsTrue (system.is_register r) → f r ≡ system.next e r)
      → Contains (uses e s) t
      → IsTrue (system.flows (system.label t e) (system.label s f))
  -- a label depends on the values of its selectors alone
  pub selected : (e f : Environment Signal) (s : Signal) → Contains system.signals s →
      ((t : Signal) → Contains (selectors s) t → e t ≡ f t) → system.label s e ≡ system.label s f
  -- a selector's label flows to the label that it selects
  pub selecting : (e : Environment Signal) (s t : Signal) → Contains system.signals s
      → Fits system e → IsStill system e → Contains (selectors s) t
      → IsTrue (system.flows (system.label t e) (system.label s e))
  pub transitive : (a b c : Point) → IsTrue (system.flows a b) → IsTrue (system.flows b c) →
      IsTrue (system.flows a c)

-- a signal that a process drives, and the value that a run of that process gives it in an
-- environment
pub record Driver (Signal : Type 0) : Type 0 where
  pub target : Signal
  pub value : Environment Signal → ℕ

-- Each combinational signal has one driver, and the drivers stand in an order in which each value
-- is a function of inputs, registers and the targets before it. The order is not that of the
-- processes, and a process may drive several targets.
pub record Ordered {Signal Point : Type 0} (system : System Signal Point) : Type 0 where
  pub same : Signal → Signal → Bool
  pub same_is : (s t : Signal) → IsTrue (same s t) → s ≡ t
  pub is_same : (s : Signal) → same s s ≡ true
  pub drivers : List (Driver Signal)
  -- an environment is at rest exactly where each target has the value that its driver gives it
  pub still_targets : (e : Environment Signal) → Fits system e → IsStill system e →
      (d : Driver Signal) → Contains drivers d → e d.target ≡ d.value e
  pub targets_still : (e : Environment Signal) → Fits system e →
      ((d : Driver Signal) → Contains drivers d → e d.target ≡ d.value e) → IsStill system e
  pub targets_differ : IsDistinct same (map (λ (d : Driver Signal). d.target) drivers)
  pub targets_combinational : (d : Driver Signal) → Contains drivers d →
      IsCombinational system d.target
  -- every signal is an input, a register or a target
  pub driven : (s : Signal) → IsCombinational system s →
      Contains (map (λ (d : Driver Signal). d.target) drivers) s
  pub not_both : (s : Signal) → IsTrue (system.is_input s) → system.is_register s ≡ false
  pub values_fit : (d : Driver Signal) → Contains drivers d → (e : Environment Signal) →
      Fits system e → d.value e < 2 ^ system.width d.target
  pub next_fits : (e : Environment Signal) → Fits system e →
      KindFits system.is_register system (system.next e)
  -- the value depends on inputs, registers and earlier targets alone
  pub earlier : (before after : List (Driver Signal)) (d : Driver Signal)
      → drivers ≡ before ++ d ∷ after → (e f : Environment Signal)
      → ((s : Signal) → IsTrue (system.is_input s) → e s ≡ f s)
      → ((s : Signal) → IsTrue (system.is_register s) → e s ≡ f s)
      → ((s : Signal) → Contains (map (λ (b : Driver Signal). b.target) before) s → e s ≡ f s)
      → d.value e ≡ d.value f
  -- a register's next value depends on registers and on the system's signals alone
  pub next_within : (e f : Environment Signal) (s : Signal) → IsTrue (system.is_register s)
      → ((t : Signal) → IsTrue (system.is_register t) → e t ≡ f t)
      → ((t : Signal) → Contains system.signals t → e t ≡ f t)
      → system.next e s ≡ system.next f s
