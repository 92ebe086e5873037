-- The two facts on rest for a system whose processes drive one target each, whatever their order.
use Rattle.std.proofs.Common.{◌≡◌, List, sym, ◌∙◌}
use Rattle.std.specs.Prelude.{Bool, true, Contains, IsTrue}
use Rattle.std.proofs.lemmas.List.Elements.{All-weaker, All-contains, All-contains_itself}
use Rattle.sv_system.specs.System.{System, Environment, IsStill, put}
use Rattle.sv_system.specs.Facts.{Driver}
use Rattle.sv_system.proofs.Runs.{put_at, put_same}

-- a process changes one target, to its driver's value
abbrev pub Puts : {Signal : Type 0} → (Signal → Signal → Bool) → Driver Signal →
    (Environment Signal → Environment Signal) → Type 0
Puts {Signal} same d process =
    (e : Environment Signal) (s : Signal) → process e s ≡ put same d.target (d.value e) e s

-- each process is that of a driver, and each driver has a process
pub record OneTarget {Signal Point : Type 0} (system : System Signal Point) (same : Signal →
    Signal → Bool) (drivers : List (Driver Signal)) : Type 0 where
  pub driver_of : (process : Environment Signal → Environment Signal) →
      Contains system.processes process →
      (d : Driver Signal) × Contains drivers d × Puts same d process
  pub process_of : (d : Driver Signal) → Contains drivers d →
      (process : Environment Signal → Environment Signal) × Contains system.processes process
      × Puts same d process

module _ {Signal Point : Type 0} (system : System Signal Point) (same : Signal → Signal →
    Bool) (same_is : (s t : Signal) → IsTrue (same s t) → s ≡ t) (is_same : (s : Signal) →
    same s s ≡ true)
    (drivers : List (Driver Signal)) (facts : OneTarget system same drivers) where
  pub one_still_targets : (e : Environment Signal) → IsStill system e → (d : Driver Signal) →
      Contains drivers d → e d.target ≡ d.value e
  one_still_targets e still d among =
      let found = facts.process_of d among in
      sym (All-contains (λ (process : Environment Signal → Environment Signal).
      (s : Signal) → process e s ≡ e s) system.processes found.0 still found.1 d.target)
      ∙ found.2 e d.target ∙ put_at same same_is is_same d.target (d.value e) e

  pub one_targets_still : (e : Environment Signal) →
      ((d : Driver Signal) → Contains drivers d → e d.target ≡ d.value e) → IsStill system e
  one_targets_still e targets =
      All-weaker (Contains system.processes) (λ (process : Environment Signal → Environment Signal).
      (s : Signal) → process e s ≡ e s)
      (λ process listed s. let found = facts.driver_of process listed in
      found.2 e s ∙ put_same same same_is is_same found.0.target s (found.0.value e) e
      (sym (targets found.0 found.1)))
      system.processes (All-contains_itself system.processes)
