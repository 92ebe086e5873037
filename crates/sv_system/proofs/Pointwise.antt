-- What holds of all signals of a system, or of all its processes, said of one.
use Rattle.std.proofs.Common.{◌≡◌, ℕ, ◌<◌, ◌^◌, List, ⊎_elim}
use Rattle.std.specs.Prelude.{All, Contains}
use Rattle.std.proofs.lemmas.Bool.{cases_eq}
use Rattle.std.proofs.lemmas.List.Elements.{All-weaker, All-contains, All-contains_itself}
use Rattle.sv_system.specs.System.{System, Environment, Run, Fits, IsStill}

-- two numbers that are equal where something holds, and where it does not, are equal
pub either_way : (m n : ℕ) (P : Type 0) → (P → m ≡ n) → ((P → ⊥) → m ≡ n) → m ≡ n
either_way m n P holds fails =
    ⊎_elim (λ is. is) (λ differ. fails (λ p. differ (holds p))) (cases_eq m n)

-- what holds of each element holds of all
pub each : {X : Type 0} (P : X → Type 0) (xs : List X) → ((x : X) → Contains xs x → P x) → All P xs
each P xs holds = All-weaker (Contains xs) P holds xs (All-contains_itself xs)

module _ {Signal Point : Type 0} (system : System Signal Point) (e : Environment Signal) where
  pub fits_at : Fits system e → (s : Signal) → Contains system.signals s → e s < 2 ^ system.width s
  fits_at fits s within = All-contains (λ r. e r < 2 ^ system.width r) system.signals s fits within

  pub fits_from : ((s : Signal) → Contains system.signals s → e s < 2 ^ system.width s) →
      Fits system e
  fits_from holds = each (λ s. e s < 2 ^ system.width s) system.signals holds

  pub still_at : IsStill system e → (run : Run Signal) → Contains system.processes run →
      (s : Signal) → run e s ≡ e s
  still_at still run listed =
      All-contains (λ (step : Run Signal).
      (s : Signal) → step e s ≡ e s) system.processes run still listed

  pub still_from : ((run : Run Signal) → Contains system.processes run → (s : Signal) →
      run e s ≡ e s) → IsStill system e
  still_from holds =
      each (λ (run : Run Signal). (s : Signal) → run e s ≡ e s) system.processes holds
