-- One cycle: two environments at rest that agree on the inputs and registers that a level sees
-- agree on all that it sees.
use Rattle.std.proofs.Common.{◌≡◌, ℕ, zero, suc, ◌<◌, Bool, true, false, ◌⊎◌, inl, inr, ⊎_elim}
use Rattle.std.proofs.Common.{refl, sym, subst, ◌∙◌, arith}
use Rattle.std.specs.Prelude.{Contains, IsTrue}
use Rattle.std.proofs.lemmas.Bool.{cases_Bool, both_ways}
use Rattle.sv_system.specs.System.{System, Environment, IsStill, Fits, Settled, view}
use Rattle.sv_system.specs.Facts.{IsCombinational, Guarded}
use Rattle.sv_system.proofs.Lists.{told_same}

-- an environment that a cycle may have
pub record IsAtRest {Signal Point : Type 0} (system : System Signal Point)
    (e : Environment Signal) : Type 0 where
  pub fits : Fits system e
  pub still : IsStill system e

-- what the level sees in an environment
abbrev pub IsSeen : {Signal Point : Type 0} → System Signal Point → Point → Environment Signal →
    Signal → Type 0
IsSeen system level e s = IsTrue (system.flows (system.label s e) level)

-- a second environment has the value of each input and register that the level sees in the first
abbrev pub AgreesUp : {Signal Point : Type 0} → System Signal Point → Point → Environment Signal →
    Environment Signal → Type 0
AgreesUp {Signal} system level e f =
    (s : Signal) → Contains system.signals s → IsTrue (system.is_input s)
    ⊎ IsTrue (system.is_register s) → IsSeen system level e s → e s ≡ f s

-- it has the value of each signal that the level sees in the first
abbrev pub AgreesOnSeen : {Signal Point : Type 0} → System Signal Point → Point →
    Environment Signal → Environment Signal → Type 0
AgreesOnSeen {Signal} system level e f =
    (s : Signal) → Contains system.signals s → IsSeen system level e s → e s ≡ f s

module _ {Signal Point : Type 0} (system : System Signal Point) where
  pub rests : (state inputs e : Environment Signal) → Settled system state inputs e →
      IsAtRest system e
  rests state inputs e settled = record { fits = settled.fits; still = settled.still }

  -- a signal of the system is an input, a register or combinational
  pub kinds : (s : Signal) → Contains system.signals s →
      (IsTrue (system.is_input s) ⊎ IsTrue (system.is_register s)) ⊎ IsCombinational system s
  kinds s within = ⊎_elim
      (λ input. inl (inl input))
      (λ no_input. ⊎_elim (λ register. inl (inr register)) (λ no_register.
      inr (record { among = within; no_input = no_input; no_register = no_register }))
      (cases_Bool (system.is_register s)))
      (cases_Bool (system.is_input s))

  -- an input or register is not combinational
  pub one_kind : (s : Signal) → IsTrue (system.is_input s) ⊎ IsTrue (system.is_register s) →
      IsCombinational system s → ⊥
  one_kind s given combinational =
      ⊎_elim (λ h. both_ways (system.is_input s) combinational.no_input h) (λ h.
      both_ways (system.is_register s) combinational.no_register h) given

module _ {Signal Point : Type 0} (system : System Signal Point) (facts : Guarded system)
    (level : Point) where
  module _ (e f : Environment Signal) (e_rests : IsAtRest system e)
      (f_rests : IsAtRest system f) where
    -- by depth
    seen_below : AgreesUp system level e f → (n : ℕ) (s : Signal) →
        (IsCombinational system s → facts.depth s < n) → Contains system.signals s →
        IsSeen system level e s → e s ≡ f s
    seen_below agree zero s low within visible = ⊎_elim
        (λ given. agree s within given visible)
        (λ combinational. let never = low combinational in absurd (omega arith))
        (kinds system s within)
    seen_below agree (suc n) s low within visible = ⊎_elim
        (λ given. agree s within given visible)
        (λ combinational. facts.determined e f s combinational e_rests.fits f_rests.fits
        e_rests.still f_rests.still (λ t used.
        seen_below agree n t
        (λ t_combinational. let lower = facts.lower e s t combinational used t_combinational in
        let bound = low combinational in omega arith)
        (facts.uses_within e s t within used)
        (facts.transitive (system.label t e) (system.label s e) level
        (facts.guarded e s t combinational e_rests.fits e_rests.still used) visible)))
        (kinds system s within)

    pub seen_agree : AgreesUp system level e f → AgreesOnSeen system level e f
    seen_agree agree s within visible =
        seen_below agree (suc (facts.depth s)) s (λ combinational. omega arith) within visible

    -- what is seen in the first has the same label in the second
    pub labels_agree : AgreesOnSeen system level e f → (s : Signal) → Contains system.signals s →
        IsSeen system level e s → system.label s e ≡ system.label s f
    labels_agree agree s within visible = facts.selected e f s within (λ t selects.
        agree t (facts.selectors_within s t within selects)
        (facts.transitive (system.label t e) (system.label s e) level
        (facts.selecting e s t within e_rests.fits e_rests.still selects) visible))

    pub seen_too : AgreesOnSeen system level e f → (s : Signal) → Contains system.signals s →
        IsSeen system level e s → IsSeen system level f s
    seen_too agree s within visible =
        subst (λ point. IsTrue (system.flows point level))
        (labels_agree agree s within visible) visible

  same_test : (b c : Bool) → (IsTrue b → IsTrue c) → (IsTrue c → IsTrue b) → b ≡ c
  same_test true c there back = sym (there refl)
  same_test false true there back = back refl
  same_test false false there back = refl

  pub views_agree : (e f : Environment Signal) → IsAtRest system e → IsAtRest system f →
      AgreesOnSeen system level e f → AgreesOnSeen system level f e →
      view system level e ≡ view system level f
  views_agree e f e_rests f_rests there back =
      told_same (λ s. system.flows (system.label s e) level) (λ s.
      system.flows (system.label s f) level) e f system.signals
      (λ s within. same_test _ _ (seen_too e f e_rests f_rests there s within)
      (seen_too f e f_rests e_rests back s within))
      there

  -- the registers at the next cycle
  pub registers_agree : (e f next_e next_f : Environment Signal) → IsAtRest system e
      → IsAtRest system f → IsAtRest system next_e
      → ((r : Signal) → IsTrue (system.is_register r) → next_e r ≡ system.next e r)
      → ((r : Signal) → IsTrue (system.is_register r) → next_f r ≡ system.next f r)
      → AgreesOnSeen system level e f → (s : Signal) → Contains system.signals s
      → IsTrue (system.is_register s) → IsSeen system level next_e s → next_e s ≡ next_f s
  registers_agree e f next_e next_f e_rests f_rests next_rests e_steps f_steps agree s within
      register visible =
      e_steps s register
      ∙ facts.determined_next e f s within register e_rests.fits f_rests.fits e_rests.still
      f_rests.still (λ t used.
      agree t (facts.uses_within e s t within used)
      (facts.transitive (system.label t e) (system.label s next_e) level
      (facts.guarded_next e next_e s t within register e_rests.fits next_rests.fits
      e_rests.still next_rests.still e_steps used) visible))
      ∙ sym (f_steps s register)
