-- The beginning of a process: what a wanted name stands for there.
use Rattle.std.proofs.Common.{◌≡◌, ℕ, ◌<◌, Bool, true, false, cond, not, lt-ltb, List, length, ◌⊎◌}
use Rattle.std.proofs.Common.{inl, inr, ⊎_elim, refl, sym, ap, subst, ◌∙◌}
use Rattle.std.specs.Prelude.{Contains, IsTrue}
use Rattle.std.proofs.lemmas.Bool.{false≢true}
use Rattle.std.proofs.lemmas.Nat.{pow_pos}
use Rattle.std.proofs.Math.Nat.{mod-eq_of_lt}
use Rattle.sv_system.specs.System.{Environment}
use Rattle.sv_system.proofs.Lists.{Contains-nil}
use Rattle.sv_flat.specs.Design.{SignalForm, TypedTree, typed, constant}
use Rattle.sv_flat.specs.Values.{signal_of, signal_width, value}
use Rattle.sv_flat.specs.Readings.{ReadForm, reads}
use Rattle.sv_obl.specs.Exchange.{name, content}
use Rattle.sv_obl.specs.Wanted.{with_copies, is_copy, original, close, closed_tree}
use Rattle.sv_obl.specs.Paths.{Path, closed}
use Rattle.sv_obl.proofs.PathLists.{cond_true, cond_false}
use Rattle.sv_obl.proofs.PathNames.{NameFine, Fine, PathFine}
use Rattle.sv_obl.proofs.PathRuns.{steps_hold, steps_alike, Held, Tidy}
use Rattle.sv_obl.proofs.PutFacts.{beside, width_settled, width_original, settled_is_signal}
use Rattle.sv_obl.proofs.PutFacts.{original_of_copy, copy_is_copy}
use Rattle.sv_obl.proofs.TreeFacts.{Below, Good, exchanged_held, exchanged_value, exchanged_names}
use Rattle.sv_obl.proofs.TreeFacts.{Comes}

module _ (signals : List SignalForm) (in_block is_register : Bool) (s : ℕ)
    (Served Member : ℕ → Type 0) (inside : (u : ℕ) → Member u → u < length signals)
    (alone : (u : ℕ) → Member u → IsTrue is_register → s ≡ u) where
  abbrev both : List SignalForm
  both = with_copies signals

  abbrev FineTree : TypedTree → Type 0
  FineTree t = Fine signals in_block s Served Member t

  abbrev zero_of : ℕ → TypedTree
  zero_of t = typed (signal_width signals t) (signal_of signals t).signed (constant 0)

  -- a wanted name is a member's
  copy_is_member : (r : ReadForm) → NameFine signals in_block s Served Member r.signal
      → IsTrue (is_copy signals r.signal)
      → Member (original signals r.signal)
  copy_is_member r fine copy = ⊎_elim
      (λ settled. absurd (false≢true (sym settled.0 ∙ copy)))
      (λ wanted. subst Member
      (sym (ap (original signals) wanted.2 ∙ original_of_copy signals wanted.0)) wanted.1)
      fine

  -- ---- values

  module _ (e r0 : Environment ℕ)
      (start : (u : ℕ) → Member u → r0 u ≡ cond is_register (e u) 0) where
    closed_good : (r : ReadForm) → NameFine signals in_block s Served Member r.signal
        → Good both signals (close signals is_register) e (beside signals e r0) (length signals)
        (λ t low. sym (width_settled signals t low)) r (close signals is_register r)
    closed_good r fine = by_test (is_copy signals r.signal) is_register refl refl
      where
        by_test : (c d : Bool) → is_copy signals r.signal ≡ c → is_register ≡ d
            → Good both signals (close signals is_register) e (beside signals e r0) (length signals)
            (λ t low. sym (width_settled signals t low)) r
            (cond (not c) (name r.signal)
            (cond d (name (original signals r.signal))
            (content (original signals r.signal) (zero_of (original signals r.signal)))))
        by_test false d settled reg = (
          sym (width_settled signals r.signal (settled_is_signal signals r.signal settled)),
          sym (cond_false (is_copy signals r.signal) (r0 (original signals r.signal)) (e r.signal)
              settled),
        )
        by_test true true copy reg =
            let u = original signals r.signal in (
              sym (width_original signals r.signal copy),
              sym (cond_true is_register (e u) 0 reg)
                  ∙ sym (start u (copy_is_member r fine copy))
                  ∙ sym (cond_true (is_copy signals r.signal) (r0 u) (e r.signal) copy),
            )
        by_test true false copy reg =
            let u = original signals r.signal in (
              sym (width_original signals r.signal copy),
              mod-eq_of_lt (pow_pos (signal_width signals u))
                  ∙ sym (cond_false is_register (e u) 0 reg)
                  ∙ sym (start u (copy_is_member r fine copy))
                  ∙ sym (cond_true (is_copy signals r.signal) (r0 u) (e r.signal) copy),
            )

    -- closed, an expression has the value that it has where the process begins
    pub closed_value : (t : TypedTree) → Held signals t → FineTree t
        → value signals e (closed_tree signals is_register t) ≡ value both (beside signals e r0) t
    closed_value t held fine =
        exchanged_value both signals (close signals is_register) e (beside signals e r0)
        (length signals)
        (λ x low. sym (width_settled signals x low)) t held (λ r at. closed_good r (fine r at))

    pub closed_steps : (p : Path) → Tidy signals p → PathFine signals in_block s Served Member p
        → steps_hold signals e (closed signals is_register p).steps ≡
        steps_hold both (beside signals e r0) p.steps
    closed_steps p tidy fine =
        steps_alike signals both e (beside signals e r0) (closed_tree signals is_register) p.steps
        (λ step at. closed_value step.condition (tidy.0 step at) (fine.0 step at))

  -- ---- held values and names

  pub closed_held : (t : TypedTree) → Held signals t → FineTree t →
      Held signals (closed_tree signals is_register t)
  closed_held t held fine =
      exchanged_held both (close signals is_register) (length signals) t held (λ r at.
      by_test r (fine r at) (is_copy signals r.signal) is_register refl)
    where
      by_test : (r : ReadForm) → NameFine signals in_block s Served Member r.signal → (c d : Bool)
          → is_copy signals r.signal ≡ c
          → Below both (close signals is_register) (length signals)
          (cond (not c) (name r.signal)
          (cond d (name (original signals r.signal))
          (content (original signals r.signal) (zero_of (original signals r.signal)))))
      by_test r named false d settled = tt
      by_test r named true true copy = tt
      by_test r named true false copy = (
        lt-ltb (original signals r.signal) (length signals)
            (inside (original signals r.signal) (copy_is_member r named copy)),
        refl,
      )

  -- the names in a closed expression are served, or that of the register that is kept
  pub closed_names : (t : TypedTree) → FineTree t → (r : ReadForm)
      → Contains (reads signals (closed_tree signals is_register t)) r
      → Served r.signal ⊎ (IsTrue is_register × (s ≡ r.signal))
  closed_names t fine r at =
      let from = exchanged_names both signals (close signals is_register) t r.signal
      (r, at, refl) in
      by_test from.0 (fine from.0 from.1) (is_copy signals (from.0).signal) is_register refl
      refl from.2
    where
      by_test : (q : ReadForm) → NameFine signals in_block s Served Member q.signal → (c d : Bool)
          → is_copy signals q.signal ≡ c → is_register ≡ d
          → Comes both signals (close signals is_register) r.signal
          (cond (not c) (name q.signal)
          (cond d (name (original signals q.signal))
          (content (original signals q.signal) (zero_of (original signals q.signal)))))
          → Served r.signal ⊎ (IsTrue is_register × (s ≡ r.signal))
      by_test q named false d settled reg comes = ⊎_elim
          (λ served. inl (subst Served comes served.1))
          (λ wanted. absurd (false≢true (sym settled ∙ ap (is_copy signals) wanted.2
          ∙ copy_is_copy signals wanted.0)))
          named
      by_test q named true true copy reg comes =
          inr (reg, alone (original signals q.signal) (copy_is_member q named copy) reg ∙ comes)
      by_test q named true false copy reg comes = absurd (Contains-nil comes.0 comes.1)
