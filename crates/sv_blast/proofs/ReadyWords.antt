-- Words that are ready for the signals that are left, as one more is made.
use Rattle.std.proofs.Common.{◌≡◌, ℕ, ◌≤◌, Bool, true, false, cond, ◌||◌, ◌==◌, List, [], ◌∷◌, length}
use Rattle.std.proofs.Common.{refl, sym, ◌∙◌, subst, ◌⊎◌, inl, inr, ⊎_elim}
use Rattle.std.specs.Prelude.{IsTrue}
use Rattle.std.proofs.lemmas.Bool.{false≢true, eqb-true, eq-eqb}
use Rattle.sv_flat.specs.Design.{SignalForm, FlatDesign}
use Rattle.sv_flat.specs.Values.{signal_width}
use Rattle.sv_flat.specs.Processes.{is_register}
use Rattle.sv_flat.specs.Reads.{is_combinational}
use Rattle.sv_circuits.specs.Words.{Word}
use Rattle.sv_circuits.specs.Circuits.{IsWord}
use Rattle.sv_circuits.proofs.WordKeeps.{word_up}
use Rattle.sv_encoding.specs.Bodies.{with_word}
use Rattle.sv_encoding.specs.BothWays.{IsWordOf}
use Rattle.sv_encoding.specs.Expressions.{Words}
use Rattle.sv_blast.specs.Steps.{AreReady}
use Rattle.sv_blast.specs.WordTables.{StandsOf, StandForReads}

pub stands_up : (signals : List SignalForm) (m n : ℕ) (words : Words) (t : ℕ) → m ≤ n →
    StandsOf signals m words t → StandsOf signals n words t
stands_up signals m n words t h stands = (word_up m n (words t) h stands.0, stands.1)

-- a word that stands and one that was made stand in the table with the latter
pub stands_with : (signals : List SignalForm) (m n : ℕ) (words : Words) (s : ℕ) (word : Word)
    (t : ℕ) → m ≤ n → IsWord n word × (length word ≡ signal_width signals s) →
    StandsOf signals m words t ⊎ (t ≡ s) → StandsOf signals n (with_word s word words) t
stands_with signals m n words s word t h new old = by (t == s) refl
  where
    Stands : Word → Type 0
    Stands w = IsWord n w × (length w ≡ signal_width signals t)

    by : (c : Bool) → (t == s) ≡ c → Stands (cond c word (words t))
    by true same = subst (λ z. IsWord n word × (length word ≡ signal_width signals z))
        (sym (eqb-true t s same)) new
    by false other = ⊎_elim
        (λ stands. (word_up m n (words t) h stands.0, stands.1))
        (λ same. absurd (false≢true (sym other ∙ eq-eqb t s same))) old

module _ (design : FlatDesign) where
  pub ready_more : (Has More : ℕ → Type 0) (ss : List ℕ) → ((t : ℕ) → Has t → More t) →
      AreReady design Has ss → AreReady design More ss
  ready_more Has More [] from ready = tt
  ready_more Has More (s ∷ ss) from ready = (
    (ready.0.0, λ t reads. from t (ready.0.1 t reads)),
    ready_more (λ t. Has t ⊎ (t ≡ s)) (λ t. More t ⊎ (t ≡ s)) ss
        (λ t has. ⊎_elim (λ h. inl (from t h)) (λ same. inr same) has) ready.1,
  )

  pub ready_driven : (Has : ℕ → Type 0) (rest more : List ℕ) (s : ℕ) → AreReady design Has rest →
      rest ≡ s ∷ more → IsTrue (is_register design s || is_combinational design s)
  ready_driven Has rest more s ready e = (subst (AreReady design Has) e ready).0.0

  pub ready_reads : (n : ℕ) (words : Words) (rest more : List ℕ) (s : ℕ) →
      AreReady design (StandsOf design.signals n words) rest → rest ≡ s ∷ more →
      StandForReads design n words s
  ready_reads n words rest more s ready e =
      (subst (AreReady design (StandsOf design.signals n words)) e ready).0.1

  pub ready_next : (m n : ℕ) (words new : Words) (rest more : List ℕ) (s : ℕ) (word : Word) →
      AreReady design (StandsOf design.signals m words) rest → rest ≡ s ∷ more → m ≤ n →
      IsWordOf design s n word → new ≡ with_word s word words →
      AreReady design (StandsOf design.signals n new) more
  ready_next m n words new rest more s word ready e h is put =
      subst (λ (z : Words). AreReady design (StandsOf design.signals n z) more) (sym put)
      (ready_more (λ t. StandsOf design.signals m words t ⊎ (t ≡ s))
      (StandsOf design.signals n (with_word s word words)) more
      (λ t has. stands_with design.signals m n words s word t h is has)
      (subst (AreReady design (StandsOf design.signals m words)) e ready).1)
