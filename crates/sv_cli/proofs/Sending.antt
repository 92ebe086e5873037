-- What is sent of what is prepared, and what a simulation comes to.
use Rattle.std.proofs.Common.{◌≡◌, ℕ, ◌+◌, ◌≤◌, List, [], ◌++◌, length, Option, Some, None, refl}
use Rattle.std.proofs.Common.{sym, ◌∙◌, subst, arith}
use Rattle.std.specs.Prelude.{Bool, IsTrue, IfSome, IfNone, IsSome}
use Rattle.std.proofs.lemmas.List.{append-nil, append_cancel_left}
use Rattle.sv_io.specs.Sink.{WritesFront}
use Rattle.sv_io.specs.Source.{WhateverFollows}
use Rattle.sv_flat.specs.Design.{FlatDesign}
use Rattle.sv_sim_run.specs.declared.endings.Ending.{Ending}
use Rattle.sv_sim_run.specs.Simulated.{largest_stimulus, IsSimulated, WritesFrontFor}
use Rattle.sv_cli.specs.Answer.{Answer}
use Rattle.sv_cli.specs.Prepared.{EndsAs, Performs}
use Rattle.sv_cli.specs.Simulates.{answer_by}

-- ---- a text that is sent whole, for whatever stimulus

-- nothing was taken
nothing_more : (g : List ℕ) → g ≡ g ++ []
nothing_more g = sym (append-nil g)

-- what was taken is nothing
none_taken : (g stimulus : List ℕ) → g ≡ g ++ stimulus → stimulus ≡ []
none_taken g stimulus same =
    append_cancel_left g stimulus [] (sym same ∙ sym (append-nil g))

pub few_taken : (g stimulus : List ℕ) → g ≡ g ++ stimulus
    → length stimulus ≤ largest_stimulus + 1
few_taken g stimulus same =
    subst (λ (s : List ℕ). length s ≤ largest_stimulus + 1) (sym (none_taken g stimulus same))
    (omega arith)

-- the text was sent for the answers that Is has
module _ (Is : Answer → Type 0) (g text left old new : List ℕ) (tells : Bool) (a : Answer)
    (is : Is a) where
  pub sent : (o : Option Answer) → IfSome o Is → IfSome o (λ b. new ≡ old ++ text)
      → IfNone o (WritesFront old text new)
      → Performs (λ s b p. Is b × (p ≡ text)) (λ s. g ≡ g ++ s) tells left old new o
  sent None given all front = record {
    answer = tt;
    whole = λ told. tt;
    front = ([], a, text, nothing_more g, (is, refl), front);
    whole_front = λ told. (a, text, (is, refl), front);
  }
  sent (Some b) given all front = record {
    answer = ([], text, nothing_more g, (given, refl), all);
    whole = λ told. (text, (given, refl), all);
    front = tt;
    whole_front = λ told. tt;
  }

-- whatever the stimulus
pub sent_whatever : (Is : Answer → Type 0) (text old new : List ℕ) (o : Option Answer)
    → IfSome o Is → IfSome o (λ a. new ≡ old ++ text)
    → IfSome o (λ a. (printed : List ℕ) × (Is a × (printed ≡ text)) × (new ≡ old ++ printed))
sent_whatever Is text old new None given all = tt
sent_whatever Is text old new (Some a) given all = (text, (given, refl), all)

-- a front of it, whatever the stimulus
pub front_whatever : (Is : Answer → Type 0) (text old new : List ℕ) (a : Answer) → Is a
    → (o : Option Answer) → IfNone o (WritesFront old text new)
    → IfNone o ((b : Answer) × (printed : List ℕ) × (Is b × (printed ≡ text))
    × WritesFront old printed new)
front_whatever Is text old new a is None front = (a, text, (is, refl), front)
front_whatever Is text old new a is (Some b) front = tt

-- the answer that is there
pub some_given : (o : Option Answer) → IsSome o → (a : Answer) × (o ≡ Some a)
some_given None is = absurd cc
some_given (Some a) is = (a, refl)

-- ---- a simulation

module _ (design : FlatDesign) (level : Option (List ℕ)) (order : Option ℕ)
    (Took : List ℕ → Type 0) (tells : Bool) (left old new : List ℕ) where
  abbrev pub Simulated : Option Answer → Type 0
  Simulated o = Performs (EndsAs design level order) Took tells left old new o

  pub ended : (o : Option Answer) (ends : Ending) → o ≡ Some (answer_by ends)
      → (s p : List ℕ) × Took s × IsSimulated design level order s ends p × (new ≡ old ++ p)
      → (IsTrue tells → (p : List ℕ) × IsSimulated design level order left ends p
      × (new ≡ old ++ p))
      → Simulated o
  ended o ends is answer whole = subst Simulated (sym is) (record {
    answer = (answer.0, answer.1, answer.2, (ends, refl, answer.3), answer.4);
    whole = λ told. let w = whole told in (w.0, (ends, refl, w.1), w.2);
    front = tt;
    whole_front = λ told. tt;
  })

  pub stopped : (s : List ℕ) × Took s × WritesFrontFor design level order s old new
      → (IsTrue tells → WritesFrontFor design level order left old new) → Simulated None
  stopped front whole = record {
    answer = tt;
    whole = λ told. tt;
    front =
        let w = front.2 in
        (front.0, answer_by w.ends, w.printed, front.1, (w.ends, refl, w.is), w.front);
    whole_front = λ told.
        let w = whole told in (answer_by w.ends, w.printed, (w.ends, refl, w.is), w.front);
  }

-- whatever follows the bytes that were taken
pub ended_whatever : (design : FlatDesign) (level : Option (List ℕ)) (order : Option ℕ)
    (is_ended : Bool) (given_old given_new old new : List ℕ) (o : Option Answer) (ends : Ending)
    → o ≡ Some (answer_by ends)
    → WhateverFollows is_ended given_old given_new (λ stimulus. (printed : List ℕ)
    × IsSimulated design level order stimulus ends printed × (new ≡ old ++ printed))
    → WhateverFollows is_ended given_old given_new (λ stimulus. IfSome o (λ a.
    (printed : List ℕ) × EndsAs design level order stimulus a printed
    × (new ≡ old ++ printed)))
ended_whatever design level order is_ended given_old given_new old new o ends is whole goes_on taken
    more given =
    let text = whole goes_on taken more given in
    subst (λ (answer : Option Answer). IfSome answer (λ a. (printed : List ℕ)
    × EndsAs design level order (taken ++ more) a printed × (new ≡ old ++ printed))) (sym is)
    (text.0, (ends, refl, text.1), text.2)

pub stopped_whatever : (design : FlatDesign) (level : Option (List ℕ)) (order : Option ℕ)
    (is_ended : Bool) (given_old given_new old new : List ℕ)
    → WhateverFollows is_ended given_old given_new (λ stimulus.
    WritesFrontFor design level order stimulus old new)
    → WhateverFollows is_ended given_old given_new (λ stimulus. (a : Answer) × (printed : List ℕ)
    × EndsAs design level order stimulus a printed × WritesFront old printed new)
stopped_whatever design level order is_ended given_old given_new old new front goes_on taken more
    given =
    let w = front goes_on taken more given in
    (answer_by w.ends, w.printed, (w.ends, refl, w.is), w.front)
