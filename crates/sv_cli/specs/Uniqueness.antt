-- Which answers to the same words and the same files and stimulus are right: one, but for what is
-- free where obligations are decided and in the circle that is named.
use Rattle.std.specs.Prelude.{◌≡◌, ◌⊎◌, ℕ, IsFalse, List, ◌∷◌}
use Rattle.sv_num.specs.declared.faults.Place.{Place}
use Rattle.sv_io.specs.Exchange.{Exchange}
use Rattle.sv_words.specs.Words.{Request, check, gen}
use Rattle.sv_cli.specs.Answer.{Answer, done, rule_broken, limit_exceeded, falsified, undecided}
use Rattle.sv_cli.specs.Dialogues.{IsDialogue}

-- Two answers that name circles of signals that read each other, both from the signal that rule 607
-- tells of: where several circles begin there any of them is named.
pub record AreCircles (answer other : Answer) : Type 0 where
  pub place : Place
  pub first : List ℕ
  pub rest : List (List ℕ)
  pub rest_of_other : List (List ℕ)
  pub one : answer ≡ rule_broken 607 place (first ∷ rest)
  pub two : other ≡ rule_broken 607 place (first ∷ rest_of_other)

-- the two are the same answer, with the same text, or name circles
abbrev pub AreOneAnswer : (answer other : Answer) → (printed others : List ℕ) → Type 0
AreOneAnswer answer other printed others =
    ((other ≡ answer) × (others ≡ printed)) ⊎ AreCircles answer other

-- every command that decides no obligation has one right answer
abbrev pub IsSure : Request → Type 0
IsSure (check file proof budget top json) = ⊥
IsSure (gen lanes checks) = IsFalse checks
IsSure request = Unit {0}

-- this holds of any two answers that are right for the same exchanges and stimulus
abbrev pub HoldsOfTwo : ((answer other : Answer) → (printed others : List ℕ) → Type 0) → Request →
    Type 0
HoldsOfTwo agree request =
    (exchanges : List Exchange) (stimulus : List ℕ) (answer other : Answer)
    (printed others : List ℕ)
    → IsDialogue request exchanges stimulus answer printed
    → IsDialogue request exchanges stimulus other others
    → agree answer other printed others

-- any two such answers are one
abbrev pub HasOneAnswer : Request → Type 0
HasOneAnswer request = HoldsOfTwo AreOneAnswer request

-- The answer is a decision on obligations: that all are proved, that one is falsified, that the
-- encoding of one is too large, or that the budget is spent on one.
abbrev pub IsDecision : Answer → Type 0
IsDecision done = Unit {0}
IsDecision (limit_exceeded number names) = number ≡ 709
IsDecision (falsified number valuation) = Unit {0}
IsDecision (undecided number steps) = Unit {0}
IsDecision answer = ⊥

-- the two are the same answer, or both are decisions
abbrev pub AreOneOrDecisions : (answer other : Answer) → (printed others : List ℕ) → Type 0
AreOneOrDecisions answer other printed others =
    AreOneAnswer answer other printed others ⊎ (IsDecision answer × IsDecision other)

-- any two such answers are one, or both are decisions
abbrev pub HasSureRefusals : Request → Type 0
HasSureRefusals request = HoldsOfTwo AreOneOrDecisions request
