-- What is decoded by the places of an encoding's bits: on the cones what their words spell, and 0
-- elsewhere.
use Rattle.std.proofs.Common.{◌≡◌, ℕ, Bool, true, false, cond, ◌||◌, ◌&&◌, refl, ap, ◌∙◌, arith}
use Rattle.std.specs.Prelude.{List, filter, IsTrue, IsFalse}
use Rattle.sv_flat.specs.Design.{FlatDesign}
use Rattle.sv_flat.specs.Processes.{is_top_input, is_register}
use Rattle.sv_flat.specs.Sets.{holds}
use Rattle.sv_gates.specs.Formulas.{Formula}
use Rattle.sv_gates.specs.Gates.{start}
use Rattle.sv_gates.proofs.ExtendingLaws.{start_closed}
use Rattle.sv_circuits.specs.Words.{word_value}
use Rattle.sv_circuits.specs.Circuits.{IsBase}
use Rattle.sv_obl.specs.Obligations.{Obligation}
use Rattle.sv_obl.specs.Validity.{Valuation}
use Rattle.sv_system.specs.System.{Environment}
use Rattle.sv_encoding.specs.Expressions.{Words}
use Rattle.sv_encoding.specs.Cones.{registers_in, now_cone, next_cone}
use Rattle.sv_encoding.specs.Encoding.{given_in, inputs_in, given_now, inputs_next, settled_words}
use Rattle.sv_encoding.specs.BothWays.{decoded_of, IsZeroOutside, AgreeOnCones, SpellThere}
use Rattle.sv_encoding.specs.GivenMeanings.{spelled_or_zero, TellsWords}
use Rattle.sv_encoding_laws.proofs.GivenWords.{words_are_free, free_variables}
use Rattle.sv_encoding_laws.proofs.Places.{holds_filter, decoded_tells, cones_once}

-- the start is a formula whose variable 1 is true
pub start_base : IsBase start
start_base = record {
  closed = start_closed;
  some = omega arith;
  truth = λ values met. first (values 1) met;
}
  where
    first : (b : Bool) → ((b || false) && true) ≡ true → b ≡ true
    first true met = refl
    first false met = met

-- ---- the words of an obligation's encoding

abbrev pub given_of : FlatDesign → Obligation → Formula × Words
given_of design o = given_now design (now_cone design o) start

abbrev pub now_of : FlatDesign → Obligation → Formula × Words
now_of design o =
    let given = given_of design o in settled_words design (now_cone design o) given.1 given.0

abbrev pub later_of : FlatDesign → Obligation → Formula × Words
later_of design o = inputs_next design (next_cone design o) (now_of design o).0

-- values of its variables tell by its places what its words spell
pub tells : (design : FlatDesign) (o : Obligation) (values : ℕ → Bool) →
    IsBase (now_of design o).0 →
    TellsWords design (now_cone design o) (next_cone design o) (given_of design o).1
    (later_of design o).1 values (decoded_of design o values)
tells design o values base =
    let cone = now_cone design o in
    let later_cone = next_cone design o in
    let once = cones_once design o in
    decoded_tells design cone later_cone (given_of design o).1 (later_of design o).1 values
    once.0 once.1
    (free_variables design (given_in design cone) start (given_of design o)
    (words_are_free design (given_in design cone) start start_base))
    (free_variables design (inputs_in design later_cone) (now_of design o).0 (later_of design o)
    (words_are_free design (inputs_in design later_cone) (now_of design o).0 base))

-- ---- outside and inside of the cones

zero_at : (values : ℕ → Bool) (test : ℕ → Bool) (cone : List ℕ) (words : Words) (s : ℕ) →
    IsFalse (holds cone s) → spelled_or_zero values (filter test cone) words s ≡ 0
zero_at values test cone words s out =
    ap (λ c. cond c (word_value values (words s)) 0)
    (holds_filter test cone s ∙ ap (λ c. test s && c) out ∙ no_more (test s))
  where
    no_more : (b : Bool) → (b && false) ≡ false
    no_more true = refl
    no_more false = refl

spelled_at : (values : ℕ → Bool) (test : ℕ → Bool) (cone : List ℕ) (words : Words)
    (e : Environment ℕ) (s : ℕ) → IsTrue (test s) → IsTrue (holds cone s) →
    SpellThere (filter test cone) values words e →
    spelled_or_zero values (filter test cone) words s ≡ e s
spelled_at values test cone words e s passes inside spelled =
    let both = holds_filter test cone s ∙ ap (λ c. c && holds cone s) passes ∙ inside in
    ap (λ c. cond c (word_value values (words s)) 0) both ∙ spelled s both

module _ (design : FlatDesign) (o : Obligation) (given later : Words) (values : ℕ → Bool)
    (d : Valuation)
    (told : TellsWords design (now_cone design o) (next_cone design o) given later values d) where
  pub zero_outside : IsZeroOutside design o d
  zero_outside = record {
    registers = λ s out.
        told.registers s ∙ zero_at values (is_register design) (now_cone design o) given s out;
    inputs = λ s out.
        told.inputs s ∙ zero_at values (is_top_input design) (now_cone design o) given s out;
    next_inputs = λ s out.
        told.next_inputs s ∙ zero_at values (is_top_input design) (next_cone design o) later s out;
  }

  -- the words spell a valuation where the decoded one agrees with it
  pub agree_on_cones : (v : Valuation) →
      SpellThere (registers_in design (now_cone design o)) values given v.registers →
      SpellThere (inputs_in design (now_cone design o)) values given v.inputs →
      SpellThere (inputs_in design (next_cone design o)) values later v.next_inputs →
      AgreeOnCones design o d v
  agree_on_cones v registers inputs next_inputs = record {
    registers = λ s is inside.
        told.registers s
        ∙ spelled_at values (is_register design) (now_cone design o) given v.registers s is inside
        registers;
    inputs = λ s is inside.
        told.inputs s
        ∙ spelled_at values (is_top_input design) (now_cone design o) given v.inputs s is inside
        inputs;
    next_inputs = λ s is inside.
        told.next_inputs s
        ∙ spelled_at values (is_top_input design) (next_cone design o) later v.next_inputs s is
        inside next_inputs;
  }
