-- Private: how the code goes. What stands in both frames of an obligation, by its cones alone, and
-- what an encoding that begins with them keeps of them and of the facts and conditions behind them.
use Rattle.std.specs.Prelude.{◌≡◌, ℕ, ◌+◌, ℤ, List, [], ◌∷◌, ◌++◌, length, map, drop, min}
use Rattle.std.specs.Prelude.{true, false}
use Rattle.sv_flat.specs.Design.{TypedTree}
use Rattle.sv_flat.specs.Views.{typed_tree}
use Rattle.sv_flat.specs.Design.{FlatDesign}
use Rattle.sv_design.specs.Numbers.{numbers}
use Rattle.sv_gates.specs.Extending.{Begins}
use Rattle.sv_gates.specs.declared.gates.Mark.{Mark}
use Rattle.sv_gates.specs.Formulas.{Formula, IsLiteral, IsProper}
use Rattle.sv_gates.specs.Gates.{start}
use Rattle.sv_encoding.specs.Cones.{now_cone, next_cone, conditions_of}
use Rattle.sv_encoding.specs.Encoding.{BitPlace, Encoding, given_now, settled_words, inputs_next}
use Rattle.sv_encoding.specs.Encoding.{registers_next, given_in, inputs_in, bit_places}
use Rattle.sv_encoding.specs.Encoding.{truth_literals}
use Rattle.sv_encoding.specs.Expressions.{Words, is_true_bit}
use Rattle.sv_blast.specs.Coded.{place_form}
use Rattle.sv_blast.specs.ConeSizes.{now_sizes, next_sizes}
use Rattle.sv_blast.specs.Encoders.{design_in, obligation_in}
use Rattle.sv_blast.specs.Steps.{after_settled, after_next}
use Rattle.sv_blast.specs.WordTables.{words_of}
use Rattle.sv_blast.specs.declared.encoding.Encoder.{Encoder}
use Rattle.sv_blast.specs.declared.framed.Framed.{Framed}
use Rattle.sv_blast.specs.declared.framed.Truth.{Truth}

-- ---- frames of two cones

-- steps 1 and 2
abbrev pub now_frame : FlatDesign → (cone : List ℕ) → Formula × Words
now_frame design cone =
    let given = given_now design cone start in settled_words design cone given.1 given.0

-- steps 1 to 3
abbrev pub inputs_frame : FlatDesign → (cone later : List ℕ) → Formula × Words
inputs_frame design cone later = inputs_next design later (now_frame design cone).0

-- steps 1 to 5
abbrev pub both_frames : FlatDesign → (cone later : List ℕ) → Formula × Words
both_frames design cone later =
    let inputs = inputs_frame design cone later in
    let started = registers_next design later (now_frame design cone).1 inputs.1 inputs.0 in
    settled_words design later started.1 started.0

-- where the bits of the inputs and registers stand
abbrev pub frame_places : FlatDesign → (cone later : List ℕ) → List BitPlace
frame_places design cone later =
    bit_places false (given_now design cone start).1 (given_in design cone)
    ++ bit_places true (inputs_frame design cone later).1 (inputs_in design later)

-- how many variables they have
abbrev pub frames_size : FlatDesign → (cone later : List ℕ) → ℕ
frames_size design cone later = 1 + now_sizes design cone + next_sizes design later

-- ---- facts and conditions behind them

abbrev pub trees_of : List Truth → List TypedTree
trees_of truths = map (λ (truth : Truth). typed_tree truth.expr) truths

abbrev pub literals_of : List Truth → List ℤ
literals_of truths = map (λ (truth : Truth). truth.literal) truths

-- the expressions begin with these
abbrev pub AreFirst : List Truth → List TypedTree → Type 0
AreFirst truths es = es ≡ trees_of truths ++ drop (length truths) es

-- the mark behind the last of them
abbrev pub mark_behind : Mark → List Truth → Mark
mark_behind mark [] = mark
mark_behind mark (truth ∷ truths) = mark_behind truth.mark truths

-- behind a formula this is what is made of an expression, with the mark behind it
pub record IsTruth (from : Formula) (made : Formula × ℤ) (truth : Truth) : Type 0 where
  pub literal : truth.literal ≡ made.1
  pub within : IsLiteral (made.0).variables truth.literal
  pub variables : truth.mark.variables ≡ (made.0).variables
  pub clauses : truth.mark.clauses ≡ length (made.0).clauses
  pub begins : Begins from made.0
  pub proper : IsProper made.0

-- these are made behind a formula one after the other, and what there is begins with them
abbrev pub AreTruths : FlatDesign → (now : Words) → (from there : Formula) → List Truth → Type 0
AreTruths design now from there [] = Begins from there
AreTruths design now from there (truth ∷ truths) =
    let made = is_true_bit design.signals now (typed_tree truth.expr) from in
    IsTruth from made truth × AreTruths design now made.0 there truths

-- the formula with them
abbrev pub with_truths : FlatDesign → (now : Words) → (from : Formula) → List Truth → Formula
with_truths design now from truths = (truth_literals design now (trees_of truths) from).0

-- ---- encodings that begin with them

-- what stands there
abbrev pub encoding_made : Framed → Encoding
encoding_made made = record {
  variables = made.gates.variables;
  bits = map place_form made.bits.items;
  clauses = made.gates.clauses;
}

-- the clauses begin with those of the frames of the cones, up to the mark, and go on with those of
-- the facts and conditions; the tables have the frames' words, and the places and the size are
-- theirs
pub record IsFramed (design : FlatDesign) (made : Framed) : Type 0 where
  pub truths : AreTruths design (now_frame design (numbers made.now_cone.items)).1
      (both_frames design (numbers made.now_cone.items) (numbers made.next_cone.items)).0
      made.gates made.truths.items
  pub proper : IsProper (both_frames design (numbers made.now_cone.items)
      (numbers made.next_cone.items)).0
  pub variables : made.mark.variables ≡ ((both_frames design (numbers made.now_cone.items)
      (numbers made.next_cone.items)).0).variables
  pub clauses : made.mark.clauses ≡ length ((both_frames design (numbers made.now_cone.items)
      (numbers made.next_cone.items)).0).clauses
  pub now : words_of made.now_words ≡ (now_frame design (numbers made.now_cone.items)).1
  pub next : words_of made.next_words ≡ (both_frames design (numbers made.now_cone.items)
      (numbers made.next_cone.items)).1
  pub bits : map place_form made.bits.items ≡ frame_places design
      (numbers made.now_cone.items) (numbers made.next_cone.items)
  pub size : made.size ≡ min (frames_size design (numbers made.now_cone.items)
      (numbers made.next_cone.items)) 4194305

-- the frames are an obligation's
pub record HasFramesOf (encoder : Encoder) (made : Framed) : Type 0 where
  pub framed : IsFramed (design_in encoder) made
  pub now : numbers made.now_cone.items ≡ now_cone (design_in encoder) (obligation_in encoder)
  pub next : numbers made.next_cone.items ≡ next_cone (design_in encoder) (obligation_in encoder)

-- and nothing stands behind them but its first facts and conditions
pub record IsBegun (encoder : Encoder) (made : Framed) : Type 0 where
  pub frames : HasFramesOf encoder made
  pub first : AreFirst made.truths.items (conditions_of (obligation_in encoder))
  pub gates : made.gates ≡ with_truths (design_in encoder)
      (after_settled (design_in encoder) (obligation_in encoder)).1
      (after_next (design_in encoder) (obligation_in encoder)).0 made.truths.items
