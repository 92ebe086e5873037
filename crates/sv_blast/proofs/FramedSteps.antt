-- Frames that are kept: what was made is taken back to their mark, and another encoding goes on.
use Rattle.std.proofs.Common.{◌≡◌, ◌==◌, ℕ, suc, ℤ, List, [], ◌∷◌, ◌++◌, length, map, min, refl}
use Rattle.std.proofs.Common.{take, drop}
use Rattle.std.specs.Global.{Vec}
use Rattle.std.proofs.Common.{ap, ap₂, sym, ◌∙◌, subst}
use Rattle.std.specs.Prelude.{IsTrue}
use Rattle.std.specs.Cmp.Lexicographic.{pointwise}
use Rattle.std.proofs.lemmas.Bool.{eqb-true, and_parts}
use Rattle.sv_flat.specs.Design.{FlatDesign, SignalForm, TypedTree}
use Rattle.sv_flat.specs.Views.{typed_tree}
use Rattle.sv_flat.specs.declared.signals.SigId.{SigId}
use Rattle.sv_design.specs.Numbers.{numbers}
use Rattle.sv_gates.specs.declared.gates.Mark.{Mark}
use Rattle.sv_gates.specs.Extending.{Begins, cut_back}
use Rattle.sv_gates.specs.Formulas.{Formula, IsLiteral, IsProper}
use Rattle.sv_gates.proofs.ExtendingLaws.{begins_none, cut_back-begins}
use Rattle.sv_encoding.specs.Cones.{now_cone, next_cone, conditions_of}
use Rattle.sv_encoding.specs.Expressions.{Words, is_true_bit}
use Rattle.sv_obl.specs.Obligations.{Obligation}
use Rattle.sv_blast.specs.Coded.{place_form}
use Rattle.sv_blast.specs.Encoders.{design_in, obligation_in}
use Rattle.sv_blast.specs.Framed.{now_frame, both_frames, frame_places, frames_size, IsFramed}
use Rattle.sv_blast.specs.Framed.{HasFramesOf, IsBegun, AreFirst, AreTruths, IsTruth}
use Rattle.sv_blast.specs.Framed.{mark_behind, with_truths}
use Rattle.sv_blast.specs.Steps.{after_settled, after_next}
use Rattle.sv_blast.specs.WordTables.{words_of}
use Rattle.sv_blast.specs.declared.encoding.Encoder.{Encoder}
use Rattle.sv_blast.specs.declared.framed.Framed.{Framed}
use Rattle.sv_blast.specs.declared.framed.Truth.{Truth}
use Rattle.sv_blast.proofs.KeptTruths.{first_more, truths_front, front_begins, truths_onward}
use Rattle.sv_blast.proofs.KeptTruths.{mark_is, truths_more, with_more}

-- ---- cones

-- signals that are equal one by one have equal numbers
pub same_numbers : (xs ys : List SigId) →
    IsTrue (pointwise (λ (x y : SigId). x.0 == y.0) xs ys) → numbers xs ≡ numbers ys
same_numbers [] [] same = refl
same_numbers [] (y ∷ ys) same = absurd (cc)
same_numbers (x ∷ xs) [] same = absurd (cc)
same_numbers (x ∷ xs) (y ∷ ys) same =
    let both = and_parts (x.0 == y.0) (pointwise (λ (x y : SigId). x.0 == y.0) xs ys) same in
    ap₂ ◌∷◌ (eqb-true x.0 y.0 both.0) (same_numbers xs ys both.1)

-- ---- the same frames with other clauses behind them

module _ (design : FlatDesign) (made : Framed) (is : IsFramed design made) where
  abbrev first : Formula
  first = (both_frames design (numbers made.now_cone.items) (numbers made.next_cone.items)).0

  abbrev words : Words
  words = (now_frame design (numbers made.now_cone.items)).1

  -- likewise with other facts and conditions
  framed_with : (truths : Vec Truth) (gates : Formula) →
      AreTruths design words first gates truths.items →
      IsFramed design (record made { truths = truths; gates = gates })
  framed_with truths gates are = record {
    truths = are;
    proper = is.proper;
    variables = is.variables;
    clauses = is.clauses;
    now = is.now;
    next = is.next;
    bits = is.bits;
    size = is.size;
  }

  pub with_gates : (gates : Formula) →
      Begins (with_truths design words first made.truths.items) gates →
      IsFramed design (record made { gates = gates })
  with_gates gates begins =
      framed_with made.truths gates
      (truths_onward design words first made.gates gates made.truths.items is.truths begins)

  -- the first so many of the facts and conditions
  module _ (k : ℕ) (truths : Vec Truth) (e : truths.items ≡ take k made.truths.items) where
    abbrev short : Formula
    short = with_truths design words first truths.items

    are_short : AreTruths design words first short truths.items
    are_short =
        subst (λ (ts : List Truth). AreTruths design words first
        (with_truths design words first ts) ts) (sym e)
        (truths_front design words first made.gates made.truths.items k is.truths)

    short_begins : Begins short made.gates
    short_begins =
        subst (λ (ts : List Truth). Begins (with_truths design words first ts) made.gates) (sym e)
        (front_begins design words first made.gates made.truths.items k is.truths)

    -- what is left where all is taken away that came behind their mark
    pub taken_back : (mark : Mark) → mark ≡ mark_behind made.mark truths.items →
        cut_back mark.variables mark.clauses made.gates ≡ short
    taken_back mark at =
        let marked = mark_is design words first short made.mark truths.items is.variables is.clauses
        is.proper are_short in
        ap (λ (z : Mark). cut_back z.variables z.clauses made.gates) at
        ∙ ap₂ (λ variables clauses. cut_back variables clauses made.gates) marked.0 marked.1
        ∙ cut_back-begins short made.gates short_begins

    pub proper_back : (mark : Mark) → mark ≡ mark_behind made.mark truths.items →
        IsProper (cut_back mark.variables mark.clauses made.gates)
    proper_back mark at =
        subst IsProper (sym (taken_back mark at))
        ((mark_is design words first short made.mark truths.items is.variables is.clauses is.proper
        are_short).2)

    pub framed_back : (gates : Formula) → gates ≡ short →
        IsFramed design (record made { truths = truths; gates = gates })
    framed_back gates at =
        framed_with truths gates
        (subst (λ (g : Formula). AreTruths design words first g truths.items) (sym at) are_short)

-- an obligation's frames with the first so many of its facts and conditions
pub begun_again : (encoder : Encoder) (made : Framed) → HasFramesOf encoder made → (k : ℕ)
    (truths : Vec Truth) → truths.items ≡ take k made.truths.items → (mark : Mark) →
    mark ≡ mark_behind made.mark truths.items → (gates : Formula) →
    gates ≡ cut_back mark.variables mark.clauses made.gates →
    AreFirst (take k made.truths.items) (conditions_of (obligation_in encoder)) →
    IsBegun encoder (record made { truths = truths; gates = gates })
begun_again encoder made is k truths e mark at gates cut are =
    let design = design_in encoder in
    let o = obligation_in encoder in
    let back = cut ∙ taken_back design made is.framed k truths e mark at in
    record {
      frames = record {
        framed = framed_back design made is.framed k truths e gates back;
        now = is.now;
        next = is.next;
      };
      first = subst (λ (ts : List Truth). AreFirst ts (conditions_of o)) (sym e) are;
      gates = back ∙ ap₂ (λ cone later. with_truths design (now_frame design cone).1
          (both_frames design cone later).0 truths.items) is.now is.next;
    }

-- ---- frames that are an obligation's

module _ (encoder : Encoder) (made : Framed) (is : HasFramesOf encoder made) where
  abbrev design : FlatDesign
  design = design_in encoder

  abbrev o : Obligation
  o = obligation_in encoder

  pub both_path : both_frames design (numbers made.now_cone.items) (numbers made.next_cone.items)
      ≡ after_next design o
  both_path = ap₂ (both_frames design) is.now is.next

  pub now_path : words_of made.now_words ≡ (after_settled design o).1
  now_path = is.framed.now ∙ ap (λ cone. (now_frame design cone).1) is.now

  pub next_path : words_of made.next_words ≡ (after_next design o).1
  next_path = is.framed.next ∙ ap (λ (z : Formula × Words). z.1) both_path

  pub places_path : map place_form made.bits.items
      ≡ frame_places design (now_cone design o) (next_cone design o)
  places_path = is.framed.bits ∙ ap₂ (frame_places design) is.now is.next

  pub size_path : made.size
      ≡ min (frames_size design (now_cone design o) (next_cone design o)) 4194305
  size_path =
      is.framed.size ∙ ap₂ (λ cone later. min (frames_size design cone later) 4194305) is.now is.next

  pub truths_path : AreTruths design (after_settled design o).1 (after_next design o).0 made.gates
      made.truths.items
  truths_path =
      subst (λ (z : Words). AreTruths design z (after_next design o).0 made.gates made.truths.items)
      (ap (λ cone. (now_frame design cone).1) is.now)
      (subst (λ (z : Formula × Words). AreTruths design
      (now_frame design (numbers made.now_cone.items)).1 z.0 made.gates made.truths.items)
      both_path is.framed.truths)

-- ---- one more fact or condition

module _ (encoder : Encoder) (made : Framed) (is : IsBegun encoder made) where
  abbrev its_design : FlatDesign
  its_design = design_in encoder

  abbrev its : Obligation
  its = obligation_in encoder

  abbrev its_words : Words
  its_words = (after_settled its_design its).1

  pub one_more : (truth : Truth) (truths : Vec Truth) (gates : Formula) →
      truths.items ≡ made.truths.items ++ truth ∷ [] →
      drop (length made.truths.items) (conditions_of its)
      ≡ typed_tree truth.expr ∷ drop (suc (length made.truths.items)) (conditions_of its) →
      gates ≡ (is_true_bit its_design.signals its_words (typed_tree truth.expr) made.gates).0 →
      IsTruth made.gates
      (is_true_bit its_design.signals its_words (typed_tree truth.expr) made.gates) truth →
      IsBegun encoder (record made { truths = truths; gates = gates })
  one_more truth truths gates e next g one =
      let before = is.frames.framed in
      let words = (now_frame its_design (numbers made.now_cone.items)).1 in
      let from = (both_frames its_design (numbers made.now_cone.items)
      (numbers made.next_cone.items)).0 in
      let same = ap (λ cone. (now_frame its_design cone).1) is.frames.now in
      let all = ap₂ (λ cone later. with_truths its_design (now_frame its_design cone).1
      (both_frames its_design cone later).0 made.truths.items) is.frames.now is.frames.next in
      let here = subst (λ (z : Words). IsTruth made.gates
      (is_true_bit its_design.signals z (typed_tree truth.expr) made.gates) truth) (sym same) one in
      let there = ap (λ (z : Words).
      (is_true_bit its_design.signals z (typed_tree truth.expr) made.gates).0) same in
      record {
        frames = record {
          framed = framed_with its_design made before truths gates
              (subst (λ (ts : List Truth). AreTruths its_design words from gates ts) (sym e)
              (subst (λ (z : Formula). AreTruths its_design words from z
              (made.truths.items ++ truth ∷ [])) (sym (g ∙ sym there))
              (truths_more its_design words from made.gates made.truths.items truth
              (is.gates ∙ sym all) before.truths here)));
          now = is.frames.now;
          next = is.frames.next;
        };
        first = subst (λ (ts : List Truth). AreFirst ts (conditions_of its)) (sym e)
            (first_more made.truths.items truth (conditions_of its) is.first next);
        gates = g
            ∙ ap (λ (z : Formula). (is_true_bit its_design.signals its_words
            (typed_tree truth.expr) z).0) is.gates
            ∙ sym (with_more its_design its_words (after_next its_design its).0 made.truths.items
            truth)
            ∙ ap (with_truths its_design its_words (after_next its_design its).0) (sym e);
      }

  -- the same from what is made of the expression
  pub add_one : (signals : List SignalForm) (words : Words) (e : TypedTree) (later : Formula)
      (l : ℤ) (truth : Truth) (truths : Vec Truth) → signals ≡ its_design.signals →
      words ≡ its_words → is_true_bit signals words e made.gates ≡ (later, l) →
      typed_tree truth.expr ≡ e → truth.literal ≡ l → IsLiteral later.variables l →
      Begins made.gates later → truth.mark.variables ≡ later.variables →
      truth.mark.clauses ≡ length later.clauses → IsProper later →
      truths.items ≡ made.truths.items ++ truth ∷ [] →
      drop (length made.truths.items) (conditions_of its)
      ≡ e ∷ drop (suc (length made.truths.items)) (conditions_of its) →
      IsBegun encoder (record made { truths = truths; gates = later })
  add_one signals words e later l truth truths s w m t literal inside begins v c proper items next =
      let path : is_true_bit its_design.signals its_words (typed_tree truth.expr) made.gates
      ≡ (later, l) =
      ap (λ z. is_true_bit its_design.signals its_words z made.gates) t
      ∙ ap (λ (z : Words). is_true_bit its_design.signals z e made.gates) (sym w)
      ∙ ap (λ z. is_true_bit z words e made.gates) (sym s) ∙ m in
      one_more truth truths later items
      (next ∙ ap (λ z. z ∷ drop (suc (length made.truths.items)) (conditions_of its)) (sym t))
      (sym (ap (λ (z : Formula × ℤ). z.0) path))
      (subst (λ (z : Formula × ℤ). IsTruth made.gates z truth) (sym path) (record {
        literal = literal;
        within = subst (IsLiteral later.variables) (sym literal) inside;
        variables = v;
        clauses = c;
        begins = begins;
        proper = proper;
      }))

-- ---- frames that are made anew

pub new_frames : (encoder : Encoder) (made : Framed) →
    numbers made.now_cone.items ≡ now_cone (design_in encoder) (obligation_in encoder) →
    numbers made.next_cone.items ≡ next_cone (design_in encoder) (obligation_in encoder) →
    words_of made.now_words ≡ (after_settled (design_in encoder) (obligation_in encoder)).1 →
    after_next (design_in encoder) (obligation_in encoder) ≡ (made.gates, words_of made.next_words) →
    map place_form made.bits.items ≡ frame_places (design_in encoder)
    (now_cone (design_in encoder) (obligation_in encoder))
    (next_cone (design_in encoder) (obligation_in encoder)) →
    made.size ≡ min (frames_size (design_in encoder)
    (now_cone (design_in encoder) (obligation_in encoder))
    (next_cone (design_in encoder) (obligation_in encoder))) 4194305 →
    made.mark.variables ≡ made.gates.variables → made.mark.clauses ≡ length made.gates.clauses →
    IsProper made.gates → made.truths.items ≡ [] → IsBegun encoder made
new_frames encoder made now next here there bits size variables clauses proper none =
    let design = design_in encoder in
    let cones = ap₂ (both_frames design) now next in
    let all = cones ∙ there in
    let gates = ap (λ (z : Formula × Words). z.0) all in
    record {
      frames = record {
        framed = record {
          truths = subst (λ (ts : List Truth). AreTruths design
              (now_frame design (numbers made.now_cone.items)).1
              (both_frames design (numbers made.now_cone.items) (numbers made.next_cone.items)).0
              made.gates ts) (sym none)
              (subst (λ z. Begins z made.gates) (sym gates) (begins_none made.gates));
          proper = subst IsProper (sym gates) proper;
          variables = variables ∙ ap (λ (z : Formula). z.variables) (sym gates);
          clauses = clauses ∙ ap (λ (z : Formula). length z.clauses) (sym gates);
          now = here ∙ ap (λ cone. (now_frame design cone).1) (sym now);
          next = ap (λ (z : Formula × Words). z.1) (sym all);
          bits = bits ∙ ap₂ (frame_places design) (sym now) (sym next);
          size = size
              ∙ ap₂ (λ cone later. min (frames_size design cone later) 4194305) (sym now) (sym next);
        };
        now = now;
        next = next;
      };
      first = subst (λ (ts : List Truth). AreFirst ts (conditions_of (obligation_in encoder)))
          (sym none) refl;
      gates = ap (λ (z : Formula × Words). z.0) (sym there)
          ∙ ap (with_truths design (after_settled design (obligation_in encoder)).1
          (after_next design (obligation_in encoder)).0) (sym none);
    }
